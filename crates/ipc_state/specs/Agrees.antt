-- What the tables have to do with the history: each is what the policy's values give, in the order of their numbers.
use Rattle.std.specs.Prelude.{◌≡◌, Bool, ℕ, List, length, map, slice_get, Option, Some, None, if◌then◌else◌}
use Rattle.std.specs.Option.{option_map}
use Rattle.ipc_terms.specs.declared.facts.Facts.{Facts}
use Rattle.ipc_terms.specs.declared.ids.Sid.{Sid}
use Rattle.ipc_terms.specs.declared.ids.Uid.{Uid}
use Rattle.ipc_terms.specs.declared.ids.Family.{Family}
use Rattle.ipc_terms.specs.declared.ids.Family.TheVariants.{Mq, Sem}
use Rattle.ipc_terms.specs.declared.call.Attributes.{Attributes}
use Rattle.ipc_terms.specs.declared.object.Kind.{Kind}
use Rattle.ipc_terms.specs.declared.object.Kind.TheVariants.{Queue as QueueKind, Semaphore as SemaphoreKind}
use Rattle.ipc_terms.specs.Objects.{as_semaphore}
use Rattle.ipc_terms.specs.declared.object.Object.{Object}
use Rattle.ipc_names.specs.Directory.{Directory}
use Rattle.ipc_descr.specs.declared.row.Row.{Row}
use Rattle.ipc_descr.specs.Descriptions.{Descriptions}
use Rattle.ipc_descr.specs.declared.charges.Charge.{Charge}
use Rattle.ipc_descr.specs.Charges.{charge_of}
use Rattle.ipc_queue.specs.declared.queue.Ticket.{Ticket}
use Rattle.ipc_queue.specs.declared.queue.ParkedSend.{ParkedSend}
use Rattle.ipc_queue.specs.Tickets.{Tickets}
use Rattle.ipc_sem.specs.Counters.{Counter}
use Rattle.ipc_tables.specs.declared.rows.Session.{Session}
use Rattle.ipc_tables.specs.declared.rows.Body.{Body}
use Rattle.ipc_tables.specs.declared.rows.Body.TheVariants.{Queue as QueueBody, Semaphore as SemaphoreBody}
use Rattle.ipc_tables.specs.declared.rows.ObjectRow.{ObjectRow}
use Rattle.ipc_tables.specs.Objects.{bytes_taken}
use Rattle.ipc_tables.specs.TablesView.{TablesView, live_at, parked_on_at}
use Rattle.ipc_policy.specs.declared.config.Config.{Config}
use Rattle.ipc_policy.specs.declared.config.Held.{Held}
use Rattle.ipc_policy.specs.declared.config.Registration.{Registration}
use Rattle.ipc_policy.specs.Decides.Registrations.{registered}
use Rattle.ipc_policy.specs.Decides.History.{History, gathered_below}
use Rattle.ipc_policy.specs.Decides.Sessions.{hellos, user, live, mask}
use Rattle.ipc_policy.specs.Decides.Names.{creations}
use Rattle.ipc_policy.specs.Decides.Objects.{object, facts, directory}
use Rattle.ipc_policy.specs.Decides.Descriptions.{opens, held, is_nonblock}
use Rattle.ipc_policy.specs.Decides.Queues.{Send, Waiter, Queue, attributes}
use Rattle.ipc_policy.specs.Decides.Semaphores.{Semaphore}
use Rattle.ipc_policy.specs.Decides.Bodies.{queue, semaphore}
use Rattle.ipc_policy.specs.Decides.Parking.{parked}
use Rattle.ipc_policy.specs.Decides.Life.{bindings, alive}
use Rattle.ipc_policy.specs.Decides.Charges.{charged, limit}
use Rattle.ipc_policy.specs.Decides.Verdict.{Legal}
use Rattle.ipc_state.specs.Ranges.{first_bad}

-- sessions stand at their numbers, each with its user, its mask, whether it is live, and what its call is parked on
pub record SessionsAgree (c : Config) (h : History) (sessions : List Session) : Type 0 where
  pub users : (s : ℕ) → option_map (λ row. row.user) (slice_get sessions s) ≡ user h s
  pub masks : (s : ℕ) (row : Session) → slice_get sessions s ≡ Some row → row.mask.0 ≡ mask h s
  pub lives : (s : ℕ) → live_at sessions s ≡ live h s
  pub parks : (s : ℕ) → parked_on_at sessions s ≡ option_map (λ p. p.object) (parked c h s)
  pub count : length sessions ≡ hellos h

-- the names of a family, and its directory
pub record DirectoryAgrees (h : History) (family : Family) (names : Directory) : Type 0 where
  pub bound : names.bindings ≡ bindings h family
  pub facts : names.facts ≡ directory h family

-- the ticket of a message
abbrev pub ticket_of : Send → Ticket
ticket_of m = record { place = m.place; priority = m.priority; bytes = m.bytes }

-- a parked send, with its session
abbrev pub sender_of : Send → ParkedSend
sender_of m = record { ticket = ticket_of m; session = record { 0 = m.session } }

-- the session of a parked receive or wait
abbrev pub receiver_of : Waiter → Sid
receiver_of w = record { 0 = w.session }

-- a queue of the policy with this registration and these attributes, as it is kept
abbrev pub tickets_of : Option Registration → Queue → Attributes → Tickets
tickets_of g q x = record { maxmsg = x.maxmsg; msgsize = x.msgsize; tickets = map ticket_of q.contents; senders = map sender_of q.senders; receivers = map receiver_of q.receivers; registered = option_map (λ y. y.desc) g }

-- the queue that object o is, as it is kept
abbrev pub queue_meant : Config → History → ℕ → Option Tickets
queue_meant c h o = option_map (tickets_of (registered c h o) (queue c h o)) (attributes c h o)

-- a semaphore of the policy, as it is kept
abbrev pub counter_of : Semaphore → Counter
counter_of q = record { value = q.running; waiters = map receiver_of q.waiters }

-- the semaphore that object o is, as it is kept
abbrev pub semaphore_meant : Config → History → ℕ → Option Counter
semaphore_meant c h o = option_map (λ first_value. counter_of (semaphore c h o)) (as_semaphore (object c h o))

-- what stands in an object, by what it is as a queue, with its registration, and as a semaphore
pub record Inside : Type 0 where
  pub queue : Queue
  pub registered : Option Registration
  pub semaphore : Semaphore

-- what stands in object o
abbrev pub inside : Config → History → ℕ → Inside
inside c h o = record { queue = queue c h o; registered = registered c h o; semaphore = semaphore c h o }

-- what stands in an object of the kind, as it is kept
abbrev pub body_of : Kind → Inside → Body
body_of (QueueKind attributes) x = QueueBody (tickets_of x.registered x.queue attributes)
body_of (SemaphoreKind value) x = SemaphoreBody (counter_of x.semaphore)

-- the row of object o
abbrev pub row_made : ℕ → Option Object → Option Facts → Inside → Option ObjectRow
row_made o (Some x) (Some at) q = Some (record { number = o; object = x; facts = at; bytes = bytes_taken x.kind; body = body_of x.kind q })
row_made o _ _ q = None

-- the row of object o with what stands in it, while it is alive
abbrev pub row_with : Config → History → (ℕ → Inside) → ℕ → Option ObjectRow
row_with c h q o = if alive h o then row_made o (object c h o) (facts c h o) (q o) else None

-- the objects that are alive, with what stands in them and what is parked on them
pub record ObjectsAgree (c : Config) (h : History) (objects : List ObjectRow) (created : ℕ) : Type 0 where
  pub rows : objects ≡ gathered_below (row_with c h (inside c h)) (creations h)
  pub count : created ≡ creations h

-- the row of description d, by whether calls by it are refused where they would wait
abbrev pub row_held : (ℕ → Bool) → ℕ → Held → Row
row_held nonblock d x = record { desc = record { 0 = d }; session = x.session; object = x.object; access = x.access; nonblock = nonblock d }

-- what a row gives, and to whom
abbrev pub held_in : Row → Held
held_in row = record { session = row.session; object = row.object; access = row.access }

-- the descriptions that are held
pub record DescriptionsAgree (h : History) (t : Descriptions) : Type 0 where
  pub rows : t.rows ≡ gathered_below (λ d. option_map (row_held (is_nonblock h) d) (held h d)) (opens h)
  pub opened : t.opened ≡ opens h

-- the charge of user u, if it is a user
abbrev pub charge_meant : Config → History → Uid → Option Charge
charge_meant c h u = option_map (λ most. record { uid = u; limit = most; used = charged c h u }) (limit c h u)

-- each user is charged with what the queues take that the user created, and has the limit that was set last
abbrev pub ChargesAgree : Config → History → List Charge → Type 0
ChargesAgree c h charges = (u : Uid) → charge_of charges u.0 ≡ charge_meant c h u

pub record Agrees (c : Config) (h : History) (t : TablesView) : Type 0 where
  pub sessions : SessionsAgree c h t.sessions
  pub queues : DirectoryAgrees h Mq t.queues
  pub semaphores : DirectoryAgrees h Sem t.semaphores
  pub objects : ObjectsAgree c h t.objects t.created
  pub descriptions : DescriptionsAgree h t.descriptions
  pub charges : ChargesAgree c h t.charges

-- the limits are in their ranges, every verdict in the history is the policy's, and the tables are the history's
pub record IsCore (c : Config) (h : History) (t : TablesView) : Type 0 where
  pub in_range : first_bad c.limits ≡ None
  pub legal : Legal c h
  pub agrees : Agrees c h t
