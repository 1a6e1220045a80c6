-- What each call does to the tables.
use Rattle.std.specs.Prelude.{Bool, true, false, ℕ, ◌+◌, List, [], ◌∷◌, ◌++◌, filter, map, Option, Some, None, option_and_then}
use Rattle.std.specs.Option.{option_map}
use Rattle.ipc_terms.specs.Lists.{first, changed, changed_first}
use Rattle.ipc_terms.specs.Objects.{family_of}
use Rattle.ipc_terms.specs.declared.ids.Family.{Family}
use Rattle.ipc_terms.specs.declared.ids.Family.TheVariants.{Mq, Sem}
use Rattle.ipc_terms.specs.declared.ids.Uid.{Uid}
use Rattle.ipc_terms.specs.declared.ids.Sid.{Sid}
use Rattle.ipc_terms.specs.declared.ids.Desc.{Desc}
use Rattle.ipc_terms.specs.declared.ids.Mode.{Mode}
use Rattle.ipc_terms.specs.declared.object.Object.{Object}
use Rattle.ipc_terms.specs.declared.facts.Facts.{Facts}
use Rattle.ipc_names.specs.Directory.{Directory, first_directory, without_name}
use Rattle.ipc_descr.specs.declared.row.Row.{Row}
use Rattle.ipc_access.specs.declared.users.User.{User}
use Rattle.ipc_descr.specs.Charges.{uncharged, with_limit}
use Rattle.ipc_descr.specs.Descriptions.{with_open, is_desc, without_desc, without_session, with_nonblock, with_session}
use Rattle.ipc_queue.specs.declared.queue.Ticket.{Ticket}
use Rattle.ipc_queue.specs.declared.queue.SendOutcome.{SendOutcome}
use Rattle.ipc_queue.specs.declared.queue.SendOutcome.TheVariants.{HandedTo, Parked as SendParks}
use Rattle.ipc_queue.specs.declared.queue.ReceiveOutcome.{ReceiveOutcome}
use Rattle.ipc_queue.specs.declared.queue.ReceiveOutcome.TheVariants.{TookAndAdmitted, Parked as ReceiveParks}
use Rattle.ipc_queue.specs.Tickets.{with_registration, without_registration, send_outcome, sent, receive_outcome, received}
use Rattle.ipc_sem.specs.declared.semaphore.WaitOutcome.{WaitOutcome}
use Rattle.ipc_sem.specs.declared.semaphore.WaitOutcome.TheVariants.{Parked as WaitParks}
use Rattle.ipc_sem.specs.Counters.{posted, wait_outcome, waited, tried}
use Rattle.ipc_tables.specs.declared.rows.Session.{Session}
use Rattle.ipc_tables.specs.declared.rows.ObjectRow.{ObjectRow}
use Rattle.ipc_tables.specs.declared.tables.Grant.{Grant}
use Rattle.ipc_tables.specs.declared.tables.Owned.{Owned}
use Rattle.ipc_tables.specs.declared.tables.Owned.TheVariants.{Object as OwnedObject, Directory as OwnedDirectory}
use Rattle.ipc_tables.specs.Objects.{is_number, queue_at, semaphore_at, new_row, with_queue, with_semaphore, with_withdrawal, with_facts, with_held}
use Rattle.ipc_tables.specs.TablesView.{TablesView, is_kept, parked_on_at}
use Rattle.ipc_tables.specs.Charging.{charged_with, settled}

-- no sessions, names, objects and descriptions, and users of whom nothing is taken
abbrev pub first_tables : List User → TablesView
first_tables users =
    record {
      sessions = [];
      queues = first_directory Mq;
      semaphores = first_directory Sem;
      objects = [];
      created = 0;
      descriptions = record { rows = []; opened = 0 };
      charges = map uncharged users;
    }

abbrev pub with_mask : Mode → Session → Session
with_mask mask row = record row { mask = mask }

abbrev pub with_parked : Option ℕ → Session → Session
with_parked object row = record row { parked_on = object }

-- a session that hung up keeps its user and its mask
abbrev pub hung_up : Session → Session
hung_up row = record row { is_live = false }

-- a session that starts has the mask octal 022
abbrev pub first_row : Uid → Session
first_row user = record { user = user; mask = record { 0 = 18 }; is_live = true; parked_on = None }

abbrev pub after_hello : TablesView → Uid → TablesView
after_hello t user = record t { sessions = t.sessions ++ first_row user ∷ [] }

abbrev pub after_umask : TablesView → ℕ → Mode → TablesView
after_umask t s mask = record t { sessions = changed (with_mask mask) t.sessions s }

-- an open of what there is
abbrev pub after_found : TablesView → Grant → ℕ → TablesView
after_found t grant o = record t { descriptions = with_open t.descriptions grant.session o grant.access grant.nonblock }

-- the directory of a family changes
abbrev pub with_directory : Family → (Directory → Directory) → TablesView → TablesView
with_directory Mq change t = record t { queues = change t.queues }
with_directory Sem change t = record t { semaphores = change t.semaphores }

-- a name of the family is bound to the object
abbrev pub with_binding : Family → List ℕ → ℕ → TablesView → TablesView
with_binding family name o t = with_directory family (λ d. record d { bindings = d.bindings ++ record { name = name; object = o } ∷ [] }) t

-- a name of the family is bound to no object
abbrev pub without_binding : Family → List ℕ → TablesView → TablesView
without_binding family name t = with_directory family (λ d. record d { bindings = without_name d.bindings name }) t

-- an object of the next number is made and opened
abbrev pub with_object : TablesView → Grant → Object → Facts → TablesView
with_object t grant object facts =
    record t {
      objects = t.objects ++ new_row t.created object facts ∷ [];
      created = t.created + 1;
      descriptions = with_open t.descriptions grant.session t.created grant.access grant.nonblock;
      charges = charged_with t.charges object.creator.0 object.kind;
    }

-- an open that creates an object
abbrev pub after_created : TablesView → Grant → List ℕ → Object → Facts → TablesView
after_created t grant name object facts = with_object (with_binding (family_of object.kind) name t.created t) grant object facts

-- the objects that are alive, each with its registration if that is held
abbrev pub living : Directory → Directory → List Row → List ObjectRow → List ObjectRow
living queues semaphores rows objects = map (with_held rows) (filter (is_kept queues semaphores rows) objects)

-- other descriptions are held, and the objects that nothing keeps are gone, with what they took of their creators' bytes
abbrev pub with_rows : TablesView → List Row → TablesView
with_rows t rows =
    record t {
      descriptions = record t.descriptions { rows = rows };
      objects = living t.queues t.semaphores rows t.objects;
      charges = settled (is_kept t.queues t.semaphores rows) t.objects t.charges;
    }

abbrev pub after_close : TablesView → ℕ → ℕ → TablesView
after_close t s d = with_rows t (without_desc t.descriptions.rows s d)

-- the objects that nothing keeps are gone
abbrev pub with_living : TablesView → TablesView
with_living t =
    record t {
      objects = living t.queues t.semaphores t.descriptions.rows t.objects;
      charges = settled (is_kept t.queues t.semaphores t.descriptions.rows) t.objects t.charges;
    }

abbrev pub after_unlink : TablesView → Family → List ℕ → TablesView
after_unlink t family name = with_living (without_binding family name t)

-- a session that a send serves is parked no more, and one whose send parks is parked on the object
abbrev pub parked_by_send : ℕ → Sid → Option SendOutcome → List Session → List Session
parked_by_send o sid (Some (HandedTo receiver)) sessions = changed (with_parked None) sessions receiver.0
parked_by_send o sid (Some SendParks) sessions = changed (with_parked (Some o)) sessions sid.0
parked_by_send o sid _ sessions = sessions

-- a send of the session to object o
abbrev pub after_send : TablesView → ℕ → Ticket → Sid → TablesView
after_send t o ticket sid =
    record t {
      sessions = parked_by_send o sid (option_map send_outcome (queue_at t.objects o)) t.sessions;
      objects = changed_first (is_number o) (with_queue (sent ticket sid)) t.objects;
    }

-- a session whose send a receive lets in is parked no more, and one whose receive parks is parked on the object
abbrev pub parked_by_receive : ℕ → Sid → Option ReceiveOutcome → List Session → List Session
parked_by_receive o sid (Some (TookAndAdmitted place sender)) sessions = changed (with_parked None) sessions sender.0
parked_by_receive o sid (Some ReceiveParks) sessions = changed (with_parked (Some o)) sessions sid.0
parked_by_receive o sid _ sessions = sessions

-- a receive of the session from object o
abbrev pub after_receive : TablesView → ℕ → Sid → TablesView
after_receive t o sid =
    record t {
      sessions = parked_by_receive o sid (option_map receive_outcome (queue_at t.objects o)) t.sessions;
      objects = changed_first (is_number o) (with_queue (received sid)) t.objects;
    }

-- a session that a post serves is parked no more
abbrev pub parked_by_post : Option Sid → List Session → List Session
parked_by_post None sessions = sessions
parked_by_post (Some waiter) sessions = changed (with_parked None) sessions waiter.0

-- the session whose wait has been parked longest on object o
abbrev pub waiter_at : List ObjectRow → ℕ → Option Sid
waiter_at objects o = option_and_then (λ q. first q.waiters) (semaphore_at objects o)

-- a post to object o
abbrev pub after_post : TablesView → ℕ → TablesView
after_post t o =
    record t {
      sessions = parked_by_post (waiter_at t.objects o) t.sessions;
      objects = changed_first (is_number o) (with_semaphore posted) t.objects;
    }

-- a session whose wait parks is parked on the object
abbrev pub parked_by_wait : ℕ → Sid → Option WaitOutcome → List Session → List Session
parked_by_wait o sid (Some WaitParks) sessions = changed (with_parked (Some o)) sessions sid.0
parked_by_wait o sid _ sessions = sessions

-- a wait of the session for object o
abbrev pub after_wait : TablesView → ℕ → Sid → TablesView
after_wait t o sid =
    record t {
      sessions = parked_by_wait o sid (option_map wait_outcome (semaphore_at t.objects o)) t.sessions;
      objects = changed_first (is_number o) (with_semaphore (waited sid)) t.objects;
    }

-- a wait for object o that does not park
abbrev pub after_try : TablesView → ℕ → TablesView
after_try t o = record t { objects = changed_first (is_number o) (with_semaphore tried) t.objects }

-- the call in which a session is parked is withdrawn from its object
abbrev pub after_withdrawal : TablesView → Sid → TablesView
after_withdrawal t sid = by_object (parked_on_at t.sessions sid.0) where
  by_object : Option ℕ → TablesView
  by_object None = t
  by_object (Some o) =
      record t {
        sessions = changed (with_parked None) t.sessions sid.0;
        objects = changed_first (is_number o) (with_withdrawal sid) t.objects;
      }

-- a session is live no more, and what it held is closed
abbrev pub ended : TablesView → ℕ → TablesView
ended t s = record (with_rows t (without_session t.descriptions.rows s)) { sessions = changed hung_up t.sessions s }

abbrev pub after_hangup : TablesView → Sid → TablesView
after_hangup t sid = ended (after_withdrawal t sid) sid.0

abbrev pub after_setattr : TablesView → ℕ → Bool → TablesView
after_setattr t d nonblock = record t { descriptions = record t.descriptions { rows = changed_first (is_desc d) (with_nonblock nonblock) t.descriptions.rows } }

-- a description passes to another session
abbrev pub after_hand_over : TablesView → ℕ → Sid → TablesView
after_hand_over t d taker = record t { descriptions = record t.descriptions { rows = changed_first (is_desc d) (with_session taker) t.descriptions.rows } }

-- an object has this owner, group and mode, or the directory of a family has them
abbrev pub after_facts : TablesView → Owned → Facts → TablesView
after_facts t (OwnedObject o) facts = record t { objects = changed_first (is_number o) (with_facts facts) t.objects }
after_facts t (OwnedDirectory family) facts = with_directory family (λ d. record d { facts = facts }) t

-- user u's queues may take so many bytes
abbrev pub after_limit : TablesView → ℕ → ℕ → TablesView
after_limit t u bytes = record t { charges = with_limit t.charges u bytes }

-- a description is registered for the notice of object o, or not any longer
abbrev pub after_notify : TablesView → ℕ → Desc → Bool → TablesView
after_notify t o desc true = record t { objects = changed_first (is_number o) (with_queue (with_registration desc)) t.objects }
after_notify t o desc false = record t { objects = changed_first (is_number o) (with_queue (without_registration desc)) t.objects }
