-- What a send, a receive and a withdrawal do to the tables of sessions and of queues.
use Rattle.std.proofs.Common.{◌≡◌, ℕ, ◌<◌, ◌≤◌, Bool, true, false, cond, List, [], ◌∷◌, length, map, slice_get, Option, Some, None, is_some, refl, sym, ap, subst, ◌∙◌, arith}
use Rattle.std.specs.Prelude.{option_and_then}
use Rattle.std.specs.Option.{option_map}
use Rattle.std.proofs.lemmas.Bool.{eq-eqb, leb-true}
use Rattle.std.proofs.lemmas.Option.{slice_get_within}
use Rattle.ipc_terms.specs.Lists.{first}
use Rattle.ipc_terms.specs.History.{Message, message_at}
use Rattle.ipc_terms.specs.declared.ids.Sid.{Sid}
use Rattle.ipc_terms.specs.declared.ids.Desc.{Desc}
use Rattle.ipc_terms.specs.declared.call.Call.{Call}
use Rattle.ipc_terms.specs.declared.call.Call.TheVariants.{MqSend, MqReceive}
use Rattle.ipc_terms.specs.declared.rule.Rule.TheVariants.{BadDescr}
use Rattle.ipc_terms.specs.declared.record.Event.TheVariants.{Do}
use Rattle.ipc_queue.specs.declared.queue.Ticket.{Ticket}
use Rattle.ipc_queue.specs.Tickets.{fired, outcome_by_receiver, send_outcome, sent, outcome_by_next, receive_outcome, received, withdrawn}
use Rattle.ipc_policy.specs.declared.config.Config.{Config}
use Rattle.ipc_policy.specs.declared.config.Held.{Held}
use Rattle.ipc_terms.specs.declared.call.Attributes.{Attributes}
use Rattle.ipc_terms.specs.declared.object.Object.{Object}
use Rattle.ipc_terms.specs.declared.ids.Family.TheVariants.{Mq, Sem}
use Rattle.ipc_terms.specs.Objects.{as_queue, as_semaphore}
use Rattle.ipc_policy.specs.Decides.Objects.{object}
use Rattle.ipc_policy.specs.Decides.History.{History, after_accepted, is_some_and}
use Rattle.ipc_policy.specs.Decides.Sessions.{hellos, user, live, mask}
use Rattle.ipc_policy.specs.Decides.Descriptions.{holds}
use Rattle.ipc_policy.specs.Decides.Life.{alive, gives_object}
use Rattle.ipc_policy.specs.declared.config.Registration.{Registration}
use Rattle.ipc_policy.specs.Decides.Registrations.{fires, registered}
use Rattle.ipc_policy.proofs.Queues.RegisteredSteps.{registered_stays, registered_send}
use Rattle.ipc_policy.specs.Decides.Queues.{Send, Waiter, Sends, Receives, Withdraws, NoAct, Queue, next, has_none, is_filled, maxmsg_of, attributes, maxmsg, queue_after}
use Rattle.ipc_policy.specs.Decides.Bodies.{queue, contents, senders, receivers, is_full, is_empty}
use Rattle.ipc_policy.specs.Decides.Parking.{Parked, parked}
use Rattle.ipc_policy.specs.declared.asking.Described.{Described}
use Rattle.ipc_policy.specs.Decides.Rules.{forbids, bad_descr, described, not_held}
use Rattle.ipc_policy.specs.Decides.Verdict.{verdict, Legal}
use Rattle.ipc_policy.proofs.Lists.EachItem.{each_first, each_map}
use Rattle.ipc_policy.proofs.Lists.EntryOrder.{next_some}
use Rattle.ipc_policy.proofs.Queues.Keeping.{sent_once}
use Rattle.ipc_policy.proofs.Lists.Lengths.{none_is_empty}
use Rattle.ipc_policy.proofs.Fates.Sent.{IsSent, all_sent, next_sent}
use Rattle.ipc_policy.proofs.Blocked.CallsListed.{calls_listed}
use Rattle.ipc_policy.specs.Follows.Laws.{IsBounded}
use Rattle.ipc_policy.proofs.Queues.QueueBounds.{bounded, room_positive}
use Rattle.ipc_policy.proofs.Blocked.ParkedSessions.{senders_differ, receivers_differ}
use Rattle.ipc_policy.proofs.Blocked.ParkedSteps.{queue_by_send, queue_by_receive}
use Rattle.ipc_tables.specs.declared.rows.Session.{Session}
use Rattle.ipc_tables.specs.Objects.{queue_at}
use Rattle.ipc_tables.specs.TablesView.{TablesView}
use Rattle.ipc_tables.specs.Steps.{parked_by_send, parked_by_receive}
use Rattle.ipc_state.specs.Agrees.{Agrees, IsCore, SessionsAgree, ticket_of, sender_of, receiver_of, tickets_of}
use Rattle.ipc_state.proofs.Mapped.{longest_mapped}
use Rattle.ipc_state.specs.Meetings.{by_description, object_by}
use Rattle.ipc_state.proofs.Lookups.{mapped_some, queue_alive}
use Rattle.ipc_state.proofs.QueueLookups.{holds_alive}
use Rattle.ipc_policy.proofs.Histories.Unforbidden.{IsFree, unforbidden, described_plain}
use Rattle.ipc_state.proofs.Accepted.{within_live, not_bad_held, not_bad_queue, not_bad_semaphore, limits_some}
use Rattle.ipc_state.proofs.QueueSteps.{IsOnce, left_registered, full_same, next_same, sent_is, received_is, withdrawn_is}
use Rattle.ipc_state.proofs.ParkedColumn.{parked_object, column_after}
use Rattle.ipc_state.proofs.SessionTables.{Columns, columns_of, columns_moved}

-- what is known of the queue that an object is
pub record IsOpen (c : Config) (h : History) (o : ℕ) (y : Attributes) : Type 0 where
  pub some : 1 ≤ y.maxmsg
  pub most : maxmsg c h o ≡ y.maxmsg
  pub bounds : IsBounded y.maxmsg (queue c h o)

pub is_open : (c : Config) (h : History) (t : TablesView) (o : ℕ) (y : Attributes) → IsCore c h t → attributes c h o ≡ Some y → IsOpen c h o y
is_open c h t o y k e =
    let limit = (limits_some c k.in_range).0 in
    let least : 1 ≤ c.limits.msg_max = omega arith in
    let most : maxmsg c h o ≡ y.maxmsg = ap maxmsg_of e in
    record {
      some = subst (λ (n : ℕ). 1 ≤ n) most (room_positive c h least k.legal o (ap is_some e));
      most = most;
      bounds = subst (λ (n : ℕ). IsBounded n (queue c h o)) most (bounded c h least k.legal o);
    }

abbrev priority_of : Option Message → ℕ
priority_of None = 0
priority_of (Some m) = m.priority

priority_same : (x t : Send) → ◌≡◌ {A = Option Message} (Some (record { priority = x.priority; bytes = x.bytes })) (Some (record { priority = t.priority; bytes = t.bytes })) → x.priority ≡ t.priority
priority_same x t e = ap priority_of e

-- its messages were sent, and so no two have one place
pub once : (c : Config) (h : History) (o : ℕ) → IsOnce (contents c h o)
once c h o = record {
  one = λ i. let sum = sent_once c h o i in omega arith;
  same = λ t e.
      let here = (next_sent c h o t e).there in
      each_map (IsSent h) (λ x. x.place ≡ t.place → x.priority ≡ t.priority) (contents c h o) (λ x is at. same_message h x t is here at) (all_sent c h o).inside;
} where
  same_message : (h : History) (x t : Send) → IsSent h x → message_at t.place h ≡ Some (record { priority = t.priority; bytes = t.bytes }) → x.place ≡ t.place → x.priority ≡ t.priority
  same_message h x t is here at =
      let both : ◌≡◌ {A = Option Message} (Some (record { priority = x.priority; bytes = x.bytes })) (Some (record { priority = t.priority; bytes = t.bytes })) = sym is.there ∙ ap (λ i. message_at i h) at ∙ here in
      priority_same x t both

-- a session that is parked stands in the table
pub parked_stands : (c : Config) (h : History) (xs : List Session) (s : ℕ) (p : Parked) → SessionsAgree c h xs → parked c h s ≡ Some p → s < length xs
parked_stands c h xs s p a e = at (slice_get xs s) refl (a.parks s ∙ ap (option_map (λ (q : Parked). q.object)) e) where
  at : (w : Option Session) → slice_get xs s ≡ w → option_and_then (λ (row : Session). row.parked_on) w ≡ Some p.object → s < length xs
  at None k f = absurd cc
  at (Some row) k f = slice_get_within xs s row k

pub receiver_stands : (c : Config) (h : History) (xs : List Session) (o : ℕ) (w : Waiter) → Legal c h → SessionsAgree c h xs → first (receivers c h o) ≡ Some w → w.session < length xs
receiver_stands c h xs o w legal a e = each_first (λ (v : Waiter). v.session < length xs) (receivers c h o) (each_map _ (λ (v : Waiter). v.session < length xs) (receivers c h o) (λ v is. parked_stands c h xs v.session _ a is) ((calls_listed c h legal).each_receive o)) w e

pub sender_stands : (c : Config) (h : History) (xs : List Session) (o : ℕ) (m : Send) → Legal c h → SessionsAgree c h xs → first (senders c h o) ≡ Some m → m.session < length xs
sender_stands c h xs o m legal a e = each_first (λ (v : Send). v.session < length xs) (senders c h o) (each_map _ (λ (v : Send). v.session < length xs) (senders c h o) (λ v is. parked_stands c h xs v.session _ a is) ((calls_listed c h legal).each_send o)) m e

-- the queue of an object that is alive, as it is kept
pub queue_there : (c : Config) (h : History) (t : TablesView) (o : ℕ) (y : Attributes) → Legal c h → Agrees c h t → alive h o ≡ true → attributes c h o ≡ Some y → queue_at t.objects o ≡ Some (tickets_of (registered c h o) (queue c h o) y)
queue_there c h t o y legal a lives e = queue_alive c h t o legal a lives ∙ ap (option_map (tickets_of (registered c h o) (queue c h o))) e

-- what a send does to the table of sessions
send_told : (c : Config) (h : History) (o : ℕ) (y : Attributes) → attributes c h o ≡ Some y → send_outcome (tickets_of (registered c h o) (queue c h o) y) ≡ outcome_by_receiver (is_full c h o) (fired (tickets_of (registered c h o) (queue c h o) y)) (option_map receiver_of (first (receivers c h o)))
unfolding send_outcome
send_told c h o y e =
    let q = tickets_of (registered c h o) (queue c h o) y in
    ap (λ b. outcome_by_receiver b (fired q) (first (map receiver_of (receivers c h o)))) (full_same (registered c h o) y (queue c h o) ∙ sym (ap (is_some_and (λ x. is_filled x.maxmsg (contents c h o))) e))
    ∙ ap (outcome_by_receiver (is_full c h o) (fired q)) (longest_mapped receiver_of (receivers c h o))

sent_column : (c : Config) (h : History) (xs : List Session) (o : ℕ) (sid : Sid) → SessionsAgree c h xs → sid.0 < length xs → (r : Option Waiter) → ((w : Waiter) → r ≡ Some w → w.session < length xs) → (f : Bool) (g : Option Desc) → Columns (parked_by_send o sid (Some (outcome_by_receiver f g (option_map receiver_of r))) xs) (hellos h) (user h) (mask h) (live h) (column_after (option_map (λ (w : Waiter). w.session) r) f sid.0 o (parked_object c h))
sent_column c h xs o sid a lt (Some w) there f g = columns_moved xs (hellos h) (user h) (mask h) (live h) (parked_object c h) None w.session (there w refl) (columns_of c h xs a)
sent_column c h xs o sid a lt None there true g = columns_moved xs (hellos h) (user h) (mask h) (live h) (parked_object c h) (Some o) sid.0 lt (columns_of c h xs a)
sent_column c h xs o sid a lt None there false None = columns_of c h xs a
sent_column c h xs o sid a lt None there false (Some desc) = columns_of c h xs a

pub sessions_sent : (c : Config) (h : History) (t : TablesView) (o : ℕ) (y : Attributes) (sid : Sid) → Legal c h → Agrees c h t → alive h o ≡ true → attributes c h o ≡ Some y → sid.0 < length t.sessions → Columns (parked_by_send o sid (option_map send_outcome (queue_at t.objects o)) t.sessions) (hellos h) (user h) (mask h) (live h) (column_after (option_map (λ (w : Waiter). w.session) (first (receivers c h o))) (is_full c h o) sid.0 o (parked_object c h))
sessions_sent c h t o y sid legal a lives e lt =
    let told : option_map send_outcome (queue_at t.objects o) ≡ Some (outcome_by_receiver (is_full c h o) (fired (tickets_of (registered c h o) (queue c h o) y)) (option_map receiver_of (first (receivers c h o)))) = ap (option_map send_outcome) (queue_there c h t o y legal a lives e) ∙ ap Some (send_told c h o y e) in
    rw told (sent_column c h t.sessions o sid a.sessions lt (first (receivers c h o)) (λ w is. receiver_stands c h t.sessions o w legal a.sessions is) (is_full c h o) (fired (tickets_of (registered c h o) (queue c h o) y)))

-- at a full queue no receive is parked
pub none_receives : (c : Config) (h : History) (o : ℕ) (y : Attributes) → IsOpen c h o y → attributes c h o ≡ Some y → is_full c h o ≡ true → option_map (λ (w : Waiter). w.session) (first (receivers c h o)) ≡ None
none_receives c h o y q e full = at (receivers c h o) refl where
  filled : y.maxmsg ≤ length (contents c h o)
  filled = leb-true _ _ (sym (ap (is_some_and (λ x. is_filled x.maxmsg (contents c h o))) e) ∙ full)

  at : (rs : List Waiter) → receivers c h o ≡ rs → option_map (λ (w : Waiter). w.session) (first rs) ≡ None
  at [] k = refl
  at (w ∷ ws) k = absurd (let none : length (contents c h o) ≡ 0 = ap length (q.bounds.receivers_wait (ap has_none k)) in let least = q.some in let more = filled in omega arith)

-- the place of the next message
place_mapped : (n : Option Send) → option_map (λ (t : Ticket). t.place) (option_map ticket_of n) ≡ option_map (λ (m : Send). m.place) n
place_mapped None = refl
place_mapped (Some m) = refl

-- what a receive does to the table of sessions
receive_told : (g : Option Registration) (q : Queue) (y : Attributes) → receive_outcome (tickets_of g q y) ≡ outcome_by_next (option_map (λ (m : Send). m.place) (next q.contents)) (option_map sender_of (first q.senders))
unfolding receive_outcome
receive_told g q y =
    ap (λ n. outcome_by_next (option_map (λ (t : Ticket). t.place) n) (first (map sender_of q.senders))) (next_same q.contents)
    ∙ ap (λ n. outcome_by_next n (first (map sender_of q.senders))) (place_mapped (next q.contents))
    ∙ ap (outcome_by_next (option_map (λ (m : Send). m.place) (next q.contents))) (longest_mapped sender_of q.senders)

received_column : (c : Config) (h : History) (xs : List Session) (o : ℕ) (sid : Sid) → SessionsAgree c h xs → sid.0 < length xs → (r : Option Send) → ((m : Send) → r ≡ Some m → m.session < length xs) → (b : Bool) → (b ≡ true → option_map (λ (m : Send). m.session) r ≡ None) → (n : Option Send) → (b ≡ true → n ≡ None) → (b ≡ false → is_some n ≡ true) → Columns (parked_by_receive o sid (Some (outcome_by_next (option_map (λ (m : Send). m.place) n) (option_map sender_of r))) xs) (hellos h) (user h) (mask h) (live h) (column_after (option_map (λ (m : Send). m.session) r) b sid.0 o (parked_object c h))
received_column c h xs o sid a lt (Some m) there true excl n none some = absurd (let no' = excl refl in cc)
received_column c h xs o sid a lt (Some m) there false excl None none some = absurd (let no' = some refl in cc)
received_column c h xs o sid a lt (Some m) there false excl (Some x) none some = columns_moved xs (hellos h) (user h) (mask h) (live h) (parked_object c h) None m.session (there m refl) (columns_of c h xs a)
received_column c h xs o sid a lt None there true excl (Some x) none some = absurd (let no' = none refl in cc)
received_column c h xs o sid a lt None there true excl None none some = columns_moved xs (hellos h) (user h) (mask h) (live h) (parked_object c h) (Some o) sid.0 lt (columns_of c h xs a)
received_column c h xs o sid a lt None there false excl None none some = absurd (let no' = some refl in cc)
received_column c h xs o sid a lt None there false excl (Some x) none some = columns_of c h xs a

-- where an object is empty, it has no next message, and else it has one
next_none : (cs : List Send) → has_none cs ≡ true → next cs ≡ None
next_none [] e = refl
next_none (x ∷ xs) e = absurd cc

next_is : (cs : List Send) → has_none cs ≡ false → is_some (next cs) ≡ true
next_is cs e = at (next cs) refl where
  at : (w : Option Send) → next cs ≡ w → is_some w ≡ true
  at None k = absurd (let none = sym (ap has_none (next_some cs k)) ∙ e in cc)
  at (Some x) k = refl

empty_at : (c : Config) (h : History) (o : ℕ) (y : Attributes) → attributes c h o ≡ Some y → is_empty c h o ≡ has_none (contents c h o)
empty_at c h o y e = ap (is_some_and (λ x. has_none (contents c h o))) e

-- at an empty queue no send is parked
pub none_sends : (c : Config) (h : History) (o : ℕ) (y : Attributes) → IsOpen c h o y → attributes c h o ≡ Some y → is_empty c h o ≡ true → option_map (λ (m : Send). m.session) (first (senders c h o)) ≡ None
none_sends c h o y q e empty = at (senders c h o) refl where
  nothing : length (contents c h o) ≡ 0
  nothing = ap length (none_is_empty (contents c h o) (sym (empty_at c h o y e) ∙ empty))

  at : (ss : List Send) → senders c h o ≡ ss → option_map (λ (m : Send). m.session) (first ss) ≡ None
  at [] k = refl
  at (m ∷ ms) k = absurd (let full : length (contents c h o) ≡ y.maxmsg = q.bounds.senders_wait (ap has_none k) in let least = q.some in let none = nothing in omega arith)

pub sessions_received : (c : Config) (h : History) (t : TablesView) (o : ℕ) (y : Attributes) (sid : Sid) → Legal c h → Agrees c h t → alive h o ≡ true → attributes c h o ≡ Some y → IsOpen c h o y → sid.0 < length t.sessions → Columns (parked_by_receive o sid (option_map receive_outcome (queue_at t.objects o)) t.sessions) (hellos h) (user h) (mask h) (live h) (column_after (option_map (λ (m : Send). m.session) (first (senders c h o))) (is_empty c h o) sid.0 o (parked_object c h))
sessions_received c h t o y sid legal a lives e q lt =
    let told : option_map receive_outcome (queue_at t.objects o) ≡ Some (outcome_by_next (option_map (λ (m : Send). m.place) (next (contents c h o))) (option_map sender_of (first (senders c h o)))) = ap (option_map receive_outcome) (queue_there c h t o y legal a lives e) ∙ ap Some (receive_told (registered c h o) (queue c h o) y) in
    rw told (received_column c h t.sessions o sid a.sessions lt (first (senders c h o)) (λ m is. sender_stands c h t.sessions o m legal a.sessions is) (is_empty c h o) (none_sends c h o y q e) (next (contents c h o)) (λ b. next_none (contents c h o) (sym (empty_at c h o y e) ∙ b)) (λ b. next_is (contents c h o) (sym (empty_at c h o y e) ∙ b)))

-- what they do to the queue; a receive leaves its registration
receive_calm : (b : Bool) (w : Waiter) (q : Queue) → fires (cond b (Receives w) NoAct) q ≡ false
receive_calm true w q = refl
receive_calm false w q = refl

pub registered_receive : (c : Config) (h : History) (sid : Sid) (desc : Desc) (length' o : ℕ) → registered c (after_accepted h (Do sid (MqReceive desc length'))) o ≡ registered c h o
registered_receive c h sid desc length' o = registered_stays c h (Do sid (MqReceive desc length')) o refl (λ x k. receive_calm (gives_object o (holds h sid.0 desc.0)) (record { place = length h; session = sid.0; desc = desc.0 }) (queue c h o))

pub queue_sent : (c : Config) (h : History) (sid : Sid) (desc : Desc) (priority : ℕ) (bytes : List ℕ) (x : Held) (y : Attributes) → IsOpen c h x.object y → holds h sid.0 desc.0 ≡ Some x → tickets_of (registered c (after_accepted h (Do sid (MqSend desc priority bytes))) x.object) (queue c (after_accepted h (Do sid (MqSend desc priority bytes))) x.object) y ≡ sent (record { place = length h; priority = priority; bytes = bytes }) sid (tickets_of (registered c h x.object) (queue c h x.object) y)
queue_sent c h sid desc priority bytes x y q held =
    let m : Send = record { place = length h; session = sid.0; desc = desc.0; priority = priority; bytes = bytes } in
    ap (λ g. tickets_of g (queue c (after_accepted h (Do sid (MqSend desc priority bytes))) x.object) y) (registered_send c h sid desc priority bytes x held)
    ∙ ap (λ r. tickets_of (left_registered (registered c h x.object) (queue c h x.object)) r y) (queue_by_send c h sid desc priority bytes x x.object held ∙ ap (λ b. cond b (queue_after (maxmsg c h x.object) (Sends m) (queue c h x.object)) (queue c h x.object)) (eq-eqb x.object x.object refl))
    ∙ ap (λ n. tickets_of (left_registered (registered c h x.object) (queue c h x.object)) (queue_after n (Sends m) (queue c h x.object)) y) q.most
    ∙ sent_is (registered c h x.object) y m (queue c h x.object) q.some q.bounds

pub queue_received : (c : Config) (h : History) (sid : Sid) (desc : Desc) (length' : ℕ) (x : Held) (y : Attributes) → IsOpen c h x.object y → holds h sid.0 desc.0 ≡ Some x → tickets_of (registered c (after_accepted h (Do sid (MqReceive desc length'))) x.object) (queue c (after_accepted h (Do sid (MqReceive desc length'))) x.object) y ≡ received sid (tickets_of (registered c h x.object) (queue c h x.object) y)
queue_received c h sid desc length' x y q held =
    let w : Waiter = record { place = length h; session = sid.0; desc = desc.0 } in
    ap (λ g. tickets_of g (queue c (after_accepted h (Do sid (MqReceive desc length'))) x.object) y) (registered_receive c h sid desc length' x.object)
    ∙ ap (λ r. tickets_of (registered c h x.object) r y) (queue_by_receive c h sid desc length' x x.object held ∙ ap (λ b. cond b (queue_after (maxmsg c h x.object) (Receives w) (queue c h x.object)) (queue c h x.object)) (eq-eqb x.object x.object refl))
    ∙ ap (λ n. tickets_of (registered c h x.object) (queue_after n (Receives w) (queue c h x.object)) y) q.most
    ∙ received_is (registered c h x.object) y w (queue c h x.object) q.some q.bounds (once c h x.object)

pub queue_withdrawn : (c : Config) (h : History) (sid : Sid) (o n : ℕ) (y : Attributes) → Legal c h → tickets_of (registered c h o) (queue_after n (Withdraws sid.0) (queue c h o)) y ≡ withdrawn sid (tickets_of (registered c h o) (queue c h o) y)
queue_withdrawn c h sid o n y legal = withdrawn_is (registered c h o) y sid (queue c h o) (senders_differ c h legal o) (receivers_differ c h legal o)

-- what is there where a call by a description of object o, which is of the family, is accepted
pub record IsHere (A : Type 0) (kind : Option Object → Option A) (c : Config) (h : History) (t : TablesView) (s d o : ℕ) : Type 0 where
  pub x : Held
  pub given : A
  pub held : holds h s d ≡ Some x
  pub same : x.object ≡ o
  pub made : kind (object c h x.object) ≡ Some given
  pub lives : alive h x.object ≡ true
  pub within : s < length t.sessions

-- of a queue, and of a semaphore
abbrev pub IsHereQueue : Config → History → TablesView → ℕ → ℕ → ℕ → Type 0
IsHereQueue c h t s d o = IsHere Attributes as_queue c h t s d o

abbrev pub IsHereSemaphore : Config → History → TablesView → ℕ → ℕ → ℕ → Type 0
IsHereSemaphore c h t s d o = IsHere ℕ as_semaphore c h t s d o

some_of : {A : Type 0} (w : Option A) → is_some w ≡ true → (y : A) × (w ≡ Some y)
some_of None e = absurd cc
some_of (Some y) e = (y, refl)

object_in : (w : Option Held) (o : ℕ) → option_map (λ (x : Held). x.object) w ≡ Some o → (x : Held) × ((w ≡ Some x) × (x.object ≡ o))
object_in None o e = absurd cc
object_in (Some x) o e = let same : x.object ≡ o = cc in (x, (refl, same))

here_at : {A : Type 0} (kind : Option Object → Option A) (c : Config) (h : History) (t : TablesView) (s d o : ℕ) → Agrees c h t → live h s ≡ true → ((x : Held) → holds h s d ≡ Some x → is_some (kind (object c h x.object)) ≡ true) → option_map (λ (x : Held). x.object) (holds h s d) ≡ Some o → IsHere A kind c h t s d o
here_at kind c h t s d o a lives made is =
    let there = object_in (holds h s d) o is in
    let found = some_of (kind (object c h there.0.object)) (made there.0 there.1.0) in
    record { x = there.0; given = found.0; held = there.1.0; same = there.1.1; made = found.1; lives = holds_alive h s d there.0 there.1.0; within = within_live t.sessions s (a.sessions.lives s ∙ lives) }

pub call_here : (c : Config) (h : History) (t : TablesView) (s d o : ℕ) → Agrees c h t → IsFree c h s Mq d → option_map (λ (x : Held). x.object) (holds h s d) ≡ Some o → IsHereQueue c h t s d o
call_here c h t s d o a free is = here_at as_queue c h t s d o a free.lives (λ x e. not_bad_queue c h s d x free.held e) is

pub semaphore_here : (c : Config) (h : History) (t : TablesView) (s d o : ℕ) → Agrees c h t → IsFree c h s Sem d → option_map (λ (x : Held). x.object) (holds h s d) ≡ Some o → IsHereSemaphore c h t s d o
semaphore_here c h t s d o a free is = here_at as_semaphore c h t s d o a free.lives (λ x e. not_bad_semaphore c h s d x free.held e) is

-- and its queue stands in the table
pub queue_stands : (c : Config) (h : History) (t : TablesView) (s d o : ℕ) → Legal c h → Agrees c h t → IsHereQueue c h t s d o → is_some (queue_at t.objects o) ≡ true
queue_stands c h t s d o legal a here = subst (λ (i : ℕ). is_some (queue_at t.objects i) ≡ true) here.same (ap is_some (queue_there c h t here.x.object here.given legal a here.lives here.made))

-- an accepted call that names a description is by one that gives an object
pub object_there : (c : Config) (h : History) (sid : Sid) (call : Call) → is_some (described call) ≡ true → verdict c h (Do sid call) ≡ None → is_some (by_description (object_by h) (Do sid call)) ≡ true
unfolding forbids bad_descr
object_there c h sid call named accepted = at (described call) named (ap (is_some_and (λ (x : Described). not_held c h sid.0 x.family x.desc.0)) (sym (described_plain call)) ∙ unforbidden c h (Do sid call) accepted BadDescr) where
  at : (w : Option Described) → is_some w ≡ true → is_some_and (λ (x : Described). not_held c h sid.0 x.family x.desc.0) w ≡ false → is_some (option_and_then (λ (x : Described). object_by h sid.0 x.desc.0) w) ≡ true
  at None some free = absurd cc
  at (Some x) some free = mapped_some (λ (y : Held). y.object) (holds h sid.0 x.desc.0) ∙ not_bad_held c h sid.0 x.family x.desc.0 free
