-- The verdict on an event, what is answered, and which histories are legal.
use Rattle.std.specs.Prelude.{◌≡◌, ℕ, ◌==◌, find, filter, map, List, [], ◌∷◌, ◌++◌, length, Option, Some, None, if◌then◌else◌}
pub use Rattle.ipc_terms.specs.Events.{caller}
use Rattle.ipc_terms.specs.Lists.{first}
use Rattle.ipc_terms.specs.Rules.{every_rule}
use Rattle.ipc_terms.specs.declared.rule.Rule.{Rule}
use Rattle.ipc_terms.specs.declared.rule.Rule.TheVariants.{TimedOut}
use Rattle.ipc_terms.specs.Pages.{page}
use Rattle.ipc_terms.specs.Lines.{lines}
use Rattle.ipc_terms.specs.declared.ids.Sid.{Sid}
use Rattle.ipc_terms.specs.declared.facts.Facts.{Facts}
use Rattle.ipc_terms.specs.declared.call.Answer.{Answer}
use Rattle.ipc_terms.specs.declared.call.Answer.TheVariants.{Started, Done, Opened, Mask, Sent, Received, Attrs, Value, Names, Stat, Records, Notice, Taken, Refused, Interrupted}
use Rattle.ipc_terms.specs.declared.call.Call.TheVariants.{Umask, MqOpen, MqClose, MqSend, MqReceive, MqGetattr, MqSetattr, MqNotify, MqGive, MqUnlink, SemOpen, SemClose, SemUnlink, SemPost, SemWait, SemTryWait, SemGetvalue, ListNames, StatName, Chmod, Chown, SetLimit, Interrupt, Audit, MqTimedSend, MqTimedReceive, SemTimedWait}
use Rattle.ipc_terms.specs.declared.record.Event.{Event}
use Rattle.ipc_terms.specs.declared.record.Event.TheVariants.{Hello, Do, Hangup, Tick}
use Rattle.ipc_policy.specs.declared.config.Config.{Config}
use Rattle.ipc_policy.specs.Decides.History.{History}
use Rattle.ipc_policy.specs.Decides.Sessions.{hellos, live, mask}
use Rattle.ipc_policy.specs.declared.config.Held.{Held}
use Rattle.ipc_policy.specs.declared.config.Registration.{Registration}
use Rattle.ipc_terms.specs.declared.call.Attributes.{Attributes}
pub use Rattle.ipc_policy.specs.Decides.Objects.{facts_meant}
use Rattle.ipc_policy.specs.Decides.Descriptions.{opens, holds, is_nonblock}
use Rattle.ipc_policy.specs.Decides.Queues.{Send, Waiter, attributes, next}
use Rattle.ipc_policy.specs.Decides.Bodies.{due, queue, contents, senders, receivers, is_full, value, waiters, is_zero}
use Rattle.ipc_policy.specs.Decides.Registrations.{is_idle, registered}
use Rattle.ipc_policy.specs.Decides.Life.{names}
use Rattle.ipc_policy.specs.Decides.Rules.{forbids}

-- the first rule that forbids, in the order of the rules' numbers, or that none does
unfoldable pub verdict : Config → History → Event → Option Rule
verdict c h e = find (λ rule. forbids rule c h e) every_rule

-- a session is told what there is
abbrev pub stat_answers : Sid → Option Facts → List (Sid × Answer)
stat_answers sid None = []
stat_answers sid (Some found) = (sid, Stat found) ∷ []

-- what is answered of the object that a description gives, where there is one
abbrev pub answers_of : Option Held → (ℕ → List (Sid × Answer)) → List (Sid × Answer)
answers_of None answered = []
answers_of (Some x) answered = answered x.object

-- a session whose receive was parked is given a message, where there is one
abbrev pub receiver_answers : ℕ → List ℕ → Option Waiter → List (Sid × Answer)
receiver_answers priority bytes None = []
receiver_answers priority bytes (Some w) = (record { 0 = w.session }, Received priority bytes) ∷ []

-- a session whose send was parked is told that its message entered, where there is one
abbrev pub sender_answers : Option Send → List (Sid × Answer)
sender_answers None = []
sender_answers (Some m) = (record { 0 = m.session }, Sent) ∷ []

-- the session that is registered is told of the message, where there is one
abbrev pub noticed : Option Registration → List (Sid × Answer)
noticed None = []
noticed (Some x) = (x.session, Notice x.desc) ∷ []

-- a send that parks is not answered yet; else the sender is, and then the longest parked receive gets the message; where
-- none is parked and the queue is empty, the session that is registered is told
abbrev pub send_answers : Config → History → Sid → ℕ → List ℕ → ℕ → List (Sid × Answer)
send_answers c h sid priority bytes o =
    if is_full c h o
    then []
    else (sid, Sent) ∷ receiver_answers priority bytes (first (receivers c h o)) ++ (if is_idle (queue c h o) then noticed (registered c h o) else [])

-- a session takes a message, and then the sender that it lets in is told
abbrev pub received : Sid → Option Send → Option Send → List (Sid × Answer)
received sid None sender = []
received sid (Some m) sender = (sid, Received m.priority m.bytes) ∷ sender_answers sender

-- a receive that parks is not answered yet; else the next message is, and then the longest parked send enters
abbrev pub receive_answers : Config → History → Sid → ℕ → List (Sid × Answer)
receive_answers c h sid o = received sid (next (contents c h o)) (first (senders c h o))

-- a session is told of the queue that it has by description d, where it has one
abbrev pub attributes_told : Config → History → Sid → ℕ → List (Sid × Answer)
attributes_told c h sid d = by_held (holds h sid.0 d) where
  by_queue : ℕ → Option Attributes → List (Sid × Answer)
  by_queue o None = []
  by_queue o (Some x) = (sid, Attrs (is_nonblock h d) x (length (contents c h o))) ∷ []

  by_held : Option Held → List (Sid × Answer)
  by_held None = []
  by_held (Some x) = by_queue x.object (attributes c h x.object)

-- a session whose wait was parked is told that it is over, where there is one
abbrev pub waiter_answers : Option Waiter → List (Sid × Answer)
waiter_answers None = []
waiter_answers (Some w) = (record { 0 = w.session }, Done) ∷ []

-- a post is answered, and then the longest parked wait
abbrev pub post_answers : Config → History → Sid → ℕ → List (Sid × Answer)
post_answers c h sid o = (sid, Done) ∷ waiter_answers (first (waiters c h o))

-- a wait that parks is not answered yet
abbrev pub wait_answers : Config → History → Sid → ℕ → List (Sid × Answer)
wait_answers c h sid o = if is_zero c h o then [] else (sid, Done) ∷ []

-- a session is told the value of a semaphore
abbrev pub value_told : Config → History → Sid → ℕ → List (Sid × Answer)
value_told c h sid o = (sid, Value (value c h o)) ∷ []

-- the session whose call a tick ends is told that its deadline is past, where there is one
abbrev pub tick_answers : Option ℕ → List (Sid × Answer)
tick_answers None = []
tick_answers (Some s) = (record { 0 = s }, Refused TimedOut) ∷ []

-- to whom an accepted event is answered, and what
abbrev pub accepted_answers : Config → History → Event → List (Sid × Answer)
accepted_answers c h (Hello found) = (record { 0 = hellos h }, Started (record { 0 = hellos h })) ∷ []
accepted_answers c h (Do sid (Umask mask')) = (sid, Mask (record { 0 = mask h sid.0 })) ∷ []
accepted_answers c h (Do sid (MqOpen asked)) = (sid, Opened (record { 0 = opens h })) ∷ []
accepted_answers c h (Do sid (MqClose desc)) = (sid, Done) ∷ []
accepted_answers c h (Do sid (MqSend desc priority bytes)) = answers_of (holds h sid.0 desc.0) (send_answers c h sid priority bytes)
accepted_answers c h (Do sid (MqReceive desc length')) = answers_of (holds h sid.0 desc.0) (receive_answers c h sid)
accepted_answers c h (Do sid (MqTimedSend desc priority deadline bytes)) = answers_of (holds h sid.0 desc.0) (send_answers c h sid priority bytes)
accepted_answers c h (Do sid (MqTimedReceive desc length' deadline)) = answers_of (holds h sid.0 desc.0) (receive_answers c h sid)
accepted_answers c h (Do sid (MqGetattr desc)) = attributes_told c h sid desc.0
accepted_answers c h (Do sid (MqSetattr desc nonblock)) = attributes_told c h sid desc.0
accepted_answers c h (Do sid (MqNotify desc on)) = (sid, Done) ∷ []
accepted_answers c h (Do sid (MqGive desc taker)) = (sid, Done) ∷ (taker, Taken desc) ∷ []
accepted_answers c h (Do sid (MqUnlink name)) = (sid, Done) ∷ []
accepted_answers c h (Do sid (SemOpen asked)) = (sid, Opened (record { 0 = opens h })) ∷ []
accepted_answers c h (Do sid (SemClose desc)) = (sid, Done) ∷ []
accepted_answers c h (Do sid (SemUnlink name)) = (sid, Done) ∷ []
accepted_answers c h (Do sid (SemPost desc)) = answers_of (holds h sid.0 desc.0) (post_answers c h sid)
accepted_answers c h (Do sid (SemWait desc)) = answers_of (holds h sid.0 desc.0) (wait_answers c h sid)
accepted_answers c h (Do sid (SemTimedWait desc deadline)) = answers_of (holds h sid.0 desc.0) (wait_answers c h sid)
accepted_answers c h (Do sid (SemTryWait desc)) = (sid, Done) ∷ []
accepted_answers c h (Do sid (SemGetvalue desc)) = answers_of (holds h sid.0 desc.0) (value_told c h sid)
accepted_answers c h (Do sid (ListNames family start count)) = (sid, Names (page start count (names h family))) ∷ []
accepted_answers c h (Do sid (StatName target)) = stat_answers sid (facts_meant c h target)
accepted_answers c h (Do sid (Chmod mode target)) = (sid, Done) ∷ []
accepted_answers c h (Do sid (Chown owner group target)) = (sid, Done) ∷ []
accepted_answers c h (Do sid (SetLimit uid bytes)) = (sid, Done) ∷ []
accepted_answers c h (Do sid (Audit start count)) = (sid, Records (page start count (lines h))) ∷ []
accepted_answers c h (Do sid Interrupt) = (sid, Interrupted) ∷ (sid, Done) ∷ []
accepted_answers c h (Hangup sid) = []
accepted_answers c h (Tick moment) = tick_answers (due c h moment)

-- what is answered where this is the verdict
abbrev pub answers_at : Option Rule → Config → History → Event → List (Sid × Answer)
answers_at (Some rule) c h e = (caller e, Refused rule) ∷ []
answers_at None c h e = accepted_answers c h e

-- to whom an event is answered, and what
unfoldable pub answers : Config → History → Event → List (Sid × Answer)
answers c h e = answers_at (verdict c h e) c h e

-- of answers, those that are for session s
abbrev pub for_session : ℕ → List (Sid × Answer) → List Answer
for_session s answered = map (λ p. p.1) (filter (λ p. p.0.0 == s) answered)

-- the answers to session s at every place in order, without the places after whose record it is not live
unfoldable pub outbox : Config → History → ℕ → List Answer
outbox c [] s = []
outbox c (r ∷ before) s = outbox c before s ++ (if live (r ∷ before) s then for_session s (answers c before r.event) else [])

-- at every place the record's rule is the verdict on its event after what came before
abbrev pub Legal : Config → History → Type 0
Legal c [] = Unit {0}
Legal c (r ∷ before) = (r.rule ≡ verdict c before r.event) × Legal c before

-- the history with one more event, recorded with its verdict
abbrev pub after_event : Config → History → Event → History
after_event c h e = record { event = e; rule = verdict c h e } ∷ h

-- the history with a list of events more, each recorded with its verdict
abbrev pub after_events : Config → History → List Event → History
after_events c h [] = h
after_events c h (e ∷ es) = after_events c (after_event c h e) es

-- what each of a list of events is answered
abbrev pub all_answers : Config → History → List Event → List (List (Sid × Answer))
all_answers c h [] = []
all_answers c h (e ∷ es) = answers c h e ∷ all_answers c (after_event c h e) es
