-- The answers to an event bring what it delivers, and no other message.
use Rattle.std.proofs.Common.{◌≡◌, ℕ, Bool, true, false, eqb, List, [], ◌∷◌, ◌++◌, length, cond, Option, Some, None, is_some, is_none, refl, sym, ap, ◌∙◌}
use Rattle.std.specs.Prelude.{option_and_then}
use Rattle.std.specs.Option.{option_map, option_to_list}
use Rattle.std.proofs.lemmas.Bool.{eq-eqb}
use Rattle.ipc_terms.specs.Lists.{first}
use Rattle.ipc_terms.specs.declared.rule.Rule.{Rule}
use Rattle.ipc_terms.specs.declared.ids.Sid.{Sid}
use Rattle.ipc_terms.specs.declared.ids.Desc.{Desc}
use Rattle.ipc_terms.specs.declared.facts.Facts.{Facts}
use Rattle.ipc_terms.specs.declared.call.Attributes.{Attributes}
use Rattle.ipc_terms.specs.declared.call.Answer.{Answer}
use Rattle.ipc_terms.specs.declared.call.Answer.TheVariants.{Done, Sent, Attrs, Value}
use Rattle.ipc_terms.specs.declared.call.Call.TheVariants.{Umask, MqOpen, MqClose, MqSend, MqReceive, MqGetattr, MqSetattr, MqNotify, MqGive, MqUnlink, SemOpen, SemClose, SemUnlink, SemPost, SemWait, SemTryWait, SemGetvalue, ListNames, StatName, Chmod, Chown, SetLimit, Interrupt, Audit, MqTimedSend, MqTimedReceive, SemTimedWait}
use Rattle.ipc_terms.specs.declared.record.Event.{Event}
use Rattle.ipc_terms.specs.declared.record.Event.TheVariants.{Hello, Do, Hangup, Tick}
use Rattle.ipc_policy.specs.declared.config.Config.{Config}
use Rattle.ipc_policy.specs.declared.config.Held.{Held}
use Rattle.ipc_policy.specs.declared.config.Registration.{Registration}
use Rattle.ipc_policy.specs.Decides.History.{History}
use Rattle.ipc_policy.specs.Decides.Descriptions.{holds, is_nonblock}
use Rattle.ipc_policy.specs.Decides.Life.{gives_object}
use Rattle.ipc_policy.specs.Decides.Queues.{Send, Waiter, Act, Sends, Receives, NoAct, Queue, is_filled, next, maxmsg, attributes}
use Rattle.ipc_policy.specs.Decides.Bodies.{due, act, queue, contents, receivers, is_full, value, waiters, is_zero}
use Rattle.ipc_policy.specs.Decides.Registrations.{is_idle, registered}
use Rattle.ipc_policy.specs.Decides.Verdict.{verdict, facts_meant, stat_answers, answers_of, receiver_answers, noticed, received, sender_answers, waiter_answers, send_answers, receive_answers, tick_answers, accepted_answers, answers_at, answers}
use Rattle.ipc_policy.specs.Follows.Deliveries.{delivers, object_asked, delivery}
use Rattle.ipc_policy.specs.Follows.Confined.{brought, brings, EachAnswerIsDelivered}
use Rattle.ipc_policy.proofs.Histories.PlainForms.{plain_accepted}
use Rattle.ipc_policy.proofs.Queues.ActsOf.{held_queue}
use Rattle.ipc_policy.proofs.Blocked.CallsListed.{is_full-at}

-- what brings no message
none_of_held : (w : Option Held) (f : ℕ → List (Sid × Answer)) → ((o : ℕ) → brought (f o) ≡ []) → brought (answers_of w f) ≡ []
none_of_held None f none = refl
none_of_held (Some x) f none = none x.object

none_told : (sid : Sid) (w : Option Facts) → brought (stat_answers sid w) ≡ []
none_told sid None = refl
none_told sid (Some at) = refl

none_noticed : (w : Option Registration) → brought (noticed w) ≡ []
none_noticed None = refl
none_noticed (Some x) = refl

none_if : (b : Bool) (answered : List (Sid × Answer)) → brought answered ≡ [] → brought (cond b answered []) ≡ []
none_if true answered none = none
none_if false answered none = refl

none_let_in : (w : Option Send) → brought (sender_answers w) ≡ []
none_let_in None = refl
none_let_in (Some m) = refl

none_let_through : (w : Option Waiter) → brought (waiter_answers w) ≡ []
none_let_through None = refl
none_let_through (Some v) = refl

none_waited : (sid : Sid) (b : Bool) → brought (cond b [] ((sid, Done) ∷ [])) ≡ []
none_waited sid true = refl
none_waited sid false = refl

none_ticked : (w : Option ℕ) → brought (tick_answers w) ≡ []
none_ticked None = refl
none_ticked (Some s) = refl

-- what is told of a queue
abbrev queue_told : Config → History → Sid → ℕ → ℕ → Option Attributes → List (Sid × Answer)
queue_told c h sid d o None = []
queue_told c h sid d o (Some x) = (sid, Attrs (is_nonblock h d) x (length (contents c h o))) ∷ []

abbrev held_told : Config → History → Sid → ℕ → Option Held → List (Sid × Answer)
held_told c h sid d None = []
held_told c h sid d (Some x) = queue_told c h sid d x.object (attributes c h x.object)

none_of_queue : (c : Config) (h : History) (sid : Sid) (d o : ℕ) (w : Option Attributes) → brought (queue_told c h sid d o w) ≡ []
none_of_queue c h sid d o None = refl
none_of_queue c h sid d o (Some x) = refl

none_of_attributes : (c : Config) (h : History) (sid : Sid) (d : ℕ) (w : Option Held) → brought (held_told c h sid d w) ≡ []
none_of_attributes c h sid d None = refl
none_of_attributes c h sid d (Some x) = none_of_queue c h sid d x.object (attributes c h x.object)

-- an event that does nothing to what it asks of delivers nothing
delivers_none : (w : Option ℕ) → option_to_list (option_map brings (option_and_then (λ o. None) w)) ≡ []
delivers_none None = refl
delivers_none (Some o) = refl

-- a send: the receive that it serves, if there is one
send_served : (n o : ℕ) (m : Send) (q : Queue) (sid : Sid) (notice : List (Sid × Answer)) → brought notice ≡ [] → brought (cond (is_filled n q.contents) [] ((sid, Sent) ∷ receiver_answers m.priority m.bytes (first q.receivers) ++ notice)) ≡ option_to_list (option_map brings (delivers n o (Sends m) q))
send_served n o m q sid notice none = at (is_filled n q.contents) (first q.receivers) where
  at : (b : Bool) (w : Option Waiter) → brought (cond b [] ((sid, Sent) ∷ receiver_answers m.priority m.bytes w ++ notice)) ≡ option_to_list (option_map brings (cond b None (option_map (λ v. record { object = o; message = m; receive = v }) w)))
  at true w = refl
  at false None = none
  at false (Some v) = ap (λ rest. record { session = v.session; priority = m.priority; bytes = m.bytes } ∷ rest) none

-- what a call does to the object that its description gives
act_at : (h : History) (sid : Sid) (desc : Desc) (x : Held) (a : Act) → holds h sid.0 desc.0 ≡ Some x → cond (gives_object x.object (holds h sid.0 desc.0)) a NoAct ≡ a
act_at h sid desc x a k = let here : eqb x.object x.object ≡ true = eq-eqb _ _ refl in rw (k, here) refl

send_brings : (c : Config) (h : History) (sid : Sid) (desc : Desc) (priority : ℕ) (bytes : List ℕ) → None ≡ verdict c h (Do sid (MqSend desc priority bytes)) → (w : Option Held) → holds h sid.0 desc.0 ≡ w → brought (answers_of w (send_answers c h sid priority bytes)) ≡ option_to_list (option_map brings (option_and_then (λ o. delivers (maxmsg c h o) o (act c o (Do sid (MqSend desc priority bytes)) h) (queue c h o)) (option_map (λ x. x.object) w)))
send_brings c h sid desc priority bytes accepted None k = refl
send_brings c h sid desc priority bytes accepted (Some x) k =
    let queue_there : is_some (attributes c h x.object) ≡ true = held_queue c h sid (MqSend desc priority bytes) desc x accepted refl k in
    let full : is_full c h x.object ≡ is_filled (maxmsg c h x.object) (contents c h x.object) = is_full-at c h x.object queue_there in
    ap (λ b. brought (cond b [] ((sid, Sent) ∷ receiver_answers priority bytes (first (receivers c h x.object)) ++ cond (is_idle (queue c h x.object)) (noticed (registered c h x.object)) []))) full
    ∙ send_served (maxmsg c h x.object) x.object (record { place = length h; session = sid.0; desc = desc.0; priority = priority; bytes = bytes }) (queue c h x.object) sid (cond (is_idle (queue c h x.object)) (noticed (registered c h x.object)) []) (none_if (is_idle (queue c h x.object)) (noticed (registered c h x.object)) (none_noticed (registered c h x.object)))
    ∙ ap (λ a. option_to_list (option_map brings (delivers (maxmsg c h x.object) x.object a (queue c h x.object)))) (sym (act_at h sid desc x (Sends (record { place = length h; session = sid.0; desc = desc.0; priority = priority; bytes = bytes })) k))

-- a receive: the message that it takes, if there is one
receive_taken : (n o : ℕ) (v : Waiter) (q : Queue) (sid : Sid) → v.session ≡ sid.0 → (w : Option Send) → brought (received sid w (first q.senders)) ≡ option_to_list (option_map brings (option_map (λ m. record { object = o; message = m; receive = v }) w))
receive_taken n o v q sid who None = refl
receive_taken n o v q sid who (Some m) = ap (λ s. record { session = s; priority = m.priority; bytes = m.bytes } ∷ brought (sender_answers (first q.senders))) (sym who) ∙ ap (λ rest. record { session = v.session; priority = m.priority; bytes = m.bytes } ∷ rest) (none_let_in (first q.senders))

receive_brings : (c : Config) (h : History) (sid : Sid) (desc : Desc) (length' : ℕ) (w : Option Held) → holds h sid.0 desc.0 ≡ w → brought (answers_of w (receive_answers c h sid)) ≡ option_to_list (option_map brings (option_and_then (λ o. delivers (maxmsg c h o) o (act c o (Do sid (MqReceive desc length')) h) (queue c h o)) (option_map (λ x. x.object) w)))
receive_brings c h sid desc length' None k = refl
receive_brings c h sid desc length' (Some x) k =
    receive_taken (maxmsg c h x.object) x.object (record { place = length h; session = sid.0; desc = desc.0 }) (queue c h x.object) sid refl (next (contents c h x.object))
    ∙ ap (λ a. option_to_list (option_map brings (delivers (maxmsg c h x.object) x.object a (queue c h x.object)))) (sym (act_at h sid desc x (Receives (record { place = length h; session = sid.0; desc = desc.0 })) k))

accepted_brings : (c : Config) (h : History) (e : Event) → None ≡ verdict c h e → brought (accepted_answers c h e) ≡ option_to_list (option_map brings (delivery c e h))
unfolding delivery
accepted_brings c h (Hello found) accepted = refl
accepted_brings c h (Do sid (Umask mode)) accepted = refl
accepted_brings c h (Do sid (MqOpen asked)) accepted = refl
accepted_brings c h (Do sid (MqClose desc)) accepted = sym (delivers_none (object_asked h (Do sid (MqClose desc))))
accepted_brings c h (Do sid (MqSend desc priority bytes)) accepted = send_brings c h sid desc priority bytes accepted (holds h sid.0 desc.0) refl
accepted_brings c h (Do sid (MqReceive desc length')) accepted = receive_brings c h sid desc length' (holds h sid.0 desc.0) refl
accepted_brings c h (Do sid (MqTimedSend desc priority until bytes)) accepted = send_brings c h sid desc priority bytes (plain_accepted c h (Do sid (MqTimedSend desc priority until bytes)) accepted) (holds h sid.0 desc.0) refl
accepted_brings c h (Do sid (MqTimedReceive desc size until)) accepted = receive_brings c h sid desc size (holds h sid.0 desc.0) refl
accepted_brings c h (Do sid (SemTimedWait desc until)) accepted = none_of_held (holds h sid.0 desc.0) (λ o. cond (is_zero c h o) [] ((sid, Done) ∷ [])) (λ o. none_waited sid (is_zero c h o)) ∙ sym (delivers_none (object_asked h (Do sid (SemWait desc))))
accepted_brings c h (Do sid (MqGetattr desc)) accepted = none_of_attributes c h sid desc.0 (holds h sid.0 desc.0) ∙ sym (delivers_none (object_asked h (Do sid (MqGetattr desc))))
accepted_brings c h (Do sid (MqSetattr desc nonblock)) accepted = none_of_attributes c h sid desc.0 (holds h sid.0 desc.0) ∙ sym (delivers_none (object_asked h (Do sid (MqSetattr desc nonblock))))
accepted_brings c h (Do sid (MqNotify desc on)) accepted = sym (delivers_none (object_asked h (Do sid (MqNotify desc on))))
accepted_brings c h (Do sid (MqGive desc taker)) accepted = sym (delivers_none (object_asked h (Do sid (MqGive desc taker))))
accepted_brings c h (Do sid (MqUnlink name)) accepted = refl
accepted_brings c h (Do sid (SemOpen asked)) accepted = refl
accepted_brings c h (Do sid (SemClose desc)) accepted = sym (delivers_none (object_asked h (Do sid (SemClose desc))))
accepted_brings c h (Do sid (SemUnlink name)) accepted = refl
accepted_brings c h (Do sid (SemPost desc)) accepted = none_of_held (holds h sid.0 desc.0) (λ o. (sid, Done) ∷ waiter_answers (first (waiters c h o))) (λ o. none_let_through (first (waiters c h o))) ∙ sym (delivers_none (object_asked h (Do sid (SemPost desc))))
accepted_brings c h (Do sid (SemWait desc)) accepted = none_of_held (holds h sid.0 desc.0) (λ o. cond (is_zero c h o) [] ((sid, Done) ∷ [])) (λ o. none_waited sid (is_zero c h o)) ∙ sym (delivers_none (object_asked h (Do sid (SemWait desc))))
accepted_brings c h (Do sid (SemTryWait desc)) accepted = sym (delivers_none (object_asked h (Do sid (SemTryWait desc))))
accepted_brings c h (Do sid (SemGetvalue desc)) accepted = none_of_held (holds h sid.0 desc.0) (λ o. (sid, Value (value c h o)) ∷ []) (λ o. refl) ∙ sym (delivers_none (object_asked h (Do sid (SemGetvalue desc))))
accepted_brings c h (Do sid (ListNames family start count)) accepted = refl
accepted_brings c h (Do sid (StatName target)) accepted = none_told sid (facts_meant c h target)
accepted_brings c h (Do sid (Chmod mode target)) accepted = refl
accepted_brings c h (Do sid (Chown owner group target)) accepted = refl
accepted_brings c h (Do sid (SetLimit uid bytes)) accepted = refl
accepted_brings c h (Do sid (Audit start count)) accepted = refl
accepted_brings c h (Do sid Interrupt) accepted = refl
accepted_brings c h (Hangup sid) accepted = refl
accepted_brings c h (Tick moment) accepted = none_ticked (due c h moment)

pub answers_delivered : EachAnswerIsDelivered
unfolding answers
answers_delivered c h e = at (verdict c h e) refl where
  at : (w : Option Rule) → verdict c h e ≡ w → brought (answers_at w c h e) ≡ option_to_list (cond (is_none w) (option_map brings (delivery c e h)) None)
  at None k = accepted_brings c h e (sym k)
  at (Some rule) k = refl
