-- In a legal history a session is parked on an object exactly if the object lists its call.
use Rattle.std.proofs.Common.{◌≡◌, ℕ, Bool, true, false, not, ◌&&◌, ◌||◌, eqb, List, [], ◌∷◌, ◌++◌, length, cond, Option, Some, None, is_some, refl, sym, ap, subst, ◌∙◌, inl, inr, ◌⊎◌}
use Rattle.std.specs.Prelude.{find, filter, option_and_then}
use Rattle.std.specs.Option.{option_map, option_or}
use Rattle.std.proofs.lemmas.Bool.{eqb-true, eq-eqb, ne_eqb}
use Rattle.ipc_terms.specs.Lists.{first, Each}
use Rattle.ipc_terms.specs.Timed.{plain}
use Rattle.ipc_terms.specs.declared.rule.Rule.{Rule}
use Rattle.ipc_terms.specs.declared.rule.Rule.TheVariants.{InCall}
use Rattle.ipc_terms.specs.declared.ids.Sid.{Sid}
use Rattle.ipc_terms.specs.declared.ids.Desc.{Desc}
use Rattle.ipc_terms.specs.declared.call.Call.{Call}
use Rattle.ipc_terms.specs.declared.call.Call.TheVariants.{MqSend, MqReceive, SemWait}
use Rattle.ipc_terms.specs.declared.record.Event.{Event}
use Rattle.ipc_terms.specs.declared.record.Event.TheVariants.{Hello, Do, Hangup, Tick}
use Rattle.ipc_policy.specs.declared.config.Config.{Config}
use Rattle.ipc_policy.specs.declared.config.Held.{Held}
use Rattle.ipc_terms.specs.declared.call.Attributes.{Attributes}
use Rattle.ipc_policy.specs.Decides.History.{History, unless, is_some_and}
use Rattle.ipc_policy.specs.Decides.Descriptions.{holds}
use Rattle.ipc_policy.specs.Decides.Queues.{Send, Waiter, Act, Sends, Receives, Withdraws, NoAct, Queue, is_filled, has_none, tail, senders_after, receivers_after, queue_after, maxmsg, maxmsg_of, attributes}
use Rattle.ipc_policy.specs.Decides.Semaphores.{SemaphoreAct, Posts, Waits, Tries, WithdrawsWait, NoSemaphoreAct, Semaphore, semaphore_after, waiters_after, gives_value}
use Rattle.ipc_policy.specs.Decides.Bodies.{act, queue, contents, senders, receivers, is_full, is_empty, semaphore_act, semaphore, value, waiters, is_zero}
use Rattle.ipc_policy.specs.Decides.Parking.{ParkedKind, Sending, Receiving, Waiting, Parked, withdraws, is_posted, plain_parks, parks, parked_on, ends_call, ends_parked, parked, stands_at, seen}
use Rattle.ipc_policy.specs.Follows.Readings.{ends_send, ends_receive}
use Rattle.ipc_policy.specs.Decides.Rules.{forbids, in_call, is_interrupt}
use Rattle.ipc_policy.specs.Decides.Verdict.{verdict}
use Rattle.ipc_policy.specs.Follows.Laws.{IsListed, ParkedIsListed, place_listed}
use Rattle.ipc_policy.proofs.Histories.PlainForms.{plain_accepted}
use Rattle.ipc_policy.proofs.Lists.EachItem.{each_map, each_parked_sender, each_parked_receiver, each_parked_waiter}
use Rattle.ipc_policy.proofs.Lists.Gathering.{find_kept}
use Rattle.ipc_policy.proofs.Queues.Queueing.{refused_parked}
use Rattle.ipc_policy.proofs.Blocked.Waits.{or_right, or_left, or_neither, act_made, cancels, withdraws_alike, posts_no_send, posts_no_receive, not_ended_wait}
use Rattle.ipc_policy.proofs.Semaphores.ValueCounts.{value_counted, zero_at}
use Rattle.ipc_policy.proofs.Histories.Unforbidden.{unforbidden}
use Rattle.ipc_policy.proofs.Queues.ActsOf.{act_sends, act_receives, held_queue, held_semaphore}
use Rattle.ipc_policy.proofs.Blocked.ParkedPlaces.{parked_by_place, first_keeps}

-- a call that a parked session makes is not accepted, but for an interrupt
pub another_call : (c : Config) (h : History) (sid : Sid) (call : Call) (s : ℕ) → None ≡ verdict c h (Do sid call) → is_interrupt call ≡ false → is_some (parked c h s) ≡ true → eqb sid.0 s ≡ false
unfolding forbids in_call
another_call c h sid call s legal other k = ne_eqb _ _ (λ (e : sid.0 ≡ s).
    let passes : (not (is_interrupt call) && is_some (parked c h sid.0)) ≡ false = unforbidden c h (Do sid call) (sym legal) InCall in
    let here : is_some (parked c h sid.0) ≡ true = rw e k in
    absurd (let wrong : true ≡ false = rw (here, other) at passes in cc))

-- so it parks no other
plain_parks_no_other : (c : Config) (h : History) (e : Event) (s : ℕ) → None ≡ verdict c h e → is_some (parked c h s) ≡ true → plain_parks (seen c h) s e ≡ None
plain_parks_no_other c h (Do sid (MqSend desc priority bytes)) s legal k = rw (another_call c h sid (MqSend desc priority bytes) s legal refl k) refl
plain_parks_no_other c h (Do sid (MqReceive desc length')) s legal k = rw (another_call c h sid (MqReceive desc length') s legal refl k) refl
plain_parks_no_other c h (Do sid (SemWait desc)) s legal k = rw (another_call c h sid (SemWait desc) s legal refl k) refl
plain_parks_no_other c h (Do sid call) s legal k = refl
plain_parks_no_other c h (Hello found) s legal k = refl
plain_parks_no_other c h (Hangup sid) s legal k = refl
plain_parks_no_other c h (Tick moment) s legal k = refl

pub parks_no_other : (c : Config) (h : History) (e : Event) (s : ℕ) → None ≡ verdict c h e → is_some (parked c h s) ≡ true → parks c s e h ≡ None
parks_no_other c h e s legal k = plain_parks_no_other c h (plain e) s (plain_accepted c h e legal) k

-- a session that parks was not parked
pub parks_when_free : (c : Config) (h : History) (e : Event) (s : ℕ) (p : Parked) → None ≡ verdict c h e → parks c s e h ≡ Some p → parked c h s ≡ None
parks_when_free c h e s p legal k = at (parked c h s) refl where
  at : (o : Option Parked) → parked c h s ≡ o → o ≡ None
  at None q = refl
  at (Some x) q = absurd (let none : parks c s e h ≡ None = parks_no_other c h e s legal (ap is_some q) in let wrong : Some p ≡ None = sym k ∙ none in cc)

pub stays_parked : (c : Config) (h : History) (e : Event) (s : ℕ) (p : Parked) → parked c h s ≡ Some p → parks c s e h ≡ None → ends_parked c s p e h ≡ false → parked c (record { event = e; rule = None } ∷ h) s ≡ Some p
unfolding parked
stays_parked c h e s p k none keeps = rw (none, k, keeps) refl

pub gets_parked : (c : Config) (h : History) (e : Event) (s : ℕ) (p : Parked) → parks c s e h ≡ Some p → parked c (record { event = e; rule = None } ∷ h) s ≡ Some p
unfolding parked
gets_parked c h e s p k = rw k refl

-- where there is a queue, a full one has all that it may, and an empty one has none
full_is : (x : Option Attributes) (xs : List Send) → is_some x ≡ true → is_some_and (λ y. is_filled y.maxmsg xs) x ≡ is_filled (maxmsg_of x) xs
full_is None xs e = absurd cc
full_is (Some x) xs e = refl

empty_is : (x : Option Attributes) (xs : List Send) → is_some x ≡ true → is_some_and (λ y. has_none xs) x ≡ has_none xs
empty_is None xs e = absurd cc
empty_is (Some x) xs e = refl

pub is_full-at : (c : Config) (h : History) (o : ℕ) → is_some (attributes c h o) ≡ true → is_full c h o ≡ is_filled (maxmsg c h o) (contents c h o)
is_full-at c h o e = full_is (attributes c h o) (contents c h o) e

pub is_empty-at : (c : Config) (h : History) (o : ℕ) → is_some (attributes c h o) ≡ true → is_empty c h o ≡ has_none (contents c h o)
is_empty-at c h o e = empty_is (attributes c h o) (contents c h o) e

-- a send to a full queue parks its session, and a receive from an empty one
parks_send_of : (c : Config) (h : History) (sid : Sid) (desc : Desc) (priority : ℕ) (bytes : List ℕ) (x : Held) → holds h sid.0 desc.0 ≡ Some x → is_full c h x.object ≡ true → parks c sid.0 (Do sid (MqSend desc priority bytes)) h ≡ Some (record { object = x.object; place = length h; kind = Sending })
parks_send_of c h sid desc priority bytes x k e = let here : eqb sid.0 sid.0 ≡ true = eq-eqb _ _ refl in rw (k, here, e) refl

parks_receive_of : (c : Config) (h : History) (sid : Sid) (desc : Desc) (length' : ℕ) (x : Held) → holds h sid.0 desc.0 ≡ Some x → is_empty c h x.object ≡ true → parks c sid.0 (Do sid (MqReceive desc length')) h ≡ Some (record { object = x.object; place = length h; kind = Receiving })
parks_receive_of c h sid desc length' x k e = let here : eqb sid.0 sid.0 ≡ true = eq-eqb _ _ refl in rw (k, here, e) refl

parks_wait_of : (c : Config) (h : History) (sid : Sid) (desc : Desc) (x : Held) → holds h sid.0 desc.0 ≡ Some x → is_zero c h x.object ≡ true → parks c sid.0 (Do sid (SemWait desc)) h ≡ Some (record { object = x.object; place = length h; kind = Waiting })
parks_wait_of c h sid desc x k e = let here : eqb sid.0 sid.0 ≡ true = eq-eqb _ _ refl in rw (k, here, e) refl

send_parks : (c : Config) (h : History) (o : ℕ) (e : Event) → None ≡ verdict c h e → (m : Send) → act c o e h ≡ Sends m → is_filled (maxmsg c h o) (contents c h o) ≡ true → parked c (record { event = e; rule = None } ∷ h) m.session ≡ Some (record { object = o; place = m.place; kind = Sending })
send_parks c h o e legal m k f =
    let a = act_sends c o e h m k in
    let legal' : None ≡ verdict c h (Do a.sid (MqSend a.desc m.priority m.bytes)) = rw a.event at (plain_accepted c h e legal) in
    let there = held_queue c h a.sid (MqSend a.desc m.priority m.bytes) a.desc a.x legal' refl a.held in
    let full : is_full c h a.x.object ≡ true = is_full-at c h a.x.object there ∙ subst (λ (n : ℕ). is_filled (maxmsg c h n) (contents c h n) ≡ true) (sym a.object) f in
    let parks_now : parks c a.sid.0 e h ≡ Some (record { object = o; place = length h; kind = Sending }) =
    ap (plain_parks (seen c h) a.sid.0) a.event
    ∙ parks_send_of c h a.sid a.desc m.priority m.bytes a.x a.held full
    ∙ ap (λ (n : ℕ). Some (record { object = n; place = length h; kind = Sending })) a.object in
    let now = gets_parked c h e a.sid.0 (record { object = o; place = length h; kind = Sending }) parks_now in
    ap (parked c (record { event = e; rule = None } ∷ h)) a.session ∙ now ∙ ap (λ (n : ℕ). Some (record { object = o; place = n; kind = Sending })) (sym a.place)

receive_parks : (c : Config) (h : History) (o : ℕ) (e : Event) → None ≡ verdict c h e → (w : Waiter) → act c o e h ≡ Receives w → has_none (contents c h o) ≡ true → parked c (record { event = e; rule = None } ∷ h) w.session ≡ Some (record { object = o; place = w.place; kind = Receiving })
receive_parks c h o e legal w k f =
    let a = act_receives c o e h w k in
    let legal' : None ≡ verdict c h (Do a.sid (MqReceive a.desc a.length')) = rw a.event at (plain_accepted c h e legal) in
    let there = held_queue c h a.sid (MqReceive a.desc a.length') a.desc a.x legal' refl a.held in
    let empty : is_empty c h a.x.object ≡ true = is_empty-at c h a.x.object there ∙ subst (λ (n : ℕ). has_none (contents c h n) ≡ true) (sym a.object) f in
    let parks_now : parks c a.sid.0 e h ≡ Some (record { object = o; place = length h; kind = Receiving }) =
    ap (plain_parks (seen c h) a.sid.0) a.event
    ∙ parks_receive_of c h a.sid a.desc a.length' a.x a.held empty
    ∙ ap (λ (n : ℕ). Some (record { object = n; place = length h; kind = Receiving })) a.object in
    let now = gets_parked c h e a.sid.0 (record { object = o; place = length h; kind = Receiving }) parks_now in
    subst (λ (v : Waiter). parked c (record { event = e; rule = None } ∷ h) v.session ≡ Some (record { object = o; place = v.place; kind = Receiving })) (sym a.wait) now

wait_parks : (c : Config) (h : History) (o : ℕ) (e : Event) → ((i : ℕ) → value c h i ≡ (semaphore c h i).running) → None ≡ verdict c h e → (w : Waiter) → semaphore_act c o e h ≡ Waits w → eqb (semaphore c h o).running 0 ≡ true → parked c (record { event = e; rule = None } ∷ h) w.session ≡ Some (record { object = o; place = w.place; kind = Waiting })
wait_parks c h o e counted legal w k f =
    let a = act_made c o e h (Waits w) k in
    let legal' : None ≡ verdict c h (Do a.sid (SemWait a.desc)) = rw a.event at (plain_accepted c h e legal) in
    let there = held_semaphore c h a.sid (SemWait a.desc) a.desc a.x legal' refl a.held in
    let zero' : is_zero c h a.x.object ≡ true = zero_at c h a.x.object (counted a.x.object) there ∙ subst (λ (n : ℕ). eqb (semaphore c h n).running 0 ≡ true) (sym a.object) f in
    let parks_now : parks c a.sid.0 e h ≡ Some (record { object = o; place = length h; kind = Waiting }) =
    ap (plain_parks (seen c h) a.sid.0) a.event
    ∙ parks_wait_of c h a.sid a.desc a.x a.held zero'
    ∙ ap (λ (n : ℕ). Some (record { object = n; place = length h; kind = Waiting })) a.object in
    let now = gets_parked c h e a.sid.0 (record { object = o; place = length h; kind = Waiting }) parks_now in
    subst (λ (v : Waiter). parked c (record { event = e; rule = None } ∷ h) v.session ≡ Some (record { object = o; place = v.place; kind = Waiting })) (sym a.wait) now

-- what does not end a listed call does not end its session's parked call
not_ended_send : (o : ℕ) (m : Send) (a : Act) (q : Queue) → ends_send m a q ≡ false → ends_call m.session (record { object = o; place = m.place; kind = Sending }) a q ≡ false
not_ended_send o m (Withdraws s) q e = rw e refl
not_ended_send o m (Receives w) q e = e
not_ended_send o m (Sends v) q e = refl
not_ended_send o m NoAct q e = refl

pub not_ended_receive : (o : ℕ) (w : Waiter) (a : Act) (q : Queue) → ends_receive w a q ≡ false → ends_call w.session (record { object = o; place = w.place; kind = Receiving }) a q ≡ false
not_ended_receive o w (Withdraws s) q e = rw e refl
not_ended_receive o w (Receives v) q e = refl
not_ended_receive o w (Sends m) q e = e
not_ended_receive o w NoAct q e = refl

-- what a list has of a session
abbrev place_of_session : {A : Type 0} → (A → ℕ) → (A → ℕ) → ℕ → List A → Option ℕ
place_of_session place session s xs = option_map place (find (λ x. eqb (session x) s) xs)

place_stays : {A : Type 0} (place session : A → ℕ) (s i : ℕ) (xs : List A) (m : A) → place_of_session place session s xs ≡ Some i → place_of_session place session s (xs ++ m ∷ []) ≡ Some i
place_stays place session s i [] m e = absurd cc
place_stays place session s i (x ∷ xs) m e = at (eqb (session x) s) (place_stays place session s i xs m) e where
  at : (b : Bool) → (place_of_session place session s xs ≡ Some i → place_of_session place session s (xs ++ m ∷ []) ≡ Some i) → option_map place (cond b (Some x) (find (λ y. eqb (session y) s) xs)) ≡ Some i → option_map place (cond b (Some x) (find (λ y. eqb (session y) s) (xs ++ m ∷ []))) ≡ Some i
  at true rest k = k
  at false rest k = rest k

place_added : {A : Type 0} (place session : A → ℕ) (s i : ℕ) (xs : List A) (m : A) (b : Bool) → place_of_session place session s xs ≡ Some i → place_of_session place session s (cond b (xs ++ m ∷ []) xs) ≡ Some i
place_added place session s i xs m true e = place_stays place session s i xs m e
place_added place session s i xs m false e = e

place_behind : {A : Type 0} (place session : A → ℕ) (s i : ℕ) (xs : List A) → place_of_session place session s xs ≡ Some i → stands_at place i (first xs) ≡ false → place_of_session place session s (tail xs) ≡ Some i
place_behind place session s i [] e k = e
place_behind place session s i (x ∷ xs) e k = at (eqb (session x) s) e where
  at : (b : Bool) → option_map place (cond b (Some x) (find (λ y. eqb (session y) s) xs)) ≡ Some i → place_of_session place session s xs ≡ Some i
  at true j = absurd (let same : place x ≡ i = cc in let here : eqb (place x) i ≡ true = eq-eqb _ _ same in let wrong : true ≡ false = sym here ∙ k in cc)
  at false j = j

place_filtered : {A : Type 0} (place session : A → ℕ) (s t i : ℕ) (xs : List A) → eqb s t ≡ false → place_of_session place session s xs ≡ Some i → place_of_session place session s (filter (λ x. not (eqb (session x) t)) xs) ≡ Some i
place_filtered place session s t i xs other e = ap (option_map place) (find_kept (λ x. eqb (session x) s) (λ x. not (eqb (session x) t)) xs (λ x here. let same : session x ≡ s = eqb-true _ _ here in rw (same, other) refl)) ∙ e

-- what lists the call of a parked session lists it until it ends
send_stays : (n : ℕ) (a : Act) (q : Queue) (s o i : ℕ) → place_of_session (λ (x : Send). x.place) (λ x. x.session) s q.senders ≡ Some i → ends_call s (record { object = o; place = i; kind = Sending }) a q ≡ false → place_of_session (λ (x : Send). x.place) (λ x. x.session) s (senders_after n a q) ≡ Some i
send_stays n (Sends m) q s o i e k = place_added (λ (x : Send). x.place) (λ x. x.session) s i q.senders m (is_filled n q.contents) e
send_stays n (Receives w) q s o i e k = place_behind (λ (x : Send). x.place) (λ x. x.session) s i q.senders e k
send_stays n (Withdraws t) q s o i e k = place_filtered (λ (x : Send). x.place) (λ x. x.session) s t i q.senders (or_left (eqb s t) _ k) e
send_stays n NoAct q s o i e k = e

receive_stays : (a : Act) (q : Queue) (s o i : ℕ) → place_of_session (λ (x : Waiter). x.place) (λ x. x.session) s q.receivers ≡ Some i → ends_call s (record { object = o; place = i; kind = Receiving }) a q ≡ false → place_of_session (λ (x : Waiter). x.place) (λ x. x.session) s (receivers_after a q) ≡ Some i
receive_stays (Sends m) q s o i e k = place_behind (λ (x : Waiter). x.place) (λ x. x.session) s i q.receivers e k
receive_stays (Receives w) q s o i e k = place_added (λ (x : Waiter). x.place) (λ x. x.session) s i q.receivers w (has_none q.contents) e
receive_stays (Withdraws t) q s o i e k = place_filtered (λ (x : Waiter). x.place) (λ x. x.session) s t i q.receivers (or_left (eqb s t) _ k) e
receive_stays NoAct q s o i e k = e

wait_stays : (b : SemaphoreAct) (u : Semaphore) (a : Act) (q : Queue) (s o i : ℕ) → withdraws s a ≡ cancels s b → place_of_session (λ (x : Waiter). x.place) (λ x. x.session) s u.waiters ≡ Some i → (is_posted b Waiting i u || ends_call s (record { object = o; place = i; kind = Waiting }) a q) ≡ false → place_of_session (λ (x : Waiter). x.place) (λ x. x.session) s (waiters_after b u) ≡ Some i
wait_stays Posts u a q s o i alike e k = place_behind (λ (x : Waiter). x.place) (λ x. x.session) s i u.waiters e (or_left _ _ k)
wait_stays (Waits w) u a q s o i alike e k = place_added (λ (x : Waiter). x.place) (λ x. x.session) s i u.waiters w (eqb u.running 0) e
wait_stays Tries u a q s o i alike e k = e
wait_stays (WithdrawsWait t) u a q s o i alike e k = place_filtered (λ (x : Waiter). x.place) (λ x. x.session) s t i u.waiters (sym alike ∙ or_left (withdraws s a) false k) e
wait_stays NoSemaphoreAct u a q s o i alike e k = e

listed_stays : (n : ℕ) (a : Act) (q : Queue) (b : SemaphoreAct) (u v : Semaphore) → v.waiters ≡ waiters_after b u → (s o i : ℕ) (kind : ParkedKind) → withdraws s a ≡ cancels s b → place_listed kind s q u ≡ Some i → (is_posted b kind i u || ends_call s (record { object = o; place = i; kind = kind }) a q) ≡ false → place_listed kind s (queue_after n a q) v ≡ Some i
listed_stays n a q b u v now s o i Sending alike e k = send_stays n a q s o i e (or_right _ _ k)
listed_stays n a q b u v now s o i Receiving alike e k = receive_stays a q s o i e (or_right _ _ k)
listed_stays n a q b u v now s o i Waiting alike e k = ap (place_of_session (λ (x : Waiter). x.place) (λ x. x.session) s) now ∙ wait_stays b u a q s o i alike e k

-- a session that is not parked is not listed, and so is listed by the call that comes
place_new : {A : Type 0} (place session : A → ℕ) (f : ℕ → Option Parked) (call : A → Parked) (s : ℕ) (xs : List A) (m : A) → Each (λ x. f (session x) ≡ Some (call x)) xs → f s ≡ None → session m ≡ s → place_of_session place session s (xs ++ m ∷ []) ≡ Some (place m)
place_new place session f call s [] m all none here = rw (eq-eqb (session m) s here) refl
place_new place session f call s (x ∷ xs) m all none here =
    let other : eqb (session x) s ≡ false = ne_eqb _ _ (λ (e : session x ≡ s). absurd (let wrong : None ≡ Some (call x) = sym none ∙ ap f (sym e) ∙ all.0 in cc)) in
    rw other (place_new place session f call s xs m all.1 none here)

new_send : (c : Config) (h : History) (e : Event) (sid : Sid) (desc : Desc) (priority : ℕ) (bytes : List ℕ) (s : ℕ) (x : Held) → IsListed c h → None ≡ verdict c h e → plain e ≡ Do sid (MqSend desc priority bytes) → parked c h s ≡ None → sid.0 ≡ s → holds h sid.0 desc.0 ≡ Some x → is_full c h x.object ≡ true → place_listed Sending s (queue c (record { event = e; rule = None } ∷ h) x.object) (semaphore c (record { event = e; rule = None } ∷ h) x.object) ≡ Some (length h)
unfolding queue
new_send c h e sid desc priority bytes s x known legal form none same held full =
    let m : Send = record { place = length h; session = sid.0; desc = desc.0; priority = priority; bytes = bytes } in
    let q : Queue = queue c h x.object in
    let acts : act c x.object e h ≡ Sends (record { place = length h; session = sid.0; desc = desc.0; priority = priority; bytes = bytes }) = (let self : eqb x.object x.object ≡ true = eq-eqb _ _ refl in rw (form, held, self) refl) in
    let there = held_queue c h sid (MqSend desc priority bytes) desc x (rw form at (plain_accepted c h e legal)) refl held in
    let all : is_filled (maxmsg c h x.object) (contents c h x.object) ≡ true = sym (is_full-at c h x.object there) ∙ full in
    ap (λ a. place_of_session (λ (y : Send). y.place) (λ y. y.session) s (senders_after (maxmsg c h x.object) a q)) acts
    ∙ ap (λ b. place_of_session (λ (y : Send). y.place) (λ y. y.session) s (cond b (q.senders ++ m ∷ []) q.senders)) all
    ∙ place_new (λ (y : Send). y.place) (λ y. y.session) (parked c h) (λ y. record { object = x.object; place = y.place; kind = Sending }) s q.senders m (known.each_send x.object) none same

new_receive : (c : Config) (h : History) (e : Event) (sid : Sid) (desc : Desc) (length' : ℕ) (s : ℕ) (x : Held) → IsListed c h → None ≡ verdict c h e → plain e ≡ Do sid (MqReceive desc length') → parked c h s ≡ None → sid.0 ≡ s → holds h sid.0 desc.0 ≡ Some x → is_empty c h x.object ≡ true → place_listed Receiving s (queue c (record { event = e; rule = None } ∷ h) x.object) (semaphore c (record { event = e; rule = None } ∷ h) x.object) ≡ Some (length h)
unfolding queue
new_receive c h e sid desc length' s x known legal form none same held empty =
    let w : Waiter = record { place = length h; session = sid.0; desc = desc.0 } in
    let q : Queue = queue c h x.object in
    let acts : act c x.object e h ≡ Receives (record { place = length h; session = sid.0; desc = desc.0 }) = (let self : eqb x.object x.object ≡ true = eq-eqb _ _ refl in rw (form, held, self) refl) in
    let there = held_queue c h sid (MqReceive desc length') desc x (rw form at (plain_accepted c h e legal)) refl held in
    let nothing : has_none (contents c h x.object) ≡ true = sym (is_empty-at c h x.object there) ∙ empty in
    ap (λ a. place_of_session (λ (y : Waiter). y.place) (λ y. y.session) s (receivers_after a q)) acts
    ∙ ap (λ b. place_of_session (λ (y : Waiter). y.place) (λ y. y.session) s (cond b (q.receivers ++ w ∷ []) q.receivers)) nothing
    ∙ place_new (λ (y : Waiter). y.place) (λ y. y.session) (parked c h) (λ y. record { object = x.object; place = y.place; kind = Receiving }) s q.receivers w (known.each_receive x.object) none same

new_wait : (c : Config) (h : History) (e : Event) (sid : Sid) (desc : Desc) (s : ℕ) (x : Held) → IsListed c h → ((i : ℕ) → value c h i ≡ (semaphore c h i).running) → None ≡ verdict c h e → plain e ≡ Do sid (SemWait desc) → parked c h s ≡ None → sid.0 ≡ s → holds h sid.0 desc.0 ≡ Some x → is_zero c h x.object ≡ true → place_listed Waiting s (queue c (record { event = e; rule = None } ∷ h) x.object) (semaphore c (record { event = e; rule = None } ∷ h) x.object) ≡ Some (length h)
unfolding semaphore
new_wait c h e sid desc s x known counted legal form none same held at_zero =
    let w : Waiter = record { place = length h; session = sid.0; desc = desc.0 } in
    let u : Semaphore = semaphore c h x.object in
    let acts : semaphore_act c x.object e h ≡ Waits (record { place = length h; session = sid.0; desc = desc.0 }) = (let self : eqb x.object x.object ≡ true = eq-eqb _ _ refl in rw (form, held, self) refl) in
    let there = held_semaphore c h sid (SemWait desc) desc x (rw form at (plain_accepted c h e legal)) refl held in
    let nothing : eqb (semaphore c h x.object).running 0 ≡ true = sym (zero_at c h x.object (counted x.object) there) ∙ at_zero in
    ap (place_of_session (λ (y : Waiter). y.place) (λ y. y.session) s) (first_keeps (gives_value x.object e h) (semaphore_after (semaphore_act c x.object e h) u))
    ∙ ap (λ a. place_of_session (λ (y : Waiter). y.place) (λ y. y.session) s (waiters_after a u)) acts
    ∙ ap (λ b. place_of_session (λ (y : Waiter). y.place) (λ y. y.session) s (cond b (u.waiters ++ w ∷ []) u.waiters)) nothing
    ∙ place_new (λ (y : Waiter). y.place) (λ y. y.session) (parked c h) (λ y. record { object = x.object; place = y.place; kind = Waiting }) s u.waiters w (known.each_wait x.object) none same

-- the call that parks is listed
plain_listed_new : (c : Config) (h : History) (e : Event) (s : ℕ) (p : Parked) → IsListed c h → ((i : ℕ) → value c h i ≡ (semaphore c h i).running) → None ≡ verdict c h e → parked c h s ≡ None → (d : Event) → plain e ≡ d → plain_parks (seen c h) s d ≡ Some p → place_listed p.kind s (queue c (record { event = e; rule = None } ∷ h) p.object) (semaphore c (record { event = e; rule = None } ∷ h) p.object) ≡ Some p.place
plain_listed_new c h e s p known counted legal none (Do sid (MqSend desc priority bytes)) form k = mine (eqb sid.0 s) refl k where
  given : sid.0 ≡ s → (y : Option Held) → holds h sid.0 desc.0 ≡ y → option_and_then (parked_on (is_full c h) Sending (length h)) y ≡ Some p → place_listed p.kind s (queue c (record { event = e; rule = None } ∷ h) p.object) (semaphore c (record { event = e; rule = None } ∷ h) p.object) ≡ Some p.place
  given same None q j = absurd cc
  given same (Some x) q j = full (is_full c h x.object) refl j where
    full : (b : Bool) → is_full c h x.object ≡ b → cond b (Some (record { object = x.object; place = length h; kind = Sending })) None ≡ Some p → place_listed p.kind s (queue c (record { event = e; rule = None } ∷ h) p.object) (semaphore c (record { event = e; rule = None } ∷ h) p.object) ≡ Some p.place
    full true f i = let is : record { object = x.object; place = length h; kind = Sending } ≡ p = cc in subst (λ (z : Parked). place_listed z.kind s (queue c (record { event = e; rule = None } ∷ h) z.object) (semaphore c (record { event = e; rule = None } ∷ h) z.object) ≡ Some z.place) is (new_send c h e sid desc priority bytes s x known legal form none same q f)
    full false f i = absurd cc

  mine : (b : Bool) → eqb sid.0 s ≡ b → cond b (option_and_then (parked_on (is_full c h) Sending (length h)) (holds h sid.0 desc.0)) None ≡ Some p → place_listed p.kind s (queue c (record { event = e; rule = None } ∷ h) p.object) (semaphore c (record { event = e; rule = None } ∷ h) p.object) ≡ Some p.place
  mine true q j = given (eqb-true _ _ q) (holds h sid.0 desc.0) refl j
  mine false q j = absurd cc
plain_listed_new c h e s p known counted legal none (Do sid (MqReceive desc length')) form k = mine (eqb sid.0 s) refl k where
  given : sid.0 ≡ s → (y : Option Held) → holds h sid.0 desc.0 ≡ y → option_and_then (parked_on (is_empty c h) Receiving (length h)) y ≡ Some p → place_listed p.kind s (queue c (record { event = e; rule = None } ∷ h) p.object) (semaphore c (record { event = e; rule = None } ∷ h) p.object) ≡ Some p.place
  given same None q j = absurd cc
  given same (Some x) q j = empty (is_empty c h x.object) refl j where
    empty : (b : Bool) → is_empty c h x.object ≡ b → cond b (Some (record { object = x.object; place = length h; kind = Receiving })) None ≡ Some p → place_listed p.kind s (queue c (record { event = e; rule = None } ∷ h) p.object) (semaphore c (record { event = e; rule = None } ∷ h) p.object) ≡ Some p.place
    empty true f i = let is : record { object = x.object; place = length h; kind = Receiving } ≡ p = cc in subst (λ (z : Parked). place_listed z.kind s (queue c (record { event = e; rule = None } ∷ h) z.object) (semaphore c (record { event = e; rule = None } ∷ h) z.object) ≡ Some z.place) is (new_receive c h e sid desc length' s x known legal form none same q f)
    empty false f i = absurd cc

  mine : (b : Bool) → eqb sid.0 s ≡ b → cond b (option_and_then (parked_on (is_empty c h) Receiving (length h)) (holds h sid.0 desc.0)) None ≡ Some p → place_listed p.kind s (queue c (record { event = e; rule = None } ∷ h) p.object) (semaphore c (record { event = e; rule = None } ∷ h) p.object) ≡ Some p.place
  mine true q j = given (eqb-true _ _ q) (holds h sid.0 desc.0) refl j
  mine false q j = absurd cc
plain_listed_new c h e s p known counted legal none (Do sid (SemWait desc)) form k = mine (eqb sid.0 s) refl k where
  given : sid.0 ≡ s → (y : Option Held) → holds h sid.0 desc.0 ≡ y → option_and_then (parked_on (is_zero c h) Waiting (length h)) y ≡ Some p → place_listed p.kind s (queue c (record { event = e; rule = None } ∷ h) p.object) (semaphore c (record { event = e; rule = None } ∷ h) p.object) ≡ Some p.place
  given same None q j = absurd cc
  given same (Some x) q j = at_zero (is_zero c h x.object) refl j where
    at_zero : (b : Bool) → is_zero c h x.object ≡ b → cond b (Some (record { object = x.object; place = length h; kind = Waiting })) None ≡ Some p → place_listed p.kind s (queue c (record { event = e; rule = None } ∷ h) p.object) (semaphore c (record { event = e; rule = None } ∷ h) p.object) ≡ Some p.place
    at_zero true f i = let is : record { object = x.object; place = length h; kind = Waiting } ≡ p = cc in subst (λ (z : Parked). place_listed z.kind s (queue c (record { event = e; rule = None } ∷ h) z.object) (semaphore c (record { event = e; rule = None } ∷ h) z.object) ≡ Some z.place) is (new_wait c h e sid desc s x known counted legal form none same q f)
    at_zero false f i = absurd cc

  mine : (b : Bool) → eqb sid.0 s ≡ b → cond b (option_and_then (parked_on (is_zero c h) Waiting (length h)) (holds h sid.0 desc.0)) None ≡ Some p → place_listed p.kind s (queue c (record { event = e; rule = None } ∷ h) p.object) (semaphore c (record { event = e; rule = None } ∷ h) p.object) ≡ Some p.place
  mine true q j = given (eqb-true _ _ q) (holds h sid.0 desc.0) refl j
  mine false q j = absurd cc
plain_listed_new c h e s p known counted legal none (Do sid call) form k = absurd cc
plain_listed_new c h e s p known counted legal none (Hello found) form k = absurd cc
plain_listed_new c h e s p known counted legal none (Hangup sid) form k = absurd cc
plain_listed_new c h e s p known counted legal none (Tick moment) form k = absurd cc

listed_new : (c : Config) (h : History) (e : Event) (s : ℕ) (p : Parked) → IsListed c h → ((i : ℕ) → value c h i ≡ (semaphore c h i).running) → None ≡ verdict c h e → parked c h s ≡ None → parks c s e h ≡ Some p → place_listed p.kind s (queue c (record { event = e; rule = None } ∷ h) p.object) (semaphore c (record { event = e; rule = None } ∷ h) p.object) ≡ Some p.place
listed_new c h e s p known counted legal none k = plain_listed_new c h e s p known counted legal none (plain e) refl k

-- a session that is parked after an event parks by it, or was parked and is not ended
kept_parts : (f : Parked → Bool) (o : Option Parked) (p : Parked) → unless f o ≡ Some p → (o ≡ Some p) × (f p ≡ false)
kept_parts f None p e = absurd cc
kept_parts f (Some y) p e = at (f y) refl e where
  at : (b : Bool) → f y ≡ b → cond b None (Some y) ≡ Some p → (Some y ≡ Some p) × (f p ≡ false)
  at true q j = absurd cc
  at false q j = let same : y ≡ p = cc in (j, ap f (sym same) ∙ q)

pub parked_cases : (c : Config) (h : History) (e : Event) (s : ℕ) (p : Parked) → parked c (record { event = e; rule = None } ∷ h) s ≡ Some p → (parks c s e h ≡ Some p) ⊎ ((parked c h s ≡ Some p) × (ends_parked c s p e h ≡ false))
unfolding parked
parked_cases c h e s p k = at (parks c s e h) k where
  at : (o : Option Parked) → option_or o (unless (λ x. ends_parked c s x e h) (parked c h s)) ≡ Some p → (o ≡ Some p) ⊎ ((parked c h s ≡ Some p) × (ends_parked c s p e h ≡ false))
  at None j = inr (kept_parts (λ x. ends_parked c s x e h) (parked c h s) p j)
  at (Some x) j = inl j

listed_after : (c : Config) (h : History) (e : Event) (s : ℕ) (p : Parked) → IsListed c h → ((i : ℕ) → value c h i ≡ (semaphore c h i).running) → None ≡ verdict c h e → (parks c s e h ≡ Some p) ⊎ ((parked c h s ≡ Some p) × (ends_parked c s p e h ≡ false)) → place_listed p.kind s (queue c (record { event = e; rule = None } ∷ h) p.object) (semaphore c (record { event = e; rule = None } ∷ h) p.object) ≡ Some p.place
unfolding queue semaphore
listed_after c h e s p known counted legal (inl k) = listed_new c h e s p known counted legal (parks_when_free c h e s p legal k) k
listed_after c h e s p known counted legal (inr k) = listed_stays (maxmsg c h p.object) (act c p.object e h) (queue c h p.object) (semaphore_act c p.object e h) (semaphore c h p.object) (semaphore c (record { event = e; rule = None } ∷ h) p.object) (first_keeps (gives_value p.object e h) (semaphore_after (semaphore_act c p.object e h) (semaphore c h p.object))) s p.object p.place p.kind (withdraws_alike c p.object e h s) (known.each_parked s p k.0) k.1

listed_more : (c : Config) (h : History) → IsListed c h → ((i : ℕ) → value c h i ≡ (semaphore c h i).running) → (e : Event) (r : Option Rule) → r ≡ verdict c h e → IsListed c (record { event = e; rule = r } ∷ h)
unfolding queue semaphore
listed_more c h known counted e (Some rule) legal = record {
  each_send = λ o. each_map (λ (m : Send). parked c h m.session ≡ Some (record { object = o; place = m.place; kind = Sending })) (λ m. parked c (record { event = e; rule = Some rule } ∷ h) m.session ≡ Some (record { object = o; place = m.place; kind = Sending })) (senders c h o) (λ m p. refused_parked c h e rule m.session ∙ p) (known.each_send o);
  each_receive = λ o. each_map (λ (w : Waiter). parked c h w.session ≡ Some (record { object = o; place = w.place; kind = Receiving })) (λ w. parked c (record { event = e; rule = Some rule } ∷ h) w.session ≡ Some (record { object = o; place = w.place; kind = Receiving })) (receivers c h o) (λ w p. refused_parked c h e rule w.session ∙ p) (known.each_receive o);
  each_wait = λ o. each_map (λ (w : Waiter). parked c h w.session ≡ Some (record { object = o; place = w.place; kind = Waiting })) (λ w. parked c (record { event = e; rule = Some rule } ∷ h) w.session ≡ Some (record { object = o; place = w.place; kind = Waiting })) (waiters c h o) (λ w p. refused_parked c h e rule w.session ∙ p) (known.each_wait o);
  each_parked = λ s p k. known.each_parked s p (sym (refused_parked c h e rule s) ∙ k);
}
listed_more c h known counted e None legal = record {
  each_send = λ o. each_parked_sender (λ (m : Send). parked c h m.session ≡ Some (record { object = o; place = m.place; kind = Sending })) (λ m. parked c (record { event = e; rule = None } ∷ h) m.session ≡ Some (record { object = o; place = m.place; kind = Sending })) (maxmsg c h o) (act c o e h) (queue c h o) (length h) (parked_by_place c h o).sends_rise
      (λ m p keeps. stays_parked c h e m.session (record { object = o; place = m.place; kind = Sending }) p (parks_no_other c h e m.session legal (ap is_some p)) (or_neither _ _ (posts_no_send (semaphore_act c o e h) m.place (semaphore c h o)) (not_ended_send o m (act c o e h) (queue c h o) keeps)))
      (send_parks c h o e legal) (known.each_send o);
  each_receive = λ o. each_parked_receiver (λ (w : Waiter). parked c h w.session ≡ Some (record { object = o; place = w.place; kind = Receiving })) (λ w. parked c (record { event = e; rule = None } ∷ h) w.session ≡ Some (record { object = o; place = w.place; kind = Receiving })) (act c o e h) (queue c h o) (length h) (parked_by_place c h o).receives_rise
      (λ w p keeps. stays_parked c h e w.session (record { object = o; place = w.place; kind = Receiving }) p (parks_no_other c h e w.session legal (ap is_some p)) (or_neither _ _ (posts_no_receive (semaphore_act c o e h) w.place (semaphore c h o)) (not_ended_receive o w (act c o e h) (queue c h o) keeps)))
      (receive_parks c h o e legal) (known.each_receive o);
  each_wait = λ o. subst (Each (λ (w : Waiter). parked c (record { event = e; rule = None } ∷ h) w.session ≡ Some (record { object = o; place = w.place; kind = Waiting }))) (sym (first_keeps (gives_value o e h) (semaphore_after (semaphore_act c o e h) (semaphore c h o))))
      (each_parked_waiter (λ (w : Waiter). parked c h w.session ≡ Some (record { object = o; place = w.place; kind = Waiting })) (λ w. parked c (record { event = e; rule = None } ∷ h) w.session ≡ Some (record { object = o; place = w.place; kind = Waiting })) (semaphore_act c o e h) (semaphore c h o) (length h) (parked_by_place c h o).waits_rise
      (λ w p keeps. stays_parked c h e w.session (record { object = o; place = w.place; kind = Waiting }) p (parks_no_other c h e w.session legal (ap is_some p)) (not_ended_wait o w (semaphore_act c o e h) (semaphore c h o) (act c o e h) (queue c h o) (withdraws_alike c o e h w.session) keeps))
      (wait_parks c h o e counted legal) (known.each_wait o));
  each_parked = λ s p k. listed_after c h e s p known counted legal (parked_cases c h e s p k);
}

pub calls_listed : ParkedIsListed
unfolding queue semaphore parked
calls_listed c [] legal = record { each_send = λ o. tt; each_receive = λ o. tt; each_wait = λ o. tt; each_parked = λ s p k. absurd cc }
calls_listed c (r ∷ h) legal = listed_more c h (calls_listed c h legal.1) (λ i. value_counted c h i legal.1) r.event r.rule legal.0
