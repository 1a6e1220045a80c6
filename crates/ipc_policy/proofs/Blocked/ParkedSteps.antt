-- What each accepted event makes of the queues and of the sessions' parked calls, in a legal history.
use Rattle.std.proofs.Common.{◌≡◌, ℕ, ◌+◌, ◌<◌, Bool, true, false, ◌&&◌, ◌||◌, eqb, List, [], ◌∷◌, length, cond, Option, Some, None, refl, sym, ap, subst, ◌∙◌, arith}
use Rattle.std.specs.Prelude.{find, option_and_then}
use Rattle.std.specs.Option.{option_or, option_map}
use Rattle.std.proofs.lemmas.Bool.{eqb-true, eqb-false, eq-eqb, ne_eqb}
use Rattle.ipc_terms.specs.Lists.{first, Each}
use Rattle.ipc_terms.specs.declared.ids.Sid.{Sid}
use Rattle.ipc_terms.specs.declared.ids.Desc.{Desc}
use Rattle.ipc_terms.specs.declared.call.Call.TheVariants.{MqSend, MqReceive, SemPost, SemWait, SemTryWait, Interrupt, MqTimedSend, MqTimedReceive, SemTimedWait}
use Rattle.ipc_terms.specs.declared.record.Event.{Event}
use Rattle.ipc_terms.specs.declared.record.Event.TheVariants.{Hello, Do, Hangup, Tick}
use Rattle.ipc_policy.specs.declared.config.Config.{Config}
use Rattle.ipc_policy.specs.declared.config.Held.{Held}
use Rattle.ipc_policy.specs.Decides.History.{History, unless, is_some_and}
use Rattle.ipc_policy.specs.Decides.Descriptions.{holds}
use Rattle.ipc_policy.specs.Decides.Life.{gives_object}
use Rattle.ipc_policy.specs.Decides.Queues.{Send, Waiter, Act, Sends, Receives, Withdraws, NoAct, Queue, queue_after, maxmsg}
use Rattle.ipc_policy.specs.Decides.Bodies.{queue, senders, receivers, is_full, is_empty, semaphore}
use Rattle.ipc_policy.specs.Decides.Parking.{ParkedKind, Sending, Receiving, Waiting, Parked, stands_at, serves, is_longest, ends_call, parked, parked_on}
use Rattle.ipc_policy.specs.Follows.Readings.{Rising}
use Rattle.ipc_policy.specs.Decides.Verdict.{Legal}
use Rattle.ipc_policy.specs.Follows.Laws.{place_listed}
use Rattle.ipc_policy.proofs.Blocked.ParkedPlaces.{parked_by_place}
use Rattle.ipc_policy.proofs.Blocked.CallsListed.{calls_listed}

pub kept_same : {A : Type 0} (p : A → Bool) (w : Option A) → ((x : A) → w ≡ Some x → p x ≡ false) → unless p w ≡ w
kept_same p None h = refl
kept_same p (Some x) h = rw (h x refl) refl

pub kept_if : {A : Type 0} (p : A → Bool) (w : Option A) (b : Bool) → ((x : A) → w ≡ Some x → p x ≡ b) → unless p w ≡ cond b None w
kept_if p None true h = refl
kept_if p None false h = refl
kept_if p (Some x) b h = ap (λ d. cond d None (Some x)) (h x refl)

-- what rests ends nothing
pub rests_end : (s : ℕ) (p : Parked) (q : Queue) → ends_call s p NoAct q ≡ false
rests_end s p q = at p.kind where
  at : (kind : ParkedKind) → ends_call s (record { object = p.object; place = p.place; kind = kind }) NoAct q ≡ false
  at Sending = refl
  at Receiving = refl
  at Waiting = refl

-- a withdrawal ends the calls of its session
pub withdrawal_ends : (s t : ℕ) (p : Parked) (q : Queue) → ends_call s p (Withdraws t) q ≡ eqb s t
withdrawal_ends s t p q = at p.kind (eqb s t) where
  at : (kind : ParkedKind) (b : Bool) → (b || (serves kind (Withdraws t) && is_longest kind p.place q)) ≡ b
  at Sending true = refl
  at Sending false = refl
  at Receiving true = refl
  at Receiving false = refl
  at Waiting true = refl
  at Waiting false = refl

-- the longest parked of a list is found by its session exactly where it is found by its place
longest_is : {A : Type 0} (place session : A → ℕ) (f : ℕ → Option Parked) (call : A → Parked) → ((y : A) → (call y).place ≡ place y) → (s : ℕ) (p : Parked) → f s ≡ Some p → (xs : List A) (hi : ℕ) → Rising place 0 xs hi → Each (λ y. f (session y) ≡ Some (call y)) xs → option_map place (find (λ y. eqb (session y) s) xs) ≡ Some p.place → stands_at place p.place (first xs) ≡ is_some_and (λ y. eqb (session y) s) (first xs)
longest_is place session f call placed s p here [] hi r all listed = refl
longest_is {A = A} place session f call placed s p here (x ∷ xs) hi r all listed = at (eqb (session x) s) refl listed where
  below : (lo : ℕ) (ys : List A) → place x < lo → Rising place lo ys hi → option_map place (find (λ y. eqb (session y) s) ys) ≡ Some p.place → place x < p.place
  below lo [] lt rise e = absurd cc
  below lo (y ∷ ys) lt rise e = found (eqb (session y) s) e (below (place y + 1) ys (let least = rise.0 in omega arith) rise.1) where
    found : (b : Bool) → option_map place (cond b (Some y) (find (λ z. eqb (session z) s) ys)) ≡ Some p.place → (option_map place (find (λ z. eqb (session z) s) ys) ≡ Some p.place → place x < p.place) → place x < p.place
    found true k rest = let same : place y ≡ p.place = cc in let least = rise.0 in omega arith
    found false k rest = rest k

  at : (b : Bool) → eqb (session x) s ≡ b → option_map place (cond b (Some x) (find (λ y. eqb (session y) s) xs)) ≡ Some p.place → eqb (place x) p.place ≡ eqb (session x) s
  at true e k = let same : place x ≡ p.place = cc in eq-eqb _ _ same ∙ sym e
  at false e k = ne_eqb _ _ (λ (q : place x ≡ p.place). let less = below (place x + 1) xs (omega arith) r.1 k in absurd (omega arith)) ∙ sym e

-- the longest parked receive on an object is not of a session that is parked elsewhere or otherwise
not_first : {A : Type 0} (session : A → ℕ) (f : ℕ → Option Parked) (call : A → Parked) (s : ℕ) (p : Parked) → f s ≡ Some p → (xs : List A) → Each (λ y. f (session y) ≡ Some (call y)) xs → ((y : A) → call y ≡ p → ⊥) → is_some_and (λ y. eqb (session y) s) (first xs) ≡ false
not_first session f call s p here [] all other = refl
not_first session f call s p here (x ∷ xs) all other = ne_eqb _ _ (λ (e : session x ≡ s).
    let both : Some (call x) ≡ Some p = sym all.0 ∙ ap f e ∙ here in
    let same : call x ≡ p = cc in
    other x same)

-- what serves one kind of call on object o ends the longest parked of the kind, and no other: whether it ends the call of
-- session s is asked by whether o is that call's object, and by the call's kind
pub longest_ends : {A : Type 0} (place session : A → ℕ) (kind : ParkedKind) (list : ℕ → List A) (f : ℕ → Option Parked) (hi o s : ℕ) (p : Parked) (ends : Bool → ParkedKind → Bool) → f s ≡ Some p
    → ((i : ℕ) → Rising place 0 (list i) hi)
    → ((i : ℕ) → Each (λ y. f (session y) ≡ Some (record { object = i; place = place y; kind = kind })) (list i))
    → (p.kind ≡ kind → option_map place (find (λ y. eqb (session y) s) (list p.object)) ≡ Some p.place)
    → ((k : ParkedKind) → ends false k ≡ false)
    → ends true kind ≡ stands_at place p.place (first (list p.object))
    → ((k : ParkedKind) (P : ParkedKind → Type 0) → P kind → ((j : ParkedKind) → (kind ≡ j → ⊥) → ends true j ≡ false → P j) → P k)
    → ends (eqb o p.object) p.kind ≡ is_some_and (λ y. eqb (session y) s) (first (list o))
longest_ends {A = A} place session kind list f hi o s p ends k rise listed found rests serves' by_kind = at (eqb o p.object) refl where
  away : ((y : A) → record { object = o; place = place y; kind = kind } ≡ p → ⊥) → is_some_and (λ y. eqb (session y) s) (first (list o)) ≡ false
  away other = not_first session f (λ y. record { object = o; place = place y; kind = kind }) s p k (list o) (listed o) other

  here : o ≡ p.object → p.kind ≡ kind → ends true kind ≡ is_some_and (λ y. eqb (session y) s) (first (list o))
  here on e =
      serves'
      ∙ subst (λ (n : ℕ). stands_at place p.place (first (list p.object)) ≡ is_some_and (λ y. eqb (session y) s) (first (list n))) (sym on)
      (longest_is place session f (λ y. record { object = p.object; place = place y; kind = kind }) (λ y. refl) s p k (list p.object) hi (rise p.object) (listed p.object) (found e))

  elsewhere : (j : ParkedKind) → (kind ≡ j → ⊥) → ends true j ≡ false → p.kind ≡ j → ends true j ≡ is_some_and (λ y. eqb (session y) s) (first (list o))
  elsewhere j other none e = none ∙ sym (away (λ y q. other (ap (λ (z : Parked). z.kind) q ∙ e)))

  at : (b : Bool) → eqb o p.object ≡ b → ends b p.kind ≡ is_some_and (λ y. eqb (session y) s) (first (list o))
  at true e = by_kind p.kind (λ (j : ParkedKind). p.kind ≡ j → ends true j ≡ is_some_and (λ y. eqb (session y) s) (first (list o))) (here (eqb-true _ _ e)) elsewhere refl
  at false e = rests p.kind ∙ sym (away (λ y q. eqb-false _ _ e (ap (λ (z : Parked). z.object) q)))

-- the session of a parked call is found in the list of its kind
pub listed_as : (c : Config) (h : History) (s : ℕ) (p : Parked) (kind : ParkedKind) → Legal c h → parked c h s ≡ Some p → p.kind ≡ kind → place_listed kind s (queue c h p.object) (semaphore c h p.object) ≡ Some p.place
listed_as c h s p kind legal k e = subst (λ (z : ParkedKind). place_listed z s (queue c h p.object) (semaphore c h p.object) ≡ Some p.place) e ((calls_listed c h legal).each_parked s p k)

-- a send ends the call of the session whose receive is the longest parked, and no other
send_ends : (c : Config) (h : History) (o s : ℕ) (m : Send) (p : Parked) → Legal c h → parked c h s ≡ Some p → ends_call s p (cond (eqb o p.object) (Sends m) NoAct) (queue c h p.object) ≡ is_some_and (λ w. eqb w.session s) (first (receivers c h o))
send_ends c h o s m p legal k =
    longest_ends (λ (w : Waiter). w.place) (λ w. w.session) Receiving (receivers c h) (parked c h) (length h) o s p ends k
    (λ i. (parked_by_place c h i).receives_rise) (calls_listed c h legal).each_receive (listed_as c h s p Receiving legal k)
    (λ kind. rests_end s (record { object = p.object; place = p.place; kind = kind }) (queue c h p.object)) refl by_kind where
      ends : Bool → ParkedKind → Bool
      ends b kind = ends_call s (record { object = p.object; place = p.place; kind = kind }) (cond b (Sends m) NoAct) (queue c h p.object)

      by_kind : (kind : ParkedKind) (P : ParkedKind → Type 0) → P Receiving → ((j : ParkedKind) → (Receiving ≡ j → ⊥) → ends true j ≡ false → P j) → P kind
      by_kind Sending P here other = other Sending (λ e. cc) refl
      by_kind Receiving P here other = here
      by_kind Waiting P here other = other Waiting (λ e. cc) refl

-- a receive ends the call of the session whose send is the longest parked, and no other
receive_ends : (c : Config) (h : History) (o s : ℕ) (w : Waiter) (p : Parked) → Legal c h → parked c h s ≡ Some p → ends_call s p (cond (eqb o p.object) (Receives w) NoAct) (queue c h p.object) ≡ is_some_and (λ m. eqb m.session s) (first (senders c h o))
receive_ends c h o s w p legal k =
    longest_ends (λ (m : Send). m.place) (λ m. m.session) Sending (senders c h) (parked c h) (length h) o s p ends k
    (λ i. (parked_by_place c h i).sends_rise) (calls_listed c h legal).each_send (listed_as c h s p Sending legal k)
    (λ kind. rests_end s (record { object = p.object; place = p.place; kind = kind }) (queue c h p.object)) refl by_kind where
      ends : Bool → ParkedKind → Bool
      ends b kind = ends_call s (record { object = p.object; place = p.place; kind = kind }) (cond b (Receives w) NoAct) (queue c h p.object)

      by_kind : (kind : ParkedKind) (P : ParkedKind → Type 0) → P Sending → ((j : ParkedKind) → (Sending ≡ j → ⊥) → ends true j ≡ false → P j) → P kind
      by_kind Sending P here other = here
      by_kind Receiving P here other = other Receiving (λ e. cc) refl
      by_kind Waiting P here other = other Waiting (λ e. cc) refl

pub or_here : (b f : Bool) (p : Parked) (w : Option Parked) → option_or (cond b (cond f (Some p) None) None) w ≡ cond (b && f) (Some p) w
or_here true true p w = refl
or_here true false p w = refl
or_here false f p w = refl

-- a send parks its session if the queue is full, and ends the longest parked receive
pub parked_by_send : (c : Config) (h : History) (sid : Sid) (desc : Desc) (priority : ℕ) (bytes : List ℕ) (x : Held) (s : ℕ) → Legal c h → holds h sid.0 desc.0 ≡ Some x → parked c (record { event = Do sid (MqSend desc priority bytes); rule = None } ∷ h) s ≡ cond (eqb sid.0 s && is_full c h x.object) (Some (record { object = x.object; place = length h; kind = Sending })) (cond (is_some_and (λ w. eqb w.session s) (first (receivers c h x.object))) None (parked c h s))
unfolding parked
parked_by_send c h sid desc priority bytes x s legal k =
    ap (λ y. option_or (cond (eqb sid.0 s) (option_and_then (parked_on (is_full c h) Sending (length h)) y) None) (unless (λ p. ends_call s p (cond (gives_object p.object y) (Sends (record { place = length h; session = sid.0; desc = desc.0; priority = priority; bytes = bytes })) NoAct) (queue c h p.object)) (parked c h s))) k
    ∙ ap (option_or (cond (eqb sid.0 s) (cond (is_full c h x.object) (Some (record { object = x.object; place = length h; kind = Sending })) None) None))
    (kept_if (λ p. ends_call s p (cond (eqb x.object p.object) (Sends (record { place = length h; session = sid.0; desc = desc.0; priority = priority; bytes = bytes })) NoAct) (queue c h p.object)) (parked c h s) (is_some_and (λ w. eqb w.session s) (first (receivers c h x.object)))
    (λ p is. send_ends c h x.object s (record { place = length h; session = sid.0; desc = desc.0; priority = priority; bytes = bytes }) p legal is))
    ∙ or_here (eqb sid.0 s) (is_full c h x.object) (record { object = x.object; place = length h; kind = Sending }) (cond (is_some_and (λ w. eqb w.session s) (first (receivers c h x.object))) None (parked c h s))

-- a receive parks its session if the queue is empty, and ends the longest parked send
pub parked_by_receive : (c : Config) (h : History) (sid : Sid) (desc : Desc) (length' : ℕ) (x : Held) (s : ℕ) → Legal c h → holds h sid.0 desc.0 ≡ Some x → parked c (record { event = Do sid (MqReceive desc length'); rule = None } ∷ h) s ≡ cond (eqb sid.0 s && is_empty c h x.object) (Some (record { object = x.object; place = length h; kind = Receiving })) (cond (is_some_and (λ m. eqb m.session s) (first (senders c h x.object))) None (parked c h s))
unfolding parked
parked_by_receive c h sid desc length' x s legal k =
    ap (λ y. option_or (cond (eqb sid.0 s) (option_and_then (parked_on (is_empty c h) Receiving (length h)) y) None) (unless (λ p. ends_call s p (cond (gives_object p.object y) (Receives (record { place = length h; session = sid.0; desc = desc.0 })) NoAct) (queue c h p.object)) (parked c h s))) k
    ∙ ap (option_or (cond (eqb sid.0 s) (cond (is_empty c h x.object) (Some (record { object = x.object; place = length h; kind = Receiving })) None) None))
    (kept_if (λ p. ends_call s p (cond (eqb x.object p.object) (Receives (record { place = length h; session = sid.0; desc = desc.0 })) NoAct) (queue c h p.object)) (parked c h s) (is_some_and (λ m. eqb m.session s) (first (senders c h x.object)))
    (λ p is. receive_ends c h x.object s (record { place = length h; session = sid.0; desc = desc.0 }) p legal is))
    ∙ or_here (eqb sid.0 s) (is_empty c h x.object) (record { object = x.object; place = length h; kind = Receiving }) (cond (is_some_and (λ m. eqb m.session s) (first (senders c h x.object))) None (parked c h s))

-- an interrupt and a hang-up end the call of their session alone
pub parked_by_interrupt : (c : Config) (h : History) (sid : Sid) (s : ℕ) → parked c (record { event = Do sid Interrupt; rule = None } ∷ h) s ≡ cond (eqb s sid.0) None (parked c h s)
unfolding parked
parked_by_interrupt c h sid s = kept_if (λ p. ends_call s p (Withdraws sid.0) (queue c h p.object)) (parked c h s) (eqb s sid.0) (λ p is. withdrawal_ends s sid.0 p (queue c h p.object))

pub parked_by_hangup : (c : Config) (h : History) (sid : Sid) (s : ℕ) → parked c (record { event = Hangup sid; rule = None } ∷ h) s ≡ cond (eqb s sid.0) None (parked c h s)
unfolding parked
parked_by_hangup c h sid s = kept_if (λ p. ends_call s p (Withdraws sid.0) (queue c h p.object)) (parked c h s) (eqb s sid.0) (λ p is. withdrawal_ends s sid.0 p (queue c h p.object))

-- whether an event can change a queue, a semaphore that is made, or a parked call
abbrev pub moves : Event → Bool
moves (Do sid (MqSend desc priority bytes)) = true
moves (Do sid (MqReceive desc length')) = true
moves (Do sid (SemPost desc)) = true
moves (Do sid (SemWait desc)) = true
moves (Do sid (SemTryWait desc)) = true
moves (Do sid Interrupt) = true
moves (Do sid (MqTimedSend desc priority until bytes)) = true
moves (Do sid (MqTimedReceive desc size until)) = true
moves (Do sid (SemTimedWait desc until)) = true
moves (Hangup sid) = true
moves (Tick moment) = true
moves _ = false

-- the others change none
pub parked_by_others : (c : Config) (h : History) (e : Event) (s : ℕ) → moves e ≡ false → parked c (record { event = e; rule = None } ∷ h) s ≡ parked c h s
unfolding parked
parked_by_others c h (Do sid (MqSend desc priority bytes)) s still = absurd cc
parked_by_others c h (Do sid (MqReceive desc length')) s still = absurd cc
parked_by_others c h (Do sid (SemPost desc)) s still = absurd cc
parked_by_others c h (Do sid (SemWait desc)) s still = absurd cc
parked_by_others c h (Do sid (SemTryWait desc)) s still = absurd cc
parked_by_others c h (Do sid Interrupt) s still = absurd cc
parked_by_others c h (Do sid (MqTimedSend desc priority until bytes)) s still = absurd cc
parked_by_others c h (Do sid (MqTimedReceive desc size until)) s still = absurd cc
parked_by_others c h (Do sid (SemTimedWait desc until)) s still = absurd cc
parked_by_others c h (Hangup sid) s still = absurd cc
parked_by_others c h (Tick moment) s still = absurd cc
parked_by_others c h (Do sid call) s still = kept_same (λ p. ends_call s p NoAct (queue c h p.object)) (parked c h s) (λ p is. rests_end s p (queue c h p.object))
parked_by_others c h (Hello found) s still = kept_same (λ p. ends_call s p NoAct (queue c h p.object)) (parked c h s) (λ p is. rests_end s p (queue c h p.object))

pub queue_by_others : (c : Config) (h : History) (e : Event) (o : ℕ) → moves e ≡ false → queue c (record { event = e; rule = None } ∷ h) o ≡ queue c h o
unfolding queue
queue_by_others c h (Do sid (MqSend desc priority bytes)) o still = absurd cc
queue_by_others c h (Do sid (MqReceive desc length')) o still = absurd cc
queue_by_others c h (Do sid (SemPost desc)) o still = absurd cc
queue_by_others c h (Do sid (SemWait desc)) o still = absurd cc
queue_by_others c h (Do sid (SemTryWait desc)) o still = absurd cc
queue_by_others c h (Do sid Interrupt) o still = absurd cc
queue_by_others c h (Do sid (MqTimedSend desc priority until bytes)) o still = absurd cc
queue_by_others c h (Do sid (MqTimedReceive desc size until)) o still = absurd cc
queue_by_others c h (Do sid (SemTimedWait desc until)) o still = absurd cc
queue_by_others c h (Hangup sid) o still = absurd cc
queue_by_others c h (Tick moment) o still = absurd cc
queue_by_others c h (Do sid call) o still = refl
queue_by_others c h (Hello found) o still = refl

acted : (n : ℕ) (a : Act) (q : Queue) (b : Bool) → queue_after n (cond b a NoAct) q ≡ cond b (queue_after n a q) q
acted n a q true = refl
acted n a q false = refl

-- a send and a receive change the queue that their description gives, and no other
pub queue_by_send : (c : Config) (h : History) (sid : Sid) (desc : Desc) (priority : ℕ) (bytes : List ℕ) (x : Held) (o : ℕ) → holds h sid.0 desc.0 ≡ Some x → queue c (record { event = Do sid (MqSend desc priority bytes); rule = None } ∷ h) o ≡ cond (eqb x.object o) (queue_after (maxmsg c h o) (Sends (record { place = length h; session = sid.0; desc = desc.0; priority = priority; bytes = bytes })) (queue c h o)) (queue c h o)
unfolding queue
queue_by_send c h sid desc priority bytes x o k =
    ap (λ y. queue_after (maxmsg c h o) (cond (gives_object o y) (Sends (record { place = length h; session = sid.0; desc = desc.0; priority = priority; bytes = bytes })) NoAct) (queue c h o)) k
    ∙ acted (maxmsg c h o) (Sends (record { place = length h; session = sid.0; desc = desc.0; priority = priority; bytes = bytes })) (queue c h o) (eqb x.object o)

pub queue_by_receive : (c : Config) (h : History) (sid : Sid) (desc : Desc) (length' : ℕ) (x : Held) (o : ℕ) → holds h sid.0 desc.0 ≡ Some x → queue c (record { event = Do sid (MqReceive desc length'); rule = None } ∷ h) o ≡ cond (eqb x.object o) (queue_after (maxmsg c h o) (Receives (record { place = length h; session = sid.0; desc = desc.0 })) (queue c h o)) (queue c h o)
unfolding queue
queue_by_receive c h sid desc length' x o k =
    ap (λ y. queue_after (maxmsg c h o) (cond (gives_object o y) (Receives (record { place = length h; session = sid.0; desc = desc.0 })) NoAct) (queue c h o)) k
    ∙ acted (maxmsg c h o) (Receives (record { place = length h; session = sid.0; desc = desc.0 })) (queue c h o) (eqb x.object o)

-- an interrupt and a hang-up withdraw the calls of their session
pub queue_by_interrupt : (c : Config) (h : History) (sid : Sid) (o : ℕ) → queue c (record { event = Do sid Interrupt; rule = None } ∷ h) o ≡ queue_after (maxmsg c h o) (Withdraws sid.0) (queue c h o)
unfolding queue
queue_by_interrupt c h sid o = refl

pub queue_by_hangup : (c : Config) (h : History) (sid : Sid) (o : ℕ) → queue c (record { event = Hangup sid; rule = None } ∷ h) o ≡ queue_after (maxmsg c h o) (Withdraws sid.0) (queue c h o)
unfolding queue
queue_by_hangup c h sid o = refl
