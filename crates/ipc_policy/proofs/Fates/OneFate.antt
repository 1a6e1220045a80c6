-- In a legal history exactly one became of each send that was accepted.
use Rattle.std.proofs.Common.{◌≡◌, ℕ, zero, suc, ◌+◌, ◌≤◌, Bool, true, false, not, ◌&&◌, ◌||◌, eqb, nat_lt, List, [], ◌∷◌, length, cond, Option, Some, None, is_some, is_none, refl, sym, ap, subst, ◌∙◌, arith}
use Rattle.std.specs.Prelude.{filter}
use Rattle.std.specs.Option.{option_or}
use Rattle.std.specs.List.{list_any}
use Rattle.std.proofs.lemmas.Bool.{eqb-true, eq-eqb, lt-ltb}
use Rattle.ipc_terms.specs.Timed.{plain}
use Rattle.ipc_terms.specs.declared.rule.Rule.{Rule}
use Rattle.ipc_terms.specs.declared.ids.Family.TheVariants.{Mq}
use Rattle.ipc_terms.specs.declared.call.Call.TheVariants.{MqSend}
use Rattle.ipc_terms.specs.declared.record.Record.{Record}
use Rattle.ipc_terms.specs.declared.record.Event.{Event}
use Rattle.ipc_terms.specs.declared.record.Event.TheVariants.{Do}
use Rattle.ipc_policy.specs.declared.config.Config.{Config}
use Rattle.ipc_policy.specs.declared.config.Held.{Held}
use Rattle.ipc_policy.specs.Decides.History.{History, newest, how_many, record_at, before_at}
use Rattle.ipc_policy.specs.Decides.Descriptions.{holds}
use Rattle.ipc_policy.specs.Decides.Life.{alive, gives_object}
use Rattle.ipc_policy.specs.Decides.Queues.{Send, Waiter, Act, Sends, Receives, Withdraws, NoAct, plain_act, Queue}
use Rattle.ipc_policy.specs.Decides.Bodies.{due, act, queue, contents, senders}
use Rattle.ipc_policy.specs.Decides.Rules.{not_held}
use Rattle.ipc_policy.specs.Decides.Verdict.{Legal, verdict}
use Rattle.ipc_policy.specs.Follows.Deliveries.{Delivery, delivery, receive_of, receive_that_took, deliveries}
use Rattle.ipc_policy.specs.Follows.Confined.{IsSend, IsSendTo, IsReceiveFrom}
use Rattle.ipc_policy.specs.Follows.Fates.{has_send, withdraws_send, is_withdrawn, Fate, StaysParked, IsWithdrawn, StaysInQueue, IsTaken, IsLeft, became, IsReceiveOf, HasOneFate, EachSendHasOneFate}
use Rattle.ipc_policy.proofs.Histories.Moments.{before_stays, legal_at}
use Rattle.ipc_policy.proofs.Histories.Unforbidden.{call_free}
use Rattle.ipc_policy.proofs.Histories.PlainForms.{plain_accepted}
use Rattle.ipc_policy.proofs.Lists.Counting.{count_at, is_send_at, withdraws_at}
use Rattle.ipc_policy.proofs.Queues.Keeping.{sent, taken, withdrawn, sent_le, kept}
use Rattle.ipc_policy.proofs.Fates.Tracing.{made_below, made_on, sent_on}
use Rattle.ipc_policy.proofs.Fates.Delivering.{delivery_confined, delivered_once, deliveries_taken, only_to}

some : (n : ℕ) → nat_lt 0 (n + 1) ≡ true
some n = lt-ltb 0 (n + 1) (omega arith)

-- a list has the send of a place if it has one or more of it
has_counted : (i : ℕ) (xs : List Send) → has_send i xs ≡ nat_lt 0 (count_at i xs)
has_counted i [] = refl
has_counted i (x ∷ xs) = at (eqb x.place i) (has_counted i xs) where
  at : (b : Bool) → has_send i xs ≡ nat_lt 0 (count_at i xs) → (b || has_send i xs) ≡ nat_lt 0 (cond b (count_at i xs + 1) (count_at i xs))
  at true e = sym (some (count_at i xs))
  at false e = e

withdraws_counted : (i s : ℕ) (xs : List Send) → list_any (λ m. eqb m.place i && eqb m.session s) xs ≡ nat_lt 0 (count_at i (filter (λ m. eqb m.session s) xs))
withdraws_counted i s [] = refl
withdraws_counted i s (x ∷ xs) = at (eqb x.place i) refl (eqb x.session s) (withdraws_counted i s xs) where
  at : (d : Bool) → eqb x.place i ≡ d → (b : Bool) → list_any (λ m. eqb m.place i && eqb m.session s) xs ≡ nat_lt 0 (count_at i (filter (λ m. eqb m.session s) xs)) → ((d && b) || list_any (λ m. eqb m.place i && eqb m.session s) xs) ≡ nat_lt 0 (count_at i (cond b (x ∷ filter (λ m. eqb m.session s) xs) (filter (λ m. eqb m.session s) xs)))
  at true k true e = rw k (sym (some (count_at i (filter (λ m. eqb m.session s) xs))))
  at false k true e = rw k e
  at true k false e = e
  at false k false e = e

withdraws_alike : (i : ℕ) (a : Act) (q : Queue) → withdraws_send i a q ≡ withdraws_at i a q
withdraws_alike i (Withdraws s) q = withdraws_counted i s q.senders
withdraws_alike i (Sends m) q = refl
withdraws_alike i (Receives w) q = refl
withdraws_alike i NoAct q = refl

how_many_alike : (f g : Event → History → Bool) (h : History) → ((e : Event) (before : History) → f e before ≡ g e before) → how_many f h ≡ how_many g h
how_many_alike f g [] same = refl
how_many_alike f g (r ∷ h) same = ap (λ b. cond (is_none r.rule && b) (how_many f h + 1) (how_many f h)) (same r.event h) ∙ ap (λ n. cond (is_none r.rule && g r.event h) (n + 1) n) (how_many_alike f g h same)

withdrawn_counted : (c : Config) (h : History) (o i : ℕ) → is_withdrawn c h o i ≡ nat_lt 0 (withdrawn c h o i)
unfolding withdrawn
withdrawn_counted c h o i = ap (nat_lt 0) (how_many_alike (λ e before. withdraws_send i (act c o e before) (queue c before o)) (λ e before. withdraws_at i (act c o e before) (queue c before o)) h (λ e before. withdraws_alike i (act c o e before) (queue c before o)))

-- something was said if one event or more said something
newest_counted : {A : Type 0} (says : Event → History → Option A) (h : History) → is_some (newest says h) ≡ nat_lt 0 (how_many (λ e before. is_some (says e before)) h)
newest_counted says [] = refl
newest_counted {A = A} says (r ∷ h) = at (is_none r.rule) (says r.event h) (newest_counted says h) where
  at : (b : Bool) (w : Option A) → is_some (newest says h) ≡ nat_lt 0 (how_many (λ e before. is_some (says e before)) h) → is_some (option_or (cond b w None) (newest says h)) ≡ nat_lt 0 (cond (b && is_some w) (how_many (λ e before. is_some (says e before)) h + 1) (how_many (λ e before. is_some (says e before)) h))
  at true None e = e
  at true (Some x) e = sym (some (how_many (λ e before. is_some (says e before)) h))
  at false w e = e

-- the event of a send, without its deadline
abbrev of_send : Send → Event
of_send m = Do (record { 0 = m.session }) (MqSend (record { 0 = m.desc }) m.priority m.bytes)

-- a send that was accepted, by a description of the object, was sent to it
more : (b : Bool) (n : ℕ) → 1 ≤ n → 1 ≤ cond b (n + 1) n
more true n le = omega arith
more false n le = le

sends_here : (c : Config) (h : History) (o : ℕ) (m : Send) (e : Event) → plain e ≡ of_send m → eqb (length h) m.place ≡ true → gives_object o (holds h m.session m.desc) ≡ true → is_send_at m.place (act c o e h) ≡ true
sends_here c h o m e form here gives = ap (λ (d : Event). is_send_at m.place (plain_act (length h) (holds h) (due c h) o d)) form ∙ rw (gives, here) refl

sent_there : (c : Config) (h : History) (o : ℕ) (m : Send) (e : Event) → record_at m.place h ≡ Some (record { event = e; rule = None }) → plain e ≡ of_send m → gives_object o (holds (before_at m.place h) m.session m.desc) ≡ true → 1 ≤ sent c h o m.place
unfolding sent
sent_there c [] o m e k form given = absurd cc
sent_there c (r ∷ h) o m e k form given = at (eqb (length h) m.place) refl k given (λ j gives. sent_there c h o m e j form gives) where
  counted : r ≡ record { event = e; rule = None } → eqb (length h) m.place ≡ true → gives_object o (holds h m.session m.desc) ≡ true → 1 ≤ cond (is_none r.rule && is_send_at m.place (act c o r.event h)) (how_many (λ e before. is_send_at m.place (act c o e before)) h + 1) (how_many (λ e before. is_send_at m.place (act c o e before)) h)
  counted same here gives = subst (λ (q : Record). 1 ≤ cond (is_none q.rule && is_send_at m.place (act c o q.event h)) (how_many (λ e before. is_send_at m.place (act c o e before)) h + 1) (how_many (λ e before. is_send_at m.place (act c o e before)) h)) (sym same) (rw (sends_here c h o m e form here gives) (omega arith))

  at : (b : Bool) → eqb (length h) m.place ≡ b → cond b (Some r) (record_at m.place h) ≡ Some (record { event = e; rule = None }) → gives_object o (holds (cond b h (before_at m.place h)) m.session m.desc) ≡ true → (record_at m.place h ≡ Some (record { event = e; rule = None }) → gives_object o (holds (before_at m.place h) m.session m.desc) ≡ true → 1 ≤ how_many (λ e before. is_send_at m.place (act c o e before)) h) → 1 ≤ cond (is_none r.rule && is_send_at m.place (act c o r.event h)) (how_many (λ e before. is_send_at m.place (act c o e before)) h + 1) (how_many (λ e before. is_send_at m.place (act c o e before)) h)
  at true here j gives rest = counted (let same : r ≡ record { event = e; rule = None } = cc in same) here gives
  at false here j gives rest = more (is_none r.rule && is_send_at m.place (act c o r.event h)) _ (rest j gives)

-- its session holds the description then
held_then : (c : Config) (h : History) (m : Send) (e : Event) → plain e ≡ of_send m → None ≡ verdict c h e → is_some (holds h m.session m.desc) ≡ true
held_then c h m e form legal = at (holds h m.session m.desc) refl where
  accepted : None ≡ verdict c h (of_send m)
  accepted = rw form at (plain_accepted c h e legal)

  known : not_held c h m.session Mq m.desc ≡ false
  known = (call_free c h (record { 0 = m.session }) (MqSend (record { 0 = m.desc }) m.priority m.bytes) Mq (record { 0 = m.desc }) refl refl (sym accepted)).held

  at : (w : Option Held) → holds h m.session m.desc ≡ w → is_some w ≡ true
  at None k = absurd (let wrong : true ≡ false = rw k at known in cc)
  at (Some x) k = refl

-- exactly one of the fates holds
record OneHolds (holds_of : Fate → Bool) : Type 0 where
  fate : Fate
  has_it : holds_of fate ≡ true
  no_other : (other : Fate) → holds_of other ≡ true → other ≡ fate

-- the fates by how many sends of the place are parked, were withdrawn, stand in the queue and were taken
abbrev by_counts : ℕ → ℕ → ℕ → ℕ → Bool → Fate → Bool
by_counts s w n d b StaysParked = nat_lt 0 s
by_counts s w n d b IsWithdrawn = nat_lt 0 w
by_counts s w n d b StaysInQueue = nat_lt 0 n && b
by_counts s w n d b IsTaken = nat_lt 0 d
by_counts s w n d b IsLeft = nat_lt 0 n && not b

parked_alone : (b : Bool) (fate : Fate) → by_counts 1 0 0 0 b fate ≡ true → fate ≡ StaysParked
parked_alone b StaysParked k = refl
parked_alone b IsWithdrawn k = absurd cc
parked_alone b StaysInQueue k = absurd cc
parked_alone b IsTaken k = absurd cc
parked_alone b IsLeft k = absurd cc

withdrawn_alone : (b : Bool) (fate : Fate) → by_counts 0 1 0 0 b fate ≡ true → fate ≡ IsWithdrawn
withdrawn_alone b StaysParked k = absurd cc
withdrawn_alone b IsWithdrawn k = refl
withdrawn_alone b StaysInQueue k = absurd cc
withdrawn_alone b IsTaken k = absurd cc
withdrawn_alone b IsLeft k = absurd cc

inside_alone : (fate : Fate) → by_counts 0 0 1 0 true fate ≡ true → fate ≡ StaysInQueue
inside_alone StaysParked k = absurd cc
inside_alone IsWithdrawn k = absurd cc
inside_alone StaysInQueue k = refl
inside_alone IsTaken k = absurd cc
inside_alone IsLeft k = absurd cc

left_alone : (fate : Fate) → by_counts 0 0 1 0 false fate ≡ true → fate ≡ IsLeft
left_alone StaysParked k = absurd cc
left_alone IsWithdrawn k = absurd cc
left_alone StaysInQueue k = absurd cc
left_alone IsTaken k = absurd cc
left_alone IsLeft k = refl

taken_alone : (b : Bool) (fate : Fate) → by_counts 0 0 0 1 b fate ≡ true → fate ≡ IsTaken
taken_alone b StaysParked k = absurd cc
taken_alone b IsWithdrawn k = absurd cc
taken_alone b StaysInQueue k = absurd cc
taken_alone b IsTaken k = refl
taken_alone b IsLeft k = absurd cc

-- where numbers sum up to 1, exactly one of them is more than 0
one_of : (s w n d : ℕ) (b : Bool) → s + w + n + d ≡ 1 → OneHolds (by_counts s w n d b)
one_of (suc zero) zero zero zero b e = record { fate = StaysParked; has_it = refl; no_other = parked_alone b }
one_of zero (suc zero) zero zero b e = record { fate = IsWithdrawn; has_it = refl; no_other = withdrawn_alone b }
one_of zero zero (suc zero) zero true e = record { fate = StaysInQueue; has_it = refl; no_other = inside_alone }
one_of zero zero (suc zero) zero false e = record { fate = IsLeft; has_it = refl; no_other = left_alone }
one_of zero zero zero (suc zero) b e = record { fate = IsTaken; has_it = refl; no_other = taken_alone b }
one_of s w n d b e = absurd (omega arith)

counted_fate : (c : Config) (h : History) (o i : ℕ) (fate : Fate) → became fate c h o i ≡ by_counts (count_at i (senders c h o)) (withdrawn c h o i) (count_at i (contents c h o)) (deliveries c h i) (alive h o) fate
counted_fate c h o i StaysParked = has_counted i (senders c h o)
counted_fate c h o i IsWithdrawn = withdrawn_counted c h o i
counted_fate c h o i StaysInQueue = ap (λ b. b && alive h o) (has_counted i (contents c h o))
counted_fate c h o i IsTaken = newest_counted (λ e before. receive_of i (delivery c e before)) h
counted_fate c h o i IsLeft = ap (λ b. b && not (alive h o)) (has_counted i (contents c h o))

one_became : (c : Config) (h : History) (m : Send) (x : Held) → Legal c h → IsSend h m → holds (before_at m.place h) m.session m.desc ≡ Some x → OneHolds (λ fate. became fate c h x.object m.place)
one_became c h m x legal made held =
    let given : gives_object x.object (holds (before_at m.place h) m.session m.desc) ≡ true = rw held (eq-eqb _ _ refl) in
    let least : 1 ≤ sent c h x.object m.place = sent_there c h x.object m made.event made.recorded made.form given in
    let most : sent c h x.object m.place ≤ 1 = sent_le c h x.object m.place in
    let sum = kept c h x.object m.place in
    let all : deliveries c h m.place ≡ taken c h x.object m.place = deliveries_taken c h x.object m.place legal (only_to c h m x made held) in
    let whole : count_at m.place (senders c h x.object) + withdrawn c h x.object m.place + count_at m.place (contents c h x.object) + taken c h x.object m.place ≡ 1 = omega arith in
    let one = one_of (count_at m.place (senders c h x.object)) (withdrawn c h x.object m.place) (count_at m.place (contents c h x.object)) (deliveries c h m.place) (alive h x.object) (rw all whole) in
    record {
      fate = one.fate;
      has_it = counted_fate c h x.object m.place one.fate ∙ one.has_it;
      no_other = λ other k. one.no_other other (sym (counted_fate c h x.object m.place other) ∙ k);
    }

-- the receive that took the message of a place was made of the object to which it was sent
record Took (c : Config) (h : History) (i : ℕ) (w : Waiter) : Type 0 where
  object : ℕ
  message : Send
  sent_to : IsSendTo c h object message
  place : message.place ≡ i
  received : IsReceiveOf h object w

received_on : (h : History) (r : Record) (o : ℕ) (w : Waiter) → IsReceiveOf h o w → IsReceiveOf (r ∷ h) o w
received_on h r o w known =
    let lt = made_below h w.place _ known.made in
    record {
      length' = known.length';
      made = made_on h r w.place _ known.made;
      made_of = ap (λ b. gives_object o (holds b w.session w.desc)) (before_stays h r w.place lt) ∙ known.made_of;
    }

took_on : (c : Config) (h : History) (r : Record) (i : ℕ) (w : Waiter) → Took c h i w → Took c (r ∷ h) i w
took_on c h r i w known = record { object = known.object; message = known.message; sent_to = sent_on c h r known.object known.message known.sent_to; place = known.place; received = received_on h r known.object w known.received }

received_from : (c : Config) (h : History) (o : ℕ) (w : Waiter) → IsReceiveFrom c h o w → IsReceiveOf h o w
received_from c h o w known = record {
  length' = known.length';
  made = known.made;
  made_of = let held = known.held w.place (omega arith) (made_below h w.place _ known.made) in rw held (eq-eqb _ _ known.object);
}

took_now : (c : Config) (h : History) (e : Event) (i : ℕ) (w : Waiter) → Legal c (record { event = e; rule = None } ∷ h) → (x : Option Delivery) → delivery c e h ≡ x → receive_of i x ≡ Some w → Took c (record { event = e; rule = None } ∷ h) i w
took_now c h e i w legal None k j = absurd cc
took_now c h e i w legal (Some x) k j = at (eqb x.message.place i) refl j where
  at : (b : Bool) → eqb x.message.place i ≡ b → cond b (Some x.receive) None ≡ Some w → Took c (record { event = e; rule = None } ∷ h) i w
  at true p t =
      let same : x.receive ≡ w = cc in
      let confined = delivery_confined c h e x legal k in
      record { object = x.object; message = x.message; sent_to = confined.sent; place = eqb-true _ _ p; received = subst (IsReceiveOf (record { event = e; rule = None } ∷ h) x.object) same (received_from c (record { event = e; rule = None } ∷ h) x.object x.receive confined.received) }
  at false p t = absurd cc

took_more : (c : Config) (h : History) (i : ℕ) (w : Waiter) → (receive_that_took c h i ≡ Some w → Took c h i w) → (e : Event) (r : Option Rule) → Legal c (record { event = e; rule = r } ∷ h) → receive_that_took c (record { event = e; rule = r } ∷ h) i ≡ Some w → Took c (record { event = e; rule = r } ∷ h) i w
took_more c h i w known e (Some rule) legal k = took_on c h (record { event = e; rule = Some rule }) i w (known k)
took_more c h i w known e None legal k = at (receive_of i (delivery c e h)) refl k where
  at : (v : Option Waiter) → receive_of i (delivery c e h) ≡ v → option_or v (receive_that_took c h i) ≡ Some w → Took c (record { event = e; rule = None } ∷ h) i w
  at None q j = took_on c h (record { event = e; rule = None }) i w (known j)
  at (Some v) q j = took_now c h e i w legal (delivery c e h) refl (q ∙ j)

took : (c : Config) (h : History) (i : ℕ) (w : Waiter) → Legal c h → receive_that_took c h i ≡ Some w → Took c h i w
took c [] i w legal k = absurd cc
took c (r ∷ h) i w legal k = took_more c h i w (took c h i w legal.1) r.event r.rule legal k

taker_of : (c : Config) (h : History) (m : Send) (x : Held) → Legal c h → IsSend h m → holds (before_at m.place h) m.session m.desc ≡ Some x → (w : Waiter) → receive_that_took c h m.place ≡ Some w → IsReceiveOf h x.object w
taker_of c h m x legal made held w k =
    let known = took c h m.place w legal k in
    subst (λ (n : ℕ). IsReceiveOf h n w) (only_to c h m x made held known.object known.message known.sent_to known.place) known.received

pub one_fate : EachSendHasOneFate
one_fate c h m legal made = at (holds (before_at m.place h) m.session m.desc) refl (held_then c (before_at m.place h) m made.event made.form (legal_at c h m.place (record { event = made.event; rule = None }) legal made.recorded).0) where
  at : (w : Option Held) → holds (before_at m.place h) m.session m.desc ≡ w → is_some w ≡ true → HasOneFate c h m
  at None k there = absurd cc
  at (Some x) k there = record {
    object = x.object;
    sent_to = rw k (eq-eqb _ _ refl);
    fate = (one_became c h m x legal made k).fate;
    has_it = (one_became c h m x legal made k).has_it;
    no_other = (one_became c h m x legal made k).no_other;
    taker = taker_of c h m x legal made k;
    one_taker = delivered_once c h m.place legal;
  }
