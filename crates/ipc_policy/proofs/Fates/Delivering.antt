-- In a legal history each delivery is of a message that was sent and of a receive that was made, and no send is delivered
-- twice.
use Rattle.std.proofs.Common.{◌≡◌, ℕ, ◌+◌, ◌≤◌, Bool, true, false, not, ◌&&◌, eqb, List, [], ◌∷◌, cond, Option, Some, None, is_some, refl, sym, ap, subst, ◌∙◌, arith}
use Rattle.std.specs.Prelude.{option_and_then}
use Rattle.std.specs.Option.{option_map}
use Rattle.std.proofs.lemmas.Bool.{eqb-true, eq-eqb}
use Rattle.ipc_terms.specs.Timed.{plain}
use Rattle.ipc_terms.specs.Lists.{first}
use Rattle.ipc_terms.specs.declared.rule.Rule.{Rule}
use Rattle.ipc_terms.specs.declared.record.Record.{Record}
use Rattle.ipc_terms.specs.declared.record.Event.{Event}
use Rattle.ipc_terms.specs.declared.record.Event.TheVariants.{Do}
use Rattle.ipc_terms.specs.declared.call.Call.TheVariants.{MqSend}
use Rattle.ipc_policy.specs.declared.config.Config.{Config}
use Rattle.ipc_policy.specs.declared.config.Held.{Held}
use Rattle.ipc_policy.specs.Decides.History.{History, record_at, before_at}
use Rattle.ipc_policy.specs.Decides.Descriptions.{holds}
use Rattle.ipc_policy.specs.Decides.Queues.{Send, Waiter, Act, Sends, Receives, Withdraws, NoAct, Queue, is_filled, has_none, next, maxmsg}
use Rattle.ipc_policy.specs.Decides.Bodies.{act, queue, contents, receivers}
use Rattle.ipc_policy.specs.Decides.Parking.{stands_at}
use Rattle.ipc_policy.specs.Decides.Verdict.{Legal}
use Rattle.ipc_policy.specs.Follows.Deliveries.{Delivery, delivers, object_asked, delivery, receive_of, deliveries}
use Rattle.ipc_policy.specs.Follows.Confined.{IsSend, IsSendTo, IsConfined, EachDeliveryIsConfined, EachSendIsDeliveredOnce}
use Rattle.ipc_policy.proofs.Lists.EachItem.{each_first, each_greatest}
use Rattle.ipc_policy.proofs.Queues.ActsOf.{act_sends, act_receives}
use Rattle.ipc_policy.proofs.Lists.Counting.{takes_at}
use Rattle.ipc_policy.proofs.Queues.Keeping.{taken, sent_le, kept}
use Rattle.ipc_policy.proofs.Fates.Tracing.{IsWaiting, traced, sent_on, sent_now, received_on, received_now}

-- what delivers is a send that does not park and is served, or a receive that takes
pub record Delivers (n o : ℕ) (a : Act) (q : Queue) (x : Delivery) : Type 0 where
  pub object : x.object ≡ o
  pub takes : takes_at n x.message.place a q ≡ true

-- what it delivers, act by act
sends_delivers : (c : Config) (h : History) (e : Event) (o : ℕ) (m : Send) (x : Delivery) → Legal c (record { event = e; rule = None } ∷ h) → act c o e h ≡ Sends m → (w : Option Waiter) → first (receivers c h o) ≡ w → option_map (λ v. record { object = o; message = m; receive = v }) w ≡ Some x → IsConfined c (record { event = e; rule = None } ∷ h) x
sends_delivers c h e o m x legal k None j i = absurd cc
sends_delivers c h e o m x legal k (Some w) j i =
    let same : record { object = o; message = m; receive = w } ≡ x = cc in
    let waiting = each_first (IsWaiting c h o) (receivers c h o) (traced c h o legal.1).waiting w j in
    subst (IsConfined c (record { event = e; rule = None } ∷ h)) same (record {
      sent = sent_now c h e o m legal (act_sends c o e h m k);
      received = received_on c h (record { event = e; rule = None }) o w waiting.made waiting.now;
    })

receives_delivers : (c : Config) (h : History) (e : Event) (o : ℕ) (w : Waiter) (x : Delivery) → Legal c (record { event = e; rule = None } ∷ h) → act c o e h ≡ Receives w → (m : Option Send) → next (contents c h o) ≡ m → option_map (λ n. record { object = o; message = n; receive = w }) m ≡ Some x → IsConfined c (record { event = e; rule = None } ∷ h) x
receives_delivers c h e o w x legal k None j i = absurd cc
receives_delivers c h e o w x legal k (Some m) j i =
    let same : record { object = o; message = m; receive = w } ≡ x = cc in
    subst (IsConfined c (record { event = e; rule = None } ∷ h)) same (record {
      sent = sent_on c h (record { event = e; rule = None }) o m (each_greatest (IsSendTo c h o) (λ n. n.priority) (contents c h o) m (traced c h o legal.1).inside j);
      received = received_now c h e o w legal (act_receives c o e h w k);
    })

act_delivers : (c : Config) (h : History) (e : Event) (o : ℕ) (x : Delivery) → Legal c (record { event = e; rule = None } ∷ h) → (a : Act) → act c o e h ≡ a → delivers (maxmsg c h o) o a (queue c h o) ≡ Some x → IsConfined c (record { event = e; rule = None } ∷ h) x
act_delivers c h e o x legal (Sends m) k j = at (is_filled (maxmsg c h o) (contents c h o)) j where
  at : (b : Bool) → cond b None (option_map (λ v. record { object = o; message = m; receive = v }) (first (receivers c h o))) ≡ Some x → IsConfined c (record { event = e; rule = None } ∷ h) x
  at true i = absurd cc
  at false i = sends_delivers c h e o m x legal k (first (receivers c h o)) refl i
act_delivers c h e o x legal (Receives w) k j = receives_delivers c h e o w x legal k (next (contents c h o)) refl j
act_delivers c h e o x legal (Withdraws s) k j = absurd cc
act_delivers c h e o x legal NoAct k j = absurd cc

pub delivery_confined : EachDeliveryIsConfined
unfolding delivery
delivery_confined c h e x legal k = at (object_asked h (plain e)) k where
  at : (w : Option ℕ) → option_and_then (λ o. delivers (maxmsg c h o) o (act c o e h) (queue c h o)) w ≡ Some x → IsConfined c (record { event = e; rule = None } ∷ h) x
  at None j = absurd cc
  at (Some o) j = act_delivers c h e o x legal (act c o e h) refl j

-- a delivery takes the message from its object
none_is : {A : Type 0} (xs : List A) (x : A) → first xs ≡ Some x → has_none xs ≡ false
none_is [] x e = absurd cc
none_is (y ∷ ys) x e = refl

takes_of : (n o : ℕ) (a : Act) (q : Queue) (x : Delivery) → delivers n o a q ≡ Some x → Delivers n o a q x
takes_of n o (Sends m) q x k = at (is_filled n q.contents) refl k where
  at_first : is_filled n q.contents ≡ false → (w : Option Waiter) → first q.receivers ≡ w → option_map (λ v. record { object = o; message = m; receive = v }) w ≡ Some x → Delivers n o (Sends m) q x
  at_first room None j i = absurd cc
  at_first room (Some w) j i =
      let same : record { object = o; message = m; receive = w } ≡ x = cc in
      let some : has_none q.receivers ≡ false = none_is q.receivers w j in
      subst (Delivers n o (Sends m) q) same (record { object = refl; takes = rw (room, some) (eq-eqb m.place m.place refl) })

  at : (b : Bool) → is_filled n q.contents ≡ b → cond b None (option_map (λ v. record { object = o; message = m; receive = v }) (first q.receivers)) ≡ Some x → Delivers n o (Sends m) q x
  at true j i = absurd cc
  at false j i = at_first j (first q.receivers) refl i
takes_of n o (Receives w) q x k = at (next q.contents) refl k where
  at : (v : Option Send) → next q.contents ≡ v → option_map (λ m. record { object = o; message = m; receive = w }) v ≡ Some x → Delivers n o (Receives w) q x
  at None j i = absurd cc
  at (Some m) j i =
      let same : record { object = o; message = m; receive = w } ≡ x = cc in
      subst (Delivers n o (Receives w) q) same (record { object = refl; takes = rw j (eq-eqb m.place m.place refl) })
takes_of n o (Withdraws s) q x k = absurd cc
takes_of n o NoAct q x k = absurd cc

-- and what takes the message of a place delivers it
both_hold : (a b : Bool) → (a && b) ≡ true → (a ≡ true) × (b ≡ true)
both_hold true b e = (refl, e)
both_hold false b e = absurd cc

not_true : (b : Bool) → not b ≡ true → b ≡ false
not_true true e = absurd cc
not_true false e = refl

delivers_of : (n o i : ℕ) (a : Act) (q : Queue) → takes_at n i a q ≡ true → is_some (receive_of i (delivers n o a q)) ≡ true
delivers_of n o i (Sends m) q k =
    let parts = both_hold (not (is_filled n q.contents) && not (has_none q.receivers)) (eqb m.place i) k in
    let parts' = both_hold (not (is_filled n q.contents)) (not (has_none q.receivers)) parts.0 in
    let room : is_filled n q.contents ≡ false = not_true _ parts'.0 in
    rw room (at q.receivers (not_true _ parts'.1) parts.1) where
      at : (ws : List Waiter) → has_none ws ≡ false → eqb m.place i ≡ true → is_some (receive_of i (option_map (λ v. record { object = o; message = m; receive = v }) (first ws))) ≡ true
      at [] e j = absurd cc
      at (w ∷ ws) e j = rw j refl
delivers_of n o i (Receives w) q k = at (next q.contents) k where
  at : (v : Option Send) → stands_at (λ (m : Send). m.place) i v ≡ true → is_some (receive_of i (option_map (λ m. record { object = o; message = m; receive = w }) v)) ≡ true
  at None e = absurd cc
  at (Some m) e = rw e refl
delivers_of n o i (Withdraws s) q k = absurd cc
delivers_of n o i NoAct q k = absurd cc

-- the object of which an act takes is the one that the call's description gives
asked_of : (c : Config) (o i : ℕ) (e : Event) (h : History) (n : ℕ) (q : Queue) (a : Act) → act c o e h ≡ a → takes_at n i a q ≡ true → object_asked h (plain e) ≡ Some o
asked_of c o i e h n q (Sends m) k j =
    let of = act_sends c o e h m k in
    rw of.event (rw of.held (ap Some of.object))
asked_of c o i e h n q (Receives w) k j =
    let of = act_receives c o e h w k in
    rw of.event (rw of.held (ap Some of.object))
asked_of c o i e h n q (Withdraws s) k j = absurd cc
asked_of c o i e h n q NoAct k j = absurd cc

taken_delivers : (c : Config) (h : History) (e : Event) (o i : ℕ) → takes_at (maxmsg c h o) i (act c o e h) (queue c h o) ≡ true → is_some (receive_of i (delivery c e h)) ≡ true
unfolding delivery
taken_delivers c h e o i k =
    let asked = asked_of c o i e h (maxmsg c h o) (queue c h o) (act c o e h) refl k in
    rw asked (delivers_of (maxmsg c h o) o i (act c o e h) (queue c h o) k)

-- what delivers a message takes it from its object
delivered_takes : (c : Config) (h : History) (e : Event) (x : Delivery) → delivery c e h ≡ Some x → takes_at (maxmsg c h x.object) x.message.place (act c x.object e h) (queue c h x.object) ≡ true
unfolding delivery
delivered_takes c h e x k = at (object_asked h (plain e)) k where
  at : (w : Option ℕ) → option_and_then (λ o. delivers (maxmsg c h o) o (act c o e h) (queue c h o)) w ≡ Some x → takes_at (maxmsg c h x.object) x.message.place (act c x.object e h) (queue c h x.object) ≡ true
  at None j = absurd cc
  at (Some o) j =
      let d = takes_of (maxmsg c h o) o (act c o e h) (queue c h o) x j in
      subst (λ (p : ℕ). takes_at (maxmsg c h p) x.message.place (act c p e h) (queue c h p) ≡ true) (sym d.object) d.takes

-- the event of a send, without its deadline
abbrev of_send : Send → Event
of_send m = Do (record { 0 = m.session }) (MqSend (record { 0 = m.desc }) m.priority m.bytes)

-- whose it is, and by which description
abbrev sender : Event → ℕ
sender (Do sid (MqSend desc priority bytes)) = sid.0
sender _ = 0

abbrev sends_by : Event → ℕ
sends_by (Do sid (MqSend desc priority bytes)) = desc.0
sends_by _ = 0

abbrev of_event : (Event → ℕ) → Option Record → ℕ
of_event f None = 0
of_event f (Some r) = f (plain r.event)

abbrev object_in : Option Held → ℕ
object_in None = 0
object_in (Some x) = x.object

-- a send is to one object alone
one_object : (c : Config) (h : History) (o : ℕ) (m m' : Send) (x : Held) → IsSend h m → holds (before_at m.place h) m.session m.desc ≡ Some x → IsSendTo c h o m' → m'.place ≡ m.place → o ≡ x.object
one_object c h o m m' x sent held sent' place = sym sent'.object ∙ ap object_in writers where
  there : record_at m.place h ≡ Some (record { event = sent'.made.event; rule = None })
  there = subst (λ (n : ℕ). record_at n h ≡ Some (record { event = sent'.made.event; rule = None })) place sent'.made.recorded

  both : ◌≡◌ {A = Option Record} (Some (record { event = sent'.made.event; rule = None })) (Some (record { event = sent.event; rule = None }))
  both = sym there ∙ sent.recorded

  session : m'.session ≡ m.session
  session = sym (ap sender sent'.made.form) ∙ ap (of_event sender) both ∙ ap sender sent.form

  desc : m'.desc ≡ m.desc
  desc = sym (ap sends_by sent'.made.form) ∙ ap (of_event sends_by) both ∙ ap sends_by sent.form

  held_there : holds (before_at m.place h) m.session m.desc ≡ Some sent'.writer
  held_there = subst (λ (n : ℕ). holds (before_at n h) m.session m.desc ≡ Some sent'.writer) place (subst (λ (n : ℕ). holds (before_at m'.place h) n m.desc ≡ Some sent'.writer) session (subst (λ (n : ℕ). holds (before_at m'.place h) m'.session n ≡ Some sent'.writer) desc sent'.held))

  writers : Some sent'.writer ≡ Some x
  writers = sym held_there ∙ held

-- so where the send of a place can only have been to one object, its deliveries are what was taken from that object
abbrev pub IsOnlyTo : Config → History → ℕ → ℕ → Type 0
IsOnlyTo c h o i = (o' : ℕ) (m : Send) → IsSendTo c h o' m → m.place ≡ i → o' ≡ o

same_truth : (a b : Bool) → (a ≡ true → b ≡ true) → (b ≡ true → a ≡ true) → a ≡ b
same_truth true b f g = sym (f refl)
same_truth false true f g = g refl
same_truth false false f g = refl

taken_alike : (c : Config) (h : History) (e : Event) (o i : ℕ) → Legal c (record { event = e; rule = None } ∷ h) → IsOnlyTo c (record { event = e; rule = None } ∷ h) o i → is_some (receive_of i (delivery c e h)) ≡ takes_at (maxmsg c h o) i (act c o e h) (queue c h o)
taken_alike c h e o i legal only = same_truth _ _ (at (delivery c e h) refl) (taken_delivers c h e o i) where
  at : (w : Option Delivery) → delivery c e h ≡ w → is_some (receive_of i w) ≡ true → takes_at (maxmsg c h o) i (act c o e h) (queue c h o) ≡ true
  at None k j = absurd cc
  at (Some x) k j = same (eqb x.message.place i) refl j where
    same : (b : Bool) → eqb x.message.place i ≡ b → is_some (cond b (Some x.receive) None) ≡ true → takes_at (maxmsg c h o) i (act c o e h) (queue c h o) ≡ true
    same true p t =
        let place : x.message.place ≡ i = eqb-true _ _ p in
        let object : x.object ≡ o = only x.object x.message (delivery_confined c h e x legal k).sent place in
        subst (λ (n : ℕ). takes_at (maxmsg c h o) n (act c o e h) (queue c h o) ≡ true) place (subst (λ (n : ℕ). takes_at (maxmsg c h n) x.message.place (act c n e h) (queue c h n) ≡ true) object (delivered_takes c h e x k))
    same false p t = absurd cc

only_before : (c : Config) (h : History) (r : Record) (o i : ℕ) → IsOnlyTo c (r ∷ h) o i → IsOnlyTo c h o i
only_before c h r o i only o' m sent place = only o' m (sent_on c h r o' m sent) place

taken_more : (c : Config) (h : History) (o i : ℕ) → deliveries c h i ≡ taken c h o i → (e : Event) (r : Option Rule) → Legal c (record { event = e; rule = r } ∷ h) → IsOnlyTo c (record { event = e; rule = r } ∷ h) o i → deliveries c (record { event = e; rule = r } ∷ h) i ≡ taken c (record { event = e; rule = r } ∷ h) o i
unfolding taken
taken_more c h o i known e (Some rule) legal only = known
taken_more c h o i known e None legal only = ap (λ b. cond b (deliveries c h i + 1) (deliveries c h i)) (taken_alike c h e o i legal only) ∙ ap (λ n. cond (takes_at (maxmsg c h o) i (act c o e h) (queue c h o)) (n + 1) n) known

pub deliveries_taken : (c : Config) (h : History) (o i : ℕ) → Legal c h → IsOnlyTo c h o i → deliveries c h i ≡ taken c h o i
unfolding taken
deliveries_taken c [] o i legal only = refl
deliveries_taken c (r ∷ h) o i legal only = taken_more c h o i (deliveries_taken c h o i legal.1 (only_before c h r o i only)) r.event r.rule legal only

-- a send that was made to an object was made to it alone
pub only_to : (c : Config) (h : History) (m : Send) (x : Held) → IsSend h m → holds (before_at m.place h) m.session m.desc ≡ Some x → IsOnlyTo c h x.object m.place
only_to c h m x sent held o' m' sent' place = one_object c h o' m m' x sent held sent' place

sent_only_to : (c : Config) (h : History) (o : ℕ) (m : Send) → IsSendTo c h o m → IsOnlyTo c h o m.place
sent_only_to c h o m sent = subst (λ (n : ℕ). IsOnlyTo c h n m.place) sent.object (only_to c h m sent.writer sent.made sent.held)

taken_once : (c : Config) (h : History) (o i : ℕ) → taken c h o i ≤ 1
taken_once c h o i = let sum = kept c h o i in let most = sent_le c h o i in omega arith

once_more : (c : Config) (h : History) (i : ℕ) → deliveries c h i ≤ 1 → (e : Event) (r : Option Rule) → Legal c (record { event = e; rule = r } ∷ h) → deliveries c (record { event = e; rule = r } ∷ h) i ≤ 1
once_more c h i known e (Some rule) legal = known
once_more c h i known e None legal = at (delivery c e h) refl where
  at : (w : Option Delivery) → delivery c e h ≡ w → cond (is_some (receive_of i w)) (deliveries c h i + 1) (deliveries c h i) ≤ 1
  at None k = known
  at (Some x) k = same (eqb x.message.place i) refl where
    same : (b : Bool) → eqb x.message.place i ≡ b → cond (is_some (cond b (Some x.receive) None)) (deliveries c h i + 1) (deliveries c h i) ≤ 1
    same false p = known
    same true p =
        let place : x.message.place ≡ i = eqb-true _ _ p in
        let only = sent_only_to c (record { event = e; rule = None } ∷ h) x.object x.message (delivery_confined c h e x legal k).sent in
        let all : deliveries c (record { event = e; rule = None } ∷ h) x.message.place ≡ taken c (record { event = e; rule = None } ∷ h) x.object x.message.place = deliveries_taken c (record { event = e; rule = None } ∷ h) x.object x.message.place legal only in
        let now : deliveries c (record { event = e; rule = None } ∷ h) x.message.place ≡ deliveries c h x.message.place + 1 = (let here : eqb x.message.place x.message.place ≡ true = eq-eqb _ _ refl in rw (k, here) refl) in
        let most = taken_once c (record { event = e; rule = None } ∷ h) x.object x.message.place in
        subst (λ (n : ℕ). deliveries c h n + 1 ≤ 1) place (rw (sym now ∙ all) most)

pub delivered_once : EachSendIsDeliveredOnce
delivered_once c [] i legal = omega arith
delivered_once c (r ∷ h) i legal = once_more c h i (delivered_once c h i legal.1) r.event r.rule legal
