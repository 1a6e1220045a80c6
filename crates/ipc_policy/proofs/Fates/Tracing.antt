-- In a legal history each message of a queue was sent to it, and each receive that is parked on it was made of it, by
-- descriptions that were granted.
use Rattle.std.proofs.Common.{◌≡◌, ℕ, ◌<◌, ◌≤◌, false, List, [], ◌∷◌, length, Option, Some, None, refl, sym, ap, subst, inl, inr, ◌⊎◌, ◌∙◌, arith}
use Rattle.ipc_terms.specs.Timed.{plain}
use Rattle.ipc_terms.specs.declared.rule.Rule.{Rule}
use Rattle.ipc_terms.specs.declared.rule.Rule.TheVariants.{NotForWrite, NotForRead}
use Rattle.ipc_terms.specs.declared.ids.Sid.{Sid}
use Rattle.ipc_terms.specs.declared.ids.Desc.{Desc}
use Rattle.ipc_terms.specs.declared.call.Call.TheVariants.{MqSend, MqReceive}
use Rattle.ipc_terms.specs.declared.record.Record.{Record}
use Rattle.ipc_terms.specs.declared.record.Event.{Event}
use Rattle.ipc_terms.specs.declared.record.Event.TheVariants.{Do}
use Rattle.ipc_policy.specs.declared.config.Config.{Config}
use Rattle.ipc_policy.specs.declared.config.Held.{Held}
use Rattle.ipc_policy.specs.Decides.History.{History, is_some_and, record_at, before_at}
use Rattle.ipc_policy.specs.Decides.Descriptions.{held, holds, ends_held}
use Rattle.ipc_policy.specs.Decides.Queues.{Send, Waiter, Sends, maxmsg}
use Rattle.ipc_policy.specs.Decides.Bodies.{act, queue, contents, senders, receivers, semaphore_act, semaphore}
use Rattle.ipc_policy.specs.Decides.Parking.{Parked, Receiving, is_posted, ends_call, ends_parked, parked}
use Rattle.ipc_terms.specs.Lists.{Each}
use Rattle.ipc_policy.specs.Follows.Readings.{ends_receive}
use Rattle.ipc_policy.specs.Decides.Rules.{forbids, not_for_write, not_for_read, reads_only, writes_only}
use Rattle.ipc_policy.specs.Decides.Verdict.{Legal, verdict}
use Rattle.ipc_policy.specs.Follows.Confined.{IsMade, IsGranted, IsSendTo, IsReceiveFrom}
use Rattle.ipc_policy.proofs.Histories.PlainForms.{plain_accepted, ends_plain}
use Rattle.ipc_policy.proofs.Histories.Moments.{place_below, record_stays, before_stays, record_now, before_now, newest_or_before}
use Rattle.ipc_policy.proofs.Holdings.Granting.{granted_on, held_granted}
use Rattle.ipc_policy.proofs.Lists.EachItem.{each_map, each_inside, each_sender, each_parked_receiver}
use Rattle.ipc_policy.proofs.Queues.ActsOf.{SendOf, ReceiveOf, act_sends, act_receives}
use Rattle.ipc_policy.proofs.Directories.Creating.{holds_is_held}
use Rattle.ipc_policy.proofs.Histories.Unforbidden.{unforbidden}
use Rattle.ipc_policy.proofs.Blocked.Waits.{or_neither, posts_no_receive}
use Rattle.ipc_policy.proofs.Blocked.ParkedPlaces.{parked_by_place}
use Rattle.ipc_policy.proofs.Blocked.CallsListed.{calls_listed, not_ended_receive}
use Rattle.ipc_policy.proofs.Blocked.ParkedSessions.{holds_on, if_of_is, session_is, none_let_go}

-- a longer history keeps what was made
pub made_below : (h : History) (i : ℕ) (e : Event) → IsMade h i e → i < length h
made_below h i e made = place_below h i _ made.recorded

pub made_on : (h : History) (q : Record) (i : ℕ) (e : Event) → IsMade h i e → IsMade (q ∷ h) i e
made_on h q i e made = record { event = made.event; recorded = record_stays h q i (made_below h i e made) ∙ made.recorded; form = made.form }

-- and what was sent
pub sent_on : (c : Config) (h : History) (q : Record) (o : ℕ) (m : Send) → IsSendTo c h o m → IsSendTo c (q ∷ h) o m
sent_on c h q o m known =
    let lt = made_below h m.place _ known.made in
    record {
      made = made_on h q m.place _ known.made;
      writer = known.writer;
      held = ap (λ b. holds b m.session m.desc) (before_stays h q m.place lt) ∙ known.held;
      object = known.object;
      writable = known.writable;
      granted = granted_on c h q m.desc known.writer m.place lt known.granted;
    }

-- what is held at a place of a longer history
held_at : (h : History) (q : Record) (s d place : ℕ) (x : Held) → holds h s d ≡ Some x → ((i : ℕ) → place ≤ i → i < length h → holds (before_at i h) s d ≡ Some x) → (i : ℕ) → place ≤ i → i < length (q ∷ h) → holds (before_at i (q ∷ h)) s d ≡ Some x
held_at h q s d place x now known i le lt = at (newest_or_before h q i lt) where
  at : (i ≡ length h) ⊎ (i < length h) → holds (before_at i (q ∷ h)) s d ≡ Some x
  at (inl same) = subst (λ (n : ℕ). holds (before_at n (q ∷ h)) s d ≡ Some x) (sym same) (ap (λ b. holds b s d) (before_now h q) ∙ now)
  at (inr below) = ap (λ b. holds b s d) (before_stays h q i below) ∙ known i le below

-- a receive whose session still holds its description
pub received_on : (c : Config) (h : History) (q : Record) (o : ℕ) (w : Waiter) (known : IsReceiveFrom c h o w) → holds h w.session w.desc ≡ Some known.reader → IsReceiveFrom c (q ∷ h) o w
received_on c h q o w known now = record {
  length' = known.length';
  made = made_on h q w.place _ known.made;
  reader = known.reader;
  held = held_at h q w.session w.desc w.place known.reader now known.held;
  object = known.object;
  readable = known.readable;
  granted = granted_on c h q w.desc known.reader w.place (made_below h w.place _ known.made) known.granted;
}

writable_of : (c : Config) (h : History) (sid : Sid) (desc : Desc) (priority : ℕ) (bytes : List ℕ) (x : Held) → None ≡ verdict c h (Do sid (MqSend desc priority bytes)) → holds h sid.0 desc.0 ≡ Some x → reads_only x.access ≡ false
unfolding forbids not_for_write
writable_of c h sid desc priority bytes x legal k =
    let passes : is_some_and (λ y. reads_only y.access) (holds h sid.0 desc.0) ≡ false = unforbidden c h (Do sid (MqSend desc priority bytes)) (sym legal) NotForWrite in
    rw k at passes

readable_of : (c : Config) (h : History) (sid : Sid) (desc : Desc) (length' : ℕ) (x : Held) → None ≡ verdict c h (Do sid (MqReceive desc length')) → holds h sid.0 desc.0 ≡ Some x → writes_only x.access ≡ false
unfolding forbids not_for_read
readable_of c h sid desc length' x legal k =
    let passes : is_some_and (λ y. writes_only y.access) (holds h sid.0 desc.0) ≡ false = unforbidden c h (Do sid (MqReceive desc length')) (sym legal) NotForRead in
    rw k at passes

-- a send that is made now
pub sent_now : (c : Config) (h : History) (e : Event) (o : ℕ) (m : Send) → Legal c (record { event = e; rule = None } ∷ h) → SendOf o (plain e) h m → IsSendTo c (record { event = e; rule = None } ∷ h) o m
sent_now c h e o m legal of =
    let lawful : None ≡ verdict c h (Do of.sid (MqSend of.desc m.priority m.bytes)) = rw of.event at (plain_accepted c h e legal.0) in
    let is : plain e ≡ Do (record { 0 = m.session }) (MqSend (record { 0 = m.desc }) m.priority m.bytes) = of.event ∙ ap (λ n. Do (record { 0 = n }) (MqSend of.desc m.priority m.bytes)) (sym of.session) ∙ ap (λ n. Do (record { 0 = m.session }) (MqSend (record { 0 = n }) m.priority m.bytes)) (sym of.by) in
    let mine : holds h m.session m.desc ≡ Some of.x = ap (λ n. holds h n m.desc) of.session ∙ ap (holds h of.sid.0) of.by ∙ of.held in
    record {
      made = record { event = e; recorded = subst (λ (n : ℕ). record_at n (record { event = e; rule = None } ∷ h) ≡ Some (record { event = e; rule = None })) (sym of.place) (record_now h (record { event = e; rule = None })); form = is };
      writer = of.x;
      held = subst (λ (n : ℕ). holds (before_at n (record { event = e; rule = None } ∷ h)) m.session m.desc ≡ Some of.x) (sym of.place) (ap (λ b. holds b m.session m.desc) (before_now h (record { event = e; rule = None })) ∙ mine);
      object = of.object;
      writable = writable_of c h of.sid of.desc m.priority m.bytes of.x lawful of.held;
      granted = subst (IsGranted c (record { event = e; rule = None } ∷ h) m.desc of.x) (sym of.place) (held_granted c h m.desc of.x legal.1 (holds_is_held h m.session m.desc of.x mine) (record { event = e; rule = None }));
    }

-- a receive that is made now
pub received_now : (c : Config) (h : History) (e : Event) (o : ℕ) (w : Waiter) → Legal c (record { event = e; rule = None } ∷ h) → ReceiveOf o (plain e) h w → IsReceiveFrom c (record { event = e; rule = None } ∷ h) o w
received_now c h e o w legal of =
    let lawful : None ≡ verdict c h (Do of.sid (MqReceive of.desc of.length')) = rw of.event at (plain_accepted c h e legal.0) in
    let who : w.session ≡ of.sid.0 = ap (λ v. v.session) of.wait in
    let by : w.desc ≡ of.desc.0 = ap (λ v. v.desc) of.wait in
    let place : w.place ≡ length h = ap (λ v. v.place) of.wait in
    let is : plain e ≡ Do (record { 0 = w.session }) (MqReceive (record { 0 = w.desc }) of.length') = of.event ∙ ap (λ n. Do (record { 0 = n }) (MqReceive of.desc of.length')) (sym who) ∙ ap (λ n. Do (record { 0 = w.session }) (MqReceive (record { 0 = n }) of.length')) (sym by) in
    let mine : holds h w.session w.desc ≡ Some of.x = ap (λ n. holds h n w.desc) who ∙ ap (holds h of.sid.0) by ∙ of.held in
    record {
      length' = of.length';
      made = record { event = e; recorded = subst (λ (n : ℕ). record_at n (record { event = e; rule = None } ∷ h) ≡ Some (record { event = e; rule = None })) (sym place) (record_now h (record { event = e; rule = None })); form = is };
      reader = of.x;
      held = held_at h (record { event = e; rule = None }) w.session w.desc w.place of.x mine (λ i le lt. absurd (omega arith));
      object = of.object;
      readable = readable_of c h of.sid of.desc of.length' of.x lawful of.held;
      granted = subst (IsGranted c (record { event = e; rule = None } ∷ h) w.desc of.x) (sym place) (held_granted c h w.desc of.x legal.1 (holds_is_held h w.session w.desc of.x mine) (record { event = e; rule = None }));
    }

-- a receive that is parked: its session holds its description still
pub record IsWaiting (c : Config) (h : History) (o : ℕ) (w : Waiter) : Type 0 where
  pub made : IsReceiveFrom c h o w
  pub now : holds h w.session w.desc ≡ Some made.reader

-- what the lists of a queue say of the history
pub record Traced (c : Config) (h : History) (o : ℕ) : Type 0 where
  pub inside : Each (IsSendTo c h o) (contents c h o)
  pub sending : Each (IsSendTo c h o) (senders c h o)
  pub waiting : Each (IsWaiting c h o) (receivers c h o)

each_both : {A : Type 0} (P Q : A → Type 0) (xs : List A) → Each P xs → Each Q xs → Each (λ x. P x × Q x) xs
each_both P Q [] p q = tt
each_both P Q (x ∷ xs) p q = ((p.0, q.0), each_both P Q xs p.1 q.1)

-- the call that a parked receive is
abbrev receiving : ℕ → Waiter → Parked
receiving o w = record { object = o; place = w.place; kind = Receiving }

waits_on : (c : Config) (h : History) (o : ℕ) (e : Event) → Legal c (record { event = e; rule = None } ∷ h) → (w : Waiter) → IsWaiting c h o w → parked c h w.session ≡ Some (receiving o w) → ends_receive w (act c o e h) (queue c h o) ≡ false → IsWaiting c (record { event = e; rule = None } ∷ h) o w
unfolding received_on
waits_on c h o e legal w known is_parked keeps =
    let stays : ends_parked c w.session (receiving o w) e h ≡ false = or_neither (is_posted (semaphore_act c o e h) Receiving w.place (semaphore c h o)) (ends_call w.session (receiving o w) (act c o e h) (queue c h o)) (posts_no_receive (semaphore_act c o e h) w.place (semaphore c h o)) (not_ended_receive o w (act c o e h) (queue c h o) keeps) in
    let mine : known.made.reader.session.0 ≡ w.session = session_is w.session known.made.reader (if_of_is w.session w.desc h known.made.reader known.now) in
    let open' : ends_held w.desc known.made.reader e ≡ false = none_let_go c h e w.session w.desc known.made.reader (receiving o w) legal.0 is_parked stays mine in
    record {
      made = received_on c h (record { event = e; rule = None }) o w known.made known.now;
      now = holds_on h w.session w.desc known.made.reader e known.now open';
    }

begins_waiting : (c : Config) (h : History) (o : ℕ) (e : Event) → Legal c (record { event = e; rule = None } ∷ h) → (w : Waiter) → ReceiveOf o (plain e) h w → IsWaiting c (record { event = e; rule = None } ∷ h) o w
unfolding received_now
begins_waiting c h o e legal w of = record {
  made = received_now c h e o w legal of;
  now =
      let who : w.session ≡ of.sid.0 = ap (λ v. v.session) of.wait in
      let by : w.desc ≡ of.desc.0 = ap (λ v. v.desc) of.wait in
      let mine : holds h w.session w.desc ≡ Some of.x = ap (λ n. holds h n w.desc) who ∙ ap (holds h of.sid.0) by ∙ of.held in
      holds_on h w.session w.desc of.x e mine (ends_plain w.desc of.x e ∙ subst (λ (f : Event). ends_held w.desc of.x f ≡ false) (sym of.event) refl);
}

refused_on : (c : Config) (h : History) (o : ℕ) (e : Event) (rule : Rule) (w : Waiter) → IsWaiting c h o w → IsWaiting c (record { event = e; rule = Some rule } ∷ h) o w
unfolding received_on held holds
refused_on c h o e rule w known = record { made = received_on c h (record { event = e; rule = Some rule }) o w known.made known.now; now = known.now }

traced_more : (c : Config) (h : History) (o : ℕ) → Traced c h o → (e : Event) (r : Option Rule) → Legal c (record { event = e; rule = r } ∷ h) → Traced c (record { event = e; rule = r } ∷ h) o
unfolding queue
traced_more c h o known e (Some rule) legal = record {
  inside = each_map (IsSendTo c h o) (IsSendTo c (record { event = e; rule = Some rule } ∷ h) o) (contents c h o) (sent_on c h (record { event = e; rule = Some rule }) o) known.inside;
  sending = each_map (IsSendTo c h o) (IsSendTo c (record { event = e; rule = Some rule } ∷ h) o) (senders c h o) (sent_on c h (record { event = e; rule = Some rule }) o) known.sending;
  waiting = each_map (IsWaiting c h o) (IsWaiting c (record { event = e; rule = Some rule } ∷ h) o) (receivers c h o) (refused_on c h o e rule) known.waiting;
}
traced_more c h o known e None legal = record {
  inside = each_inside (IsSendTo c (record { event = e; rule = None } ∷ h) o) (maxmsg c h o) (act c o e h) (queue c h o) new sending' inside';
  sending = each_sender (IsSendTo c (record { event = e; rule = None } ∷ h) o) (maxmsg c h o) (act c o e h) (queue c h o) new sending';
  waiting = each_parked_receiver (λ w. IsWaiting c h o w × (parked c h w.session ≡ Some (receiving o w))) (IsWaiting c (record { event = e; rule = None } ∷ h) o) (act c o e h) (queue c h o) (length h) (parked_by_place c h o).receives_rise
      (λ w k keeps. waits_on c h o e legal w k.0 k.1 keeps)
      (λ w k none. begins_waiting c h o e legal w (act_receives c o e h w k))
      (each_both (IsWaiting c h o) (λ w. parked c h w.session ≡ Some (receiving o w)) (receivers c h o) known.waiting ((calls_listed c h legal.1).each_receive o));
} where
  new : (m : Send) → act c o e h ≡ Sends m → IsSendTo c (record { event = e; rule = None } ∷ h) o m
  new m k = sent_now c h e o m legal (act_sends c o e h m k)

  inside' : Each (IsSendTo c (record { event = e; rule = None } ∷ h) o) (contents c h o)
  inside' = each_map (IsSendTo c h o) (IsSendTo c (record { event = e; rule = None } ∷ h) o) (contents c h o) (sent_on c h (record { event = e; rule = None }) o) known.inside

  sending' : Each (IsSendTo c (record { event = e; rule = None } ∷ h) o) (senders c h o)
  sending' = each_map (IsSendTo c h o) (IsSendTo c (record { event = e; rule = None } ∷ h) o) (senders c h o) (sent_on c h (record { event = e; rule = None }) o) known.sending

-- so in every legal history
pub traced : (c : Config) (h : History) (o : ℕ) → Legal c h → Traced c h o
unfolding queue
traced c [] o legal = record { inside = tt; sending = tt; waiting = tt }
traced c (r ∷ h) o legal = traced_more c h o (traced c h o legal.1) r.event r.rule legal
