-- In a legal history what is answered is small.
use Rattle.std.proofs.Common.{◌≡◌, ℕ, ◌≤◌, Bool, true, false, eqb, List, [], ◌∷◌, ◌++◌, length, map, cond, Option, Some, None, refl, sym}
use Rattle.std.specs.Prelude.{filter}
use Rattle.ipc_terms.specs.Lists.{first, Each}
use Rattle.ipc_terms.specs.Lines.{lines}
use Rattle.ipc_terms.specs.Sizes.{IsSmall}
use Rattle.ipc_terms.specs.declared.rule.Rule.{Rule}
use Rattle.ipc_terms.specs.declared.ids.Sid.{Sid}
use Rattle.ipc_terms.specs.declared.facts.Facts.{Facts}
use Rattle.ipc_terms.specs.declared.line.Line.{Line}
use Rattle.ipc_terms.specs.declared.call.Answer.{Answer}
use Rattle.ipc_terms.specs.declared.call.Answer.TheVariants.{Sent, Done}
use Rattle.ipc_terms.specs.declared.call.Attributes.{Attributes}
use Rattle.ipc_terms.specs.declared.call.Call.TheVariants.{MqSend, MqReceive, MqGetattr, MqSetattr, MqGive, SemPost, SemWait, SemGetvalue, ListNames, StatName, Interrupt, Audit, MqTimedSend, MqTimedReceive, SemTimedWait}
use Rattle.ipc_terms.specs.declared.record.Event.{Event}
use Rattle.ipc_terms.specs.declared.record.Event.TheVariants.{Hello, Do, Hangup, Tick}
use Rattle.ipc_policy.specs.declared.config.Config.{Config}
use Rattle.ipc_policy.specs.declared.config.Held.{Held}
use Rattle.ipc_policy.specs.declared.config.Registration.{Registration}
use Rattle.ipc_policy.specs.declared.config.TheConstants.{HARD_MSGSIZE_MAX}
use Rattle.ipc_policy.specs.Decides.History.{History}
use Rattle.ipc_policy.specs.Decides.Sessions.{live}
use Rattle.ipc_policy.specs.Decides.Descriptions.{holds}
use Rattle.ipc_policy.specs.Decides.Life.{names}
use Rattle.ipc_policy.specs.Decides.Queues.{Send, Waiter, attributes, next}
use Rattle.ipc_policy.specs.Decides.Registrations.{is_idle, registered}
use Rattle.ipc_policy.specs.Decides.Bodies.{due, queue, contents, senders, receivers, is_full, waiters, is_zero}
use Rattle.ipc_policy.specs.Decides.Verdict.{verdict, Legal, answers, answers_at, tick_answers, accepted_answers, answers_of, receiver_answers, sender_answers, noticed, send_answers, received, receive_answers, attributes_told, waiter_answers, post_answers, wait_answers, value_told, stat_answers, facts_meant, for_session, outbox}
use Rattle.ipc_policy.specs.Follows.Sizes.{LimitsMessages, EachAnswerIsSmall, EachOutboxIsSmall}
use Rattle.ipc_policy.proofs.Histories.PlainForms.{plain_accepted}
use Rattle.ipc_policy.proofs.Lists.EachItem.{each_append, each_filter, each_greatest}
use Rattle.ipc_policy.proofs.Lists.Pages.{page_le, each_paged}
use Rattle.ipc_policy.proofs.Directories.NameLengths.{names_short, lines_short}
use Rattle.ipc_policy.proofs.Outcomes.MessageSizes.{Fits, send_fits, inside_fits, fits_range}

abbrev AllSmall : List (Sid × Answer) → Type 0
AllSmall answered = Each (λ p. IsSmall HARD_MSGSIZE_MAX p.1) answered

-- whom else a call answers
given_small : (priority : ℕ) (bytes : List ℕ) (w : Option Waiter) → length bytes ≤ HARD_MSGSIZE_MAX → AllSmall (receiver_answers priority bytes w)
given_small priority bytes None le = tt
given_small priority bytes (Some w) le = (le, tt)

noticed_small : (b : Bool) (w : Option Registration) → AllSmall (cond b (noticed w) [])
noticed_small true None = tt
noticed_small true (Some x) = (tt, tt)
noticed_small false w = tt

let_in_small : (w : Option Send) → AllSmall (sender_answers w)
let_in_small None = tt
let_in_small (Some m) = (tt, tt)

let_through_small : (w : Option Waiter) → AllSmall (waiter_answers w)
let_through_small None = tt
let_through_small (Some w) = (tt, tt)

ticked_small : (w : Option ℕ) → AllSmall (tick_answers w)
ticked_small None = tt
ticked_small (Some s) = (tt, tt)

-- what each call answers
sent_small : (c : Config) (h : History) (sid : Sid) (priority : ℕ) (bytes : List ℕ) (o : ℕ) → length bytes ≤ HARD_MSGSIZE_MAX → AllSmall (send_answers c h sid priority bytes o)
sent_small c h sid priority bytes o le = at (is_full c h o) where
  others : AllSmall (receiver_answers priority bytes (first (receivers c h o)) ++ cond (is_idle (queue c h o)) (noticed (registered c h o)) [])
  others = each_append (λ (p : Sid × Answer). IsSmall HARD_MSGSIZE_MAX p.1) (receiver_answers priority bytes (first (receivers c h o))) (cond (is_idle (queue c h o)) (noticed (registered c h o)) []) (given_small priority bytes (first (receivers c h o)) le) (noticed_small (is_idle (queue c h o)) (registered c h o))

  at : (b : Bool) → AllSmall (cond b [] ((sid, Sent) ∷ receiver_answers priority bytes (first (receivers c h o)) ++ cond (is_idle (queue c h o)) (noticed (registered c h o)) []))
  at true = tt
  at false = (tt, others)

received_small : (sid : Sid) (m : Option Send) (sender : Option Send) → ((n : Send) → m ≡ Some n → length n.bytes ≤ HARD_MSGSIZE_MAX) → AllSmall (received sid m sender)
received_small sid None sender short = tt
received_small sid (Some m) sender short = (short m refl, let_in_small sender)

next_short : (c : Config) (h : History) (o : ℕ) → LimitsMessages c → Legal c h → (m : Send) → next (contents c h o) ≡ Some m → length m.bytes ≤ HARD_MSGSIZE_MAX
next_short c h o soft legal m e = fits_range c h o (length m.bytes) soft legal (each_greatest (λ (n : Send). Fits (attributes c h o) (length n.bytes)) (λ n. n.priority) (contents c h o) m (inside_fits c h o legal) e)

by_held_small : (w : Option Held) (answered : ℕ → List (Sid × Answer)) → ((x : Held) → w ≡ Some x → AllSmall (answered x.object)) → AllSmall (answers_of w answered)
by_held_small None answered all = tt
by_held_small (Some x) answered all = all x refl

wait_small : (c : Config) (h : History) (sid : Sid) (o : ℕ) → AllSmall (wait_answers c h sid o)
wait_small c h sid o = at (is_zero c h o) where
  at : (b : Bool) → AllSmall (cond b [] ((sid, Done) ∷ []))
  at true = tt
  at false = (tt, tt)

attributes_small : (c : Config) (h : History) (sid : Sid) (d : ℕ) → AllSmall (attributes_told c h sid d)
attributes_small c h sid d = at (holds h sid.0 d) refl where
  with_attributes : (o : ℕ) (w : Option Attributes) → attributes c h o ≡ w → (x : Held) → x.object ≡ o → holds h sid.0 d ≡ Some x → AllSmall (attributes_told c h sid d)
  with_attributes o None e x same k = rw k (rw same (rw e tt))
  with_attributes o (Some y) e x same k = rw k (rw same (rw e (tt, tt)))

  at : (w : Option Held) → holds h sid.0 d ≡ w → AllSmall (attributes_told c h sid d)
  at None e = rw e tt
  at (Some x) e = with_attributes x.object (attributes c h x.object) refl x refl e

told_small : (sid : Sid) (w : Option Facts) → AllSmall (stat_answers sid w)
told_small sid None = tt
told_small sid (Some found) = (tt, tt)

accepted_small : (c : Config) (h : History) (e : Event) → LimitsMessages c → Legal c h → verdict c h e ≡ None → AllSmall (accepted_answers c h e)
accepted_small c h (Hello found) soft legal accepted = (tt, tt)
accepted_small c h (Do sid (MqSend desc priority bytes)) soft legal accepted = by_held_small (holds h sid.0 desc.0) (send_answers c h sid priority bytes) (λ x held. sent_small c h sid priority bytes x.object (fits_range c h x.object (length bytes) soft legal (send_fits c h sid desc priority bytes x accepted held)))
accepted_small c h (Do sid (MqReceive desc length')) soft legal accepted = by_held_small (holds h sid.0 desc.0) (receive_answers c h sid) (λ x held. received_small sid (next (contents c h x.object)) (first (senders c h x.object)) (next_short c h x.object soft legal))
accepted_small c h (Do sid (MqGetattr desc)) soft legal accepted = attributes_small c h sid desc.0
accepted_small c h (Do sid (MqSetattr desc nonblock)) soft legal accepted = attributes_small c h sid desc.0
accepted_small c h (Do sid (MqGive desc taker)) soft legal accepted = (tt, (tt, tt))
accepted_small c h (Do sid (SemPost desc)) soft legal accepted = by_held_small (holds h sid.0 desc.0) (post_answers c h sid) (λ x held. (tt, let_through_small (first (waiters c h x.object))))
accepted_small c h (Do sid (SemWait desc)) soft legal accepted = by_held_small (holds h sid.0 desc.0) (wait_answers c h sid) (λ x held. wait_small c h sid x.object)
accepted_small c h (Do sid (SemGetvalue desc)) soft legal accepted = by_held_small (holds h sid.0 desc.0) (value_told c h sid) (λ x held. (tt, tt))
accepted_small c h (Do sid (ListNames family start count)) soft legal accepted = ((page_le start count (names h family), each_paged (λ name. length name ≤ 256) start count (names h family) (names_short c h family legal)), tt)
accepted_small c h (Do sid (StatName target)) soft legal accepted = told_small sid (facts_meant c h target)
accepted_small c h (Do sid (Audit start count)) soft legal accepted = ((page_le start count (lines h), each_paged (λ (line : Line). length line.name ≤ 256) start count (lines h) (lines_short h)), tt)
accepted_small c h (Do sid Interrupt) soft legal accepted = (tt, (tt, tt))
accepted_small c h (Do sid (MqTimedSend desc priority until bytes)) soft legal accepted = by_held_small (holds h sid.0 desc.0) (send_answers c h sid priority bytes) (λ x held. sent_small c h sid priority bytes x.object (fits_range c h x.object (length bytes) soft legal (send_fits c h sid desc priority bytes x (sym (plain_accepted c h (Do sid (MqTimedSend desc priority until bytes)) (sym accepted))) held)))
accepted_small c h (Do sid (MqTimedReceive desc size until)) soft legal accepted = by_held_small (holds h sid.0 desc.0) (receive_answers c h sid) (λ x held. received_small sid (next (contents c h x.object)) (first (senders c h x.object)) (next_short c h x.object soft legal))
accepted_small c h (Do sid (SemTimedWait desc until)) soft legal accepted = by_held_small (holds h sid.0 desc.0) (wait_answers c h sid) (λ x held. wait_small c h sid x.object)
accepted_small c h (Do sid call) soft legal accepted = (tt, tt)
accepted_small c h (Hangup sid) soft legal accepted = tt
accepted_small c h (Tick moment) soft legal accepted = ticked_small (due c h moment)

-- a refusal too
small_by_verdict : (c : Config) (h : History) (e : Event) (r : Option Rule) → LimitsMessages c → Legal c h → verdict c h e ≡ r → AllSmall (answers_at r c h e)
small_by_verdict c h e (Some rule) soft legal is = (tt, tt)
small_by_verdict c h e None soft legal is = accepted_small c h e soft legal is

pub answers_small : EachAnswerIsSmall
unfolding answers
answers_small c h e soft legal = small_by_verdict c h e (verdict c h e) soft legal refl

-- and so each in an outbox
each_second : (ps : List (Sid × Answer)) → AllSmall ps → Each (IsSmall HARD_MSGSIZE_MAX) (map (λ p. p.1) ps)
each_second [] all = tt
each_second (p ∷ ps) all = (all.0, each_second ps all.1)

for_small : (s : ℕ) (ps : List (Sid × Answer)) → AllSmall ps → Each (IsSmall HARD_MSGSIZE_MAX) (for_session s ps)
for_small s ps all = each_second (filter (λ p. eqb p.0.0 s) ps) (each_filter (λ (p : Sid × Answer). IsSmall HARD_MSGSIZE_MAX p.1) (λ (p : Sid × Answer). IsSmall HARD_MSGSIZE_MAX p.1) (λ p. eqb p.0.0 s) ps (λ p e k. k) all)

pub outbox_small : EachOutboxIsSmall
unfolding outbox
outbox_small c [] s soft legal = tt
outbox_small c (r ∷ h) s soft legal = each_append (IsSmall HARD_MSGSIZE_MAX) (outbox c h s) (cond (live (r ∷ h) s) (for_session s (answers c h r.event)) []) (outbox_small c h s soft legal.1) (at (live (r ∷ h) s)) where
  at : (b : Bool) → Each (IsSmall HARD_MSGSIZE_MAX) (cond b (for_session s (answers c h r.event)) [])
  at true = for_small s (answers c h r.event) (answers_small c h r.event soft legal.1)
  at false = tt
