-- An accepted call that does not park is answered to its session, before anybody else; one that parks answers nobody.
use Rattle.std.proofs.Common.{◌≡◌, ℕ, Bool, true, false, not, eqb, List, [], ◌∷◌, ◌++◌, length, cond, Option, Some, None, is_some, refl, sym, ap, subst, ◌∙◌}
use Rattle.std.specs.Prelude.{MatchOption, option_and_then}
use Rattle.std.proofs.lemmas.Bool.{eq-eqb}
use Rattle.ipc_terms.specs.Lists.{first}
use Rattle.ipc_terms.specs.Timed.{plain_call, plain}
use Rattle.ipc_terms.specs.declared.rule.Rule.{Rule}
use Rattle.ipc_terms.specs.declared.rule.Rule.TheVariants.{Absent}
use Rattle.ipc_terms.specs.declared.ids.Sid.{Sid}
use Rattle.ipc_terms.specs.declared.ids.Desc.{Desc}
use Rattle.ipc_terms.specs.declared.ids.Family.{Family}
use Rattle.ipc_terms.specs.declared.ids.Family.TheVariants.{Mq, Sem}
use Rattle.ipc_terms.specs.declared.ids.Target.{Target}
use Rattle.ipc_terms.specs.declared.ids.Target.TheVariants.{Dir, Name}
use Rattle.ipc_terms.specs.declared.facts.Facts.{Facts}
use Rattle.ipc_terms.specs.declared.call.Attributes.{Attributes}
use Rattle.ipc_terms.specs.declared.call.Answer.{Answer}
use Rattle.ipc_terms.specs.declared.call.Answer.TheVariants.{Sent, Done, Refused}
use Rattle.ipc_terms.specs.declared.call.Call.{Call}
use Rattle.ipc_terms.specs.declared.call.Call.TheVariants.{Umask, MqOpen, MqClose, MqSend, MqReceive, MqGetattr, MqSetattr, MqNotify, MqGive, MqUnlink, SemOpen, SemClose, SemUnlink, SemPost, SemWait, SemTryWait, SemGetvalue, ListNames, StatName, Chmod, Chown, SetLimit, Interrupt, Audit, MqTimedSend, MqTimedReceive, SemTimedWait}
use Rattle.ipc_terms.specs.declared.record.Event.{Event}
use Rattle.ipc_terms.specs.declared.record.Event.TheVariants.{Hello, Do, Hangup, Tick}
use Rattle.ipc_policy.specs.declared.config.Config.{Config}
use Rattle.ipc_policy.specs.declared.config.Held.{Held}
use Rattle.ipc_policy.specs.Decides.History.{History, is_some_and}
use Rattle.ipc_policy.specs.Decides.Names.{is_bound, bound}
use Rattle.ipc_policy.specs.Decides.Objects.{object, facts}
use Rattle.ipc_policy.specs.Decides.Descriptions.{holds}
use Rattle.ipc_policy.specs.Decides.Queues.{Send, has_none, attributes, next}
use Rattle.ipc_policy.specs.Decides.Registrations.{is_idle, registered}
use Rattle.ipc_policy.specs.Decides.Bodies.{contents, senders, receivers, queue, is_full, is_empty, is_zero}
use Rattle.ipc_policy.specs.Decides.Parking.{ParkedKind, Sending, Receiving, Waiting, Parked, parked_on, plain_parks, parks, seen}
use Rattle.ipc_policy.specs.Follows.Readings.{IsNext}
use Rattle.ipc_policy.specs.Decides.Rules.{would_park, not_held, is_of_family, forbids, no_session, in_call, not_in_call, name_form, name_long, not_admin, no_user, bad_descr, not_for_write, not_for_read, dir_search, dir_read, absent, present, mode_denied, dir_write, sticky, not_owner, chown_denied, attr_range, value_range, queue_count, byte_limit, descr_limit, prio_range, message_long, buffer_short, notify_taken, would_block, overflow, bad_key, timed_out, no_taker}
use Rattle.ipc_policy.specs.Decides.Verdict.{verdict, caller, Legal, answers, answers_at, accepted_answers, answers_of, receiver_answers, noticed, send_answers, received, receive_answers, attributes_told, post_answers, wait_answers, value_told, stat_answers, facts_meant}
use Rattle.ipc_policy.specs.Follows.Ticks.{EachCountsAsPlain, EachWouldPark}
use Rattle.ipc_policy.specs.Follows.Answered.{is_uncalled, IsAnsweredFirst, EachCallIsAnswered, ParkingAnswersNobody, HelloAnswersItsSession, HangupAnswersNobody, RefusalAnswersItsCaller, EachTickIsAnswered}
use Rattle.ipc_policy.proofs.Queues.ActsOf.{queue_given}
use Rattle.ipc_policy.proofs.Directories.Bindings.{bound_made}
use Rattle.ipc_policy.proofs.Lists.EntryOrder.{next_is_greatest}
use Rattle.ipc_policy.proofs.Histories.Known.{bound_iff}
use Rattle.ipc_policy.proofs.Lists.Lengths.{none_is_empty}
use Rattle.ipc_policy.proofs.Histories.Unforbidden.{unforbidden, off, call_free}
use Rattle.ipc_policy.proofs.Histories.PlainForms.{judged_plain}

-- what is answered by the verdict
by_verdict : (c : Config) (h : History) (e : Event) (r : Option Rule) → verdict c h e ≡ r → answers c h e ≡ answers_at r c h e
unfolding answers
by_verdict c h e r is = ap (λ v. answers_at v c h e) is

pub refusal_answered : RefusalAnswersItsCaller
refusal_answered c h e rule is = by_verdict c h e (Some rule) is

pub hello_answered : HelloAnswersItsSession
hello_answered c h found accepted = by_verdict c h _ None accepted

pub hangup_unanswered : HangupAnswersNobody
hangup_unanswered c h sid accepted = by_verdict c h _ None accepted

-- what an accepted call's description gives
record Gives (c : Config) (h : History) (s : ℕ) (family : Family) (d : ℕ) : Type 0 where
  x : Held
  held : holds h s d ≡ Some x
  made : not (is_of_family family (object c h x.object)) ≡ false

given_by : (c : Config) (h : History) (s : ℕ) (family : Family) (d : ℕ) → not_held c h s family d ≡ false → Gives c h s family d
given_by c h s family d known = at (holds h s d) refl where
  at : (w : Option Held) → holds h s d ≡ w → Gives c h s family d
  at None k = absurd (let wrong : true ≡ false = rw k at known in cc)
  at (Some x) k = record { x = x; held = k; made = rw k at known }

-- what does not park does not meet what it would wait for
met : (test : ℕ → Bool) (kind : ParkedKind) (place : ℕ) (b : Bool) (w : Option Held) (x : Held) → b ≡ true → w ≡ Some x → cond b (option_and_then (parked_on test kind place) w) None ≡ None → test x.object ≡ false
met test kind place false w x e k p = absurd cc
met test kind place true w x e k p = at (test x.object) refl (rw k at p) where
  at : (d : Bool) → test x.object ≡ d → cond {A = Option Parked} d (Some (record { object = x.object; place = place; kind = kind })) None ≡ None → test x.object ≡ false
  at true q r = absurd cc
  at false q r = q

-- the first is the session's
first_is : (sid : Sid) (a : Answer) (rest : List (Sid × Answer)) → is_uncalled a ≡ false → IsAnsweredFirst sid ((sid, a) ∷ rest)
first_is sid a rest no_notice = record { answer = a; others = rest; whole = refl; called_for = no_notice }

first_unless : (sid : Sid) (b : Bool) (a : Answer) (rest : List (Sid × Answer)) → b ≡ false → is_uncalled a ≡ false → IsAnsweredFirst sid (cond b [] ((sid, a) ∷ rest))
first_unless sid true a rest e no_notice = absurd cc
first_unless sid false a rest e no_notice = first_is sid a rest no_notice

by_held : (sid : Sid) (w : Option Held) (x : Held) (f : ℕ → List (Sid × Answer)) → w ≡ Some x → IsAnsweredFirst sid (f x.object) → IsAnsweredFirst sid (answers_of w f)
by_held sid w x f held there = subst (λ (v : Option Held). IsAnsweredFirst sid (answers_of v f)) (sym held) there

-- a receive from a queue that is not empty
some_next : (xs : List Send) (w : Option Send) → next xs ≡ w → has_none xs ≡ false → is_some w ≡ true
some_next xs (Some m) e some = refl
some_next xs None e some = absurd (let none : xs ≡ [] = subst (λ (v : Option Send). MatchOption v (xs ≡ []) (λ n. IsNext xs n)) e (next_is_greatest xs) in let wrong : true ≡ false = sym (ap has_none none) ∙ some in cc)

not_empty : (b : Bool) (w : Option Attributes) → is_some w ≡ true → is_some_and (λ x. b) w ≡ false → b ≡ false
not_empty b None there e = absurd cc
not_empty b (Some x) there e = e

received_first : (sid : Sid) (m : Option Send) (sender : Option Send) → is_some m ≡ true → IsAnsweredFirst sid (received sid m sender)
received_first sid None sender e = absurd cc
received_first sid (Some m) sender e = first_is sid _ _ refl

-- what is told of a queue and of a name
attributes_first : (c : Config) (h : History) (sid : Sid) (d : ℕ) → Gives c h sid.0 Mq d → IsAnsweredFirst sid (attributes_told c h sid d)
attributes_first c h sid d given' = at given'.x.object (attributes c h given'.x.object) refl given'.x refl given'.held (queue_given _ given'.made) where
  at : (o : ℕ) (w : Option Attributes) → attributes c h o ≡ w → (x : Held) → x.object ≡ o → holds h sid.0 d ≡ Some x → is_some w ≡ true → IsAnsweredFirst sid (attributes_told c h sid d)
  at o None e x same k there = absurd cc
  at o (Some y) e x same k there = rw k (rw same (rw e (first_is sid _ _ refl)))

told_first : (sid : Sid) (w : Option Facts) → is_some w ≡ true → IsAnsweredFirst sid (stat_answers sid w)
told_first sid None e = absurd cc
told_first sid (Some found) e = first_is sid _ _ refl

name_known : (c : Config) (h : History) (f : Family) (name : List ℕ) (w : Option ℕ) → bound h f name ≡ w → Legal c h → is_some w ≡ true → is_some (option_and_then (facts c h) w) ≡ true
name_known c h f name None e legal there = absurd cc
name_known c h f name (Some o) e legal there = (bound_made c h f name o legal e).1

target_known : (c : Config) (h : History) (sid : Sid) (target : Target) → Legal c h → verdict c h (Do sid (StatName target)) ≡ None → is_some (facts_meant c h target) ≡ true
unfolding forbids absent
target_known c h sid (Dir family) legal accepted = refl
target_known c h sid (Name family name) legal accepted =
    let there : is_bound h family name ≡ true = off _ (unforbidden c h (Do sid (StatName (Name family name))) accepted Absent) in
    name_known c h family name (bound h family name) refl legal (sym (bound_iff h family name) ∙ there)

same_session : (n : ℕ) → eqb n n ≡ true
same_session n = eq-eqb _ _ refl

-- what each accepted call is answered
send_first : (c : Config) (h : History) (sid : Sid) (desc : Desc) (priority : ℕ) (bytes : List ℕ) → Gives c h sid.0 Mq desc.0 → parks c sid.0 (Do sid (MqSend desc priority bytes)) h ≡ None → IsAnsweredFirst sid (answers_of (holds h sid.0 desc.0) (send_answers c h sid priority bytes))
send_first c h sid desc priority bytes given' p = by_held sid (holds h sid.0 desc.0) given'.x (send_answers c h sid priority bytes) given'.held (first_unless sid (is_full c h given'.x.object) Sent (receiver_answers priority bytes (first (receivers c h given'.x.object)) ++ cond (is_idle (queue c h given'.x.object)) (noticed (registered c h given'.x.object)) []) (met (is_full c h) Sending (length h) (eqb sid.0 sid.0) (holds h sid.0 desc.0) given'.x (same_session sid.0) given'.held p) refl)

receive_first : (c : Config) (h : History) (sid : Sid) (desc : Desc) (length' : ℕ) → Gives c h sid.0 Mq desc.0 → parks c sid.0 (Do sid (MqReceive desc length')) h ≡ None → IsAnsweredFirst sid (answers_of (holds h sid.0 desc.0) (receive_answers c h sid))
receive_first c h sid desc length' given' p =
    let o = given'.x.object in
    let some : is_empty c h o ≡ false = met (is_empty c h) Receiving (length h) (eqb sid.0 sid.0) (holds h sid.0 desc.0) given'.x (same_session sid.0) given'.held p in
    by_held sid (holds h sid.0 desc.0) given'.x (receive_answers c h sid) given'.held (received_first sid (next (contents c h o)) (first (senders c h o)) (some_next (contents c h o) (next (contents c h o)) refl (not_empty (has_none (contents c h o)) (attributes c h o) (queue_given _ given'.made) some)))

wait_first : (c : Config) (h : History) (sid : Sid) (desc : Desc) → Gives c h sid.0 Sem desc.0 → parks c sid.0 (Do sid (SemWait desc)) h ≡ None → IsAnsweredFirst sid (answers_of (holds h sid.0 desc.0) (wait_answers c h sid))
wait_first c h sid desc given' p = by_held sid (holds h sid.0 desc.0) given'.x (wait_answers c h sid) given'.held (first_unless sid (is_zero c h given'.x.object) Done [] (met (is_zero c h) Waiting (length h) (eqb sid.0 sid.0) (holds h sid.0 desc.0) given'.x (same_session sid.0) given'.held p) refl)

call_first : (c : Config) (h : History) (sid : Sid) (call : Call) → Legal c h → verdict c h (Do sid call) ≡ None → parks c sid.0 (Do sid call) h ≡ None → IsAnsweredFirst sid (accepted_answers c h (Do sid call))
call_first c h sid (Umask mode) legal accepted p = first_is sid _ _ refl
call_first c h sid (MqOpen asked) legal accepted p = first_is sid _ _ refl
call_first c h sid (MqClose desc) legal accepted p = first_is sid _ _ refl
call_first c h sid (MqSend desc priority bytes) legal accepted p = send_first c h sid desc priority bytes (given_by c h sid.0 Mq desc.0 (call_free c h sid (MqSend desc priority bytes) Mq desc refl refl accepted).held) p
call_first c h sid (MqReceive desc length') legal accepted p = receive_first c h sid desc length' (given_by c h sid.0 Mq desc.0 (call_free c h sid (MqReceive desc length') Mq desc refl refl accepted).held) p
call_first c h sid (MqGetattr desc) legal accepted p = attributes_first c h sid desc.0 (given_by c h sid.0 Mq desc.0 (call_free c h sid (MqGetattr desc) Mq desc refl refl accepted).held)
call_first c h sid (MqSetattr desc nonblock) legal accepted p = attributes_first c h sid desc.0 (given_by c h sid.0 Mq desc.0 (call_free c h sid (MqSetattr desc nonblock) Mq desc refl refl accepted).held)
call_first c h sid (MqNotify desc on) legal accepted p = first_is sid _ _ refl
call_first c h sid (MqGive desc taker) legal accepted p = first_is sid _ _ refl
call_first c h sid (MqUnlink name) legal accepted p = first_is sid _ _ refl
call_first c h sid (SemOpen asked) legal accepted p = first_is sid _ _ refl
call_first c h sid (SemClose desc) legal accepted p = first_is sid _ _ refl
call_first c h sid (SemUnlink name) legal accepted p = first_is sid _ _ refl
call_first c h sid (SemPost desc) legal accepted p = let given' = given_by c h sid.0 Sem desc.0 (call_free c h sid (SemPost desc) Sem desc refl refl accepted).held in by_held sid (holds h sid.0 desc.0) given'.x (post_answers c h sid) given'.held (first_is sid _ _ refl)
call_first c h sid (SemWait desc) legal accepted p = wait_first c h sid desc (given_by c h sid.0 Sem desc.0 (call_free c h sid (SemWait desc) Sem desc refl refl accepted).held) p
call_first c h sid (SemTryWait desc) legal accepted p = first_is sid _ _ refl
call_first c h sid (SemGetvalue desc) legal accepted p = let given' = given_by c h sid.0 Sem desc.0 (call_free c h sid (SemGetvalue desc) Sem desc refl refl accepted).held in by_held sid (holds h sid.0 desc.0) given'.x (value_told c h sid) given'.held (first_is sid _ _ refl)
call_first c h sid (ListNames family start count) legal accepted p = first_is sid _ _ refl
call_first c h sid (StatName target) legal accepted p = told_first sid (facts_meant c h target) (target_known c h sid target legal accepted)
call_first c h sid (Chmod mode target) legal accepted p = first_is sid _ _ refl
call_first c h sid (Chown owner group target) legal accepted p = first_is sid _ _ refl
call_first c h sid (SetLimit uid bytes) legal accepted p = first_is sid _ _ refl
call_first c h sid Interrupt legal accepted p = first_is sid _ _ refl
call_first c h sid (Audit start count) legal accepted p = first_is sid _ _ refl
call_first c h sid (MqTimedSend desc priority until bytes) legal accepted p = send_first c h sid desc priority bytes (given_by c h sid.0 Mq desc.0 (call_free c h sid (MqTimedSend desc priority until bytes) Mq desc refl refl accepted).held) p
call_first c h sid (MqTimedReceive desc size until) legal accepted p = receive_first c h sid desc size (given_by c h sid.0 Mq desc.0 (call_free c h sid (MqTimedReceive desc size until) Mq desc refl refl accepted).held) p
call_first c h sid (SemTimedWait desc until) legal accepted p = wait_first c h sid desc (given_by c h sid.0 Sem desc.0 (call_free c h sid (SemTimedWait desc until) Sem desc refl refl accepted).held) p

pub call_answered : EachCallIsAnswered
call_answered c h sid call legal accepted p = subst (IsAnsweredFirst sid) (sym (by_verdict c h (Do sid call) None accepted)) (call_first c h sid call legal accepted p)

-- what parks
nobody : (test : ℕ → Bool) (kind : ParkedKind) (place : ℕ) (f : ℕ → List (Sid × Answer)) → ((o : ℕ) → test o ≡ true → f o ≡ []) → (b : Bool) (w : Option Held) (p : Parked) → cond b (option_and_then (parked_on test kind place) w) None ≡ Some p → answers_of w f ≡ []
nobody test kind place f none false w p k = absurd cc
nobody test kind place f none true None p k = absurd cc
nobody test kind place f none true (Some x) p k = at (test x.object) refl k where
  at : (d : Bool) → test x.object ≡ d → cond {A = Option Parked} d (Some (record { object = x.object; place = place; kind = kind })) None ≡ Some p → f x.object ≡ []
  at true q r = none x.object q
  at false q r = absurd cc

none_if : (b : Bool) (xs : List (Sid × Answer)) → b ≡ true → cond b [] xs ≡ []
none_if true xs e = refl
none_if false xs e = absurd cc

empty_at : (b : Bool) (w : Option Attributes) → is_some_and (λ x. b) w ≡ true → b ≡ true
empty_at b None e = absurd cc
empty_at b (Some x) e = e

receive_nothing : (c : Config) (h : History) (sid : Sid) (o : ℕ) → is_empty c h o ≡ true → receive_answers c h sid o ≡ []
receive_nothing c h sid o e = ap (λ xs. received sid (next xs) (first (senders c h o))) (none_is_empty (contents c h o) (empty_at (has_none (contents c h o)) (attributes c h o) e))

parking_silent : (c : Config) (h : History) (sid : Sid) (call : Call) (p : Parked) → parks c sid.0 (Do sid call) h ≡ Some p → accepted_answers c h (Do sid call) ≡ []
parking_silent c h sid (MqSend desc priority bytes) p k = nobody (is_full c h) Sending (length h) (send_answers c h sid priority bytes) (λ o e. none_if (is_full c h o) _ e) (eqb sid.0 sid.0) (holds h sid.0 desc.0) p k
parking_silent c h sid (MqReceive desc length') p k = nobody (is_empty c h) Receiving (length h) (receive_answers c h sid) (receive_nothing c h sid) (eqb sid.0 sid.0) (holds h sid.0 desc.0) p k
parking_silent c h sid (SemWait desc) p k = nobody (is_zero c h) Waiting (length h) (wait_answers c h sid) (λ o e. none_if (is_zero c h o) _ e) (eqb sid.0 sid.0) (holds h sid.0 desc.0) p k
parking_silent c h sid (MqTimedSend desc priority until bytes) p k = nobody (is_full c h) Sending (length h) (send_answers c h sid priority bytes) (λ o e. none_if (is_full c h o) _ e) (eqb sid.0 sid.0) (holds h sid.0 desc.0) p k
parking_silent c h sid (MqTimedReceive desc size until) p k = nobody (is_empty c h) Receiving (length h) (receive_answers c h sid) (receive_nothing c h sid) (eqb sid.0 sid.0) (holds h sid.0 desc.0) p k
parking_silent c h sid (SemTimedWait desc until) p k = nobody (is_zero c h) Waiting (length h) (wait_answers c h sid) (λ o e. none_if (is_zero c h o) _ e) (eqb sid.0 sid.0) (holds h sid.0 desc.0) p k
parking_silent c h sid call p k = absurd cc

pub parking_unanswered : ParkingAnswersNobody
parking_unanswered c h sid call p accepted k = by_verdict c h (Do sid call) None accepted ∙ parking_silent c h sid call p k

-- no rule forbids a tick
tick_accepted : (c : Config) (h : History) (moment : ℕ) → verdict c h (Tick moment) ≡ None
unfolding verdict forbids no_session in_call not_in_call name_form name_long not_admin no_user bad_descr not_for_write not_for_read dir_search dir_read absent present mode_denied dir_write sticky not_owner chown_denied attr_range value_range queue_count byte_limit descr_limit prio_range message_long buffer_short notify_taken would_block overflow bad_key timed_out no_taker
tick_accepted c h moment = refl

pub ticks_answered : EachTickIsAnswered
ticks_answered c h moment = record { accepted = tick_accepted c h moment; answered = by_verdict c h (Tick moment) None (tick_accepted c h moment) }

-- an event is answered as without the deadline of its call
plain_answers : (c : Config) (h : History) (e : Event) → accepted_answers c h e ≡ accepted_answers c h (plain e)
plain_answers c h (Hello found) = refl
plain_answers c h (Do sid (MqTimedSend desc priority until bytes)) = refl
plain_answers c h (Do sid (MqTimedReceive desc size until)) = refl
plain_answers c h (Do sid (SemTimedWait desc until)) = refl
plain_answers c h (Do sid call) = refl
plain_answers c h (Hangup sid) = refl
plain_answers c h (Tick moment) = refl

caller_plain : (e : Event) → caller e ≡ caller (plain e)
caller_plain (Hello found) = refl
caller_plain (Do sid call) = refl
caller_plain (Hangup sid) = refl
caller_plain (Tick moment) = refl

alike_at : (c : Config) (h : History) (e : Event) (r : Option Rule) → answers_at r c h e ≡ answers_at r c h (plain e)
alike_at c h e None = plain_answers c h e
alike_at c h e (Some rule) = ap (λ s. (s, Refused rule) ∷ []) (caller_plain e)

plain_answered : (c : Config) (h : History) (e : Event) → verdict c h e ≡ verdict c h (plain e) → answers c h e ≡ answers c h (plain e)
plain_answered c h e same = by_verdict c h e (verdict c h (plain e)) same ∙ alike_at c h e (verdict c h (plain e)) ∙ sym (by_verdict c h (plain e) (verdict c h (plain e)) refl)

pub counts_as_plain : EachCountsAsPlain
counts_as_plain c h e = record { judged = judged_plain c h e; answered = plain_answered c h e }

-- a call by which its own session parks
own_parks : (test : ℕ → Bool) (kind : ParkedKind) (place : ℕ) (b : Bool) (w : Option Held) → b ≡ true → is_some_and (λ x. test x.object) w ≡ is_some (cond b (option_and_then (parked_on test kind place) w) None)
own_parks test kind place false w e = absurd cc
own_parks test kind place true None e = refl
own_parks test kind place true (Some x) e = at (test x.object) where
  at : (d : Bool) → d ≡ is_some (cond {A = Option Parked} d (Some (record { object = x.object; place = place; kind = kind })) None)
  at true = refl
  at false = refl

plain_would_park : (c : Config) (h : History) (sid : Sid) (call : Call) → would_park c h (Do sid call) ≡ is_some (plain_parks (seen c h) sid.0 (Do sid call))
plain_would_park c h sid (MqSend desc priority bytes) = own_parks (is_full c h) Sending (length h) (eqb sid.0 sid.0) (holds h sid.0 desc.0) (same_session sid.0)
plain_would_park c h sid (MqReceive desc length') = own_parks (is_empty c h) Receiving (length h) (eqb sid.0 sid.0) (holds h sid.0 desc.0) (same_session sid.0)
plain_would_park c h sid (SemWait desc) = own_parks (is_zero c h) Waiting (length h) (eqb sid.0 sid.0) (holds h sid.0 desc.0) (same_session sid.0)
plain_would_park c h sid call = refl

pub each_would_park : EachWouldPark
each_would_park c h sid call = plain_would_park c h sid (plain_call call)
