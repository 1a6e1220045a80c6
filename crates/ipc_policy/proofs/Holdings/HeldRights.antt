-- What a session holds outlives everything but its end, and decides alone what is refused to a call by it.
use Rattle.std.proofs.Common.{◌≡◌, ℕ, Bool, true, false, not, ◌&&◌, ◌||◌, eqb, cond, nat_le, nat_lt, List, [], ◌∷◌, length, Option, Some, None, is_some, is_none, refl, sym, ap, subst, ◌∙◌, arith}
use Rattle.std.specs.Prelude.{◌==◌, find, option_and_then}
use Rattle.std.specs.Option.{option_map}
use Rattle.std.proofs.lemmas.Bool.{eq-eqb, ne_eqb}
use Rattle.ipc_terms.specs.Rules.{every_rule}
use Rattle.ipc_terms.specs.Names.{same_family}
use Rattle.ipc_terms.specs.Timed.{plain_call, deadline_of}
use Rattle.ipc_terms.specs.Objects.{family_of, as_queue, as_semaphore}
use Rattle.ipc_terms.specs.declared.rule.Rule.{Rule}
use Rattle.ipc_terms.specs.declared.rule.Rule.TheVariants.{NoSession, InCall, NotInCall, BadDescr, NotForWrite, NotForRead, DescrLimit, PrioRange, MessageLong, BufferShort, NotifyTaken, WouldBlock, Overflow, TimedOut, NoTaker}
use Rattle.ipc_terms.specs.declared.ids.Sid.{Sid}
use Rattle.ipc_terms.specs.declared.ids.Desc.{Desc}
use Rattle.ipc_terms.specs.declared.ids.Family.{Family}
use Rattle.ipc_terms.specs.declared.ids.Family.TheVariants.{Mq, Sem}
use Rattle.ipc_terms.specs.declared.object.Object.{Object}
use Rattle.ipc_terms.specs.declared.object.Kind.{Kind}
use Rattle.ipc_terms.specs.declared.object.Kind.TheVariants.{Queue, Semaphore}
use Rattle.ipc_terms.specs.declared.object.TheConstants.{SEM_VALUE_MAX}
use Rattle.ipc_terms.specs.declared.call.Attributes.{Attributes}
use Rattle.ipc_terms.specs.declared.call.Call.{Call}
use Rattle.ipc_terms.specs.declared.call.Call.TheVariants.{MqOpen, MqClose, MqSend, MqReceive, MqGetattr, MqSetattr, MqNotify, MqGive, SemOpen, SemClose, SemPost, SemWait, SemTryWait, SemGetvalue, MqTimedSend, MqTimedReceive, SemTimedWait}
use Rattle.ipc_terms.specs.declared.record.Event.{Event}
use Rattle.ipc_terms.specs.declared.record.Event.TheVariants.{Hello, Do, Hangup, Tick}
use Rattle.ipc_policy.specs.declared.config.Config.{Config}
use Rattle.ipc_policy.specs.declared.config.TheConstants.{DESCRIPTIONS_MAX}
use Rattle.ipc_policy.specs.declared.config.Held.{Held}
use Rattle.ipc_policy.specs.declared.asking.Described.{Described}
use Rattle.ipc_policy.specs.Decides.History.{History, after_accepted, is_some_and}
use Rattle.ipc_policy.specs.Decides.Names.{creations, bound}
use Rattle.ipc_policy.specs.Decides.Objects.{object}
use Rattle.ipc_policy.specs.Decides.Descriptions.{opens, held, if_of, holds, is_nonblock, ends_held}
use Rattle.ipc_policy.specs.Decides.Queues.{Send, has_none, attributes}
use Rattle.ipc_policy.specs.Decides.Timed.{now, is_past}
use Rattle.ipc_policy.specs.Decides.Registrations.{registered}
use Rattle.ipc_policy.specs.Decides.Bodies.{contents, is_full, is_empty, value, is_zero, is_greatest}
use Rattle.ipc_policy.specs.Decides.Parking.{parked}
use Rattle.ipc_policy.specs.Follows.Grow.{held_after}
use Rattle.ipc_policy.specs.Decides.Rules.{is_of_family, not_held, attributes_held, described, reads_only, writes_only, is_interrupt, forbids, no_session, in_call, not_in_call, name_form, name_long, not_admin, no_user, bad_descr, not_for_write, not_for_read, dir_search, dir_read, absent, present, mode_denied, dir_write, sticky, not_owner, chown_denied, attr_range, value_range, queue_count, byte_limit, descr_limit, prio_range, message_long, buffer_short, notify_taken, would_block, overflow, bad_key, would_park, timed_out, plainly, no_taker}
use Rattle.ipc_policy.specs.Decides.Verdict.{verdict}
use Rattle.ipc_policy.specs.Follows.Rights.{SameObject, SameByDescription, taker_of, SameTaker}
use Rattle.ipc_policy.proofs.Holdings.Holding.{held_below, held_grows, given_held}
use Rattle.ipc_policy.proofs.Directories.Creating.{holds_is_held}
use Rattle.ipc_policy.proofs.Histories.Unforbidden.{described_plain}

-- what is held stays, unless it ends
kept_unless : (b : Bool) (x : Held) → b ≡ false → cond b None (Some x) ≡ Some x
kept_unless true x off = absurd cc
kept_unless false x off = refl

earlier : (h : History) (d : ℕ) (x : Held) → held h d ≡ Some x → eqb (opens h) d ≡ false
earlier h d x is = ne_eqb (opens h) d (λ (q : opens h ≡ d). absurd (let lt = held_below h d (ap is_some is) in omega arith))

stays_at : (h : History) (e : Event) (d : ℕ) (x : Held) → eqb (opens h) d ≡ false → ends_held d x e ≡ false → held_after d e (opens h) (bound h) (creations h) (Some x) ≡ Some x
stays_at h (Hello found) d x below off = refl
stays_at h (Do sid (MqOpen asked)) d x below off = rw below refl
stays_at h (Do sid (SemOpen asked)) d x below off = rw below refl
stays_at h (Do sid (MqGive desc taker)) d x below off = rw off refl
stays_at h (Do sid call) d x below off = kept_unless (ends_held d x (Do sid call)) x off
stays_at h (Hangup sid) d x below off = kept_unless (ends_held d x (Hangup sid)) x off
stays_at h (Tick moment) d x below off = kept_unless (ends_held d x (Tick moment)) x off

held_stays : (h : History) (e : Event) (d : ℕ) (x : Held) → held h d ≡ Some x → ends_held d x e ≡ false → held (after_accepted h e) d ≡ Some x
held_stays h e d x is off = held_grows h e d ∙ ap (held_after d e (opens h) (bound h) (creations h)) is ∙ stays_at h e d x (earlier h d x is) off

pub held_outlives : (h : History) (e : Event) (s d : ℕ) (x : Held) → holds h s d ≡ Some x → ends_held d x e ≡ false → holds (after_accepted h e) s d ≡ Some x
unfolding holds
held_outlives h e s d x is off =
    let there = holds_is_held h s d x is in
    ap (option_and_then (if_of s)) (held_stays h e d x there off ∙ sym there) ∙ is

-- and where it is given, the taker holds it
mine_now : (y : Held) → if_of y.session.0 y ≡ Some y
mine_now y = rw (eq-eqb y.session.0 y.session.0 refl) refl

pub held_handed_over : (h : History) (sid taker : Sid) (desc : Desc) (x : Held) → holds h sid.0 desc.0 ≡ Some x → holds (after_accepted h (Do sid (MqGive desc taker))) taker.0 desc.0 ≡ Some (record x { session = taker })
unfolding holds
held_handed_over h sid taker desc x is = ap (option_and_then (if_of taker.0)) (given_held h sid taker desc x is) ∙ mine_now (record x { session = taker })

-- what is found by description is found alike in both histories
by_held : {A : Type 0} (c : Config) (h k : History) (s d : ℕ) → SameByDescription c h k s d → (f g : Option Held → A) → f None ≡ g None → ((x : Held) → SameObject c h k x.object → f (Some x) ≡ g (Some x)) → f (holds h s d) ≡ g (holds k s d)
by_held c h k s d same f g none some = at (holds h s d) refl ∙ ap g same.held where
  at : (w : Option Held) → holds h s d ≡ w → f w ≡ g w
  at None e = none
  at (Some x) e = some x (same.object x e)

-- the family of an object decides whether it is of a family
abbrev family_in : Option Object → Option Family
family_in o = option_map (λ x. family_of x.kind) o

asked_family : (f : Family) (o : Option Object) → is_of_family f o ≡ is_some_and (λ g. same_family g f) (family_in o)
asked_family f None = refl
asked_family f (Some x) = refl

not_held_alike : (c : Config) (h k : History) (s : ℕ) (f : Family) (d : ℕ) → SameByDescription c h k s d → not_held c h s f d ≡ not_held c k s f d
not_held_alike c h k s f d same =
    by_held c h k s d same (λ w. not (is_of_family f (option_and_then (λ x. object c h x.object) w))) (λ w. not (is_of_family f (option_and_then (λ x. object c k x.object) w))) refl
    (λ x at. ap not (asked_family f (object c h x.object) ∙ ap (is_some_and (λ g. same_family g f)) at.family ∙ sym (asked_family f (object c k x.object))))

attributes_alike : (c : Config) (h k : History) (s d : ℕ) → SameByDescription c h k s d → attributes_held c h s d ≡ attributes_held c k s d
attributes_alike c h k s d same =
    by_held c h k s d same (λ w. as_queue (option_and_then (λ x. object c h x.object) w)) (λ w. as_queue (option_and_then (λ x. object c k x.object) w)) refl (λ x at. at.attributes)

-- how many messages there are decides whether a queue is full, and whether it is empty
abbrev full_by : ℕ → Option Attributes → Bool
full_by n given = is_some_and (λ x. nat_le x.maxmsg n) given

full_alike : (c : Config) (h k : History) (o : ℕ) → SameObject c h k o → is_full c h o ≡ is_full c k o
full_alike c h k o at = ap (λ n. full_by n (attributes c h o)) at.messages ∙ ap (full_by (length (contents c k o))) at.attributes

none_counted : (xs : List Send) → has_none xs ≡ eqb (length xs) 0
none_counted [] = refl
none_counted (x ∷ xs) = sym (ne_eqb (length (x ∷ xs)) 0 (λ (q : length (x ∷ xs) ≡ 0). absurd (omega arith)))

empty_alike : (c : Config) (h k : History) (o : ℕ) → SameObject c h k o → is_empty c h o ≡ is_empty c k o
empty_alike c h k o at =
    ap (λ b. is_some_and (λ x. b) (attributes c h o)) (none_counted (contents c h o) ∙ ap (λ n. eqb n 0) at.messages ∙ sym (none_counted (contents c k o)))
    ∙ ap (is_some_and (λ x. has_none (contents c k o))) at.attributes

-- what is of the family of semaphores is a semaphore
asked_semaphore : (b : Bool) (o : Option Object) → is_some_and (λ first_value. b) (as_semaphore o) ≡ is_some_and (λ g. same_family g Sem && b) (family_in o)
asked_semaphore b None = refl
asked_semaphore b (Some x) = at x.kind where
  at : (kind : Kind) → is_some_and (λ first_value. b) (as_semaphore (Some (record { creator = x.creator; kind = kind }))) ≡ is_some_and (λ g. same_family g Sem && b) (family_in (Some (record { creator = x.creator; kind = kind })))
  at (Queue given) = refl
  at (Semaphore first_value) = refl

value_alike : (c : Config) (h k : History) (o n : ℕ) → SameObject c h k o → is_some_and (λ first_value. value c h o == n) (as_semaphore (object c h o)) ≡ is_some_and (λ first_value. value c k o == n) (as_semaphore (object c k o))
value_alike c h k o n at =
    ap (λ v. is_some_and (λ first_value. v == n) (as_semaphore (object c h o))) at.value
    ∙ asked_semaphore (value c k o == n) (object c h o)
    ∙ ap (is_some_and (λ g. same_family g Sem && (value c k o == n))) at.family
    ∙ sym (asked_semaphore (value c k o == n) (object c k o))

-- a call by this description
abbrev naming_it : Family → Desc → Described
naming_it family desc = record { family = family; desc = desc }

at_desc : (c : Config) (h k : History) (s : ℕ) (family : Family) (desc : Desc) (named : Described) → Some (naming_it family desc) ≡ Some named → SameByDescription c h k s named.desc.0 → SameByDescription c h k s desc.0
at_desc c h k s family desc named is same = subst (λ (x : Described). SameByDescription c h k s x.desc.0) (sym one) same where
  one : naming_it family desc ≡ named
  one = cc

none_of : {A : Type 0} (w : Option A) → is_none w ≡ not (is_some w)
none_of None = refl
none_of (Some x) = refl

-- the rules that ask about a session, a description, what is sent by it or to whom it is given; a call by description is asked
-- no other
abbrev by_description : Rule → Config → History → Event → Bool
by_description NoSession = no_session
by_description InCall = in_call
by_description NotInCall = not_in_call
by_description BadDescr = plainly bad_descr
by_description NotForWrite = plainly not_for_write
by_description NotForRead = plainly not_for_read
by_description DescrLimit = descr_limit
by_description PrioRange = plainly prio_range
by_description MessageLong = plainly message_long
by_description BufferShort = plainly buffer_short
by_description NotifyTaken = notify_taken
by_description WouldBlock = plainly would_block
by_description Overflow = overflow
by_description TimedOut = timed_out
by_description NoTaker = no_taker
by_description _ = λ c h e. false

asked_no_other : (c : Config) (h : History) (sid : Sid) (call : Call) (named : Described) → described call ≡ Some named → verdict c h (Do sid call) ≡ find (λ rule. by_description rule c h (Do sid call)) every_rule
unfolding verdict forbids name_form name_long not_admin no_user dir_search dir_read absent present mode_denied dir_write sticky not_owner chown_denied attr_range value_range queue_count byte_limit bad_key
asked_no_other c h sid (MqClose desc) named is = refl
asked_no_other c h sid (MqSend desc priority bytes) named is = refl
asked_no_other c h sid (MqReceive desc length') named is = refl
asked_no_other c h sid (MqGetattr desc) named is = refl
asked_no_other c h sid (MqSetattr desc nonblock) named is = refl
asked_no_other c h sid (MqNotify desc on) named is = refl
asked_no_other c h sid (MqGive desc taker) named is = refl
asked_no_other c h sid (SemClose desc) named is = refl
asked_no_other c h sid (SemPost desc) named is = refl
asked_no_other c h sid (SemWait desc) named is = refl
asked_no_other c h sid (SemTryWait desc) named is = refl
asked_no_other c h sid (SemGetvalue desc) named is = refl
asked_no_other c h sid (MqTimedSend desc priority until bytes) named is = refl
asked_no_other c h sid (MqTimedReceive desc size until) named is = refl
asked_no_other c h sid (SemTimedWait desc until) named is = refl
asked_no_other c h sid call named is = absurd cc

-- each of them forbids alike
bad_descr_alike : (c : Config) (h k : History) (sid : Sid) (call : Call) (named : Described) → described call ≡ Some named → SameByDescription c h k sid.0 named.desc.0 → bad_descr c h (Do sid call) ≡ bad_descr c k (Do sid call)
unfolding bad_descr
bad_descr_alike c h k sid call named is same =
    ap (is_some_and (λ n. not_held c h sid.0 n.family n.desc.0)) is
    ∙ not_held_alike c h k sid.0 named.family named.desc.0 same
    ∙ sym (ap (is_some_and (λ n. not_held c k sid.0 n.family n.desc.0)) is)

not_for_write_alike : (c : Config) (h k : History) (sid : Sid) (call : Call) (named : Described) → described call ≡ Some named → SameByDescription c h k sid.0 named.desc.0 → not_for_write c h (Do sid call) ≡ not_for_write c k (Do sid call)
unfolding not_for_write
not_for_write_alike c h k sid (MqSend desc priority bytes) named is same = ap (is_some_and (λ (x : Held). reads_only x.access)) (at_desc c h k sid.0 Mq desc named is same).held
not_for_write_alike c h k sid call named is same = refl

not_for_read_alike : (c : Config) (h k : History) (sid : Sid) (call : Call) (named : Described) → described call ≡ Some named → SameByDescription c h k sid.0 named.desc.0 → not_for_read c h (Do sid call) ≡ not_for_read c k (Do sid call)
unfolding not_for_read
not_for_read_alike c h k sid (MqReceive desc length') named is same = ap (is_some_and (λ (x : Held). writes_only x.access)) (at_desc c h k sid.0 Mq desc named is same).held
not_for_read_alike c h k sid call named is same = refl

prio_alike : (c : Config) (h k : History) (sid : Sid) (call : Call) → prio_range c h (Do sid call) ≡ prio_range c k (Do sid call)
unfolding prio_range
prio_alike c h k sid (MqSend desc priority bytes) = refl
prio_alike c h k sid call = refl

message_alike : (c : Config) (h k : History) (sid : Sid) (call : Call) (named : Described) → described call ≡ Some named → SameByDescription c h k sid.0 named.desc.0 → message_long c h (Do sid call) ≡ message_long c k (Do sid call)
unfolding message_long
message_alike c h k sid (MqSend desc priority bytes) named is same = ap (is_some_and (λ (x : Attributes). nat_lt x.msgsize (length bytes))) (attributes_alike c h k sid.0 desc.0 (at_desc c h k sid.0 Mq desc named is same))
message_alike c h k sid call named is same = refl

buffer_alike : (c : Config) (h k : History) (sid : Sid) (call : Call) (named : Described) → described call ≡ Some named → SameByDescription c h k sid.0 named.desc.0 → buffer_short c h (Do sid call) ≡ buffer_short c k (Do sid call)
unfolding buffer_short
buffer_alike c h k sid (MqReceive desc length') named is same = ap (is_some_and (λ (x : Attributes). nat_lt length' x.msgsize)) (attributes_alike c h k sid.0 desc.0 (at_desc c h k sid.0 Mq desc named is same))
buffer_alike c h k sid call named is same = refl

notify_alike : (c : Config) (h k : History) (sid : Sid) (call : Call) (named : Described) → described call ≡ Some named → SameByDescription c h k sid.0 named.desc.0 → notify_taken c h (Do sid call) ≡ notify_taken c k (Do sid call)
unfolding notify_taken
notify_alike c h k sid (MqNotify desc on) named is same =
    ap (λ b. on && b) (by_held c h k sid.0 desc.0 (at_desc c h k sid.0 Mq desc named is same) (is_some_and (λ x. is_some (registered c h x.object))) (is_some_and (λ x. is_some (registered c k x.object))) refl (λ x at. at.registered))
notify_alike c h k sid call named is same = refl

block_alike : (c : Config) (h k : History) (sid : Sid) (call : Call) (named : Described) → described call ≡ Some named → SameByDescription c h k sid.0 named.desc.0 → would_block c h (Do sid call) ≡ would_block c k (Do sid call)
unfolding would_block
block_alike c h k sid (MqSend desc priority bytes) named is same =
    let mine = at_desc c h k sid.0 Mq desc named is same in
    ap (λ b. b && is_some_and (λ (x : Held). is_full c h x.object) (holds h sid.0 desc.0)) mine.nonblock
    ∙ ap (λ b. is_nonblock k desc.0 && b) (by_held c h k sid.0 desc.0 mine (is_some_and (λ x. is_full c h x.object)) (is_some_and (λ x. is_full c k x.object)) refl (λ x at. full_alike c h k x.object at))
block_alike c h k sid (MqReceive desc length') named is same =
    let mine = at_desc c h k sid.0 Mq desc named is same in
    ap (λ b. b && is_some_and (λ (x : Held). is_empty c h x.object) (holds h sid.0 desc.0)) mine.nonblock
    ∙ ap (λ b. is_nonblock k desc.0 && b) (by_held c h k sid.0 desc.0 mine (is_some_and (λ x. is_empty c h x.object)) (is_some_and (λ x. is_empty c k x.object)) refl (λ x at. empty_alike c h k x.object at))
block_alike c h k sid (SemTryWait desc) named is same =
    by_held c h k sid.0 desc.0 (at_desc c h k sid.0 Sem desc named is same) (is_some_and (λ x. is_zero c h x.object)) (is_some_and (λ x. is_zero c k x.object)) refl (λ x at. value_alike c h k x.object 0 at)
block_alike c h k sid call named is same = refl

overflow_alike : (c : Config) (h k : History) (sid : Sid) (call : Call) (named : Described) → described call ≡ Some named → SameByDescription c h k sid.0 named.desc.0 → overflow c h (Do sid call) ≡ overflow c k (Do sid call)
unfolding overflow
overflow_alike c h k sid (SemPost desc) named is same =
    by_held c h k sid.0 desc.0 (at_desc c h k sid.0 Sem desc named is same) (is_some_and (λ x. is_greatest c h x.object)) (is_some_and (λ x. is_greatest c k x.object)) refl (λ x at. value_alike c h k x.object SEM_VALUE_MAX at)
overflow_alike c h k sid call named is same = refl

park_alike : (c : Config) (h k : History) (sid : Sid) (call : Call) (named : Described) → described call ≡ Some named → SameByDescription c h k sid.0 named.desc.0 → would_park c h (Do sid call) ≡ would_park c k (Do sid call)
park_alike c h k sid (MqSend desc priority bytes) named is same = by_held c h k sid.0 desc.0 (at_desc c h k sid.0 Mq desc named is same) (is_some_and (λ x. is_full c h x.object)) (is_some_and (λ x. is_full c k x.object)) refl (λ x at. full_alike c h k x.object at)
park_alike c h k sid (MqReceive desc length') named is same = by_held c h k sid.0 desc.0 (at_desc c h k sid.0 Mq desc named is same) (is_some_and (λ x. is_empty c h x.object)) (is_some_and (λ x. is_empty c k x.object)) refl (λ x at. empty_alike c h k x.object at)
park_alike c h k sid (SemWait desc) named is same = by_held c h k sid.0 desc.0 (at_desc c h k sid.0 Sem desc named is same) (is_some_and (λ x. is_zero c h x.object)) (is_some_and (λ x. is_zero c k x.object)) refl (λ x at. value_alike c h k x.object 0 at)
park_alike c h k sid call named is same = refl

timed_alike : (c : Config) (h k : History) (sid : Sid) (call : Call) (named : Described) → described call ≡ Some named → SameByDescription c h k sid.0 named.desc.0 → timed_out c h (Do sid call) ≡ timed_out c k (Do sid call)
unfolding timed_out
timed_alike c h k sid call named is same =
    ap (λ t. is_past t (deadline_of call) && would_park c h (Do sid (plain_call call))) same.time
    ∙ ap (λ b. is_past (now k) (deadline_of call) && b) (park_alike c h k sid (plain_call call) named (described_plain call ∙ is) same)

-- the taker decides whether a give is refused for it
descr_alike : (c : Config) (h k : History) (sid : Sid) (call : Call) (named : Described) → described call ≡ Some named → SameTaker h k (taker_of call) → descr_limit c h (Do sid call) ≡ descr_limit c k (Do sid call)
unfolding descr_limit
descr_alike c h k sid (MqGive desc taker) named is takers = ap (nat_le DESCRIPTIONS_MAX) takers.1
descr_alike c h k sid (MqOpen asked) named is takers = absurd cc
descr_alike c h k sid (SemOpen asked) named is takers = absurd cc
descr_alike c h k sid call named is takers = refl

taker_alike : (c : Config) (h k : History) (sid : Sid) (call : Call) → SameTaker h k (taker_of call) → no_taker c h (Do sid call) ≡ no_taker c k (Do sid call)
unfolding no_taker
taker_alike c h k sid (MqGive desc taker) takers = ap (λ b. not b || eqb taker.0 sid.0) takers.0
taker_alike c h k sid call takers = refl

forbid_alike : (c : Config) (h k : History) (sid : Sid) (call : Call) (named : Described) → described call ≡ Some named → SameByDescription c h k sid.0 named.desc.0 → SameTaker h k (taker_of call) → (rule : Rule) → by_description rule c h (Do sid call) ≡ by_description rule c k (Do sid call)
unfolding no_session in_call not_in_call
forbid_alike c h k sid call named is same takers NoSession = ap not same.live
forbid_alike c h k sid call named is same takers InCall = ap (λ b. not (is_interrupt call) && b) same.parked
forbid_alike c h k sid call named is same takers NotInCall = ap (λ b. is_interrupt call && b) (none_of (parked c h sid.0) ∙ ap not same.parked ∙ sym (none_of (parked c k sid.0)))
forbid_alike c h k sid call named is same takers BadDescr = bad_descr_alike c h k sid (plain_call call) named (described_plain call ∙ is) same
forbid_alike c h k sid call named is same takers NotForWrite = not_for_write_alike c h k sid (plain_call call) named (described_plain call ∙ is) same
forbid_alike c h k sid call named is same takers NotForRead = not_for_read_alike c h k sid (plain_call call) named (described_plain call ∙ is) same
forbid_alike c h k sid call named is same takers DescrLimit = descr_alike c h k sid call named is takers
forbid_alike c h k sid call named is same takers PrioRange = prio_alike c h k sid (plain_call call)
forbid_alike c h k sid call named is same takers MessageLong = message_alike c h k sid (plain_call call) named (described_plain call ∙ is) same
forbid_alike c h k sid call named is same takers BufferShort = buffer_alike c h k sid (plain_call call) named (described_plain call ∙ is) same
forbid_alike c h k sid call named is same takers NotifyTaken = notify_alike c h k sid call named is same
forbid_alike c h k sid call named is same takers WouldBlock = block_alike c h k sid (plain_call call) named (described_plain call ∙ is) same
forbid_alike c h k sid call named is same takers Overflow = overflow_alike c h k sid call named is same
forbid_alike c h k sid call named is same takers TimedOut = timed_alike c h k sid call named is same
forbid_alike c h k sid call named is same takers NoTaker = taker_alike c h k sid call takers
forbid_alike c h k sid call named is same takers rule = refl

-- so the first that forbids is the same
find_alike : (f g : Rule → Bool) (rules : List Rule) → ((rule : Rule) → f rule ≡ g rule) → find f rules ≡ find g rules
find_alike f g [] same = refl
find_alike f g (rule ∷ rules) same = ap (λ b. cond b (Some rule) (find f rules)) (same rule) ∙ ap (cond (g rule) (Some rule)) (find_alike f g rules same)

pub rights_by_description : (c : Config) (h k : History) (sid : Sid) (call : Call) (named : Described) → described call ≡ Some named → SameByDescription c h k sid.0 named.desc.0 → SameTaker h k (taker_of call) → verdict c h (Do sid call) ≡ verdict c k (Do sid call)
rights_by_description c h k sid call named is same takers =
    asked_no_other c h sid call named is
    ∙ find_alike (λ rule. by_description rule c h (Do sid call)) (λ rule. by_description rule c k (Do sid call)) every_rule (forbid_alike c h k sid call named is same takers)
    ∙ sym (asked_no_other c k sid call named is)
