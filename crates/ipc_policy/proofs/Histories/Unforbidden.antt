-- What is accepted is forbidden by no rule, and what follows from that for the session and for what a call names.
use Rattle.std.proofs.Common.{◌≡◌, ℕ, Bool, true, false, not, ◌&&◌, ◌||◌, eqb, nat_lt, Option, Some, None, is_some, is_none, refl, sym, ap, ◌∙◌}
use Rattle.std.specs.Prelude.{MatchOption, option_and_then}
use Rattle.ipc_terms.specs.Flags.{has_create}
use Rattle.ipc_terms.specs.Rules.{every_rule}
use Rattle.ipc_terms.specs.Timed.{plain_call}
use Rattle.ipc_terms.specs.declared.rule.Rule.{Rule}
use Rattle.ipc_terms.specs.declared.rule.Rule.TheVariants.{NoSession, InCall, BadDescr, Absent, AttrRange, ValueRange, WouldBlock, Overflow, BadKey, NoTaker}
use Rattle.ipc_terms.specs.declared.ids.Uid.{Uid}
use Rattle.ipc_terms.specs.declared.ids.Sid.{Sid}
use Rattle.ipc_terms.specs.declared.ids.Desc.{Desc}
use Rattle.ipc_terms.specs.declared.object.TheConstants.{SEM_VALUE_MAX}
use Rattle.ipc_terms.specs.declared.ids.Family.{Family}
use Rattle.ipc_terms.specs.declared.ids.Family.TheVariants.{Mq, Sem}
use Rattle.ipc_terms.specs.declared.call.QueueOpen.{QueueOpen}
use Rattle.ipc_terms.specs.declared.call.SemaphoreOpen.{SemaphoreOpen}
use Rattle.ipc_terms.specs.declared.call.Call.{Call}
use Rattle.ipc_terms.specs.declared.call.Call.TheVariants.{MqOpen, MqGive, SemOpen, SemPost, SemTryWait, MqTimedSend, MqTimedReceive, SemTimedWait}
use Rattle.ipc_terms.specs.declared.record.Event.{Event}
use Rattle.ipc_terms.specs.declared.record.Event.TheVariants.{Hello, Do, Hangup}
use Rattle.ipc_access.specs.declared.class.Cred.{Cred}
use Rattle.ipc_access.specs.Users.{cred_of}
use Rattle.ipc_policy.specs.declared.config.Config.{Config}
use Rattle.ipc_policy.specs.Decides.History.{History}
use Rattle.ipc_policy.specs.Decides.Sessions.{live, cred}
use Rattle.ipc_policy.specs.Decides.Names.{is_bound, creating}
use Rattle.ipc_policy.specs.Decides.Descriptions.{holds}
use Rattle.ipc_policy.specs.Decides.Parking.{parked}
use Rattle.ipc_policy.specs.Decides.Rules.{forbids, no_session, in_call, bad_descr, absent, attr_range, value_range, would_block, overflow, bad_key, no_taker, is_interrupt, Described, described, is_some_and, not_held, out_of_range, is_zero, is_greatest}
use Rattle.ipc_policy.specs.Decides.Verdict.{verdict}
use Rattle.ipc_policy.proofs.Lists.FirstPassing.{NonePass, IsLeastPassing, first_is_least, numbered, place_of, has_place}

none_passes : (test : Rule → Bool) (o : Option Rule) → o ≡ None → MatchOption o (NonePass test every_rule) (IsLeastPassing test every_rule) → NonePass test every_rule
none_passes test None e k = k
none_passes test (Some rule) e k = absurd cc

-- no rule forbids what is accepted
pub unforbidden : (c : Config) (h : History) (e : Event) → verdict c h e ≡ None → (rule : Rule) → forbids rule c h e ≡ false
unfolding verdict
unforbidden c h e accepted rule = none_passes (λ r. forbids r c h e) _ accepted (first_is_least (λ r. forbids r c h e) 1 every_rule numbered) (place_of rule) rule (has_place rule)

pub off : (b : Bool) → not b ≡ false → b ≡ true
off true e = refl
off false e = absurd cc

known_at : (o : Option Cred) → is_none o ≡ false → is_some o ≡ true
known_at None e = absurd cc
known_at (Some who) e = refl

-- a hello found a user of the file
pub hello_known : (c : Config) (h : History) (found : Option Uid) → verdict c h (Hello found) ≡ None → is_some (option_and_then (cred_of c.users) found) ≡ true
unfolding forbids bad_key
hello_known c h found accepted = known_at _ (unforbidden c h (Hello found) accepted BadKey)

-- a call comes from a session that is live, and so does a hang-up
pub caller_live : (c : Config) (h : History) (sid : Sid) (call : Call) → verdict c h (Do sid call) ≡ None → live h sid.0 ≡ true
unfolding forbids no_session
caller_live c h sid call accepted = off _ (unforbidden c h (Do sid call) accepted NoSession)

pub leaver_live : (c : Config) (h : History) (sid : Sid) → verdict c h (Hangup sid) ≡ None → live h sid.0 ≡ true
unfolding forbids no_session
leaver_live c h sid accepted = off _ (unforbidden c h (Hangup sid) accepted NoSession)

-- a timed call names the description that it names without its deadline
pub described_plain : (call : Call) → described (plain_call call) ≡ described call
described_plain (MqTimedSend desc priority until bytes) = refl
described_plain (MqTimedReceive desc size until) = refl
described_plain (SemTimedWait desc until) = refl
described_plain call = refl

-- a call by a description: its session is live and not parked, and holds the description of the family
pub record IsFree (c : Config) (h : History) (s : ℕ) (family : Family) (d : ℕ) : Type 0 where
  pub lives : live h s ≡ true
  pub idle : is_some (parked c h s) ≡ false
  pub held : not_held c h s family d ≡ false

pub call_free : (c : Config) (h : History) (sid : Sid) (call : Call) (family : Family) (desc : Desc) → is_interrupt call ≡ false → described call ≡ Some (record { family = family; desc = desc }) → verdict c h (Do sid call) ≡ None → IsFree c h sid.0 family desc.0
unfolding forbids in_call bad_descr
call_free c h sid call family desc other named accepted = record {
  lives = caller_live c h sid call accepted;
  idle = ap (λ b. not b && is_some (parked c h sid.0)) (sym other) ∙ unforbidden c h (Do sid call) accepted InCall;
  held = ap (is_some_and (λ (d : Described). not_held c h sid.0 d.family d.desc.0)) (sym (described_plain call ∙ named)) ∙ unforbidden c h (Do sid call) accepted BadDescr;
}

-- an open has CREAT, or its name is bound; where it creates, its attributes are in range
pub open_there : (c : Config) (h : History) (sid : Sid) (asked : QueueOpen) → verdict c h (Do sid (MqOpen asked)) ≡ None → (not (has_create asked.flags) && not (is_bound h Mq asked.name)) ≡ false
unfolding forbids absent
open_there c h sid asked accepted = unforbidden c h (Do sid (MqOpen asked)) accepted Absent

pub open_in_range : (c : Config) (h : History) (sid : Sid) (asked : QueueOpen) → verdict c h (Do sid (MqOpen asked)) ≡ None → ((has_create asked.flags && not (is_bound h Mq asked.name)) && out_of_range c (cred c h sid.0) asked.attributes) ≡ false
unfolding forbids attr_range creating
open_in_range c h sid asked accepted = unforbidden c h (Do sid (MqOpen asked)) accepted AttrRange

-- the same of a semaphore's open; where it creates, its first value is in range
pub semaphore_open_there : (c : Config) (h : History) (sid : Sid) (asked : SemaphoreOpen) → verdict c h (Do sid (SemOpen asked)) ≡ None → (not (has_create asked.flags) && not (is_bound h Sem asked.name)) ≡ false
unfolding forbids absent
semaphore_open_there c h sid asked accepted = unforbidden c h (Do sid (SemOpen asked)) accepted Absent

pub semaphore_open_in_range : (c : Config) (h : History) (sid : Sid) (asked : SemaphoreOpen) → verdict c h (Do sid (SemOpen asked)) ≡ None → ((has_create asked.flags && not (is_bound h Sem asked.name)) && nat_lt SEM_VALUE_MAX asked.value) ≡ false
unfolding forbids value_range creating
semaphore_open_in_range c h sid asked accepted = unforbidden c h (Do sid (SemOpen asked)) accepted ValueRange

-- a trywait is not at 0, and a post not at the greatest value
pub try_above_zero : (c : Config) (h : History) (sid : Sid) (desc : Desc) → verdict c h (Do sid (SemTryWait desc)) ≡ None → is_some_and (λ x. is_zero c h x.object) (holds h sid.0 desc.0) ≡ false
unfolding forbids would_block
try_above_zero c h sid desc accepted = unforbidden c h (Do sid (SemTryWait desc)) accepted WouldBlock

pub post_below_greatest : (c : Config) (h : History) (sid : Sid) (desc : Desc) → verdict c h (Do sid (SemPost desc)) ≡ None → is_some_and (λ x. is_greatest c h x.object) (holds h sid.0 desc.0) ≡ false
unfolding forbids overflow
post_below_greatest c h sid desc accepted = unforbidden c h (Do sid (SemPost desc)) accepted Overflow

-- a give is to a session that is live, and to another
neither : (a b : Bool) → (not a || b) ≡ false → (a ≡ true) × (b ≡ false)
neither true b e = (refl, e)
neither false b e = absurd cc

pub taker_there : (c : Config) (h : History) (sid taker : Sid) (desc : Desc) → verdict c h (Do sid (MqGive desc taker)) ≡ None → (live h taker.0 ≡ true) × (eqb taker.0 sid.0 ≡ false)
unfolding forbids no_taker
taker_there c h sid taker desc accepted = neither (live h taker.0) (eqb taker.0 sid.0) (unforbidden c h (Do sid (MqGive desc taker)) accepted NoTaker)
