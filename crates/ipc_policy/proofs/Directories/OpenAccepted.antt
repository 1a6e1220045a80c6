-- What follows for an accepted open of either family: it creates or finds, and what it creates is in range.
use Rattle.std.proofs.Common.{◌≡◌, Bool, false, not, ◌&&◌, nat_lt, Some, None, sym, ap, subst, ◌∙◌}
use Rattle.ipc_terms.specs.Flags.{has_create}
use Rattle.ipc_terms.specs.Objects.{attributes_asked, value_asked}
use Rattle.ipc_terms.specs.declared.object.TheConstants.{SEM_VALUE_MAX}
use Rattle.ipc_terms.specs.declared.rule.Rule.TheVariants.{AttrRange, ValueRange, ByteLimit}
use Rattle.ipc_terms.specs.declared.call.Call.TheVariants.{MqOpen, SemOpen}
use Rattle.ipc_terms.specs.declared.record.Event.{Event}
use Rattle.ipc_terms.specs.declared.record.Event.TheVariants.{Hello, Do, Hangup, Tick}
use Rattle.ipc_policy.specs.declared.config.Config.{Config}
use Rattle.ipc_policy.specs.Decides.History.{History}
use Rattle.ipc_policy.specs.Decides.Sessions.{cred}
use Rattle.ipc_policy.specs.Decides.Names.{Opening, opening, queue_opening, semaphore_opening, is_bound, creating}
use Rattle.ipc_policy.specs.Decides.Rules.{forbids, attr_range, value_range, byte_limit, above_limit, queue_made, is_some_and, out_of_range}
use Rattle.ipc_policy.specs.Decides.Verdict.{verdict}
use Rattle.ipc_policy.proofs.Histories.Unforbidden.{unforbidden, open_there as queue_there, semaphore_open_there}

-- an open has CREAT, or its name is bound
pub open_there : (c : Config) (h : History) (e : Event) (asked : Opening) → opening e ≡ Some asked → verdict c h e ≡ None → (not (has_create asked.flags) && not (is_bound h asked.family asked.name)) ≡ false
open_there c h (Do sid (MqOpen given)) asked k accepted =
    let same : queue_opening sid given ≡ asked = cc in
    subst (λ (a : Opening). (not (has_create a.flags) && not (is_bound h a.family a.name)) ≡ false) same (queue_there c h sid given accepted)
open_there c h (Do sid (SemOpen given)) asked k accepted =
    let same : semaphore_opening sid given ≡ asked = cc in
    subst (λ (a : Opening). (not (has_create a.flags) && not (is_bound h a.family a.name)) ≡ false) same (semaphore_open_there c h sid given accepted)
open_there c h (Do sid call) asked k accepted = absurd cc
open_there c h (Hello found) asked k accepted = absurd cc
open_there c h (Hangup sid) asked k accepted = absurd cc
open_there c h (Tick moment) asked k accepted = absurd cc

-- where it creates, its attributes and its first value are in range
pub open_in_range : (c : Config) (h : History) (e : Event) (asked : Opening) → opening e ≡ Some asked → verdict c h e ≡ None → ((has_create asked.flags && not (is_bound h asked.family asked.name)) && out_of_range c (cred c h asked.session.0) (attributes_asked asked.kind)) ≡ false
unfolding forbids attr_range creating
open_in_range c h e asked k accepted = ap (is_some_and (λ (a : Opening). (has_create a.flags && not (is_bound h a.family a.name)) && out_of_range c (cred c h a.session.0) (attributes_asked a.kind))) (sym k) ∙ unforbidden c h e accepted AttrRange

-- it creates, and its first value is out of range
abbrev too_great : History → Opening → Bool
too_great h asked = (has_create asked.flags && not (is_bound h asked.family asked.name)) && is_some_and (nat_lt SEM_VALUE_MAX) (value_asked asked.kind)

pub open_value_in_range : (c : Config) (h : History) (e : Event) (asked : Opening) → opening e ≡ Some asked → verdict c h e ≡ None → ((has_create asked.flags && not (is_bound h asked.family asked.name)) && is_some_and (nat_lt SEM_VALUE_MAX) (value_asked asked.kind)) ≡ false
unfolding forbids value_range creating
open_value_in_range c h (Do sid (MqOpen given)) asked k accepted = ap (is_some_and (too_great h)) (sym k) ∙ unforbidden c h (Do sid (MqOpen given)) accepted ValueRange
open_value_in_range c h (Do sid (SemOpen given)) asked k accepted = ap (is_some_and (too_great h)) (sym k) ∙ unforbidden c h (Do sid (SemOpen given)) accepted ValueRange
open_value_in_range c h (Do sid call) asked k accepted = absurd cc
open_value_in_range c h (Hello found) asked k accepted = absurd cc
open_value_in_range c h (Hangup sid) asked k accepted = absurd cc
open_value_in_range c h (Tick moment) asked k accepted = absurd cc

-- and is not above its creator's limit
pub open_within_limit : (c : Config) (h : History) (e : Event) (asked : Opening) → opening e ≡ Some asked → verdict c h e ≡ None → ((has_create asked.flags && not (is_bound h asked.family asked.name)) && is_some_and (λ given. is_some_and (above_limit c h given) (cred c h asked.session.0)) (queue_made c asked)) ≡ false
unfolding forbids byte_limit creating
open_within_limit c h e asked k accepted = ap (is_some_and (λ (a : Opening). (has_create a.flags && not (is_bound h a.family a.name)) && is_some_and (λ given. is_some_and (above_limit c h given) (cred c h a.session.0)) (queue_made c a))) (sym k) ∙ unforbidden c h e accepted ByteLimit
