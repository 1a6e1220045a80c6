-- A timed call counts as the same call without its deadline.
use Rattle.std.proofs.Common.{◌≡◌, ℕ, Bool, true, false, not, ◌&&◌, cond, List, [], ◌∷◌, ◌++◌, Option, Some, None, refl, ap, ◌∙◌}
use Rattle.std.proofs.Math.ListN.{take}
use Rattle.std.specs.Prelude.{find}
use Rattle.std.specs.Option.{option_or}
use Rattle.ipc_terms.specs.Timed.{plain, deadline}
use Rattle.ipc_terms.specs.Rules.{every_rule}
use Rattle.ipc_terms.specs.History.{message_of}
use Rattle.ipc_terms.specs.declared.rule.Rule.{Rule}
use Rattle.ipc_terms.specs.declared.rule.Rule.TheVariants.{TimedOut, NoTaker}
use Rattle.ipc_terms.specs.declared.call.Call.TheVariants.{MqTimedSend, MqTimedReceive, SemTimedWait}
use Rattle.ipc_terms.specs.declared.record.Event.{Event}
use Rattle.ipc_terms.specs.declared.record.Event.TheVariants.{Hello, Do, Hangup, Tick}
use Rattle.ipc_policy.specs.declared.config.Config.{Config}
use Rattle.ipc_policy.specs.declared.config.Held.{Held}
use Rattle.ipc_policy.specs.Decides.History.{History}
use Rattle.ipc_policy.specs.Decides.Descriptions.{ends_held}
use Rattle.ipc_policy.specs.Decides.Timed.{now, is_past}
use Rattle.ipc_policy.specs.Decides.Rules.{forbids, no_session, in_call, not_in_call, name_form, name_long, not_admin, no_user, bad_descr, not_for_write, not_for_read, dir_search, dir_read, absent, present, mode_denied, dir_write, sticky, not_owner, chown_denied, attr_range, value_range, queue_count, byte_limit, descr_limit, prio_range, message_long, buffer_short, notify_taken, would_block, overflow, bad_key, would_park, timed_out, no_taker}
use Rattle.ipc_policy.specs.Decides.Verdict.{verdict}

-- it brings the same message
pub message_plain : (e : Event) → message_of (plain e) ≡ message_of e
message_plain (Hello found) = refl
message_plain (Do sid (MqTimedSend desc priority until bytes)) = refl
message_plain (Do sid (MqTimedReceive desc size until)) = refl
message_plain (Do sid (SemTimedWait desc until)) = refl
message_plain (Do sid call) = refl
message_plain (Hangup sid) = refl
message_plain (Tick moment) = refl

-- it ends no description, as the timed call ends none
pub ends_plain : (d : ℕ) (x : Held) (e : Event) → ends_held d x e ≡ ends_held d x (plain e)
ends_plain d x (Hello found) = refl
ends_plain d x (Do sid (MqTimedSend desc priority until bytes)) = refl
ends_plain d x (Do sid (MqTimedReceive desc size until)) = refl
ends_plain d x (Do sid (SemTimedWait desc until)) = refl
ends_plain d x (Do sid call) = refl
ends_plain d x (Hangup sid) = refl
ends_plain d x (Tick moment) = refl

-- each rule but that of deadlines forbids both alike
abbrev is_of_deadlines : Rule → Bool
is_of_deadlines TimedOut = true
is_of_deadlines rule = false

forbids_plain : (c : Config) (h : History) (e : Event) (rule : Rule) → is_of_deadlines rule ≡ false → forbids rule c h e ≡ forbids rule c h (plain e)
unfolding forbids no_session in_call not_in_call name_form name_long not_admin no_user bad_descr not_for_write not_for_read dir_search dir_read absent present mode_denied dir_write sticky not_owner chown_denied attr_range value_range queue_count byte_limit descr_limit prio_range message_long buffer_short notify_taken would_block overflow bad_key no_taker
forbids_plain c h (Hello found) rule other = refl
forbids_plain c h (Do sid (MqTimedSend desc priority until bytes)) TimedOut other = absurd cc
forbids_plain c h (Do sid (MqTimedSend desc priority until bytes)) rule other = refl
forbids_plain c h (Do sid (MqTimedReceive desc size until)) TimedOut other = absurd cc
forbids_plain c h (Do sid (MqTimedReceive desc size until)) rule other = refl
forbids_plain c h (Do sid (SemTimedWait desc until)) TimedOut other = absurd cc
forbids_plain c h (Do sid (SemTimedWait desc until)) rule other = refl
forbids_plain c h (Do sid call) rule other = refl
forbids_plain c h (Hangup sid) rule other = refl
forbids_plain c h (Tick moment) rule other = refl

-- so the first that forbids is the same, or one of those behind them is
abbrev are_others : List Rule → Bool
are_others [] = true
are_others (rule ∷ rules) = not (is_of_deadlines rule) && are_others rules

other_first : (a b : Bool) → (not a && b) ≡ true → (a ≡ false) × (b ≡ true)
other_first true b e = absurd cc
other_first false b e = (refl, e)

found_behind : (p q : Rule → Bool) (w : Option Rule) (before behind : List Rule) → ((rule : Rule) → is_of_deadlines rule ≡ false → p rule ≡ q rule) → are_others before ≡ true → find p behind ≡ option_or (find q behind) w → find p (before ++ behind) ≡ option_or (find q (before ++ behind)) w
found_behind p q w [] behind same others last = last
found_behind p q w (rule ∷ before) behind same others last =
    let parts = other_first (is_of_deadlines rule) (are_others before) others in
    ap (λ b. cond b (Some rule) (find p (before ++ behind))) (same rule parts.0) ∙ at (q rule) (found_behind p q w before behind same parts.1 last) where
      at : (b : Bool) → find p (before ++ behind) ≡ option_or (find q (before ++ behind)) w → cond b (Some rule) (find p (before ++ behind)) ≡ option_or (cond b (Some rule) (find q (before ++ behind))) w
      at true rest = refl
      at false rest = rest

-- what the rule of deadlines alone says
abbrev pub by_deadline : Config → History → Event → Option Rule
by_deadline c h e = cond (is_past (now h) (deadline e) && would_park c h (plain e)) (Some TimedOut) None

timed_judged : (c : Config) (h : History) (e : Event) → find (λ rule. forbids rule c h e) (TimedOut ∷ NoTaker ∷ []) ≡ option_or (find (λ rule. forbids rule c h (plain e)) (TimedOut ∷ NoTaker ∷ [])) (by_deadline c h e) → verdict c h e ≡ option_or (verdict c h (plain e)) (by_deadline c h e)
unfolding verdict
timed_judged c h e last = found_behind (λ rule. forbids rule c h e) (λ rule. forbids rule c h (plain e)) (by_deadline c h e) (take 31 every_rule) (TimedOut ∷ NoTaker ∷ []) (forbids_plain c h e) refl last

or_none : (w : Option Rule) → w ≡ option_or w None
or_none None = refl
or_none (Some rule) = refl

pub judged_plain : (c : Config) (h : History) (e : Event) → verdict c h e ≡ option_or (verdict c h (plain e)) (by_deadline c h e)
unfolding forbids timed_out no_taker
judged_plain c h (Hello found) = or_none _
judged_plain c h (Do sid (MqTimedSend desc priority until bytes)) = timed_judged c h (Do sid (MqTimedSend desc priority until bytes)) refl
judged_plain c h (Do sid (MqTimedReceive desc size until)) = timed_judged c h (Do sid (MqTimedReceive desc size until)) refl
judged_plain c h (Do sid (SemTimedWait desc until)) = timed_judged c h (Do sid (SemTimedWait desc until)) refl
judged_plain c h (Do sid call) = or_none _
judged_plain c h (Hangup sid) = or_none _
judged_plain c h (Tick moment) = or_none _

neither : (v w : Option Rule) → None ≡ option_or v w → None ≡ v
neither None w e = refl
neither (Some rule) w e = absurd cc

-- so what is accepted is accepted without its deadline
pub plain_accepted : (c : Config) (h : History) (e : Event) → None ≡ verdict c h e → None ≡ verdict c h (plain e)
plain_accepted c h e legal = neither (verdict c h (plain e)) (by_deadline c h e) (legal ∙ judged_plain c h e)
