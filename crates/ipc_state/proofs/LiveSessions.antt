-- What is looked up of a session, which is there while it is live.
use Rattle.std.proofs.Common.{◌≡◌, ℕ, zero, suc, ◌<◌, Bool, true, false, not, cond, List, [], ◌∷◌, length, slice_get, Option, Some, None, refl, ap, ◌∙◌, arith}
use Rattle.std.specs.Prelude.{option_and_then}
use Rattle.std.proofs.lemmas.Option.{slice_get_past}
use Rattle.ipc_terms.specs.Events.{caller}
use Rattle.ipc_terms.specs.declared.record.Event.{Event}
use Rattle.ipc_terms.specs.declared.record.Event.TheVariants.{Hello, Do, Hangup, Tick}
use Rattle.ipc_policy.specs.declared.config.Config.{Config}
use Rattle.ipc_policy.specs.Decides.History.{History}
use Rattle.ipc_policy.specs.Decides.Sessions.{live}
use Rattle.ipc_policy.specs.Decides.Rules.{no_session}
use Rattle.ipc_tables.specs.declared.rows.Session.{Session}
use Rattle.ipc_tables.specs.TablesView.{is_live_row, live_row, live_session, live_at}
use Rattle.ipc_state.specs.Agrees.{SessionsAgree}

in_row : (row : Session) → is_live_row (live_row row) ≡ row.is_live
in_row row = by row.is_live refl where
  by : (b : Bool) → row.is_live ≡ b → is_live_row (cond b (Some row) None) ≡ b
  by true e = e
  by false e = refl

-- it is live as it stands
pub live_same : (xs : List Session) (s : ℕ) → is_live_row (live_session xs s) ≡ live_at xs s
live_same [] s = refl
live_same (x ∷ xs) zero = in_row x
live_same (x ∷ xs) (suc s) = live_same xs s

-- what is there stands
pub there_stands : (xs : List Session) (s : ℕ) (row : Session) → live_session xs s ≡ Some row → slice_get xs s ≡ Some row
there_stands [] s row e = absurd cc
there_stands (x ∷ xs) zero row e = by x.is_live e where
  by : (b : Bool) → cond b (Some x) None ≡ Some row → Some x ≡ Some row
  by true k = k
  by false k = absurd cc
there_stands (x ∷ xs) (suc s) row e = there_stands xs s row e

-- what is live is there
pub live_there : (xs : List Session) (s : ℕ) → live_at xs s ≡ true → live_session xs s ≡ slice_get xs s
live_there [] s e = refl
live_there (x ∷ xs) zero e = ap (λ b. cond b (Some x) None) e
live_there (x ∷ xs) (suc s) e = live_there xs s e

none_past : (xs : List Session) (s : ℕ) → slice_get xs s ≡ None → live_session xs s ≡ slice_get xs s
none_past xs s none = by (slice_get xs s) none where
  by : (w : Option Session) → w ≡ None → option_and_then live_row w ≡ w
  by None e = refl
  by (Some row) e = absurd cc

not_not : (b : Bool) → not b ≡ false → b ≡ true
not_not true e = refl
not_not false e = absurd cc

-- the caller's is there, where rule 1 doesn't forbid the event
pub caller_there : (c : Config) (h : History) (xs : List Session) (e : Event) → SessionsAgree c h xs → length xs < 18446744073709551616 → no_session c h e ≡ false → live_session xs (caller e).0 ≡ slice_get xs (caller e).0
unfolding no_session
caller_there c h xs (Do sid call) a few passed = live_there xs sid.0 (a.lives sid.0 ∙ not_not (live h sid.0) passed)
caller_there c h xs (Hangup sid) a few passed = live_there xs sid.0 (a.lives sid.0 ∙ not_not (live h sid.0) passed)
caller_there c h xs (Hello found) a few passed = none_past xs 18446744073709551615 (slice_get_past xs 18446744073709551615 (omega arith))
caller_there c h xs (Tick moment) a few passed = none_past xs 18446744073709551615 (slice_get_past xs 18446744073709551615 (omega arith))
