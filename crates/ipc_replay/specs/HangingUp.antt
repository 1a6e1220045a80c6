-- The sessions that are live hang up, one after another.
use Rattle.std.specs.Prelude.{Bool, ℕ, zero, suc, ◌∷◌, None, if◌then◌else◌}
use Rattle.ipc_terms.specs.declared.record.Event.TheVariants.{Hangup}
use Rattle.ipc_policy.specs.Decides.History.{History}
use Rattle.ipc_policy.specs.Decides.Sessions.{hellos, live}

-- session s hangs up, if it is live
abbrev pub hung_up : ℕ → Bool → History → History
hung_up s is_live h = if is_live then record { event = Hangup (record { 0 = s }); rule = None } ∷ h else h

-- of the first n sessions those hang up that are live, in the order of their numbers
abbrev pub first_hung_up : ℕ → History → History
first_hung_up zero h = h
first_hung_up (suc n) h = hung_up n (live h n) (first_hung_up n h)

-- each session hangs up that is live
abbrev pub all_hung_up : History → History
all_hung_up h = first_hung_up (hellos h) h
