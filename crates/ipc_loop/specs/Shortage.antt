-- Since when nothing could be recorded, though something waited to be.
use Rattle.std.specs.Prelude.{Bool, true, false, ℕ, ◌-◌, min, nat_le, Option, Some, None}

-- after a round that ended at this moment: since the first of such rounds, where each since was one; where the clock was set
-- back, since this moment
abbrev pub short_since : Option ℕ → Bool → ℕ → Option ℕ
short_since since false moment = None
short_since None true moment = Some moment
short_since (Some since) true moment = Some (min since moment)

-- whether that is a second ago, in milliseconds
abbrev pub has_lasted : Option ℕ → ℕ → Bool
has_lasted None moment = false
has_lasted (Some since) moment = nat_le 1000 (moment - since)
