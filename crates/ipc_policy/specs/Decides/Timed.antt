-- The time, which ticks tell, and the deadlines of calls.
use Rattle.std.specs.Prelude.{Bool, ℕ, ◌==◌, max, nat_le, length, [], ◌∷◌, Option, None, if◌then◌else◌}
use Rattle.ipc_terms.specs.Timed.{deadline}
use Rattle.ipc_terms.specs.declared.record.Event.{Event}
use Rattle.ipc_terms.specs.declared.record.Event.TheVariants.{Tick}
use Rattle.ipc_policy.specs.Decides.History.{History, is_accepted, newest, is_some_and}

-- a tick tells the time; a moment that is past changes nothing, so the time never goes back
abbrev pub told : Event → ℕ → ℕ
told (Tick moment) was = max moment was
told _ was = was

-- the time: the greatest moment of the accepted ticks, and 0 before them
unfoldable pub now : History → ℕ
now [] = 0
now (r ∷ before) = if is_accepted r then told r.event (now before) else now before

-- the call of place i tells its deadline, where it is timed
abbrev pub tells_deadline : ℕ → Event → History → Option ℕ
tells_deadline i e before = if length before == i then deadline e else None

-- the deadline of the accepted call of place i, where it is timed
abbrev pub deadline_at : History → ℕ → Option ℕ
deadline_at h i = newest (tells_deadline i) h

-- there is a deadline, and it is at most this moment
abbrev pub is_past : ℕ → Option ℕ → Bool
is_past moment until = is_some_and (λ t. nat_le t moment) until
