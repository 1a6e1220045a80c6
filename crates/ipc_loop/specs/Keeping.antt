-- Which records are kept.
use Rattle.std.specs.Prelude.{ℕ, ◌-◌, ◌≤◌, ⊤, length, Option, Some, None}
use Rattle.ipc_terms.specs.History.{History}
use Rattle.ipc_trail.specs.Sizes.{kept_bytes}
use Rattle.ipc_loop.specs.declared.keeping.Keeping.{Keeping}

-- so many are no more than the bound, if there is one
abbrev pub Fits : Option ℕ → ℕ → Type 0
Fits None count = ⊤
Fits (Some most) count = count ≤ most

-- the records from the place `first` on are to be kept: they are no more than so many, and take no more than so many bytes
abbrev pub AreWithin : Keeping → ℕ → History → Type 0
AreWithin keeping first h = Fits keeping.records (length h - first) × Fits keeping.bytes (kept_bytes first h)
