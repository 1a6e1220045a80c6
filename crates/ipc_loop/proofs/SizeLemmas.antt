-- How many bytes records take from a place on.
use Rattle.std.proofs.Common.{◌≡◌, ◌<◌, ◌≤◌, ◌+◌, ◌-◌, ⊎_elim, ℕ, zero, suc, [], ◌∷◌, length, take, arith}
use Rattle.std.specs.List.{sum_by}
use Rattle.std.proofs.lemmas.Bool.{cases_lt}
use Rattle.std.proofs.lemmas.List.Sums.{sum_by-append}
use Rattle.ipc_terms.specs.History.{History}
use Rattle.ipc_terms.specs.declared.record.Record.{Record}
use Rattle.ipc_trail.specs.Sizes.{event_bytes, kept_bytes}

abbrev size : Record → ℕ
size r = event_bytes r.event

-- of more records no less
more_taken : (a b : ℕ) (h : History) → a ≤ b → sum_by size (take a h) ≤ sum_by size (take b h)
more_taken zero b h le = omega arith
more_taken (suc a) zero h le = omega arith
more_taken (suc a) (suc b) [] le = omega arith
more_taken (suc a) (suc b) (r ∷ h) le =
    let few : sum_by size (r ∷ take a h) ≡ sum_by size (r ∷ []) + sum_by size (take a h) = sum_by-append size (r ∷ []) (take a h) in
    let more : sum_by size (r ∷ take b h) ≡ sum_by size (r ∷ []) + sum_by size (take b h) = sum_by-append size (r ∷ []) (take b h) in
    let rest = more_taken a b h (omega arith) in
    omega arith

-- where they take too many from one place on, but not from another, this is a later one
pub later_fits : (first place most : ℕ) (h : History) → most < kept_bytes first h → kept_bytes place h ≤ most → first < place
later_fits first place most h over fits = ⊎_elim {A = first < place} {B = place ≤ first} (λ lt. lt) (λ ge. let more : kept_bytes first h ≤ kept_bytes place h = more_taken (length h - first) (length h - place) h (omega arith) in omega arith) (cases_lt first place)
