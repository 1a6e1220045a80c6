use Rattle.std.proofs.Common.{◌≡◌, ◌+◌, ◌-◌, ◌≤◌, [], ◌∷◌, ◌++◌, List, ℕ, length, take, length-append, refl, sym, ap, ◌∙◌, arith}
use Rattle.std.specs.Prelude.{reverse}
use Rattle.std.specs.List.{sum_by}
use Rattle.std.proofs.lemmas.List.{reverse-append}
use Rattle.std.proofs.lemmas.List.Sums.{sum_by-append}
use Rattle.std.proofs.Math.Seq.{take-append_seam}
use Rattle.ipc_terms.specs.declared.record.Record.{Record}
use Rattle.ipc_terms.specs.History.{History}
use Rattle.ipc_trail.specs.Gone.{gone_records}
use Rattle.ipc_trail.specs.Log.{Log}
use Rattle.ipc_trail.specs.Sizes.{event_bytes, kept_bytes}
use Rattle.ipc_trail.proofs.trail.Trail.bytes.Goals as goal

abbrev size : Record → ℕ
size r = event_bytes r.event

-- a sum is the same from the other end
turned : (xs : List Record) → sum_by size (reverse xs) ≡ sum_by size xs
turned [] = refl
turned (x ∷ xs) =
    let last : sum_by size (reverse (x ∷ xs)) ≡ sum_by size (reverse xs) + sum_by size (x ∷ []) = ap (sum_by size) (reverse-append (x ∷ []) xs) ∙ sum_by-append size (reverse xs) (x ∷ []) in
    let rest = turned xs in
    let whole : sum_by size (x ∷ xs) ≡ sum_by size (x ∷ []) + sum_by size xs = sum_by-append size (x ∷ []) xs in
    omega arith

-- of what was forgotten nothing is counted
kept : (xs g : History) → kept_bytes (length g) (reverse xs ++ g) ≡ sum_by size xs
kept xs g = ap (λ n. sum_by size (take n (reverse xs ++ g))) count ∙ ap (sum_by size) (take-append_seam (reverse xs) g) ∙ turned xs where
  count : length (reverse xs ++ g) - length g ≡ length (reverse xs)
  count = let both = length-append (reverse xs) g in omega arith

pub returns : goal.returns
returns c =
    let items = c.self.inside.records.items in
    let gone = gone_records c.self.inside.gone.value in
    let most : c.self.inside.bytes ≤ sum_by size items = c.self.invariant.3 in
    let start : c.self.inside.first ≡ length gone = c.self.invariant.0 in
    let seen : kept_bytes (length gone) (reverse items ++ gone) ≡ kept_bytes c.args.self.now.first c.args.self.now.history = ap (λ n. kept_bytes n (reverse items ++ gone)) (sym start) ∙ ap (λ (t : Log). kept_bytes t.first t.history) c.self.view_is in
    let here = kept items gone in
    omega arith
