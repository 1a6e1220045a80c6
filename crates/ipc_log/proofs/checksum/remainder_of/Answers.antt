use Rattle.std.proofs.Common.{◌≡◌, ℕ, ◌+◌, ◌*◌, ◌<◌, List, [], map, get_or, refl, ap, ◌∙◌, arith}
use Rattle.std.proofs.lemmas.List.FromFn.{get_or-map-range_with_len}
use Rattle.std.specs.List.{range_with_len}
use Rattle.ipc_log.specs.Checksum.{shifted, shifted_by}
use Rattle.ipc_log.specs.declared.remainders.TheConstants.{REMAINDERS}
use Rattle.ipc_log.proofs.checksum.remainder_of.Goals as goal

-- the remainders of all bytes, with so many bytes of 0 behind each
row : ℕ → List ℕ
row zeros = map (shifted_by (8 * (zeros + 1))) (range_with_len 0 256)

rows_are : REMAINDERS ≡ map row (range_with_len 0 8)
unfolding shifted_by shifted row
rows_are = refl

read : (k b : ℕ) → k < 8 → b < 256 → get_or (get_or REMAINDERS k []) b 0 ≡ shifted_by (8 * (k + 1)) b
unfolding row
read k b few lt =
    ap (λ (t : List (List ℕ)). get_or (get_or t k []) b 0) rows_are
    ∙ ap (λ (t : List ℕ). get_or t b 0) (get_or-map-range_with_len row 0 8 k k [] few (omega arith))
    ∙ get_or-map-range_with_len (shifted_by (8 * (k + 1))) 0 256 b b 0 lt (omega arith)

pub returns : goal.returns
returns c = read c.args.zeros c.args.byte c.requires (omega arith)
