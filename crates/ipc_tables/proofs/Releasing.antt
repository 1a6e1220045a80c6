-- Where all objects but one have no registration that is held no longer, to release that one is to release all.
use Rattle.std.proofs.Common.{◌≡◌, ℕ, zero, suc, ◌+◌, ◌<◌, List, [], ◌∷◌, Option, Some, None, refl, sym, ap, ◌∙◌, arith, map, option_map}
use Rattle.ipc_terms.specs.Lists.{changed}
use Rattle.ipc_descr.specs.declared.row.Row.{Row}
use Rattle.ipc_tables.specs.declared.rows.ObjectRow.{ObjectRow}
use Rattle.ipc_tables.specs.Objects.{with_held}
use Rattle.ipc_tables.specs.Standing.{rows_of, InPlace, OthersHeld}

pub none_held : (rows : List Row) (objects : List ObjectRow) → OthersHeld None rows objects → objects ≡ map (with_held rows) objects
none_held rows [] all = refl
none_held rows (row ∷ objects) all = let here : with_held rows row ≡ row = all.0 (λ e. cc) in ap (λ r. r ∷ objects) (sym here) ∙ ap (λ rs. with_held rows row ∷ rs) (none_held rows objects all.1)

above_held : (o n : ℕ) (rows : List Row) (slots : List (Option ObjectRow)) → InPlace n slots → o < n → OthersHeld (Some o) rows (rows_of slots) → rows_of slots ≡ map (with_held rows) (rows_of slots)
above_held o n rows [] h above all = refl
above_held o n rows (None ∷ slots) h above all = above_held o (n + 1) rows slots h.1 (omega arith) all
above_held o n rows (Some row ∷ slots) h above all =
    let is : row.number ≡ n = h.0 in
    let here : with_held rows row ≡ row = all.0 (λ e. let same : o ≡ row.number = cc in omega arith) in
    ap (λ r. r ∷ rows_of slots) (sym here) ∙ ap (λ rs. with_held rows row ∷ rs) (above_held o (n + 1) rows slots h.1 (omega arith) all.1)

pub one_held : (o n i : ℕ) (rows : List Row) (slots : List (Option ObjectRow)) → InPlace n slots → o ≡ n + i → OthersHeld (Some o) rows (rows_of slots) → rows_of (changed (option_map (with_held rows)) slots i) ≡ map (with_held rows) (rows_of slots)
one_held o n i rows [] h is all = refl
one_held o n zero rows (None ∷ slots) h is all = above_held o (n + 1) rows slots h.1 (omega arith) all
one_held o n (suc i) rows (None ∷ slots) h is all = one_held o (n + 1) i rows slots h.1 (omega arith) all
one_held o n zero rows (Some row ∷ slots) h is all = ap (λ rs. with_held rows row ∷ rs) (above_held o (n + 1) rows slots h.1 (omega arith) all.1)
one_held o n (suc i) rows (Some row ∷ slots) h is all =
    let number : row.number ≡ n = h.0 in
    let here : with_held rows row ≡ row = all.0 (λ e. let same : o ≡ row.number = cc in omega arith) in
    ap (λ r. r ∷ rows_of (changed (option_map (with_held rows)) slots i)) (sym here) ∙ ap (λ rs. with_held rows row ∷ rs) (one_held o (n + 1) i rows slots h.1 (omega arith) all.1)
