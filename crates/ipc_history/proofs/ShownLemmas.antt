-- How many lines a page has.
use Rattle.std.proofs.Common.{◌≡◌, ◌∙◌, ℕ, ◌-◌, [], ◌∷◌, length, drop, min, refl, ap, arith}
use Rattle.std.proofs.lemmas.List.{length-append, length-drop, length-take}
use Rattle.ipc_terms.specs.History.{History}
use Rattle.ipc_terms.specs.Lines.{line_of, lines}
use Rattle.ipc_terms.specs.Pages.{page}

-- there is a line of each record
lines_are_records : (h : History) → length (lines h) ≡ length h
lines_are_records [] = refl
lines_are_records (r ∷ before) = omega (arith, length-append (lines before) (line_of (length before) r ∷ []), lines_are_records before)

pub page_length : (start count : ℕ) (h : History) → length (page start count (lines h)) ≡ min (min count 1000) (length h - start)
page_length start count h =
    length-take (min count 1000) (drop start (lines h)) ∙ ap (min (min count 1000)) (length-drop start (lines h) ∙ ap (λ n. n - start) (lines_are_records h))
