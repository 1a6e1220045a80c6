-- The lines of a page of records are a page of the lines.
use Rattle.std.proofs.Common.{◌≡◌, ⊎_elim, ◌<◌, ◌≤◌, ◌-◌, ℕ, zero, suc, ◌+◌, List, [], ◌∷◌, ◌++◌, length, take, drop, refl, sym, ap, ◌∙◌, arith}
use Rattle.std.specs.Prelude.{reverse, min}
use Rattle.std.proofs.lemmas.List.{reverse-append, reverse-reverse, length-reverse, length-drop, drop_all, take_min}
use Rattle.std.proofs.lemmas.Bool.{cases_lt}
use Rattle.std.proofs.Math.Seq.{drop-append-add}
use Rattle.std.proofs.Math.Nat.{min-eq_left}
use Rattle.ipc_terms.specs.History.{History}
use Rattle.ipc_terms.specs.Lines.{line_of, lines}
use Rattle.ipc_terms.specs.Pages.{page}
use Rattle.ipc_terms.specs.declared.record.Record.{Record}
use Rattle.ipc_trail.specs.Receipts.{lines_from}

-- one record more
pub from_push : (place : ℕ) (rs : List Record) (r : Record) → lines_from place (rs ++ r ∷ []) ≡ lines_from place rs ++ line_of (place + length rs) r ∷ []
from_push place [] r = let same : place ≡ place + 0 = omega arith in ap (λ n. line_of n r ∷ []) same
from_push place (q ∷ rs) r =
    let same : place + 1 + length rs ≡ place + length (q ∷ rs) = omega arith in
    ap (λ ls. line_of place q ∷ ls) (from_push (place + 1) rs r ∙ ap (λ n. lines_from (place + 1) rs ++ line_of n r ∷ []) same)

-- the lines of a history are those of its records, the oldest first
lines_of : (h : History) → lines h ≡ lines_from 0 (reverse h)
lines_of [] = refl
lines_of (r ∷ h) =
    let same : length h ≡ 0 + length (reverse h) = (let k : length (reverse h) ≡ length h = length-reverse h in omega arith) in
    ap (λ ls. ls ++ line_of (length h) r ∷ []) (lines_of h)
    ∙ ap (λ n. lines_from 0 (reverse h) ++ line_of n r ∷ []) same
    ∙ sym (from_push 0 (reverse h) r)
    ∙ sym (ap (lines_from 0) (reverse-append (r ∷ []) h))

from_drop : (n place : ℕ) (rs : List Record) → drop n (lines_from place rs) ≡ lines_from (place + n) (drop n rs)
from_drop zero place rs = let same : place ≡ place + 0 = omega arith in ap (λ m. lines_from m rs) same
from_drop (suc n) place [] = refl
from_drop (suc n) place (r ∷ rs) = let same : place + 1 + n ≡ place + suc n = omega arith in from_drop n (place + 1) rs ∙ ap (λ m. lines_from m (drop n rs)) same

from_take : (n place : ℕ) (rs : List Record) → take n (lines_from place rs) ≡ lines_from place (take n rs)
from_take zero place rs = refl
from_take (suc n) place [] = refl
from_take (suc n) place (r ∷ rs) = ap (λ ls. line_of place r ∷ ls) (from_take n (place + 1) rs)

page_of_lines : (start count : ℕ) (h : History) → page start count (lines h) ≡ lines_from start (page start count (reverse h))
page_of_lines start count h = ap (page start count) (lines_of h) ∙ ap (take (min count 1000)) (from_drop start 0 (reverse h) ∙ ap (λ n. lines_from n (drop start (reverse h))) same) ∙ from_take (min count 1000) start (drop start (reverse h)) where
  same : 0 + start ≡ start
  same = omega arith

-- so of the records, the oldest first
pub lines_of_page : (start count : ℕ) (rs : List Record) → lines_from start (page start count rs) ≡ page start count (lines (reverse rs))
lines_of_page start count rs = ap (λ xs. lines_from start (page start count xs)) (sym (reverse-reverse rs)) ∙ sym (page_of_lines start count (reverse rs))

-- a page from the oldest record that is kept on, or from one behind it, is a page of what is kept
pub kept_page : (xs : List Record) (g : History) (n count : ℕ) → lines_from (length g + n) (take (min count 1000) (drop n xs)) ≡ page (length g + n) count (lines (reverse xs ++ g))
kept_page xs g n count =
    ap (λ ys. lines_from (length g + n) (take (min count 1000) ys)) (sym split)
    ∙ lines_of_page (length g + n) count (reverse g ++ xs)
    ∙ ap (λ h. page (length g + n) count (lines h)) turned where
      split : drop (length g + n) (reverse g ++ xs) ≡ drop n xs
      split = ap (λ m. drop (m + n) (reverse g ++ xs)) (sym (length-reverse g)) ∙ drop-append-add (reverse g) xs n

      turned : reverse (reverse g ++ xs) ≡ reverse xs ++ g
      turned = reverse-append (reverse g) xs ∙ ap (λ t. reverse xs ++ t) (reverse-reverse g)

-- what is read, bounded by what is kept
pub bounded : (xs : List Record) (f n m : ℕ) → lines_from (f + min n (length xs)) (take (min (length xs - min n (length xs)) m) (drop (min n (length xs)) xs)) ≡ lines_from (f + n) (take m (drop n xs))
bounded xs f n m = ⊎_elim past within (cases_lt (length xs) n) where
  within : n ≤ length xs → lines_from (f + min n (length xs)) (take (min (length xs - min n (length xs)) m) (drop (min n (length xs)) xs)) ≡ lines_from (f + n) (take m (drop n xs))
  within le =
      let least : min n (length xs) ≡ n = min-eq_left le in
      let left : length (drop n xs) ≡ length xs - n = length-drop n xs in
      let most : min (length xs - n) m ≡ min m (length (drop n xs)) = omega (arith, left) in
      rw least (ap (λ k. lines_from (f + n) (take k (drop n xs))) most ∙ ap (lines_from (f + n)) (take_min m (drop n xs)))

  past : length xs < n → lines_from (f + min n (length xs)) (take (min (length xs - min n (length xs)) m) (drop (min n (length xs)) xs)) ≡ lines_from (f + n) (take m (drop n xs))
  past lt =
      let all : min n (length xs) ≡ length xs = omega arith in
      let none : min (length xs - length xs) m ≡ 0 = omega arith in
      rw (all, none, drop_all n xs (omega arith), take_nil m) refl where
        take_nil : (k : ℕ) → ◌≡◌ {A = List Record} (take k []) []
        take_nil zero = refl
        take_nil (suc k) = refl
