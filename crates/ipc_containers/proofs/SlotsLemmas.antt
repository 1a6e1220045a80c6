-- What is found in a slot, and what taking it or writing there leaves.
use Rattle.std.proofs.Common.{◌≡◌, ℕ, zero, suc, ◌+◌, ◌-◌, ◌≤◌, List, [], ◌∷◌, ◌++◌, length, set, take, drop, ◌<◌, true, false, rules, Option, Some, None, refl, sym, ap, ◌∙◌, slice_get, arith}
use Rattle.std.specs.Borrow.{MutBor}
use Rattle.std.specs.Bool.{if◌then◌else◌}
use Rattle.std.specs.List.{IsItemAtMut}
use Rattle.std.specs.Prelude.{min}
use Rattle.std.specs.Option.{OnSome, IsSome, is_some, option_copied_mut}
use Rattle.std.proofs.lemmas.Bool.Decides.{nat_tests}
use Rattle.std.proofs.lemmas.Option.{slice_get_past, slice_get_read, slice_get_within}
use Rattle.std.proofs.lemmas.List.{length-drop, drop-set-add, drop-append-le}
use Rattle.ipc_terms.specs.Lists.{changed}
use Rattle.ipc_containers.specs.Slots.{at, emptied, how_many_filled, is_sparse, most_slots}

-- what `get_mut` found
pub found : {X : Type 0} (rows : List X) (s : ℕ) (r : Option (MutBor X)) → IsItemAtMut rows s r → slice_get rows s ≡ option_copied_mut r
found rows s None is = slice_get_past rows s is.3
found rows s (Some row) is = slice_get_read rows (length rows) s row.now refl is.3.0 is.1

-- ---- a slot behind the places of those that left

-- its place is bounded, past all that there are
abbrev pub Place : ℕ → ℕ → ℕ → Type 0
Place gone slot place = place ≡ min (gone + slot) 18446744073709551615

behind : {X : Type 0} (xs : List X) (gone n place : ℕ) → place ≡ gone + n → slice_get xs place ≡ slice_get (drop gone xs) n
behind xs zero n place e = ap (slice_get xs) (let same : place ≡ n = omega arith in same)
behind [] (suc gone) n place e = refl
behind (x ∷ xs) (suc gone) n zero e = absurd (omega arith)
behind (x ∷ xs) (suc gone) n (suc place) e = behind xs gone n place (omega arith)

-- what `get_mut` found there
pub found_behind : {X : Type 0} (xs : List X) (gone n place : ℕ) (r : Option (MutBor X)) → Place gone n place → length xs < 9223372036854775808 → IsItemAtMut xs place r → slice_get (drop gone xs) n ≡ option_copied_mut r
found_behind xs gone n place None e few is = slice_get_past (drop gone xs) n (let left = length-drop gone xs in let past = is.3 in omega arith)
found_behind xs gone n place (Some row) e few is = sym (behind xs gone n place (let within = is.3.0 in omega arith)) ∙ found xs place (Some row) is

-- and a write there
pub set_behind : {X : Type 0} (xs : List X) (gone n place : ℕ) (x y : X) → Place gone n place → length xs < 9223372036854775808 → slice_get (drop gone xs) n ≡ Some y → drop gone (set xs place x) ≡ set (drop gone xs) n x
set_behind xs gone n place x y e few there =
    let left = length-drop gone xs in
    let within = slice_get_within (drop gone xs) n y there in
    let same : place ≡ gone + n = omega arith in
    ap (λ p. drop gone (set xs p x)) same ∙ drop-set-add gone xs n x

pub at_slot : {X : Type 0} (xs : List (Option X)) (n : ℕ) (y : Option X) → slice_get xs n ≡ Some y → at xs n ≡ y
at_slot [] n y e = absurd cc
at_slot (x ∷ xs) zero y e = cc
at_slot (x ∷ xs) (suc n) y e = at_slot xs n y e

pub slot_at : {X : Type 0} (xs : List (Option X)) (n : ℕ) (x : X) → at xs n ≡ Some x → slice_get xs n ≡ Some (Some x)
slot_at [] n x e = absurd cc
slot_at (y ∷ xs) zero x e = ap Some e
slot_at (y ∷ xs) (suc n) x e = slot_at xs n x e

-- a slot that is written is a slot that changes
pub written : {X : Type 0} (change : X → X) (xs : List X) (n : ℕ) (x y : X) → slice_get xs n ≡ Some y → x ≡ change y → set xs n x ≡ changed change xs n
written change [] n x y e is = absurd cc
written change (z ∷ xs) zero x y e is = let same : z ≡ y = cc in ap (λ s. s ∷ xs) (is ∙ ap change (sym same))
written change (z ∷ xs) (suc n) x y e is = ap (λ l. z ∷ l) (written change xs n x y e is)

pub unwritten : {X : Type 0} (xs : List X) (n : ℕ) (y : X) → slice_get xs n ≡ Some y → set xs n y ≡ xs
unwritten [] n y e = absurd cc
unwritten (z ∷ xs) zero y e = let is : z ≡ y = cc in ap (λ s. s ∷ xs) (sym is)
unwritten (z ∷ xs) (suc n) y e = ap (λ l. z ∷ l) (unwritten xs n y e)

-- past the end nothing changes
pub past : {X : Type 0} (change : X → X) (xs : List X) (n : ℕ) → slice_get xs n ≡ None → changed change xs n ≡ xs
past change [] n e = refl
past change (x ∷ xs) zero e = absurd cc
past change (x ∷ xs) (suc n) e = ap (λ l. x ∷ l) (past change xs n e)

pub past_length : {X : Type 0} (change : X → X) (xs : List X) (n : ℕ) → length xs ≤ n → changed change xs n ≡ xs
past_length change xs n l = past change xs n (slice_get_past xs n l)

-- where there is no value none is taken
pub emptied_none : {X : Type 0} (xs : List (Option X)) (n : ℕ) → at xs n ≡ None → changed emptied xs n ≡ xs
emptied_none [] n none = refl
emptied_none (x ∷ xs) zero none = ap (λ y. y ∷ xs) (sym none)
emptied_none (x ∷ xs) (suc n) none = ap (λ ys. x ∷ ys) (emptied_none xs n none)

-- it holds wherever a value is lent
pub if_lent : {X : Type 0} {P : Type 0} (r : Option (MutBor X)) (w : Option X) → option_copied_mut r ≡ w → ((x : X) → w ≡ Some x → P) → OnSome r P
if_lent None w e k = tt
if_lent (Some r) w e k = k r.now (sym e)

pub some_found : {A : Type 0} (found : Option A) (x : A) → found ≡ Some x → IsSome found
some_found found x is = rw is (search rules)

-- ---- the first slot

pub first_emptied : {X : Type 0} (xs : List (Option X)) → 0 < length xs → slice_get (changed emptied xs 0) 0 ≡ Some None
first_emptied [] some = absurd (omega arith)
first_emptied (x ∷ xs) some = refl

-- where it is empty, as many have a value without it
pub filled_behind_first : {X : Type 0} (xs : List (Option X)) → slice_get xs 0 ≡ Some None → how_many_filled (drop 1 xs) ≡ how_many_filled xs
filled_behind_first [] e = absurd cc
filled_behind_first (None ∷ xs) e = refl
filled_behind_first (Some x ∷ xs) e = absurd cc

-- its value is put back
pub first_restored : {X : Type 0} (xs : List (Option X)) (x : X) → at xs 0 ≡ Some x → changed (λ o. Some x) (changed emptied xs 0) 0 ≡ xs
first_restored [] x e = absurd cc
first_restored (y ∷ xs) x e = ap (λ o. o ∷ xs) (sym e)

pub first_and_rest : {X : Type 0} (xs : List (Option X)) → 0 < length xs → xs ≡ at xs 0 ∷ drop 1 (changed emptied xs 0)
first_and_rest [] some = absurd (omega arith)
first_and_rest (x ∷ xs) some = refl

-- where most slots are empty there are some
pub sparse_some : {X : Type 0} (xs : List (Option X)) → is_sparse xs ≡ true → 0 < length xs
sparse_some [] e = absurd cc
sparse_some (x ∷ xs) e = omega arith

-- ---- the last slot goes

-- of those that stand
pub last_left : {X : Type 0} (xs rest : List X) (gone : ℕ) (last : List X) → xs ≡ rest ++ last → gone ≤ length rest → drop gone xs ≡ drop gone rest ++ last
last_left xs rest gone last e le = ap (drop gone) e ∙ drop-append-le gone rest last le

-- ---- how many slots have a value

pub filled_within : {X : Type 0} (xs : List (Option X)) → how_many_filled xs ≤ length xs
filled_within [] = omega arith
filled_within (None ∷ xs) = let rest : how_many_filled xs ≤ length xs = filled_within xs in omega arith
filled_within (Some x ∷ xs) = let rest : how_many_filled xs ≤ length xs = filled_within xs in omega arith

pub filled_push : {X : Type 0} (xs : List (Option X)) (x : X) → how_many_filled (xs ++ Some x ∷ []) ≡ how_many_filled xs + 1
filled_push [] x = refl
filled_push (None ∷ xs) x = filled_push xs x
filled_push (Some y ∷ xs) x = let rest : how_many_filled (xs ++ Some x ∷ []) ≡ how_many_filled xs + 1 = filled_push xs x in omega arith

pub filled_more : {X : Type 0} (xs : List (Option X)) → how_many_filled (xs ++ None ∷ []) ≡ how_many_filled xs
filled_more [] = refl
filled_more (None ∷ xs) = filled_more xs
filled_more (Some y ∷ xs) = ap suc (filled_more xs)

pub filled_append : {X : Type 0} (xs ys : List (Option X)) → how_many_filled (xs ++ ys) ≡ how_many_filled xs + how_many_filled ys
filled_append [] ys = omega arith
filled_append (None ∷ xs) ys = filled_append xs ys
filled_append (Some x ∷ xs) ys = let rest : how_many_filled (xs ++ ys) ≡ how_many_filled xs + how_many_filled ys = filled_append xs ys in omega arith

-- the last slot goes
pub filled_popped : {X : Type 0} (xs rest : List (Option X)) (slot : Option X) → xs ≡ rest ++ slot ∷ [] → how_many_filled xs ≡ (if is_some slot then how_many_filled rest + 1 else how_many_filled rest)
filled_popped xs rest None e = ap how_many_filled e ∙ filled_more rest
filled_popped xs rest (Some x) e = ap how_many_filled e ∙ filled_push rest x

-- at most one value less for each slot that goes
pub filled_take : {X : Type 0} (n : ℕ) (xs : List (Option X)) → how_many_filled xs ≤ how_many_filled (take n xs) + (length xs - n)
filled_take zero xs = let within = filled_within xs in omega arith
filled_take (suc n) [] = omega arith
filled_take (suc n) (None ∷ xs) = let rest : how_many_filled xs ≤ how_many_filled (take n xs) + (length xs - n) = filled_take n xs in omega arith
filled_take (suc n) (Some x ∷ xs) = let rest : how_many_filled xs ≤ how_many_filled (take n xs) + (length xs - n) = filled_take n xs in omega arith

-- one value is taken
pub filled_emptied : {X : Type 0} (xs : List (Option X)) (n : ℕ) (x : X) → slice_get xs n ≡ Some (Some x) → how_many_filled xs ≡ how_many_filled (changed emptied xs n) + 1
filled_emptied [] n x e = absurd cc
filled_emptied (None ∷ xs) zero x e = absurd cc
filled_emptied (Some y ∷ xs) zero x e = omega arith
filled_emptied (None ∷ xs) (suc n) x e = filled_emptied xs n x e
filled_emptied (Some y ∷ xs) (suc n) x e = let rest : how_many_filled xs ≡ how_many_filled (changed emptied xs n) + 1 = filled_emptied xs n x e in omega arith

-- at most one is taken
pub filled_emptied_one : {X : Type 0} (xs : List (Option X)) (n : ℕ) → how_many_filled xs ≤ how_many_filled (changed emptied xs n) + 1
filled_emptied_one [] n = omega arith
filled_emptied_one (None ∷ xs) zero = omega arith
filled_emptied_one (Some x ∷ xs) zero = omega arith
filled_emptied_one (None ∷ xs) (suc n) = filled_emptied_one xs n
filled_emptied_one (Some x ∷ xs) (suc n) = let rest : how_many_filled xs ≤ how_many_filled (changed emptied xs n) + 1 = filled_emptied_one xs n in omega arith

-- one value is changed
pub filled_changed : {X : Type 0} (xs : List (Option X)) (n : ℕ) (x y : X) → slice_get xs n ≡ Some (Some x) → how_many_filled (changed (λ o. Some y) xs n) ≡ how_many_filled xs
filled_changed [] n x y e = absurd cc
filled_changed (None ∷ xs) zero x y e = absurd cc
filled_changed (Some z ∷ xs) zero x y e = refl
filled_changed (None ∷ xs) (suc n) x y e = filled_changed xs n x y e
filled_changed (Some z ∷ xs) (suc n) x y e = ap suc (filled_changed xs n x y e)

-- a value is put where none was
pub filled_put : {X : Type 0} (xs : List (Option X)) (n : ℕ) (x : X) → slice_get xs n ≡ Some None → how_many_filled (changed (λ o. Some x) xs n) ≡ how_many_filled xs + 1
filled_put [] n x e = absurd cc
filled_put (Some y ∷ xs) zero x e = absurd cc
filled_put (None ∷ xs) zero x e = omega arith
filled_put (None ∷ xs) (suc n) x e = filled_put xs n x e
filled_put (Some y ∷ xs) (suc n) x e = let rest : how_many_filled (changed (λ o. Some x) xs n) ≡ how_many_filled xs + 1 = filled_put xs n x e in omega arith

-- ---- how many slots there are

-- where they aren't sparse they are few, also beside others
pub few_unless_sparse : {X : Type 0} (others slots : List (Option X)) → is_sparse slots ≡ false → length slots ≤ most_slots (others ++ slots)
few_unless_sparse others slots dense =
    let all = filled_append others slots in
    let few : length slots ≤ most_slots slots = grind (arith, nat_tests) in
    omega arith
