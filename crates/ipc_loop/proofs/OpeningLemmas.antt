-- How many links are open, and which stay closed.
use Rattle.std.proofs.Common.{◌≡◌, inl, inr, ℕ, zero, suc, ◌+◌, ◌≤◌, Bool, true, false, eqb, cond, List, [], ◌∷◌, ◌++◌, length, set, slice_get, Option, Some, None, refl, sym, ap, subst, ◌∙◌, arith}
use Rattle.std.specs.Prelude.{MatchOption, ⊤}
use Rattle.std.proofs.lemmas.Bool.{leb-false, eqb-true}
use Rattle.std.proofs.lemmas.List.{length-set, length_push}
use Rattle.ipc_hub.specs.Hub.{Hub}
use Rattle.ipc_loop.specs.Moves.{Moved}
use Rattle.ipc_loop.specs.declared.accepting.Bounds.{Bounds}
use Rattle.ipc_loop.specs.Ports.{Port, new_port, open_at, port_at, how_many_open, Continues, OnlyCloses}
use Rattle.ipc_loop.specs.Bounds.{are_all, IsWithin, HasRoom, AddsAtMostOne}
use Rattle.ipc_loop.specs.Standing.{Ports, IsSettled, IsResting}
use Rattle.ipc_loop.proofs.PortLemmas.{Slots, get_set}

-- ---- how many are open

pub one_out : (xs : Slots) (k : ℕ) (p : Port) → slice_get xs k ≡ Some (Some p) → how_many_open (set xs k None) + 1 ≡ how_many_open xs
one_out [] k p e = absurd cc
one_out (x ∷ xs) zero p e = let is : x ≡ Some p = cc in rw is refl
one_out (None ∷ xs) (suc k) p e = one_out xs k p e
one_out (Some q ∷ xs) (suc k) p e = ap (λ (n : ℕ). n + 1) (one_out xs k p e)

pub one_more : (xs : Slots) (p : Port) → how_many_open (xs ++ Some p ∷ []) ≡ how_many_open xs + 1
one_more [] p = refl
one_more (None ∷ xs) p = one_more xs p
one_more (Some q ∷ xs) p = ap (λ (n : ℕ). n + 1) (one_more xs p)

-- ---- links that are closed

pub closes_same : (xs ys : Slots) → ys ≡ xs → OnlyCloses xs ys
closes_same xs ys same = record { count = ap (λ (zs : Slots). length zs) same; closed = λ i e. ap (λ (zs : Slots). slice_get zs i) same ∙ e }

pub closes_both : (xs ys zs : Slots) → OnlyCloses xs ys → OnlyCloses ys zs → OnlyCloses xs zs
closes_both xs ys zs a b = record { count = b.count ∙ a.count; closed = λ i e. b.closed i (a.closed i e) }

stays_closed : (here : Bool) (p : Port) (y : Option Port) (s : Option (Option Port)) → (here ≡ true → s ≡ Some (Some p)) → s ≡ Some None → cond here (Some y) s ≡ Some None
stays_closed true p y s there e = let wrong : Some None ≡ Some (Some p) = sym e ∙ there refl in absurd cc
stays_closed false p y s there e = e

set_closes : (xs : Slots) (k : ℕ) (p : Port) (y : Option Port) → slice_get xs k ≡ Some (Some p) → OnlyCloses xs (set xs k y)
set_closes xs k p y there = record {
  count = length-set xs k y;
  closed = λ i e. get_set xs k (Some p) y i there ∙ stays_closed (eqb k i) p y (slice_get xs i) (λ here. ap (λ (j : ℕ). slice_get xs j) (sym (eqb-true k i here)) ∙ there) e;
}

-- a port that stood in its place before is settled
pub settled_closes : (k : ℕ) (h h' : Hub) (m m' : Option (List Moved)) (p p' : Port) (xs ys : Slots) → slice_get xs k ≡ Some (Some p) → IsSettled h m xs k p' h' m' ys → OnlyCloses xs ys
settled_closes k h h' m m' p p' xs ys there (inl put) = subst (λ (zs : Slots). OnlyCloses xs zs) (sym put.2) (set_closes xs k p (Some p') there)
settled_closes k h h' m m' p p' xs ys there (inr gone) = subst (λ (zs : Slots). OnlyCloses xs zs) (sym gone.2) (set_closes xs k p None there)

rest_closes : (x y : Option Port) (xs ys : Slots) → OnlyCloses (x ∷ xs) (y ∷ ys) → OnlyCloses xs ys
rest_closes x y xs ys a = record { count = omega (arith, a.count); closed = λ i e. a.closed (suc i) e }

pub closes_fewer : (xs ys : Slots) → OnlyCloses xs ys → how_many_open ys ≤ how_many_open xs
closes_fewer [] [] a = omega arith
closes_fewer [] (y ∷ ys) a = absurd (omega (arith, a.count))
closes_fewer (x ∷ xs) [] a = absurd (omega (arith, a.count))
closes_fewer (None ∷ xs) (None ∷ ys) a = closes_fewer xs ys (rest_closes None None xs ys a)
closes_fewer (None ∷ xs) (Some q ∷ ys) a = let wrong : Some (Some q) ≡ Some None = a.closed 0 refl in absurd cc
closes_fewer (Some p ∷ xs) (None ∷ ys) a = let few : how_many_open ys ≤ how_many_open xs = closes_fewer xs ys (rest_closes (Some p) None xs ys a) in omega arith
closes_fewer (Some p ∷ xs) (Some q ∷ ys) a = let few : how_many_open ys ≤ how_many_open xs = closes_fewer xs ys (rest_closes (Some p) (Some q) xs ys a) in omega arith

-- ---- numbers that are not used again

pub goes_same : (xs : Slots) → Continues xs xs
goes_same xs = record { count = omega arith; closed = λ i e. e }

pub goes_both : (xs ys zs : Slots) → Continues xs ys → Continues ys zs → Continues xs zs
goes_both xs ys zs a b = record { count = omega (arith, a.count, b.count); closed = λ i e. b.closed i (a.closed i e) }

pub closes_goes : (xs ys : Slots) → OnlyCloses xs ys → Continues xs ys
closes_goes xs ys a = record { count = omega (arith, a.count); closed = a.closed }

pub one_longer : (xs : Slots) (x : Option Port) → length (xs ++ x ∷ []) ≡ length xs + 1
one_longer xs x = omega (arith, length_push xs x)

kept_place : (xs : Slots) (x : Option Port) (i : ℕ) (y : Option Port) → slice_get xs i ≡ Some y → slice_get (xs ++ x ∷ []) i ≡ Some y
kept_place [] x i y e = absurd cc
kept_place (z ∷ zs) x zero y e = e
kept_place (z ∷ zs) x (suc i) y e = kept_place zs x i y e

pub adds_goes : (xs ys : Slots) → AddsAtMostOne xs ys → Continues xs ys
adds_goes xs ys (inl same) = subst (λ (zs : Slots). Continues xs zs) (sym same) (goes_same xs)
adds_goes xs ys (inr more) = subst (λ (zs : Slots). Continues xs zs) (sym more) (record { count = omega (arith, one_longer xs (Some new_port)); closed = λ i e. kept_place xs (Some new_port) i None e })

-- ---- no more links than may be

fits : (stop : Option ℕ) (n m : ℕ) → are_all stop n ≡ false → m ≡ n + 1 → MatchOption stop ⊤ (λ count. m ≤ count)
fits None n m e f = tt
fits (Some count) n m e f = omega (arith, leb-false count n e)

pub adds_within : (b : Bounds) (xs ys : Slots) → HasRoom b xs → AddsAtMostOne xs ys → IsWithin b xs → IsWithin b ys
adds_within b xs ys room (inl same) w = subst (λ (zs : Slots). IsWithin b zs) (sym same) w
adds_within b xs ys room (inr more) w = subst (λ (zs : Slots). IsWithin b zs) (sym more) (record {
  opened = omega (arith, one_more xs new_port, room.opened);
  accepted = fits b.stop_after (length xs) (length (xs ++ Some new_port ∷ [])) room.accepted (one_longer xs (Some new_port));
})

pub closes_within : (b : Bounds) (xs ys : Slots) → OnlyCloses xs ys → IsWithin b xs → IsWithin b ys
closes_within b xs ys a w = record {
  opened = omega (arith, closes_fewer xs ys a, w.opened);
  accepted = subst (λ (n : ℕ). MatchOption b.stop_after ⊤ (λ count. n ≤ count)) (sym a.count) w.accepted;
}

none_accepted : (stop : Option ℕ) → MatchOption stop ⊤ (λ count. 0 ≤ count)
none_accepted None = tt
none_accepted (Some count) = omega arith

-- a new loop
pub rests_new : (h : Hub) (ports : Ports) (b : Bounds) → ports.all ≡ [] → ports.turns ≡ [] → IsResting h ports b
rests_new h ports b none turns = record {
  turns = turns;
  marked = λ i u. ((λ port e. no_port i port e), (λ port e. no_port i port e));
  within = subst (λ (zs : Slots). IsWithin b zs) (sym none) (record { opened = omega arith; accepted = none_accepted b.stop_after });
  closed = λ i e. let wrong : Some new_port ≡ None = sym (ap (λ (zs : Slots). port_at zs i) none) ∙ e in absurd cc;
} where
  no_port : {A : Type 0} (i : ℕ) (port : Port) → open_at ports.all i ≡ Some port → A
  no_port i port e = let wrong : None ≡ Some port = sym (ap (λ (zs : Slots). open_at zs i) none) ∙ e in absurd cc
