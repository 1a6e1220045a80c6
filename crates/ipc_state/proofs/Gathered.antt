-- Lists that are gathered from numbers: the change of the item that bears a number, and how many pass a test.
use Rattle.std.proofs.Common.{◌≡◌, ℕ, zero, suc, ◌+◌, ◌⊎◌, inl, inr, Bool, true, false, cond, List, [], ◌∷◌, ◌++◌, find, Option, Some, None, refl, sym, ap, ◌∙◌, arith}
use Rattle.std.specs.Option.{option_map, option_to_list}
use Rattle.std.proofs.lemmas.Bool.{cases_eq}
use Rattle.ipc_terms.specs.Lists.{changed_first}
use Rattle.ipc_terms.proofs.Lists.{counted, count_push}
use Rattle.ipc_policy.specs.Decides.History.{gathered_below, how_many_below}
use Rattle.ipc_policy.proofs.Lists.Gathering.{gathered_same, passes, find_none}
use Rattle.ipc_policy.proofs.Directories.Living.{append_none}

-- the change of the one that bears a number
past_none : {X : Type 0} (p : X → Bool) (f : X → X) (xs : List X) (w : Option X) → passes p w ≡ false → changed_first p f (xs ++ option_to_list w) ≡ changed_first p f xs ++ option_to_list w
past_none p f [] None e = refl
past_none p f [] (Some x) e = rw e refl
past_none {X = X} p f (y ∷ ys) w e = at (p y) (past_none p f ys w e) where
  at : (b : Bool) → changed_first p f (ys ++ option_to_list w) ≡ changed_first p f ys ++ option_to_list w → cond b (f y ∷ (ys ++ option_to_list w)) (y ∷ changed_first p f (ys ++ option_to_list w)) ≡ cond b (f y ∷ ys) (y ∷ changed_first p f ys) ++ option_to_list w
  at true rest = refl
  at false rest = ap (λ l. y ∷ l) rest

changed_own : {X : Type 0} (p : X → Bool) (f : X → X) (xs : List X) (w : Option X) → find p xs ≡ None → ((x : X) → w ≡ Some x → p x ≡ true) → changed_first p f (xs ++ option_to_list w) ≡ xs ++ option_to_list (option_map f w)
changed_own p f [] None e own = refl
changed_own p f [] (Some x) e own = rw (own x refl) refl
changed_own {X = X} p f (y ∷ ys) w e own = at (p y) e (λ k. changed_own p f ys w k own) where
  at : (b : Bool) → cond b (Some y) (find p ys) ≡ None → (find p ys ≡ None → changed_first p f (ys ++ option_to_list w) ≡ ys ++ option_to_list (option_map f w)) → cond b (f y ∷ (ys ++ option_to_list w)) (y ∷ changed_first p f (ys ++ option_to_list w)) ≡ y ∷ (ys ++ option_to_list (option_map f w))
  at true k rest = absurd cc
  at false k rest = ap (λ l. y ∷ l) (rest k)

pub gathered_changed : {X : Type 0} (p : X → Bool) (f : X → X) (g k : ℕ → Option X) (n o : ℕ) → ((i : ℕ) → (i ≡ o → ⊥) → passes p (g i) ≡ false) → ((x : X) → g o ≡ Some x → p x ≡ true) → ((i : ℕ) → (i ≡ o → ⊥) → k i ≡ g i) → k o ≡ option_map f (g o) → changed_first p f (gathered_below g n) ≡ gathered_below k n
gathered_changed p f g k zero o others own same here = refl
gathered_changed p f g k (suc n) o others own same here = at (cases_eq n o) (gathered_changed p f g k n o others own same here) where
  at : (n ≡ o) ⊎ (n ≡ o → ⊥) → changed_first p f (gathered_below g n) ≡ gathered_below k n → changed_first p f (gathered_below g (suc n)) ≡ gathered_below k (suc n)
  at (inl e) rest =
      changed_own p f (gathered_below g n) (g n) (find_none p g n o (omega arith) others) (λ x is. own x (ap g (sym e) ∙ is))
      ∙ ap (λ l. l ++ option_to_list (option_map f (g n))) (gathered_same g k n (λ i lt. sym (same i (λ q. absurd (omega arith)))))
      ∙ ap (λ w. gathered_below k n ++ option_to_list w) (ap (λ i. option_map f (g i)) e ∙ sym here ∙ ap k (sym e))
  at (inr ne) rest =
      past_none p f (gathered_below g n) (g n) (others n ne)
      ∙ ap (λ l. l ++ option_to_list (g n)) rest
      ∙ ap (λ w. gathered_below k n ++ option_to_list w) (sym (same n ne))

-- how many pass in a list that is gathered
more_counted : {X : Type 0} (p : X → Bool) (xs : List X) (w : Option X) → counted p (xs ++ option_to_list w) ≡ cond (passes p w) (counted p xs + 1) (counted p xs)
more_counted p xs None = ap (counted p) (append_none xs)
more_counted p xs (Some x) = count_push p xs x

pub gathered_count : {X : Type 0} (p : X → Bool) (g : ℕ → Option X) (n : ℕ) → counted p (gathered_below g n) ≡ how_many_below (λ i. passes p (g i)) n
gathered_count p g zero = refl
gathered_count p g (suc n) = more_counted p (gathered_below g n) (g n) ∙ ap (λ k. cond (passes p (g n)) (k + 1) k) (gathered_count p g n)
