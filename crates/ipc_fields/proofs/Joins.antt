-- Texts one after another.
use Rattle.std.proofs.Common.{◌≡◌, ℕ, List, ◌++◌, Option, Some, None, refl, sym, ap, ◌∙◌, append_assoc}
use Rattle.ipc_fields.proofs.FieldLemmas.{some_is}
use Rattle.ipc_fields.specs.Field.{◌⊕◌}

pub join_assoc : (a b c : Option (List ℕ)) → ((a ⊕ b) ⊕ c) ≡ (a ⊕ (b ⊕ c))
join_assoc None b c = refl
join_assoc (Some x) None c = refl
join_assoc (Some x) (Some y) None = refl
join_assoc (Some x) (Some y) (Some z) = ap Some (append_assoc x y z)

pub join_none : (a : Option (List ℕ)) → (a ⊕ None) ≡ None
join_none None = refl
join_none (Some x) = refl

-- what three writers left
pub three_put : (old a b c first second new : List ℕ) → (Some old ⊕ Some a) ≡ Some first → (Some first ⊕ Some b) ≡ Some second → new ≡ second ++ c → (Some old ⊕ ((Some a ⊕ Some b) ⊕ Some c)) ≡ Some new
three_put old a b c first second new d e f =
    let one : old ++ a ≡ first = some_is _ _ d in
    let two : first ++ b ≡ second = some_is _ _ e in
    let all : (old ++ a) ++ b ≡ second = ap (λ (x : List ℕ). x ++ b) one ∙ two in
    let left : old ++ ((a ++ b) ++ c) ≡ ((old ++ a) ++ b) ++ c = ap (λ (x : List ℕ). old ++ x) (append_assoc a b c) ∙ sym (append_assoc old a (b ++ c)) ∙ sym (append_assoc (old ++ a) b c) in
    ap Some (left ∙ ap (λ (x : List ℕ). x ++ c) all ∙ sym f)

pub ruleset joins = (join_assoc, join_none)
