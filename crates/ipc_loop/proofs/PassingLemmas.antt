-- What passes on.
use Rattle.std.proofs.Common.{◌≡◌, ℕ, List, [], ◌++◌, take, drop, Option, Some, None, refl, sym, ap, subst, ◌∙◌, append_assoc}
use Rattle.std.proofs.lemmas.List.{append-nil, take-append-drop}
use Rattle.ipc_loop.specs.Serving.{PassesOn}

pub passes_nothing : (x : Option (List ℕ)) → PassesOn x [] [] x
passes_nothing None = (refl, refl)
passes_nothing (Some left) = append-nil left

pub passes_end : (x : Option (List ℕ)) → PassesOn x [] [] None
passes_end None = (refl, refl)
passes_end (Some left) = (left, append-nil left)

-- nothing passes any more
pub passes_away : (x : Option (List ℕ)) (bytes : List ℕ) → PassesOn x bytes [] None
passes_away None bytes = (refl, refl)
passes_away (Some left) bytes = (left ++ bytes, refl)

-- what was left is written as far as the link takes it
pub passes_part : (left : List ℕ) (n : ℕ) → PassesOn (Some left) [] (take n left) (Some (drop n left))
passes_part left n = append-nil left ∙ sym (take-append-drop n left)

-- so are these bytes, where nothing was left
pub passes_front : (bytes : List ℕ) (n : ℕ) → PassesOn (Some []) bytes (take n bytes) (Some (drop n bytes))
passes_front bytes n = sym (take-append-drop n bytes)

pub passes_dropped : (bytes : List ℕ) (n : ℕ) → PassesOn (Some []) bytes (take n bytes) None
passes_dropped bytes n = (drop n bytes, sym (take-append-drop n bytes))

-- a piece that passes whole
pub passes_whole : (piece : List ℕ) (x : Option (List ℕ)) → ((left : List ℕ) → x ≡ Some left → left ≡ []) → PassesOn (Some []) piece piece x
passes_whole piece None none = ([], sym (append-nil piece))
passes_whole piece (Some left) none = sym (append-nil piece) ∙ ap (λ (t : List ℕ). piece ++ t) (sym (none left refl))

joined : (l c p m c' p' n : List ℕ) → l ++ c ≡ p ++ m → m ++ c' ≡ p' ++ n → l ++ (c ++ c') ≡ (p ++ p') ++ n
joined l c p m c' p' n a b = sym (append_assoc l c c') ∙ ap (λ (t : List ℕ). t ++ c') a ∙ append_assoc p m c' ∙ ap (λ (t : List ℕ). p ++ t) b ∙ sym (append_assoc p p' n)

none_more : (p p' : List ℕ) → p' ≡ [] → p ++ p' ≡ p
none_more p p' e = ap (λ (t : List ℕ). p ++ t) e ∙ append-nil p

pub passes_both : (x y z : Option (List ℕ)) (c p c' p' : List ℕ) → PassesOn x c p y → PassesOn y c' p' z → PassesOn x (c ++ c') (p ++ p') z
passes_both None y z c p c' p' a b =
    let next : (p' ≡ []) × (z ≡ None) = subst (λ (w : Option (List ℕ)). PassesOn w c' p' z) a.1 b in
    (ap (λ (t : List ℕ). t ++ p') a.0 ∙ next.0, next.1)
passes_both (Some l) None z c p c' p' a b =
    subst (λ (w : Option (List ℕ)). PassesOn (Some l) (c ++ c') (p ++ p') w) (sym b.1)
    (a.0 ++ c', joined l c p a.0 c' [] (a.0 ++ c') a.1 refl ∙ ap (λ (t : List ℕ). t ++ (a.0 ++ c')) (append-nil p ∙ sym (none_more p p' b.0)))
passes_both (Some l) (Some m) None c p c' p' a b = (b.0, joined l c p m c' p' b.0 a b.1)
passes_both (Some l) (Some m) (Some n) c p c' p' a b = joined l c p m c' p' n a b

pub passes_stop : (x y : Option (List ℕ)) (c p : List ℕ) → PassesOn x c p y → x ≡ None → y ≡ None
passes_stop None y c p a e = a.1
passes_stop (Some l) y c p a e = absurd cc
