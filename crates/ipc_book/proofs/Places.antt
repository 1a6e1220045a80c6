-- A seat's receipts stay in order when a receipt of a new place is added.
use Rattle.std.proofs.Common.{◌≡◌, ℕ, ◌+◌, ◌-◌, ◌<◌, ◌⊎◌, Bool, true, false, eqb, cond, List, [], ◌∷◌, ◌++◌, Some, None, length, slice_get, refl, sym, ap, subst, ◌∙◌, inl, inr, arith, length-append}
use Rattle.std.specs.Prelude.{IfSome}
use Rattle.std.specs.Option.{option_map, option_or}
use Rattle.std.proofs.lemmas.Bool.{eqb-true}
use Rattle.std.proofs.lemmas.Option.{same_Some, slice_get_within, slice_get_cases}
use Rattle.ipc_terms.proofs.Lists.{slice_get_push}
use Rattle.ipc_policy.specs.Decides.History.{History}
use Rattle.ipc_book.specs.declared.entry.Entry.{Entry}
use Rattle.ipc_book.specs.Seats.{receipt_at, IsCurrent, IsInOrder}
use Rattle.ipc_book.proofs.LastReceipts.{receipt_below}
use Rattle.ipc_book.proofs.Counts.{same_or}

push_cases : (list : List Entry) (x : Entry) (j : ℕ) (b : Entry) → slice_get (list ++ x ∷ []) j ≡ Some b → ((length list ≡ j) × (x ≡ b)) ⊎ (slice_get list j ≡ Some b)
push_cases list x j b k = at (eqb (length list) j) refl (sym (slice_get_push list x j) ∙ k) where
  at : (t : Bool) → eqb (length list) j ≡ t → option_or (cond t (Some x) None) (slice_get list j) ≡ Some b → ((length list ≡ j) × (x ≡ b)) ⊎ (slice_get list j ≡ Some b)
  at true e q = inl (eqb-true (length list) j e, same_Some x b q)
  at false e q = inr q

-- where the last receipt stands at its place, all places are within
pub below_end : (h : History) (list : List Entry) (i : ℕ) (a : Entry) → IsCurrent h list → IsInOrder list → slice_get list i ≡ Some a → a.receipt.place < length h
below_end h list i a current rises at =
    let within : i < length list = slice_get_within list i a at in
    elim (slice_get_cases list (length list - 1)).1 [
      | inl t ↦ (
          let l = t.0 in
          let got : slice_get list (length list - 1) ≡ Some l = t.2 in
          let stand = subst (λ o. IfSome (option_map (λ (x : Entry). x.receipt) o) (λ p. receipt_at h p.place ≡ Some p)) got current in
          let below : l.receipt.place < length h = receipt_below h l.receipt.place l.receipt stand in
          elim (same_or i (length list - 1)) [
            | inl e ↦ (let same : l ≡ a = same_Some l a (sym got ∙ ap (slice_get list) (sym e) ∙ at) in subst (λ (v : Entry). v.receipt.place < length h) same below)
            | inr other ↦ (let less = rises i (length list - 1) a l (omega arith) at got in omega arith)
          ]
          )
      | inr t ↦ (let past = t.0 in absurd (omega arith))
    ]

pub rises_push : (h : History) (list list' : List Entry) (x : Entry) → IsCurrent h list → x.receipt.place ≡ length h → IsInOrder list → list' ≡ list ++ x ∷ [] → IsInOrder list'
rises_push h list list' x current place rises is = subst IsInOrder (sym is) pushed where
  pushed : IsInOrder (list ++ x ∷ [])
  pushed i j a b less ati atj =
      elim (push_cases list x j b atj) [
        | inl e ↦ elim (push_cases list x i a ati) [
          | inl f ↦ (let p = e.0 in let q = f.0 in absurd (omega arith))
          | inr f ↦ (
              let below = below_end h list i a current rises f in
              let same : b.receipt.place ≡ length h = ap (λ (v : Entry). v.receipt.place) (sym e.1) ∙ place in
              omega arith
              )
        ]
        | inr e ↦ elim (push_cases list x i a ati) [
          | inl f ↦ (let p = f.0 in let within = slice_get_within list j b e in absurd (omega arith))
          | inr f ↦ rises i j a b less f e
        ]
      ]

pub one_longer : (list list' : List Entry) (x : Entry) (was now : ℕ) → was ≡ length list → now ≡ was + 1 → list' ≡ list ++ x ∷ [] → now ≡ length list'
one_longer list list' x was now same more is =
    let longer : length list' ≡ length list + 1 = ap length is ∙ length-append list (x ∷ []) in omega arith
