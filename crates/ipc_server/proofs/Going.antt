-- Receipts that go on.
use Rattle.std.proofs.Common.{ℕ, ◌≡◌, List, [], ◌∷◌, ◌++◌, sym, ap, ◌∙◌, append_assoc}
use Rattle.ipc_terms.specs.Lists.{Each}
use Rattle.ipc_book.specs.declared.entry.Entry.{Entry}
use Rattle.ipc_server.specs.Begun.{BeginsWith, IsTickOf, GoesOnByTicks}

pub further : {A : Type 0} → (xs ys zs : List A) (x : A) → BeginsWith xs ys → zs ≡ ys ++ x ∷ [] → BeginsWith xs zs
further xs ys zs x h e = (h.0 ++ x ∷ [], sym (append_assoc xs h.0 (x ∷ [])) ∙ ap (λ v. v ++ x ∷ []) h.1 ∙ sym e)

each_push : {A : Type 0} → (P : A → Type 0) (xs : List A) (x : A) → Each P xs → P x → Each P (xs ++ x ∷ [])
each_push P [] x h p = (p, tt)
each_push P (y ∷ ys) x h p = (h.0, each_push P ys x h.1 p)

-- one tick more
pub further_by_tick : (shown : ℕ → Type 0) (xs ys zs : List Entry) (x : Entry) → GoesOnByTicks shown xs ys → IsTickOf shown x → zs ≡ ys ++ x ∷ [] → GoesOnByTicks shown xs zs
unfolding further
further_by_tick shown xs ys zs x h tick e =
    let longer = further xs ys zs x (h.0, h.1) e in
    (longer.0, longer.1, each_push (IsTickOf shown) h.0 x h.2 tick)
