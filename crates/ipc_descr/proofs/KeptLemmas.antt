-- Each key leads to its row, and the slab holds no other, after each change.
use Rattle.std.proofs.Common.{◌≡◌, ◌≢◌, Bool, true, false, ℕ, zero, suc, ◌+◌, ◌==◌, List, [], ◌∷◌, ◌++◌, Option, Some, None, length, refl, sym, ap, subst, ◌∙◌, arith}
use Rattle.std.proofs.lemmas.Bool.Decides.{nat_tests}
use Rattle.std.specs.Option.{option_map}
use Rattle.slab.specs.Slab.{Slab, get, slab_len, Updates}
use Rattle.ipc_terms.specs.Lists.{changed}
use Rattle.ipc_containers.specs.Slots.{at, emptied}
use Rattle.ipc_containers.proofs.SlotsLemmas.{slot_at, filled_push, filled_emptied}
use Rattle.ipc_descr.specs.declared.row.Row.{Row}
use Rattle.ipc_descr.specs.Places.{IsRow, Kept}

-- a slab's room is no matter
pub kept_reserved : (rows next : Slab Row) (slots : List (Option ℕ)) → next ≡ record rows { capacity = next.capacity } → Kept rows slots → Kept next slots
kept_reserved rows next slots same kept =
    let stored : next.slots ≡ rows.slots = ap (λ s. s.slots) same in
    record { leads = rw stored kept.leads; no_other = rw stored kept.no_other }

-- ---- a key at its number

pushed_at : {P : Type 0} (slots : List (Option ℕ)) (k d q : ℕ) → at (slots ++ Some k ∷ []) d ≡ Some q → (at slots d ≡ Some q → P) → (d ≡ length slots → q ≡ k → P) → P
pushed_at [] k zero q e before last = last refl (cc)
pushed_at [] k (suc d) q e before last = absurd cc
pushed_at (slot ∷ slots) k zero q e before last = before e
pushed_at (slot ∷ slots) k (suc d) q e before last = pushed_at slots k d q e before (λ (here : d ≡ length slots) (same : q ≡ k). last (ap suc here) same)

emptied_at : (slots : List (Option ℕ)) (d e q : ℕ) → at (changed emptied slots d) e ≡ Some q → (e ≢ d) × (at slots e ≡ Some q)
emptied_at [] d e q there = absurd cc
emptied_at (slot ∷ slots) zero zero q there = absurd cc
emptied_at (slot ∷ slots) zero (suc e) q there = ((λ (same : suc e ≡ zero). omega arith), there)
emptied_at (slot ∷ slots) (suc d) zero q there = ((λ (same : zero ≡ suc d). omega arith), there)
emptied_at (slot ∷ slots) (suc d) (suc e) q there =
    let rest = emptied_at slots d e q there in
    ((λ (same : suc e ≡ suc d). rest.0 (omega arith)), rest.1)

-- ---- a row

row_some : (d : ℕ) (o : Option Row) → IsRow d o → o ≢ None
row_some d None is none = is
row_some d (Some row) is none = cc

row_once : (d e : ℕ) (o : Option Row) → IsRow d o → IsRow e o → d ≡ e
row_once d e None is too = absurd is
row_once d e (Some row) is too = sym is ∙ too

-- one row more
pub kept_pushed : (rows next : Slab Row) (slots later : List (Option ℕ)) (k : ℕ) (row : Row) → Kept rows slots → later ≡ slots ++ Some k ∷ [] → get rows k ≡ None → Updates rows next k (Some row) → slab_len next ≡ slab_len rows + 1 → row.desc.0 ≡ length slots → Kept next later
kept_pushed rows next slots later k row kept is vacant updates len n = rw is (record {
  leads = λ d q there. pushed_at slots k d q there
      (λ before. let row_is = kept.leads d q before in subst (IsRow d) (sym (updates.others q (λ (same : q ≡ k). row_some d (get rows q) row_is (ap (get rows) same ∙ vacant)))) row_is)
      (λ last same. subst (IsRow d) (sym (ap (get next) same ∙ updates.changed)) (n ∙ sym last));
  no_other = let more = filled_push slots k in let was = kept.no_other in omega arith;
})

-- a row changes, and keeps its number
by_key : (rows next : Slab Row) (k d q : ℕ) (b : Bool) → (q == k) ≡ b → (IsRow d (get rows k) → IsRow d (get next k)) → ((q : ℕ) → q ≢ k → get next q ≡ get rows q) → IsRow d (get rows q) → IsRow d (get next q)
by_key rows next k d q true test here others is =
    let same : q ≡ k = grind (arith, nat_tests) in
    subst (λ key. IsRow d (get next key)) (sym same) (here (subst (λ key. IsRow d (get rows key)) same is))
by_key rows next k d q false test here others is = subst (IsRow d) (sym (others q (λ (same : q ≡ k). grind (arith, nat_tests)))) is

row_changed : (change : Row → Row) (d : ℕ) (o : Option Row) → ((row : Row) → (change row).desc ≡ row.desc) → IsRow d o → IsRow d (option_map change o)
row_changed change d None numbered is = is
row_changed change d (Some row) numbered is = ap (λ desc. desc.0) (numbered row) ∙ is

pub kept_changed : (rows next : Slab Row) (slots : List (Option ℕ)) (k : ℕ) (change : Row → Row) → Kept rows slots → ((row : Row) → (change row).desc ≡ row.desc) → Updates rows next k (option_map change (get rows k)) → slab_len next ≡ slab_len rows → Kept next slots
kept_changed rows next slots k change kept numbered updates len = record {
  leads = λ d q there. by_key rows next k d q (q == k) refl (λ is. subst (IsRow d) (sym updates.changed) (row_changed change d (get rows k) numbered is)) updates.others (kept.leads d q there);
  no_other = len ∙ kept.no_other;
}

-- a row is taken out, and its key
pub kept_closed : (rows next : Slab Row) (slots : List (Option ℕ)) (d k : ℕ) → Kept rows slots → at slots d ≡ Some k → Updates rows next k None → slab_len next + 1 ≡ slab_len rows → Kept next (changed emptied slots d)
kept_closed rows next slots d k kept there updates len = record {
  leads = λ e q left.
      let was = emptied_at slots d e q left in
      let is = kept.leads e q was.1 in
      subst (IsRow e) (sym (updates.others q (λ (same : q ≡ k). was.0 (row_once e d (get rows k) (subst (λ key. IsRow e (get rows key)) same is) (kept.leads d k there))))) is;
  no_other = let one = filled_emptied slots d k (slot_at slots d k there) in let was = kept.no_other in omega arith;
}
