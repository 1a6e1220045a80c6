-- Each user's charge covers what the user's objects take, also once an object has given back what it took.
use Rattle.std.proofs.Common.{map, find, is_some, ◌≡◌, ℕ, ◌+◌, ◌-◌, ◌≤◌, Bool, true, false, not, eqb, cond, filter, List, [], ◌∷◌, Option, Some, None, refl, sym, ap, ◌∙◌, arith}
use Rattle.std.specs.Option.{option_map, option_map_or}
use Rattle.std.proofs.lemmas.Bool.{eqb-true, eq-eqb}
use Rattle.std.proofs.lemmas.List.Sums.{sum_by-cons}
use Rattle.ipc_terms.specs.Lists.{changed_first}
use Rattle.ipc_terms.specs.declared.ids.Desc.{Desc}
use Rattle.ipc_terms.specs.declared.ids.Sid.{Sid}
use Rattle.ipc_queue.specs.Tickets.{without_registration}
use Rattle.ipc_descr.specs.declared.charges.Charge.{Charge}
use Rattle.ipc_descr.specs.Charges.{is_user, charge_of, used_of, with_less, lowered}
use Rattle.ipc_descr.specs.declared.row.Row.{Row}
use Rattle.ipc_descr.specs.Descriptions.{is_desc}
use Rattle.ipc_tables.specs.declared.rows.ObjectRow.{ObjectRow}
use Rattle.ipc_tables.specs.Objects.{is_number, registered_in, with_queue, held_by, with_held, with_withdrawal}
use Rattle.ipc_tables.specs.TablesView.{TablesView, parked_on_at}
use Rattle.ipc_tables.specs.Steps.{after_withdrawal}
use Rattle.ipc_tables.specs.Charging.{taken_by, taken, Covered, settled}

differ : true ≡ false → ⊥
differ e = absurd cc

-- a user's charge, once the charge of another, or the user's, has changed
pub charge_changed : (f : Charge → Charge) → ((x : Charge) → (f x).uid ≡ x.uid) → (charges : List Charge) (v u : ℕ) → charge_of (changed_first (is_user v) f charges) u ≡ cond (eqb v u) (option_map f (charge_of charges u)) (charge_of charges u)
charge_changed f same [] v u = at (eqb v u) where
  at : (b : Bool) → ◌≡◌ {A = Option Charge} None (cond b None None)
  at true = refl
  at false = refl
charge_changed f same (x ∷ xs) v u = at (eqb x.uid.0 v) refl (eqb x.uid.0 u) refl (eqb v u) refl (charge_changed f same xs v u) where
  at : (a : Bool) → eqb x.uid.0 v ≡ a → (b : Bool) → eqb x.uid.0 u ≡ b → (e : Bool) → eqb v u ≡ e → charge_of (changed_first (is_user v) f xs) u ≡ cond e (option_map f (charge_of xs u)) (charge_of xs u) → charge_of (cond a (f x ∷ xs) (x ∷ changed_first (is_user v) f xs)) u ≡ cond e (option_map f (cond b (Some x) (charge_of xs u))) (cond b (Some x) (charge_of xs u))
  at true p true q true r rest = rw (same x, q) refl
  at true p false q false r rest = rw (same x, q) refl
  at false p true q false r rest = rw q refl
  at false p false q e r rest = rw q rest
  at true p true q false r rest = absurd (differ (sym (eq-eqb v u (sym (eqb-true _ _ p) ∙ eqb-true _ _ q)) ∙ r))
  at true p false q true r rest = absurd (differ (sym (eq-eqb x.uid.0 u (eqb-true _ _ p ∙ eqb-true _ _ r)) ∙ q))
  at false p true q true r rest = absurd (differ (sym (eq-eqb x.uid.0 v (eqb-true _ _ q ∙ sym (eqb-true _ _ r))) ∙ p))

-- each user's charge once the objects that are not kept have given back what they took
lowered_more : (b : Bool) (w : Option Charge) (bytes rest : ℕ) → option_map (lowered rest) (cond b (option_map (lowered bytes) w) w) ≡ option_map (lowered (cond b bytes 0 + rest)) w
lowered_more true None bytes rest = refl
lowered_more false None bytes rest = refl
lowered_more true (Some x) bytes rest = let less : (x.used - bytes) - rest ≡ x.used - (bytes + rest) = omega arith in ap (λ n. Some (record x { used = n })) less
lowered_more false (Some x) bytes rest = let less : x.used - rest ≡ x.used - (0 + rest) = omega arith in ap (λ n. Some (record x { used = n })) less

lowered_none : (w : Option Charge) → w ≡ option_map (lowered 0) w
lowered_none None = refl
lowered_none (Some x) = let less : x.used ≡ x.used - 0 = omega arith in ap (λ n. Some (record x { used = n })) less

pub settled_charge : (keep : ObjectRow → Bool) (rows : List ObjectRow) (charges : List Charge) (u : ℕ) → charge_of (settled keep rows charges) u ≡ option_map (lowered (taken u (filter (λ row. not (keep row)) rows))) (charge_of charges u)
settled_charge keep [] charges u = lowered_none (charge_of charges u)
settled_charge keep (row ∷ rows) charges u = at (keep row) (settled_charge keep rows charges u) (settled_charge keep rows (with_less charges row.object.creator.0 row.bytes) u) where
  at : (b : Bool) → charge_of (settled keep rows charges) u ≡ option_map (lowered (taken u (filter (λ row. not (keep row)) rows))) (charge_of charges u) → charge_of (settled keep rows (with_less charges row.object.creator.0 row.bytes)) u ≡ option_map (lowered (taken u (filter (λ row. not (keep row)) rows))) (charge_of (with_less charges row.object.creator.0 row.bytes) u) → charge_of (settled keep rows (cond b charges (with_less charges row.object.creator.0 row.bytes))) u ≡ option_map (lowered (taken u (cond (not b) (row ∷ filter (λ row. not (keep row)) rows) (filter (λ row. not (keep row)) rows)))) (charge_of charges u)
  at true kept dead = kept
  at false kept dead =
      dead
      ∙ ap (option_map (lowered (taken u (filter (λ row. not (keep row)) rows)))) (charge_changed (lowered row.bytes) (λ x. refl) charges row.object.creator.0 u)
      ∙ lowered_more (eqb row.object.creator.0 u) (charge_of charges u) row.bytes (taken u (filter (λ row. not (keep row)) rows))
      ∙ ap (λ n. option_map (lowered n) (charge_of charges u)) (sym (sum_by-cons (taken_by u) row (filter (λ row. not (keep row)) rows)))

-- what is taken is taken by what is kept and by what is not
pub taken_parted : (keep : ObjectRow → Bool) (u : ℕ) (rows : List ObjectRow) → taken u rows ≡ taken u (filter keep rows) + taken u (filter (λ row. not (keep row)) rows)
taken_parted keep u [] = refl
taken_parted keep u (row ∷ rows) = at (keep row) (taken_parted keep u rows) where
  at : (b : Bool) → taken u rows ≡ taken u (filter keep rows) + taken u (filter (λ row. not (keep row)) rows) → taken u (row ∷ rows) ≡ taken u (cond b (row ∷ filter keep rows) (filter keep rows)) + taken u (cond (not b) (row ∷ filter (λ row. not (keep row)) rows) (filter (λ row. not (keep row)) rows))
  at true rest =
      let all = sum_by-cons (taken_by u) row rows in
      let kept = sum_by-cons (taken_by u) row (filter keep rows) in
      omega arith
  at false rest =
      let all = sum_by-cons (taken_by u) row rows in
      let dead = sum_by-cons (taken_by u) row (filter (λ row. not (keep row)) rows) in
      omega arith

-- what is taken is as before where a row keeps its object and its bytes
pub taken_changed : (p : ObjectRow → Bool) (f : ObjectRow → ObjectRow) (u : ℕ) → ((row : ObjectRow) → taken_by u (f row) ≡ taken_by u row) → (rows : List ObjectRow) → taken u (changed_first p f rows) ≡ taken u rows
taken_changed p f u same [] = refl
taken_changed p f u same (row ∷ rows) = at (p row) (taken_changed p f u same rows) where
  at : (b : Bool) → taken u (changed_first p f rows) ≡ taken u rows → taken u (cond b (f row ∷ rows) (row ∷ changed_first p f rows)) ≡ taken u (row ∷ rows)
  at true rest = sum_by-cons (taken_by u) (f row) rows ∙ ap (λ n. n + taken u rows) (same row) ∙ sym (sum_by-cons (taken_by u) row rows)
  at false rest = sum_by-cons (taken_by u) row (changed_first p f rows) ∙ ap (λ n. taken_by u row + n) rest ∙ sym (sum_by-cons (taken_by u) row rows)

-- so a withdrawal changes nothing of it
pub withdrawal_covered : (t : TablesView) (sid : Sid) → Covered t.charges t.objects → Covered (after_withdrawal t sid).charges (after_withdrawal t sid).objects
withdrawal_covered t sid covered = at (parked_on_at t.sessions sid.0) refl where
  at : (w : Option ℕ) → parked_on_at t.sessions sid.0 ≡ w → Covered (after_withdrawal t sid).charges (after_withdrawal t sid).objects
  at None e = rw e covered
  at (Some o) e = rw e (λ u. let same = taken_changed (is_number o) (with_withdrawal sid) u (λ row. refl) t.objects in let all = covered u in omega arith)

-- a registration that is gone takes and gives nothing
same_taken : (rows : List Row) (u : ℕ) (row : ObjectRow) → taken_by u (with_held rows row) ≡ taken_by u row
same_taken rows u row = at (registered_in row.body) where
  by_held : (desc : Desc) (b : Bool) → taken_by u (cond b row (with_queue (without_registration desc) row)) ≡ taken_by u row
  by_held desc true = refl
  by_held desc false = refl

  at : (w : Option Desc) → taken_by u (held_by rows row w) ≡ taken_by u row
  at None = refl
  at (Some desc) = by_held desc (is_some (find (is_desc desc.0) rows))

pub taken_held : (rows : List Row) (u : ℕ) (objects : List ObjectRow) → taken u (map (with_held rows) objects) ≡ taken u objects
taken_held rows u [] = refl
taken_held rows u (row ∷ objects) =
    sum_by-cons (taken_by u) (with_held rows row) (map (with_held rows) objects)
    ∙ ap (λ n. n + taken u (map (with_held rows) objects)) (same_taken rows u row)
    ∙ ap (λ n. taken_by u row + n) (taken_held rows u objects)
    ∙ sym (sum_by-cons (taken_by u) row objects)

-- what is left is covered once the others have given back
used_lowered : (n : ℕ) (w : Option Charge) → option_map_or (λ (y : Charge). y.used) (option_map (lowered n) w) 0 ≡ option_map_or (λ (y : Charge). y.used) w 0 - n
used_lowered n None = omega arith
used_lowered n (Some x) = refl

pub settled_covered : (keep : ObjectRow → Bool) (rows : List Row) (objects : List ObjectRow) (charges : List Charge) → Covered charges objects → Covered (settled keep objects charges) (map (with_held rows) (filter keep objects))
settled_covered keep rows objects charges covered u =
    let all : taken u objects ≤ used_of charges u = covered u in
    let parts : taken u objects ≡ taken u (filter keep objects) + taken u (filter (λ row. not (keep row)) objects) = taken_parted keep u objects in
    let left : taken u (map (with_held rows) (filter keep objects)) ≡ taken u (filter keep objects) = taken_held rows u (filter keep objects) in
    let used : used_of (settled keep objects charges) u ≡ used_of charges u - taken u (filter (λ row. not (keep row)) objects) = ap (λ w. option_map_or (λ (y : Charge). y.used) w 0) (settled_charge keep objects charges u) ∙ used_lowered (taken u (filter (λ row. not (keep row)) objects)) (charge_of charges u) in
    omega arith
