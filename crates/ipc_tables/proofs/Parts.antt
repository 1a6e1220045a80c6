-- The queue or the semaphore that stands in an object, as a part of it: how it is read, made and changed, and the
-- objects once it was changed through what they lent.
use Rattle.std.proofs.Common.{◌≡◌, Bool, true, false, cond, ℕ, List, [], ◌∷◌, Option, Some, None, is_some, refl, sym, ap, ◌∙◌}
use Rattle.std.specs.Prelude.{option_and_then}
use Rattle.std.specs.Borrow.{MutBor}
use Rattle.std.specs.Option.{OnSome, option_copied_mut}
use Rattle.ipc_terms.specs.Lists.{changed_first}
use Rattle.ipc_containers.specs.Slots.{at as slot_at}
use Rattle.ipc_queue.specs.Tickets.{Tickets}
use Rattle.ipc_sem.specs.Counters.{Counter}
use Rattle.ipc_tables.specs.declared.objects.Objects.{Objects}
use Rattle.ipc_tables.specs.declared.rows.Body.{Body}
use Rattle.ipc_tables.specs.declared.rows.Body.TheVariants.{Queue as QueueBody, Semaphore as SemaphoreBody}
use Rattle.ipc_tables.specs.declared.rows.ObjectRow.{ObjectRow}
use Rattle.ipc_tables.specs.Lending.{HasRows}
use Rattle.ipc_tables.specs.Objects.{is_number, row_at, queue_in, semaphore_in, with_body, with_counter}
use Rattle.ipc_tables.specs.Standing.{rows_in, IsCounted}
use Rattle.ipc_tables.proofs.RowChanges.{row_there, row_written, sets_body, has_rows}
use Rattle.ipc_tables.proofs.StandingLemmas.{Sets}

-- `of` reads the part, `make` makes a body of it, and `with_part` changes it
pub record IsPart {A : Type 0} (of : Body → Option A) (make : A → Body) (with_part : (A → A) → Body → Body) : Type 0 where
  pub there : (x : A) (body : Body) → of body ≡ Some x → body ≡ make x
  pub changed : (change : A → A) (x : A) → with_part change (make x) ≡ make (change x)
  pub absent : (change : A → A) (body : Body) → of body ≡ None → with_part change body ≡ body
  pub kind : (x y : A) → is_some (queue_in (make x)) ≡ is_some (queue_in (make y))

pub queue_part : IsPart queue_in QueueBody with_body
queue_part = record { there = there; changed = λ change x. refl; absent = absent; kind = λ x y. refl } where
  there : (x : Tickets) (body : Body) → queue_in body ≡ Some x → body ≡ QueueBody x
  there x (QueueBody q) e = let same : q ≡ x = cc in ap QueueBody same
  there x (SemaphoreBody q) e = cc

  absent : (change : Tickets → Tickets) (body : Body) → queue_in body ≡ None → with_body change body ≡ body
  absent change (QueueBody q) e = cc
  absent change (SemaphoreBody q) e = refl

pub semaphore_part : IsPart semaphore_in SemaphoreBody with_counter
semaphore_part = record { there = there; changed = λ change x. refl; absent = absent; kind = λ x y. refl } where
  there : (x : Counter) (body : Body) → semaphore_in body ≡ Some x → body ≡ SemaphoreBody x
  there x (QueueBody q) e = cc
  there x (SemaphoreBody q) e = let same : q ≡ x = cc in ap SemaphoreBody same

  absent : (change : Counter → Counter) (body : Body) → semaphore_in body ≡ None → with_counter change body ≡ body
  absent change (QueueBody q) e = refl
  absent change (SemaphoreBody q) e = cc

-- the part of an object, if it has it
abbrev pub part_at : {A : Type 0} → (Body → Option A) → List ObjectRow → ℕ → Option A
part_at of rows o = option_and_then (λ (row : ObjectRow). of row.body) (row_at rows o)

-- what stands in an object changes
abbrev pub with_changed : ℕ → (Body → Body) → List ObjectRow → List ObjectRow
with_changed o change rows = changed_first (is_number o) (λ row. record row { body = change row.body }) rows

-- two changes do the same to an object, where they do the same to what has this part, or has none
alike_by_test : {A : Type 0} (of : Body → Option A) (f g : Body → Body) (o : ℕ) (w : Option A) (row : ObjectRow) (rows : List ObjectRow) (b : Bool) → ((body : Body) → of body ≡ w → f body ≡ g body) → option_and_then (λ (r : ObjectRow). of r.body) (cond b (Some row) (row_at rows o)) ≡ w → (part_at of rows o ≡ w → with_changed o f rows ≡ with_changed o g rows) → cond b (record row { body = f row.body } ∷ rows) (row ∷ with_changed o f rows) ≡ cond b (record row { body = g row.body } ∷ rows) (row ∷ with_changed o g rows)
alike_by_test of f g o w row rows true alike e rest = ap (λ b. record row { body = b } ∷ rows) (alike row.body e)
alike_by_test of f g o w row rows false alike e rest = ap (λ rs. row ∷ rs) (rest e)

changed_alike : {A : Type 0} (of : Body → Option A) (f g : Body → Body) (o : ℕ) (w : Option A) (rows : List ObjectRow) → ((body : Body) → of body ≡ w → f body ≡ g body) → part_at of rows o ≡ w → with_changed o f rows ≡ with_changed o g rows
changed_alike of f g o w [] alike e = refl
changed_alike of f g o w (row ∷ rows) alike e = alike_by_test of f g o w row rows (is_number o row) alike e (changed_alike of f g o w rows alike)

same_by_test : (row : ObjectRow) (rows others : List ObjectRow) (b : Bool) → others ≡ rows → cond b (row ∷ rows) (row ∷ others) ≡ row ∷ rows
same_by_test row rows others true e = refl
same_by_test row rows others false e = ap (λ rs. row ∷ rs) e

unchanged : (o : ℕ) (rows : List ObjectRow) → with_changed o (λ body. body) rows ≡ rows
unchanged o [] = refl
unchanged o (row ∷ rows) = same_by_test row rows (with_changed o (λ body. body) rows) (is_number o row) (unchanged o rows)

-- what holds where there is something holds of what is there
on_some : {X : Type 0} {P : Type 0} (r : Option X) (x : X) → r ≡ Some x → OnSome r P → P
on_some r x e on = rw e at on

module _ {A : Type 0} {of : Body → Option A} {make : A → Body} {with_part : (A → A) → Body → Body} (part : IsPart of make with_part) (o : ℕ) (objects : Objects) where
  made : (change : A → A) (x : A) (body : Body) → of body ≡ Some x → with_part change body ≡ make (change x)
  made change x body e = ap (with_part change) (part.there x body e) ∙ part.changed change x

  pub part_there : (w : Option ObjectRow) → IsCounted objects → slot_at objects.rows o ≡ w → part_at of (rows_in objects) o ≡ option_and_then (λ (row : ObjectRow). of row.body) w
  part_there w is e = ap (option_and_then (λ (row : ObjectRow). of row.body)) (row_there o objects w is e)

  -- it is written in its row
  pub part_set : (row : ObjectRow) (slots : List (Option ObjectRow)) (x w : A) → IsCounted objects → of row.body ≡ Some x → Sets o row (record row { body = make w }) objects.rows slots → HasRows (with_changed o (with_part (λ y. w)) (rows_in objects)) objects (record objects { rows = slots })
  part_set row slots x w is e set =
      let next = made (λ y. w) x row.body e in
      let kind = ap (λ b. is_some (queue_in b)) next ∙ part.kind w x ∙ sym (ap (λ b. is_some (queue_in b)) (part.there x row.body e)) in
      row_written o (λ r. record r { body = with_part (λ y. w) r.body }) row objects slots is refl kind (sets_body o row (make w) _ objects.rows slots set (sym next))

  module _ (after : Objects) (r : Option (MutBor A)) (value : option_copied_mut r ≡ part_at of (rows_in objects) o) where
    lent : (x : MutBor A) → r ≡ Some x → part_at of (rows_in objects) o ≡ Some x.now
    lent x is = sym value ∙ ap option_copied_mut is

    -- what it was set to is a change of what it was, or just that
    pub part_changed : (change : A → A) (x : MutBor A) (w : A) → r ≡ Some x → w ≡ change x.now → OnSome r (HasRows (with_changed o (with_part (λ y. w)) (rows_in objects)) objects after) → HasRows (with_changed o (with_part change) (rows_in objects)) objects after
    part_changed change x w is e has = has_rows _ _ objects after (changed_alike of (with_part (λ y. w)) (with_part change) o (Some x.now) (rows_in objects) (λ body k. made (λ y. w) x.now body k ∙ ap make e ∙ sym (made change x.now body k)) (lent x is)) (on_some r x is has)

    pub part_same : (x : MutBor A) (w : A) → r ≡ Some x → w ≡ x.now → OnSome r (HasRows (with_changed o (with_part (λ y. w)) (rows_in objects)) objects after) → HasRows (rows_in objects) objects after
    part_same x w is e has = has_rows _ _ objects after (changed_alike of (with_part (λ y. w)) (λ body. body) o (Some x.now) (rows_in objects) (λ body k. made (λ y. w) x.now body k ∙ ap make e ∙ sym (part.there x.now body k)) (lent x is) ∙ unchanged o (rows_in objects)) (on_some r x is has)

    -- and where there is none, to change it changes nothing
    pub part_absent : (change : A → A) → r ≡ None → HasRows (rows_in objects) objects after → HasRows (with_changed o (with_part change) (rows_in objects)) objects after
    part_absent change none has = has_rows _ _ objects after (sym (changed_alike of (with_part change) (λ body. body) o None (rows_in objects) (part.absent change) (sym value ∙ ap option_copied_mut none) ∙ unchanged o (rows_in objects))) has

-- it holds wherever something is lent
pub where_lent : {X : Type 0} {P : Type 0} (r : Option (MutBor X)) (w : Option X) → option_copied_mut r ≡ w → ((x : X) → w ≡ Some x → P) → OnSome r P
where_lent None w e k = tt
where_lent (Some r) w e k = k r.now (sym e)
