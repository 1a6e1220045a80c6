-- What stands of the sessions at run time, when one starts, changes or ends.
use Rattle.std.proofs.Common.{◌≡◌, ℕ, zero, suc, Bool, true, false, cond, List, [], ◌∷◌, ◌++◌, length, map, Option, Some, None, refl, sym, ap, ◌∙◌, slice_get}
use Rattle.std.specs.Prelude.{option_and_then}
use Rattle.ipc_terms.specs.Lists.{changed}
use Rattle.ipc_terms.specs.declared.ids.Uid.{Uid}
use Rattle.ipc_terms.specs.declared.ids.Mode.{Mode}
use Rattle.ipc_containers.specs.Slots.{at, emptied}
use Rattle.ipc_tables.specs.declared.rows.Session.{Session}
use Rattle.ipc_tables.specs.TablesView.{is_live_row, live_row, live_session, live_at, parked_on_at}
use Rattle.ipc_tables.specs.Steps.{first_row, with_mask, with_parked, hung_up}
use Rattle.ipc_tables.specs.Sessions.{NoneEndedIsParked}

-- what is found is the session, while it is live
pub found_live : (all : List Session) (s : ℕ) → at (map live_row all) s ≡ live_session all s
found_live [] s = refl
found_live (row ∷ rows) zero = refl
found_live (row ∷ rows) (suc s) = found_live rows s

pub parked_live : (all : List Session) (s : ℕ) → NoneEndedIsParked all → option_and_then (λ (row : Session). row.parked_on) (live_session all s) ≡ parked_on_at all s
parked_live [] s none = refl
parked_live (row ∷ rows) zero none = by row.is_live none.0 where
  by : (b : Bool) → (b ≡ false → row.parked_on ≡ None) → option_and_then (λ (r : Session). r.parked_on) (cond b (Some row) None) ≡ row.parked_on
  by true ended = refl
  by false ended = sym (ended refl)
parked_live (row ∷ rows) (suc s) none = parked_live rows s none.1

pub as_many : (all : List Session) → length (map live_row all) ≡ length all
as_many [] = refl
as_many (row ∷ rows) = ap suc (as_many rows)

-- one starts
pub started : (all : List Session) (user : Uid) → map live_row all ++ Some (first_row user) ∷ [] ≡ map live_row (all ++ first_row user ∷ [])
started [] user = refl
started (row ∷ rows) user = ap (λ l. live_row row ∷ l) (started rows user)

pub started_unparked : (all : List Session) (user : Uid) → NoneEndedIsParked all → NoneEndedIsParked (all ++ first_row user ∷ [])
started_unparked [] user none = (λ ended. refl, tt)
started_unparked (row ∷ rows) user none = (none.0, started_unparked rows user none.1)

-- a live one changes, and stays live
pub row_set : (f : Session → Session) → ((row : Session) → (f row).is_live ≡ row.is_live) → (all : List Session) (s : ℕ) (row : Session) → at (map live_row all) s ≡ Some row → changed (λ x. Some (f row)) (map live_row all) s ≡ map live_row (changed f all s)
row_set f keeps [] s row is = absurd cc
row_set f keeps (x ∷ xs) zero row is = ap (λ w. w ∷ map live_row xs) (by x.is_live refl is) where
  by : (b : Bool) → x.is_live ≡ b → cond b (Some x) None ≡ Some row → Some (f row) ≡ live_row (f x)
  by true live e =
      let same : x ≡ row = cc in
      ap (λ r. Some (f r)) (sym same) ∙ ap (λ b. cond b (Some (f x)) None) (sym (keeps x ∙ live))
  by false ended e = absurd cc
row_set f keeps (x ∷ xs) (suc s) row is = ap (λ l. live_row x ∷ l) (row_set f keeps xs s row is)

-- where none that is live stands, nothing does afterwards
pub row_absent : (f : Session → Session) → ((row : Session) → (f row).is_live ≡ row.is_live) → (all : List Session) (s : ℕ) → at (map live_row all) s ≡ None → map live_row all ≡ map live_row (changed f all s)
row_absent f keeps [] s is = refl
row_absent f keeps (x ∷ xs) zero is = ap (λ w. w ∷ map live_row xs) (by x.is_live refl is) where
  by : (b : Bool) → x.is_live ≡ b → cond b (Some x) None ≡ None → live_row x ≡ live_row (f x)
  by true live e = absurd cc
  by false ended e = ap (λ b. cond b (Some x) None) ended ∙ ap (λ b. cond b (Some (f x)) None) (sym (keeps x ∙ ended))
row_absent f keeps (x ∷ xs) (suc s) is = ap (λ l. live_row x ∷ l) (row_absent f keeps xs s is)

-- one ends
pub row_taken : (all : List Session) (s : ℕ) → changed emptied (map live_row all) s ≡ map live_row (changed hung_up all s)
row_taken [] s = refl
row_taken (x ∷ xs) zero = refl
row_taken (x ∷ xs) (suc s) = ap (λ l. live_row x ∷ l) (row_taken xs s)

-- still none that ended is parked
changed_unparked : (f : Session → Session) (all : List Session) (s : ℕ) → ((row : Session) → slice_get all s ≡ Some row → (row.is_live ≡ false → row.parked_on ≡ None) → (f row).is_live ≡ false → (f row).parked_on ≡ None) → NoneEndedIsParked all → NoneEndedIsParked (changed f all s)
changed_unparked f [] s keeps none = tt
changed_unparked f (x ∷ xs) zero keeps none = (keeps x refl none.0, none.1)
changed_unparked f (x ∷ xs) (suc s) keeps none = (none.0, changed_unparked f xs s keeps none.1)

pub masked_unparked : (mask : Mode) (all : List Session) (s : ℕ) → NoneEndedIsParked all → NoneEndedIsParked (changed (with_mask mask) all s)
masked_unparked mask all s none = changed_unparked (with_mask mask) all s (λ row is unparked. unparked) none

pub parked_unparked : (object : Option ℕ) (all : List Session) (s : ℕ) → (live_at all s ≡ false → object ≡ None) → NoneEndedIsParked all → NoneEndedIsParked (changed (with_parked object) all s)
parked_unparked object all s of_live none = changed_unparked (with_parked object) all s (λ row is unparked ended. of_live (ap (λ w. is_live_row w) is ∙ ended)) none

pub ended_unparked : (all : List Session) (s : ℕ) → parked_on_at all s ≡ None → NoneEndedIsParked all → NoneEndedIsParked (changed hung_up all s)
ended_unparked all s unparked none = changed_unparked hung_up all s (λ row is was ended. sym (ap (option_and_then (λ (r : Session). r.parked_on)) is) ∙ unparked) none
