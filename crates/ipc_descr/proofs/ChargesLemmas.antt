-- What is known of a user's charge is known of the one at its place, and where the charges stand.
use Rattle.std.proofs.Common.{◌≡◌, ℕ, zero, suc, ◌+◌, ◌≤◌, List, [], ◌∷◌, Option, Some, get_or, set, map, nat_eq, find, position, refl, sym, ap, ◌∙◌, subst, arith}
use Rattle.std.specs.Option.{option_map_or}
use Rattle.std.proofs.lemmas.Bool.Decides.{nat_tests}
use Rattle.std.proofs.lemmas.List.Quantifiers.{position-Some}
use Rattle.std.proofs.lemmas.Option.{slice_get-get_or, get_or_from_slice_get}
use Rattle.ipc_terms.proofs.Changing.{place_found}
use Rattle.ipc_descr.specs.declared.charges.Charge.{Charge}
use Rattle.ipc_access.specs.declared.users.User.{User}
use Rattle.ipc_access.specs.Places.{ids_of}
use Rattle.ipc_access.proofs.PlaceLemmas.{position_map}
use Rattle.ipc_descr.specs.Charges.{is_user, charge_of, used_of, limit_of, uncharged}
use Rattle.ipc_descr.specs.UserPlaces.{AreOfCharges}

found : (rows charges : List Charge) (u i : ℕ) (x : Charge) → rows ≡ charges → position (is_user u) rows ≡ Some i → x ≡ get_or rows i x → charge_of charges u ≡ Some x
found rows charges u i x same place is = ap (find (is_user u)) (sym same) ∙ place_found (is_user u) rows i x place is

pub room : (rows charges : List Charge) (u bytes i : ℕ) (x : Charge) → rows ≡ charges → position (is_user u) rows ≡ Some i → x ≡ get_or rows i x → used_of charges u + bytes ≤ limit_of charges u → x.used + bytes ≤ x.limit
room rows charges u bytes i x same place is fits =
    let Fit : Option Charge → Type 0 = λ w. option_map_or (λ charge. charge.used) w 0 + bytes ≤ option_map_or (λ charge. charge.limit) w 0 in
    subst Fit (found rows charges u i x same place is) fits

pub charged : (rows charges : List Charge) (u bytes i : ℕ) (x : Charge) → rows ≡ charges → position (is_user u) rows ≡ Some i → x ≡ get_or rows i x → bytes ≤ used_of charges u → bytes ≤ x.used
charged rows charges u bytes i x same place is fits =
    let Fit : Option Charge → Type 0 = λ w. bytes ≤ option_map_or (λ charge. charge.used) w 0 in
    subst Fit (found rows charges u i x same place is) fits

-- what stands at a user's place is its charge
pub at_place : (rows : List Charge) (u i : ℕ) (d : Charge) → position (is_user u) rows ≡ Some i → Some (get_or rows i d) ≡ charge_of rows u
at_place rows u i d e =
    let charge = get_or rows i d in
    let within = position-Some (is_user u) rows i d e in
    sym (place_found (is_user u) rows i charge e (sym (get_or_from_slice_get rows i charge charge (slice_get-get_or rows i d within.0))))

-- ---- where the charges stand

id_turned : (u : ℕ) (charge : Charge) → nat_eq u charge.uid.0 ≡ is_user u charge
id_turned u charge = grind (arith, nat_tests)

-- an ID stands among the charges' IDs where its charge stands
pub leads : (ids : List ℕ) (charges : List Charge) (u : ℕ) → AreOfCharges ids charges → position (nat_eq u) ids ≡ position (is_user u) charges
leads ids charges u are = ap (position (nat_eq u)) are ∙ position_map (is_user u) (nat_eq u) (λ charge. charge.uid.0) charges (id_turned u)

uncharged_ids : (users : List User) → ids_of users ≡ map (λ (charge : Charge). charge.uid.0) (map uncharged users)
uncharged_ids [] = refl
uncharged_ids (user ∷ users) = ap (λ l. user.cred.uid.0 ∷ l) (uncharged_ids users)

-- the users' IDs are those of their charges before any has queues
pub ids_of_users : (ids : List ℕ) (users : List User) (charges : List Charge) → ids ≡ ids_of users → charges ≡ map uncharged users → AreOfCharges ids charges
ids_of_users ids users charges are all = are ∙ uncharged_ids users ∙ ap (map (λ (charge : Charge). charge.uid.0)) (sym all)

ids_set : (charges : List Charge) (i : ℕ) (x y : Charge) → x ≡ get_or charges i x → y.uid.0 ≡ x.uid.0 → map (λ (charge : Charge). charge.uid.0) (set charges i y) ≡ map (λ charge. charge.uid.0) charges
ids_set [] i x y is same = refl
ids_set (charge ∷ charges) zero x y is same = ap (λ u. u ∷ map (λ (charge : Charge). charge.uid.0) charges) (same ∙ ap (λ (charge : Charge). charge.uid.0) is)
ids_set (charge ∷ charges) (suc i) x y is same = ap (λ l. charge.uid.0 ∷ l) (ids_set charges i x y is same)

-- a charge that changes stays its user's
pub ids_stay : (ids : List ℕ) (charges : List Charge) (i : ℕ) (x y : Charge) → AreOfCharges ids charges → x ≡ get_or charges i x → y.uid.0 ≡ x.uid.0 → AreOfCharges ids (set charges i y)
ids_stay ids charges i x y are is same = are ∙ sym (ids_set charges i x y is same)
