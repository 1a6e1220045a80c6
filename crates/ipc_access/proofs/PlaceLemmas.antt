-- What is found by its place is what a walk finds.
use Rattle.std.proofs.Common.{◌≡◌, ◌∙◌, Bool, false, cond, ◌||◌, ℕ, ◌+◌, ◌==◌, nat_eq, List, [], ◌∷◌, ◌++◌, Option, Some, None, map, find, position, slice_get, refl, sym, ap, arith}
use Rattle.std.proofs.lemmas.List.{map-append}
use Rattle.std.specs.Cmp.Lexicographic.{nat_list_eq_equiv}
use Rattle.std.specs.List.{list_any}
use Rattle.std.specs.Str.{bytes_eq}
use Rattle.std.specs.declared.vec.Vec.{Vec}
use Rattle.indexmap.specs.IndexSet.{insert_key}
use Rattle.ipc_terms.specs.declared.ids.Uid.{Uid}
use Rattle.ipc_access.specs.declared.fault.UserFault.{UserFault}
use Rattle.ipc_access.specs.declared.fault.UserFault.TheVariants.{DuplicateName, DuplicateKey, DuplicateUid}
use Rattle.ipc_access.specs.declared.seen.Seen.{Seen}
use Rattle.ipc_access.specs.declared.users.User.{User}
use Rattle.ipc_access.specs.Places.{keys_of, ids_of, AreOf, fault_among}
use Rattle.ipc_access.specs.UserFile.{has_name, has_key, has_uid, fault_of_user}
use Rattle.ipc_access.specs.Users.{user_of_key, cred_of}
use Rattle.std.specs.List.{position_from}
use Rattle.std.specs.Option.{option_and_then, option_map}
use Rattle.std.proofs.lemmas.Bool.Decides.{nat_tests}
use Rattle.std.proofs.lemmas.Iterator.Adapters.{position_from-zero}
use Rattle.std.proofs.lemmas.List.Folds.{find_at}
use Rattle.std.proofs.lemmas.Option.{slice_get_past}

from_map : {A B : Type 0} (p : A → Bool) (q : B → Bool) (f : A → B) (i : ℕ) (xs : List A) → ((x : A) → q (f x) ≡ p x) → position_from q i (map f xs) ≡ position_from p i xs
from_map p q f i [] same = refl
from_map p q f i (x ∷ xs) same = ap (λ b. cond b (Some i) (position_from q (i + 1) (map f xs))) (same x) ∙ ap (cond (p x) (Some i)) (from_map p q f (i + 1) xs same)

-- where each item's image passes just as the item does, the first to pass stands at one place
pub position_map : {A B : Type 0} (p : A → Bool) (q : B → Bool) (f : A → B) (xs : List A) → ((x : A) → q (f x) ≡ p x) → position q (map f xs) ≡ position p xs
position_map p q f xs same = position_from-zero q (map f xs) ∙ from_map p q f 0 xs same ∙ sym (position_from-zero p xs)

pub any_map : {A B : Type 0} (p : A → Bool) (q : B → Bool) (f : A → B) (xs : List A) → ((x : A) → q (f x) ≡ p x) → list_any q (map f xs) ≡ list_any p xs
any_map p q f [] same = refl
any_map p q f (x ∷ xs) same = ap (λ b. b || list_any q (map f xs)) (same x) ∙ ap (λ b. p x || b) (any_map p q f xs same)

-- the first that passes is what stands at its place
pub found_at : {X : Type 0} (p : X → Bool) (xs : List X) → find p xs ≡ option_and_then (slice_get xs) (position p xs)
found_at p xs = grind (arith, nat_tests, find_at p xs, slice_get_past)

-- ---- texts as they are stored

module _ {Z : Type 0} where
  pub text_place : (text : List ℕ) (keys : List (Vec ℕ Z)) → position (bytes_eq text) (map (λ key. key.items) keys) ≡ position (λ key. bytes_eq text key.items) keys
  text_place text keys = position_map (λ (key : Vec ℕ Z). bytes_eq text key.items) (bytes_eq text) (λ key. key.items) keys (λ key. refl)

  pub text_among : (text : List ℕ) (keys : List (Vec ℕ Z)) → list_any (bytes_eq text) (map (λ key. key.items) keys) ≡ list_any (λ key. bytes_eq text key.items) keys
  text_among text keys = any_map (λ (key : Vec ℕ Z). bytes_eq text key.items) (bytes_eq text) (λ key. key.items) keys (λ key. refl)

  pub text_pushed : (text : List ℕ) (keys later : List (Vec ℕ Z)) (key : Vec ℕ Z) → key.items ≡ text → list_any (bytes_eq text) (map (λ k. k.items) keys) ≡ false → later ≡ insert_key (λ x y. bytes_eq x.items y.items) keys key → map (λ k. k.items) later ≡ map (λ k. k.items) keys ++ text ∷ []
  text_pushed text keys later key is none inserted =
      ap (map (λ (k : Vec ℕ Z). k.items)) (inserted ∙ ap (λ b. cond b keys (keys ++ key ∷ [])) (sym (text_among key.items keys) ∙ ap (λ t. list_any (bytes_eq t) (map (λ (k : Vec ℕ Z). k.items) keys)) is ∙ none))
      ∙ map-append (λ (k : Vec ℕ Z). k.items) keys (key ∷ [])
      ∙ ap (λ t. map (λ (k : Vec ℕ Z). k.items) keys ++ t ∷ []) is

-- ---- users

id_turned : (u : ℕ) (user : User) → nat_eq u user.cred.uid.0 ≡ (user.cred.uid.0 == u)
id_turned u user = grind (arith, nat_tests)

pub cred_at : (ids : List ℕ) (users : List User) (uid : Uid) (place : Option ℕ) → ids ≡ ids_of users → place ≡ position (nat_eq uid.0) ids → cred_of users uid ≡ option_map (λ user. user.cred) (option_and_then (slice_get users) place)
cred_at ids users uid place are found =
    let walk = λ (user : User). user.cred.uid.0 == uid.0 in
    ap (option_map (λ (user : User). user.cred)) (found_at walk users ∙ ap (option_and_then (slice_get users)) (sym (found ∙ ap (position (nat_eq uid.0)) are ∙ position_map walk (nat_eq uid.0) (λ user. user.cred.uid.0) users (id_turned uid.0))))

pub user_at : (keys : List (List ℕ)) (users : List User) (key : List ℕ) (place : Option ℕ) → keys ≡ keys_of users → place ≡ position (bytes_eq key) keys → user_of_key users key ≡ option_map (λ user. user.cred.uid) (option_and_then (slice_get users) place)
user_at keys users key place are found =
    let walk = λ (user : User). bytes_eq user.key key in
    ap (option_map (λ (user : User). user.cred.uid)) (found_at walk users ∙ ap (option_and_then (slice_get users)) (sym (found ∙ ap (position (bytes_eq key)) are ∙ position_map walk (bytes_eq key) (λ user. user.key) users (λ user. nat_list_eq_equiv.symm key user.key))))

-- ---- what was seen of earlier users

pub same_fault : (seen : Seen) (earlier : List User) (number : ℕ) (user : User) → AreOf seen earlier → fault_among seen number user ≡ fault_of_user earlier number (Some user)
same_fault seen earlier number user are = by_tests names keys ids where
  names : list_any (bytes_eq user.name) seen.names ≡ has_name earlier user.name
  names = ap (list_any (bytes_eq user.name)) are.names_are ∙ any_map (λ (u : User). bytes_eq u.name user.name) (bytes_eq user.name) (λ u. u.name) earlier (λ u. nat_list_eq_equiv.symm user.name u.name)

  keys : list_any (bytes_eq user.key) seen.keys ≡ has_key earlier user.key
  keys = ap (list_any (bytes_eq user.key)) are.keys_are ∙ any_map (λ (u : User). bytes_eq u.key user.key) (bytes_eq user.key) (λ u. u.key) earlier (λ u. nat_list_eq_equiv.symm user.key u.key)

  ids : list_any (nat_eq user.cred.uid.0) seen.ids ≡ has_uid earlier user.cred.uid.0
  ids = ap (list_any (nat_eq user.cred.uid.0)) are.ids_are ∙ any_map (λ (u : User). u.cred.uid.0 == user.cred.uid.0) (nat_eq user.cred.uid.0) (λ u. u.cred.uid.0) earlier (id_turned user.cred.uid.0)

  faults : Bool → Bool → Bool → Option UserFault
  faults a b c = cond a (Some (DuplicateName number)) (cond b (Some (DuplicateKey number)) (cond c (Some (DuplicateUid number)) None))

  by_tests : {a a' b b' c c' : Bool} → a ≡ a' → b ≡ b' → c ≡ c' → faults a b c ≡ faults a' b' c'
  by_tests {a' = a'} {b = b} {b' = b'} {c = c} e f g = ap (λ x. faults x b c) e ∙ ap (λ x. faults a' x c) f ∙ ap (faults a' b') g

-- the number of the line decides of no user whether it is at fault
none_by : (m n : ℕ) (a b c : Bool) → cond a (Some (DuplicateName m)) (cond b (Some (DuplicateKey m)) (cond c (Some (DuplicateUid m)) None)) ≡ None → cond a (Some (DuplicateName n)) (cond b (Some (DuplicateKey n)) (cond c (Some (DuplicateUid n)) None)) ≡ None
none_by m n a b c e = grind arith

pub none_anyway : (seen : Seen) (m n : ℕ) (user : User) → fault_among seen m user ≡ None → fault_among seen n user ≡ None
none_anyway seen m n user e = none_by m n _ _ _ e

pub one_more : (seen later : Seen) (users : List User) (user : User) → AreOf seen users → later.names ≡ seen.names ++ user.name ∷ [] → later.keys ≡ seen.keys ++ user.key ∷ [] → later.ids ≡ seen.ids ++ user.cred.uid.0 ∷ [] → AreOf later (users ++ user ∷ [])
one_more seen later users user are names keys ids = record {
  names_are = names ∙ ap (λ l. l ++ user.name ∷ []) are.names_are ∙ sym (map-append (λ (u : User). u.name) users (user ∷ []));
  keys_are = keys ∙ ap (λ l. l ++ user.key ∷ []) are.keys_are ∙ sym (map-append (λ (u : User). u.key) users (user ∷ []));
  ids_are = ids ∙ ap (λ l. l ++ user.cred.uid.0 ∷ []) are.ids_are ∙ sym (map-append (λ (u : User). u.cred.uid.0) users (user ∷ []));
}
