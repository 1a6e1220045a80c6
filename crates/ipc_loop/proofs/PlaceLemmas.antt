-- What is seen of the places when one of them changes.
use Rattle.std.proofs.Common.{◌≡◌, ℕ, zero, suc, ◌+◌, Bool, false, cond, List, [], ◌∷◌, ◌++◌, length, set, take, map, slice_get, Option, Some, None, refl, sym, ap, subst, ◌∙◌, arith}
use Rattle.std.specs.Prelude.{unwrap_or}
use Rattle.std.specs.Option.{option_map}
use Rattle.std.proofs.lemmas.Bool.{eq-eqb}
use Rattle.std.proofs.lemmas.Option.{slice_get-map}
use Rattle.ipc_terms.specs.Lists.{changed}
use Rattle.ipc_containers.specs.Slots.{at, emptied}
use Rattle.ipc_containers.proofs.SlotsLemmas.{unwritten, slot_at}
use Rattle.ipc_hub.specs.Marking.{is_set}
use Rattle.ipc_loop.specs.Ports.{Port}
use Rattle.ipc_loop.specs.Standing.{IsUnset, port_in, is_queued_in, seen, flags}
use Rattle.ipc_loop.specs.declared.ports.Place.{Place}
use Rattle.ipc_loop.proofs.PortLemmas.{get_set}

abbrev pub Places : Type 0
Places = List (Option Place)

-- ---- what is seen of a place

pub seen_at : (xs : Places) (k : ℕ) (x : Option Place) → slice_get xs k ≡ Some x → slice_get (seen xs) k ≡ Some (port_in x)
seen_at xs k x e = slice_get-map port_in xs k ∙ ap (option_map port_in) e

pub flag_at : (xs : Places) (k : ℕ) (x : Option Place) → slice_get xs k ≡ Some x → slice_get (flags xs) k ≡ Some (is_queued_in x)
flag_at xs k x e = slice_get-map is_queued_in xs k ∙ ap (option_map is_queued_in) e

-- where there is no place, there is no port, and no flag is set
pub no_port : {X : Type 0} (xs : Places) (k : ℕ) (port : Port) → at xs k ≡ None → slice_get (seen xs) k ≡ Some (Some port) → X
no_port [] k port none e = absurd cc
no_port (None ∷ xs) zero port none e = absurd cc
no_port (Some p ∷ xs) zero port none e = absurd cc
no_port (x ∷ xs) (suc k) port none e = no_port xs k port none e

pub no_flag : (xs : Places) (k : ℕ) → at xs k ≡ None → is_set (flags xs) k ≡ false
no_flag [] k none = refl
no_flag (None ∷ xs) zero none = refl
no_flag (Some p ∷ xs) zero none = absurd cc
no_flag (x ∷ xs) (suc k) none = no_flag xs k none

pub as_many : {A B : Type 0} (g : A → B) (xs : List A) → length (map g xs) ≡ length xs
as_many g [] = refl
as_many g (x ∷ xs) = ap suc (as_many g xs)

-- each place has its flag
pub flagged : (xs : Places) → length (flags xs) ≡ length (seen xs)
flagged xs = as_many is_queued_in xs ∙ sym (as_many port_in xs)

-- ---- a place changes

map_changed : {A B : Type 0} (g : A → B) (f : A → A) (xs : List A) (k : ℕ) (x : A) → slice_get xs k ≡ Some x → map g (changed f xs k) ≡ set (map g xs) k (g (f x))
map_changed g f [] k x e = absurd cc
map_changed g f (y ∷ ys) zero x e = let is : y ≡ x = cc in ap (λ z. g (f z) ∷ map g ys) is
map_changed g f (y ∷ ys) (suc k) x e = ap (λ zs. g y ∷ zs) (map_changed g f ys k x e)

pub seen_changed : (f : Option Place → Option Place) (xs : Places) (k : ℕ) (x : Option Place) → slice_get xs k ≡ Some x → seen (changed f xs k) ≡ set (seen xs) k (port_in (f x))
seen_changed f xs k x e = map_changed port_in f xs k x e

pub flags_changed : (f : Option Place → Option Place) (xs : Places) (k : ℕ) (x : Option Place) → slice_get xs k ≡ Some x → flags (changed f xs k) ≡ set (flags xs) k (is_queued_in (f x))
flags_changed f xs k x e = map_changed is_queued_in f xs k x e

-- what is written back unchanged changes nothing
pub changed_back : {A : Type 0} (xs : List A) (k : ℕ) (x : A) → slice_get xs k ≡ Some x → changed (λ o. x) xs k ≡ xs
changed_back [] k x e = refl
changed_back (y ∷ ys) zero x e = let is : y ≡ x = cc in ap (λ z. z ∷ ys) (sym is)
changed_back (y ∷ ys) (suc k) x e = ap (λ zs. y ∷ zs) (changed_back ys k x e)

-- ---- a flag is cleared

pub unset : (fs : List Bool) (k : ℕ) (b : Bool) → slice_get fs k ≡ Some b → IsUnset fs k (set fs k false)
unset fs k b e = record {
  here = ap (λ (s : Option Bool). unwrap_or s false) (get_set fs k b false k e ∙ ap (λ (c : Bool). cond c (Some false) (slice_get fs k)) (eq-eqb k k refl));
  others = λ i is. ap (λ (s : Option Bool). unwrap_or s false) (get_set fs k b false i e ∙ ap (λ (c : Bool). cond c (Some false) (slice_get fs i)) is);
}

unset_already : (fs : List Bool) (k : ℕ) → is_set fs k ≡ false → IsUnset fs k fs
unset_already fs k off = record { here = off; others = λ i is. refl }

-- a place goes
pub emptied_unset : (xs : Places) (k : ℕ) → IsUnset (flags xs) k (flags (changed emptied xs k))
emptied_unset xs k = by (slice_get xs k) refl where
  past : (xs : Places) (k : ℕ) → slice_get xs k ≡ None → changed emptied xs k ≡ xs
  past [] k e = refl
  past (x ∷ xs) zero e = absurd cc
  past (x ∷ xs) (suc k) e = ap (λ ys. x ∷ ys) (past xs k e)

  by : (w : Option (Option Place)) → slice_get xs k ≡ w → IsUnset (flags xs) k (flags (changed emptied xs k))
  by (Some x) e = subst (λ (fs : List Bool). IsUnset (flags xs) k fs) (sym (flags_changed emptied xs k x e)) (unset (flags xs) k (is_queued_in x) (flag_at xs k x e))
  by None e = subst (λ (ys : Places). IsUnset (flags xs) k (flags ys)) (sym (past xs k e)) (unset_already (flags xs) k (ap (λ (s : Option Bool). unwrap_or s false) (slice_get-map is_queued_in xs k ∙ ap (option_map is_queued_in) e)))

pub emptied_seen : (xs : Places) (k : ℕ) (place : Place) → at xs k ≡ Some place → seen (changed emptied xs k) ≡ set (seen xs) k None
emptied_seen xs k place e = seen_changed emptied xs k (Some place) (slot_at xs k place e)

-- ---- a place is written anew

abbrev pub Rewritten : Places → ℕ → Place → Place → Places → Type 0
Rewritten xs k old left ys = (at xs k ≡ Some old) × (ys ≡ changed (λ o. Some left) xs k)

pub port_there : (xs : Places) (k : ℕ) (place : Place) → at xs k ≡ Some place → slice_get (seen xs) k ≡ Some (Some place.port)
port_there xs k place e = seen_at xs k (Some place) (slot_at xs k place e)

pub flag_there : (xs : Places) (k : ℕ) (place : Place) → at xs k ≡ Some place → is_set (flags xs) k ≡ place.is_queued
flag_there xs k place e = ap (λ (s : Option Bool). unwrap_or s false) (flag_at xs k (Some place) (slot_at xs k place e))

pub flag_back : (xs : Places) (k : ℕ) (place : Place) → at xs k ≡ Some place → set (flags xs) k place.is_queued ≡ flags xs
flag_back xs k place e = unwritten (flags xs) k place.is_queued (flag_at xs k (Some place) (slot_at xs k place e))

-- with this port, and this flag
pub new_port_seen : (xs ys : Places) (k : ℕ) (old left : Place) → Rewritten xs k old left ys → seen ys ≡ set (seen xs) k (Some left.port)
new_port_seen xs ys k old left r = ap seen r.1 ∙ seen_changed (λ o. Some left) xs k (Some old) (slot_at xs k old r.0)

pub new_flags : (xs ys : Places) (k : ℕ) (old left : Place) → Rewritten xs k old left ys → flags ys ≡ set (flags xs) k left.is_queued
new_flags xs ys k old left r = ap flags r.1 ∙ flags_changed (λ o. Some left) xs k (Some old) (slot_at xs k old r.0)

-- with the same port, or the same flag
pub same_seen : (xs ys : Places) (k : ℕ) (old left : Place) → Rewritten xs k old left ys → left.port ≡ old.port → seen ys ≡ seen xs
same_seen xs ys k old left r same = new_port_seen xs ys k old left r ∙ ap (λ (p : Port). set (seen xs) k (Some p)) same ∙ unwritten (seen xs) k (Some old.port) (port_there xs k old r.0)

pub same_flags : (xs ys : Places) (k : ℕ) (old left : Place) → Rewritten xs k old left ys → left.is_queued ≡ old.is_queued → flags ys ≡ flags xs
same_flags xs ys k old left r same = new_flags xs ys k old left r ∙ ap (set (flags xs) k) same ∙ flag_back xs k old r.0

-- as it was
pub unchanged : (xs ys : Places) (k : ℕ) (old : Place) → Rewritten xs k old old ys → ys ≡ xs
unchanged xs ys k old r = r.1 ∙ changed_back xs k (Some old) (slot_at xs k old r.0)

pub unset_here : (xs : Places) (k : ℕ) (place : Place) → at xs k ≡ Some place → IsUnset (flags xs) k (set (flags xs) k false)
unset_here xs k place e = unset (flags xs) k place.is_queued (flag_at xs k (Some place) (slot_at xs k place e))

-- ---- at the end

pub map_push : {A B : Type 0} (g : A → B) (xs : List A) (x : A) → map g (xs ++ x ∷ []) ≡ map g xs ++ g x ∷ []
map_push g [] x = refl
map_push g (y ∷ ys) x = ap (λ zs. g y ∷ zs) (map_push g ys x)

pub map_take : {A B : Type 0} (g : A → B) (n : ℕ) (xs : List A) → map g (take n xs) ≡ take n (map g xs)
map_take g zero xs = refl
map_take g (suc n) [] = refl
map_take g (suc n) (x ∷ xs) = ap (λ ys. g x ∷ ys) (map_take g n xs)

-- all but the last, and the last
pub but_last : {A : Type 0} (xs : List A) (n : ℕ) (x : A) → length xs ≡ n + 1 → slice_get xs n ≡ Some x → xs ≡ take n xs ++ x ∷ []
but_last [] n x long e = absurd cc
but_last (y ∷ []) zero x long e = let is : y ≡ x = cc in ap (λ z. z ∷ []) is
but_last (y ∷ z ∷ zs) zero x long e = absurd (omega arith)
but_last (y ∷ ys) (suc n) x long e = ap (λ ws. y ∷ ws) (but_last ys n x (omega arith) e)

-- what was put behind all is the last, and without it they are all
pub last_pushed : {A : Type 0} (xs : List A) (n : ℕ) (x : A) → n ≡ length xs → slice_get (xs ++ x ∷ []) n ≡ Some x
last_pushed [] zero x e = refl
last_pushed [] (suc n) x e = absurd (omega arith)
last_pushed (y ∷ ys) zero x e = absurd (omega arith)
last_pushed (y ∷ ys) (suc n) x e = last_pushed ys n x (omega arith)

pub without_pushed : {A : Type 0} (xs : List A) (n : ℕ) (x : A) → n ≡ length xs → take n (xs ++ x ∷ []) ≡ xs
without_pushed [] zero x e = refl
without_pushed [] (suc n) x e = absurd (omega arith)
without_pushed (y ∷ ys) zero x e = absurd (omega arith)
without_pushed (y ∷ ys) (suc n) x e = ap (λ zs. y ∷ zs) (without_pushed ys n x (omega arith))
