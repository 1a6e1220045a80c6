-- Who has work is queued.
use Rattle.std.proofs.Common.{◌≡◌, ◌⊎◌, inl, inr, ℕ, zero, suc, ◌<◌, Bool, true, false, ◌||◌, eqb, cond, List, [], ◌∷◌, ◌++◌, length, set, slice_get, Option, Some, None, refl, sym, ap, ◌∙◌, arith}
use Rattle.std.specs.Option.{option_or}
use Rattle.std.proofs.lemmas.Bool.{eqb-true}
use Rattle.ipc_terms.proofs.Lists.{eqb_suc, slice_get_push}
use Rattle.ipc_hub.specs.Marking.{is_set}
use Rattle.ipc_loop.specs.Ports.{Port, new_port, has_work, stands_in}
use Rattle.ipc_loop.specs.Standing.{EachIsQueued, IsUnset}
use Rattle.ipc_loop.proofs.PortLemmas.{Slots, slot_other, stands_both}

pub queued_none : EachIsQueued [] [] [] []
queued_none = record { working = λ i port e. absurd cc; listed = λ i e. absurd cc }

-- a flag that isn't set at the end
pub pushed_flag : (flags : List Bool) (i : ℕ) → is_set (flags ++ false ∷ []) i ≡ is_set flags i
pushed_flag [] zero = refl
pushed_flag [] (suc i) = refl
pushed_flag (b ∷ flags) zero = refl
pushed_flag (b ∷ flags) (suc i) = pushed_flag flags i

pub queued_push : (xs : Slots) (qs : List Bool) (t n : List ℕ) → EachIsQueued xs qs t n → EachIsQueued (xs ++ Some new_port ∷ []) (qs ++ false ∷ []) t n
queued_push xs qs t n q = record {
  working = λ i port e w. pushed_flag qs i ∙ at i port w (eqb (length xs) i) (slice_get xs i) refl (sym (slice_get_push xs (Some new_port) i) ∙ e);
  listed = λ i e. q.listed i (sym (pushed_flag qs i) ∙ e);
} where
  at : (i : ℕ) (port : Port) → has_work port ≡ true → (here : Bool) (s : Option (Option Port)) → slice_get xs i ≡ s → option_or (cond here (Some (Some new_port)) None) s ≡ Some (Some port) → is_set qs i ≡ true
  at i port w true s f e = let same : new_port ≡ port = cc in let wrong : false ≡ true = ap has_work same ∙ w in absurd cc
  at i port w false s f e = q.working i port (f ∙ e) w

-- each but number k that has work is queued
abbrev pub OthersAreQueued : ℕ → Slots → List Bool → Type 0
OthersAreQueued k xs qs = (i : ℕ) (port : Port) → eqb k i ≡ false → slice_get xs i ≡ Some (Some port) → has_work port ≡ true → is_set qs i ≡ true

abbrev pub AreListed : List Bool → List ℕ → List ℕ → Type 0
AreListed qs t n = (i : ℕ) → is_set qs i ≡ true → (stands_in i t || stands_in i n) ≡ true

-- number k's port is another
pub others_acted : (xs : Slots) (qs rs : List Bool) (k : ℕ) (p p' : Port) → slice_get xs k ≡ Some (Some p) → ((i : ℕ) → eqb k i ≡ false → is_set rs i ≡ is_set qs i) → OthersAreQueued k xs qs → OthersAreQueued k (set xs k (Some p')) rs
others_acted xs qs rs k p p' there same q i port other e w = same i other ∙ q i port other (sym (slot_other xs k (Some p) (Some p') i there other) ∙ e) w

-- number k too
pub all_queued : (xs : Slots) (qs : List Bool) (t n : List ℕ) (k : ℕ) → OthersAreQueued k xs qs → AreListed qs t n → ((port : Port) → slice_get xs k ≡ Some (Some port) → has_work port ≡ true → is_set qs k ≡ true) → EachIsQueued xs qs t n
all_queued xs qs t n k q listed here = record { working = λ i port e w. at i port e w (eqb k i) refl; listed = listed } where
  at : (i : ℕ) (port : Port) → slice_get xs i ≡ Some (Some port) → has_work port ≡ true → (same : Bool) → eqb k i ≡ same → is_set qs i ≡ true
  at i port e w true is = ap (is_set qs) (sym (eqb-true k i is)) ∙ here port (ap (λ (j : ℕ). slice_get xs j) (eqb-true k i is) ∙ e) w
  at i port e w false is = q i port is e w

pub set_flag : (qs : List Bool) (k i : ℕ) → is_set qs i ≡ true → is_set (set qs k true) i ≡ true
set_flag [] k i on = absurd cc
set_flag (q ∷ qs) zero zero on = refl
set_flag (q ∷ qs) zero (suc i) on = on
set_flag (q ∷ qs) (suc k) zero on = on
set_flag (q ∷ qs) (suc k) (suc i) on = set_flag qs k i on

set_or : (qs : List Bool) (k i : ℕ) → is_set (set qs k true) i ≡ true → (eqb k i ≡ true) ⊎ (is_set qs i ≡ true)
set_or [] k i on = absurd cc
set_or (q ∷ qs) zero zero on = inl refl
set_or (q ∷ qs) zero (suc i) on = inr on
set_or (q ∷ qs) (suc k) zero on = inr on
set_or (q ∷ qs) (suc k) (suc i) on = at (set_or qs k i on) where
  at : (eqb k i ≡ true) ⊎ (is_set qs i ≡ true) → (eqb (suc k) (suc i) ≡ true) ⊎ (is_set qs i ≡ true)
  at (inl same) = inl (eqb_suc k i ∙ same)
  at (inr there) = inr there

pub set_here : (qs : List Bool) (k : ℕ) → k < length qs → is_set (set qs k true) k ≡ true
set_here [] k within = absurd (omega arith)
set_here (q ∷ qs) zero within = refl
set_here (q ∷ qs) (suc k) within = set_here qs k (omega arith)

or_true : (a b : Bool) → b ≡ true → (a || b) ≡ true
or_true true b e = refl
or_true false b e = e

or_more : (a b c : Bool) → (a || b) ≡ true → (a || (b || c)) ≡ true
or_more true b c e = refl
or_more false true c e = refl
or_more false false c e = absurd cc

-- number k is queued for the next round
pub listed_next : (qs : List Bool) (t n : List ℕ) (k : ℕ) → AreListed qs t n → AreListed (set qs k true) t (n ++ k ∷ [])
listed_next qs t n k listed i e = ap (λ (x : Bool). stands_in i t || x) (stands_both i n (k ∷ [])) ∙ at (set_or qs k i e) where
  at : (eqb k i ≡ true) ⊎ (is_set qs i ≡ true) → (stands_in i t || (stands_in i n || stands_in i (k ∷ []))) ≡ true
  at (inl is) = or_true (stands_in i t) (stands_in i n || stands_in i (k ∷ [])) (or_true (stands_in i n) (stands_in i (k ∷ [])) (ap (λ (x : Bool). cond x true false) is))
  at (inr f) = or_more (stands_in i t) (stands_in i n) (stands_in i (k ∷ [])) (listed i f)

or_but : (a b c : Bool) → c ≡ false → ((a || c) || b) ≡ true → (a || b) ≡ true
or_but true b c off e = refl
or_but false b true off e = absurd cc
or_but false b false off e = e

-- number k gets its turn
pub listed_turn : (qs rs : List Bool) (t n : List ℕ) (k : ℕ) → IsUnset qs k rs → AreListed qs (t ++ k ∷ []) n → AreListed rs t n
listed_turn qs rs t n k unset listed i e = at (eqb k i) refl where
  at : (here : Bool) → eqb k i ≡ here → (stands_in i t || stands_in i n) ≡ true
  at true is = let wrong : false ≡ true = sym unset.here ∙ ap (is_set rs) (eqb-true k i is) ∙ e in absurd cc
  at false is = or_but (stands_in i t) (stands_in i n) (stands_in i (k ∷ [])) (ap (λ (x : Bool). cond x true false) is) (ap (λ (x : Bool). x || stands_in i n) (sym (stands_both i t (k ∷ []))) ∙ listed i (sym (unset.others i is) ∙ e))

-- number k's flag goes
pub listed_unset : (qs rs : List Bool) (t n : List ℕ) (k : ℕ) → IsUnset qs k rs → AreListed qs t n → AreListed rs t n
listed_unset qs rs t n k unset listed i e = at (eqb k i) refl where
  at : (here : Bool) → eqb k i ≡ here → (stands_in i t || stands_in i n) ≡ true
  at true is = let wrong : false ≡ true = sym unset.here ∙ ap (is_set rs) (eqb-true k i is) ∙ e in absurd cc
  at false is = listed i (sym (unset.others i is) ∙ e)

or_swapped : (b : Bool) → b ≡ true → (b || false) ≡ true
or_swapped true e = refl
or_swapped false e = absurd cc

-- the next round starts
pub queued_round : (xs : Slots) (qs : List Bool) (n : List ℕ) → EachIsQueued xs qs [] n → EachIsQueued xs qs n []
queued_round xs qs n q = record { working = q.working; listed = λ i e. or_swapped (stands_in i n) (q.listed i e) }

-- the last port goes, and its flag
pub queued_undo : (xs : Slots) (x : Option Port) (qs : List Bool) (q : Bool) (t n : List ℕ) → length qs ≡ length xs → EachIsQueued (xs ++ x ∷ []) (qs ++ q ∷ []) t n → EachIsQueued xs qs t n
queued_undo xs x qs q t n long each = record {
  working = λ i port e w. flag_kept qs q i (let within = slot_within xs i (Some port) e in omega arith) (each.working i port (slot_before xs x i (Some port) e) w);
  listed = λ i e. each.listed i (flag_before qs q i e);
} where
  slot_before : (xs : Slots) (x : Option Port) (i : ℕ) (y : Option Port) → slice_get xs i ≡ Some y → slice_get (xs ++ x ∷ []) i ≡ Some y
  slot_before [] x i y e = absurd cc
  slot_before (z ∷ xs) x zero y e = e
  slot_before (z ∷ xs) x (suc i) y e = slot_before xs x i y e

  slot_within : (xs : Slots) (i : ℕ) (y : Option Port) → slice_get xs i ≡ Some y → i < length xs
  slot_within [] i y e = absurd cc
  slot_within (z ∷ xs) zero y e = omega arith
  slot_within (z ∷ xs) (suc i) y e = let less : i < length xs = slot_within xs i y e in omega arith

  flag_before : (qs : List Bool) (q : Bool) (i : ℕ) → is_set qs i ≡ true → is_set (qs ++ q ∷ []) i ≡ true
  flag_before [] q i e = absurd cc
  flag_before (b ∷ qs) q zero e = e
  flag_before (b ∷ qs) q (suc i) e = flag_before qs q i e

  flag_kept : (qs : List Bool) (q : Bool) (i : ℕ) → i < length qs → is_set (qs ++ q ∷ []) i ≡ true → is_set qs i ≡ true
  flag_kept [] q i l e = absurd (omega arith)
  flag_kept (b ∷ qs) q zero l e = e
  flag_kept (b ∷ qs) q (suc i) l e = flag_kept qs q i (omega arith) e
