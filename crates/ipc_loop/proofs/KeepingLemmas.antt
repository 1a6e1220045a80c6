-- What always holds of ports.
use Rattle.std.proofs.Common.{◌≡◌, inl, inr, ℕ, zero, suc, ◌+◌, ◌-◌, ◌≤◌, ◌<◌, length, arith, Bool, true, false, eqb, cond, List, [], ◌∷◌, ◌++◌, set, slice_get, Option, Some, None, refl, sym, ap, ◌∙◌}
use Rattle.std.proofs.lemmas.Bool.{eqb-true}
use Rattle.std.proofs.lemmas.List.{length-set, length_push}
use Rattle.ipc_hub.specs.Marking.{is_set}
use Rattle.ipc_loop.specs.Ports.{Port, new_port, has_work, how_many_open}
use Rattle.ipc_loop.specs.Standing.{AreKept, AreKeptBut, IsListedSo, IsUnset, how_many_idle}
use Rattle.ipc_loop.proofs.PortLemmas.{Slots, slot_now, slot_other}
use Rattle.ipc_loop.proofs.StandingLemmas.{queued_none, queued_push, queued_undo, queued_round, others_acted, all_queued, set_flag, set_here, listed_next, listed_turn, listed_unset}
use Rattle.ipc_loop.proofs.OpeningLemmas.{one_out, one_more}

pub open_below : (xs : Slots) → how_many_open xs ≤ length xs
open_below [] = omega arith
open_below (None ∷ xs) = let few : how_many_open xs ≤ length xs = open_below xs in omega arith
open_below (Some p ∷ xs) = let few : how_many_open xs ≤ length xs = open_below xs in omega arith

pub within_slots : (xs : Slots) (k : ℕ) (x : Option Port) → slice_get xs k ≡ Some x → k < length xs
within_slots [] k x e = absurd cc
within_slots (y ∷ ys) zero x e = omega arith
within_slots (y ∷ ys) (suc k) x e = let less : k < length ys = within_slots ys k x e in omega arith

-- ---- ports that aren't queued

pub idle_open : (xs : Slots) (qs : List Bool) → how_many_idle xs qs ≤ how_many_open xs
idle_open [] qs = omega arith
idle_open (None ∷ xs) [] = idle_open xs []
idle_open (None ∷ xs) (q ∷ qs) = idle_open xs qs
idle_open (Some p ∷ xs) [] = let few : how_many_idle xs [] ≤ how_many_open xs = idle_open xs [] in omega arith
idle_open (Some p ∷ xs) (true ∷ qs) = let few : how_many_idle xs qs ≤ how_many_open xs = idle_open xs qs in omega arith
idle_open (Some p ∷ xs) (false ∷ qs) = let few : how_many_idle xs qs ≤ how_many_open xs = idle_open xs qs in omega arith

-- one that isn't queued is one of them
pub idle_one : (xs : Slots) (qs : List Bool) (k : ℕ) (p : Port) → slice_get xs k ≡ Some (Some p) → is_set qs k ≡ false → 1 ≤ how_many_idle xs qs
idle_one [] qs k p e off = absurd cc
idle_one (x ∷ xs) [] zero p e off = let is : x ≡ Some p = cc in rw is (omega arith)
idle_one (x ∷ xs) (q ∷ qs) zero p e off = let is : x ≡ Some p = cc in rw is (rw off (omega arith))
idle_one (None ∷ xs) [] (suc k) p e off = idle_one xs [] k p e refl
idle_one (None ∷ xs) (q ∷ qs) (suc k) p e off = idle_one xs qs k p e off
idle_one (Some o ∷ xs) [] (suc k) p e off = omega arith
idle_one (Some o ∷ xs) (true ∷ qs) (suc k) p e off = idle_one xs qs k p e off
idle_one (Some o ∷ xs) (false ∷ qs) (suc k) p e off = omega arith

-- its port is another
idle_acted : (xs : Slots) (qs : List Bool) (k : ℕ) (p p' : Port) → slice_get xs k ≡ Some (Some p) → how_many_idle (set xs k (Some p')) qs ≡ how_many_idle xs qs
idle_acted [] qs k p p' e = refl
idle_acted (x ∷ xs) [] zero p p' e = let is : x ≡ Some p = cc in rw is refl
idle_acted (x ∷ xs) (q ∷ qs) zero p p' e = let is : x ≡ Some p = cc in rw is refl
idle_acted (None ∷ xs) [] (suc k) p p' e = idle_acted xs [] k p p' e
idle_acted (None ∷ xs) (q ∷ qs) (suc k) p p' e = idle_acted xs qs k p p' e
idle_acted (Some o ∷ xs) [] (suc k) p p' e = ap (λ (n : ℕ). n + 1) (idle_acted xs [] k p p' e)
idle_acted (Some o ∷ xs) (q ∷ qs) (suc k) p p' e = ap (λ (n : ℕ). cond q n (n + 1)) (idle_acted xs qs k p p' e)

-- its flag is set
idle_queued : (xs : Slots) (qs : List Bool) (k : ℕ) (p : Port) → slice_get xs k ≡ Some (Some p) → length qs ≡ length xs → is_set qs k ≡ false → how_many_idle xs (set qs k true) + 1 ≡ how_many_idle xs qs
idle_queued [] qs k p e long off = absurd cc
idle_queued (x ∷ xs) [] k p e long off = absurd (omega arith)
idle_queued (x ∷ xs) (q ∷ qs) zero p e long off = let is : x ≡ Some p = cc in rw is (rw off refl)
idle_queued (None ∷ xs) (q ∷ qs) (suc k) p e long off = idle_queued xs qs k p e (omega arith) off
idle_queued (Some o ∷ xs) (true ∷ qs) (suc k) p e long off = idle_queued xs qs k p e (omega arith) off
idle_queued (Some o ∷ xs) (false ∷ qs) (suc k) p e long off = ap (λ (n : ℕ). n + 1) (idle_queued xs qs k p e (omega arith) off)

-- its flag is cleared
idle_cleared : (xs : Slots) (qs : List Bool) (k : ℕ) → how_many_idle xs (set qs k false) ≤ how_many_idle xs qs + 1
idle_cleared [] qs k = omega arith
idle_cleared (None ∷ xs) [] k = omega arith
idle_cleared (Some o ∷ xs) [] k = omega arith
idle_cleared (None ∷ xs) (q ∷ qs) zero = omega arith
idle_cleared (Some o ∷ xs) (true ∷ qs) zero = omega arith
idle_cleared (Some o ∷ xs) (false ∷ qs) zero = omega arith
idle_cleared (None ∷ xs) (q ∷ qs) (suc k) = idle_cleared xs qs k
idle_cleared (Some o ∷ xs) (true ∷ qs) (suc k) = idle_cleared xs qs k
idle_cleared (Some o ∷ xs) (false ∷ qs) (suc k) = let less : how_many_idle xs (set qs k false) ≤ how_many_idle xs qs + 1 = idle_cleared xs qs k in omega arith

-- a new port
idle_pushed : (xs : Slots) (qs : List Bool) (p : Port) → length qs ≡ length xs → how_many_idle (xs ++ Some p ∷ []) (qs ++ false ∷ []) ≡ how_many_idle xs qs + 1
idle_pushed [] [] p e = refl
idle_pushed [] (q ∷ qs) p e = absurd (omega arith)
idle_pushed (x ∷ xs) [] p e = absurd (omega arith)
idle_pushed (None ∷ xs) (q ∷ qs) p e = idle_pushed xs qs p (omega arith)
idle_pushed (Some o ∷ xs) (true ∷ qs) p e = idle_pushed xs qs p (omega arith)
idle_pushed (Some o ∷ xs) (false ∷ qs) p e = ap (λ (n : ℕ). n + 1) (idle_pushed xs qs p (omega arith))

-- who isn't queued, of these ports, wasn't of those
abbrev FewerIdle : Slots → List Bool → Slots → List Bool → Type 0
FewerIdle xs qs ys rs = (i : ℕ) (p : Port) → slice_get ys i ≡ Some (Some p) → is_set rs i ≡ false → (o : Port) × ((slice_get xs i ≡ Some (Some o)) × (is_set qs i ≡ false))

idle_fewer : (xs : Slots) (qs : List Bool) (ys : Slots) (rs : List Bool) → length qs ≡ length xs → length rs ≡ length ys → length ys ≡ length xs → FewerIdle xs qs ys rs → how_many_idle ys rs ≤ how_many_idle xs qs
idle_fewer xs qs [] rs a b c f = omega arith
idle_fewer [] qs (y ∷ ys) rs a b c f = absurd (omega arith)
idle_fewer (x ∷ xs) [] (y ∷ ys) rs a b c f = absurd (omega arith)
idle_fewer (x ∷ xs) (q ∷ qs) (y ∷ ys) [] a b c f = absurd (omega arith)
idle_fewer (None ∷ xs) (q ∷ qs) (None ∷ ys) (r ∷ rs) a b c f = idle_fewer xs qs ys rs (omega arith) (omega arith) (omega arith) (λ i p e off. f (suc i) p e off)
idle_fewer (Some o ∷ xs) (q ∷ qs) (None ∷ ys) (r ∷ rs) a b c f =
    let few : how_many_idle ys rs ≤ how_many_idle xs qs = idle_fewer xs qs ys rs (omega arith) (omega arith) (omega arith) (λ i p e off. f (suc i) p e off) in
    more q (how_many_idle ys rs) (how_many_idle xs qs) few where
      more : (b : Bool) (n m : ℕ) → n ≤ m → n ≤ cond b m (m + 1)
      more true n m e = e
      more false n m e = omega arith
idle_fewer (x ∷ xs) (q ∷ qs) (Some p ∷ ys) (true ∷ rs) a b c f =
    let few : how_many_idle ys rs ≤ how_many_idle xs qs = idle_fewer xs qs ys rs (omega arith) (omega arith) (omega arith) (λ i p e off. f (suc i) p e off) in
    more x q (how_many_idle ys rs) few where
      more : (x : Option Port) (b : Bool) (n : ℕ) → n ≤ how_many_idle xs qs → n ≤ how_many_idle (x ∷ xs) (b ∷ qs)
      more None b n e = e
      more (Some o) true n e = e
      more (Some o) false n e = omega arith
idle_fewer (x ∷ xs) (q ∷ qs) (Some p ∷ ys) (false ∷ rs) a b c f =
    let few : how_many_idle ys rs ≤ how_many_idle xs qs = idle_fewer xs qs ys rs (omega arith) (omega arith) (omega arith) (λ i p e off. f (suc i) p e off) in
    let first = f 0 p refl refl in
    let is : x ≡ Some first.0 = (let e : Some x ≡ Some (Some first.0) = first.1.0 in cc) in
    let off : q ≡ false = first.1.1 in
    rw is (rw off (let one : how_many_idle ys rs + 1 ≤ how_many_idle xs qs + 1 = omega arith in one))

-- number k's port goes, and its flag
gone_idle : (xs : Slots) (qs rs : List Bool) (k : ℕ) (p : Port) → slice_get xs k ≡ Some (Some p) → IsUnset qs k rs → FewerIdle xs qs (set xs k None) rs
gone_idle xs qs rs k p there unset i o e off = at (eqb k i) refl where
  at : (here : Bool) → eqb k i ≡ here → (r : Port) × ((slice_get xs i ≡ Some (Some r)) × (is_set qs i ≡ false))
  at true is = let wrong : Some None ≡ Some (Some o) = sym (slot_now xs k (Some p) None there) ∙ ap (λ (j : ℕ). slice_get (set xs k None) j) (eqb-true k i is) ∙ e in absurd cc
  at false is = (o, (sym (slot_other xs k (Some p) None i there is) ∙ e, sym (unset.others i is) ∙ off))

-- ---- what holds of them

pub kept_none : (tm nm : ℕ) → AreKept [] [] [] [] 0 tm nm
kept_none tm nm = record { flags = refl; each = queued_none; count = refl; room_of_turns = omega arith; room_of_next = omega arith }

pub kept_round : (xs : Slots) (qs : List Bool) (n : List ℕ) (o tm nm : ℕ) → AreKept xs qs [] n o tm nm → AreKept xs qs n [] o nm tm
kept_round xs qs n o tm nm a = record { flags = a.flags; each = queued_round xs qs n a.each; count = a.count; room_of_turns = omega (arith, a.room_of_next); room_of_next = omega (arith, a.room_of_turns) }

-- a new port comes, for which there is room in the lists
pub kept_push : (xs ys : Slots) (qs rs : List Bool) (t t' n n' : List ℕ) (o tm nm tm' nm' : ℕ) → AreKept xs qs t n o tm nm → ys ≡ xs ++ Some new_port ∷ [] → rs ≡ qs ++ false ∷ [] → t' ≡ t → n' ≡ n → length t + (o + 1 + length n) ≤ tm' → length t + (o + 1 + length n) ≤ nm' → AreKept ys rs t' n' (o + 1) tm' nm'
kept_push xs ys qs rs t t' n n' o tm nm tm' nm' a put more turns next fits fits' =
    let few : how_many_idle xs qs ≤ how_many_open xs = idle_open xs qs in
    let idle : how_many_idle ys rs ≡ how_many_idle xs qs + 1 = ap (λ (zs : Slots). how_many_idle zs rs) put ∙ ap (how_many_idle (xs ++ Some new_port ∷ [])) more ∙ idle_pushed xs qs new_port a.flags in
    let ts : length t' ≡ length t = ap (λ (zs : List ℕ). length zs) turns in
    let ns : length n' ≡ length n = ap (λ (zs : List ℕ). length zs) next in
    record {
      flags = ap (λ (zs : List Bool). length zs) more ∙ length_push qs false ∙ ap (λ (m : ℕ). m + 1) a.flags ∙ sym (ap (λ (zs : Slots). length zs) put ∙ length_push xs (Some new_port));
      each = rw (put, more, turns, next) (queued_push xs qs t n a.each);
      count = ap (λ (m : ℕ). m + 1) a.count ∙ sym (one_more xs new_port) ∙ ap how_many_open (sym put);
      room_of_turns = omega (arith, idle, a.count, fits);
      room_of_next = omega (arith, idle, a.count, fits');
    }

idle_less : (xs : Slots) (x : Option Port) (qs : List Bool) (q : Bool) → length qs ≡ length xs → how_many_idle xs qs ≤ how_many_idle (xs ++ x ∷ []) (qs ++ q ∷ [])
idle_less [] x qs q e = omega arith
idle_less (y ∷ xs) x [] q e = absurd (omega arith)
idle_less (None ∷ xs) x (r ∷ qs) q e = idle_less xs x qs q (omega arith)
idle_less (Some p ∷ xs) x (true ∷ qs) q e = idle_less xs x qs q (omega arith)
idle_less (Some p ∷ xs) x (false ∷ qs) q e = let less : how_many_idle xs qs ≤ how_many_idle (xs ++ x ∷ []) (qs ++ q ∷ []) = idle_less xs x qs q (omega arith) in omega arith

-- the last port goes
pub kept_undo : (xs : Slots) (p : Port) (qs : List Bool) (q : Bool) (t n : List ℕ) (o tm nm : ℕ) → AreKept (xs ++ Some p ∷ []) (qs ++ q ∷ []) t n o tm nm → 1 ≤ o × AreKept xs qs t n (o - 1) tm nm
kept_undo xs p qs q t n o tm nm a =
    let one : how_many_open (xs ++ Some p ∷ []) ≡ how_many_open xs + 1 = one_more xs p in
    let count = a.count in
    let longs : length qs + 1 ≡ length xs + 1 = sym (length_push qs q) ∙ a.flags ∙ length_push xs (Some p) in
    let long : length qs ≡ length xs = omega arith in
    let less = idle_less xs (Some p) qs q long in (
      omega arith,
      record {
        flags = long;
        each = queued_undo xs (Some p) qs q t n long a.each;
        count = omega arith;
        room_of_turns = omega (arith, a.room_of_turns, less);
        room_of_next = omega (arith, a.room_of_next, less);
      },
    )

-- ---- something is done for a port

open_acted : (xs : Slots) (k : ℕ) (p p' : Port) → slice_get xs k ≡ Some (Some p) → how_many_open (set xs k (Some p')) ≡ how_many_open xs
open_acted [] k p p' e = refl
open_acted (x ∷ xs) zero p p' e = let is : x ≡ Some p = cc in rw is refl
open_acted (None ∷ xs) (suc k) p p' e = open_acted xs k p p' e
open_acted (Some o ∷ xs) (suc k) p p' e = ap (λ (n : ℕ). n + 1) (open_acted xs k p p' e)

pub but_acted : (xs : Slots) (qs : List Bool) (t n : List ℕ) (k : ℕ) (p p' : Port) (o tm nm : ℕ) → slice_get xs k ≡ Some (Some p) → AreKept xs qs t n o tm nm → AreKeptBut k (set xs k (Some p')) qs t n o tm nm
but_acted xs qs t n k p p' o tm nm there a =
    let same = idle_acted xs qs k p p' there in
    record {
      flags = a.flags ∙ sym (length-set xs k (Some p'));
      working = others_acted xs qs qs k p p' there (λ i other. refl) (λ i port other e w. a.each.working i port e w);
      listed = a.each.listed;
      count = a.count ∙ sym (open_acted xs k p p' there);
      room_of_turns = omega (arith, a.room_of_turns, same);
      room_of_next = omega (arith, a.room_of_next, same);
    }

-- the same, where number k has its turn
pub but_turned : (xs : Slots) (qs : List Bool) (t n : List ℕ) (k : ℕ) (p p' : Port) (o tm nm : ℕ) → slice_get xs k ≡ Some (Some p) → IsUnset qs k (set qs k false) → AreKept xs qs (t ++ k ∷ []) n o tm nm → AreKeptBut k (set xs k (Some p')) (set qs k false) t n o tm nm
but_turned xs qs t n k p p' o tm nm there unset a =
    let same = idle_acted xs (set qs k false) k p p' there in
    let more = idle_cleared xs qs k in
    let one : length (t ++ k ∷ []) ≡ length t + 1 = length_push t k in
    record {
      flags = length-set qs k false ∙ a.flags ∙ sym (length-set xs k (Some p'));
      working = others_acted xs qs (set qs k false) k p p' there unset.others (λ i port other e w. a.each.working i port e w);
      listed = listed_turn qs (set qs k false) t n k unset a.each.listed;
      count = a.count ∙ sym (open_acted xs k p p' there);
      room_of_turns = omega (arith, a.room_of_turns, same, more, one);
      room_of_next = omega (arith, a.room_of_next, same, more, one);
    }

-- number k had its turn, and has no place
pub kept_turn : (xs : Slots) (qs : List Bool) (t n : List ℕ) (k o tm nm : ℕ) → is_set qs k ≡ false → AreKept xs qs (t ++ k ∷ []) n o tm nm → AreKept xs qs t n o tm nm
kept_turn xs qs t n k o tm nm off a =
    let one : length (t ++ k ∷ []) ≡ length t + 1 = length_push t k in
    record {
      flags = a.flags;
      each = record { working = a.each.working; listed = listed_turn qs qs t n k (record { here = off; others = λ i other. refl }) a.each.listed };
      count = a.count;
      room_of_turns = omega (arith, a.room_of_turns, one);
      room_of_next = omega (arith, a.room_of_next, one);
    }

-- there is room for number k, which isn't queued
pub but_room : (xs : Slots) (qs : List Bool) (t n : List ℕ) (k : ℕ) (p : Port) (o tm nm : ℕ) → slice_get xs k ≡ Some (Some p) → AreKeptBut k xs qs t n o tm nm → is_set qs k ≡ false → length n < nm
but_room xs qs t n k p o tm nm there a off = omega (arith, a.room_of_next, idle_one xs qs k p there off)

-- it is queued, or has no work
pub kept_as : (xs : Slots) (qs : List Bool) (t n : List ℕ) (k o tm nm : ℕ) → ((port : Port) → slice_get xs k ≡ Some (Some port) → has_work port ≡ true → is_set qs k ≡ true) → AreKeptBut k xs qs t n o tm nm → AreKept xs qs t n o tm nm
kept_as xs qs t n k o tm nm here a = record { flags = a.flags; each = all_queued xs qs t n k a.working a.listed here; count = a.count; room_of_turns = a.room_of_turns; room_of_next = a.room_of_next }

kept_next : (xs : Slots) (qs : List Bool) (t n : List ℕ) (k : ℕ) (p : Port) (o tm nm : ℕ) → slice_get xs k ≡ Some (Some p) → is_set qs k ≡ false → AreKeptBut k xs qs t n o tm nm → AreKept xs (set qs k true) t (n ++ k ∷ []) o tm nm
kept_next xs qs t n k p o tm nm there off a =
    let one : length (n ++ k ∷ []) ≡ length n + 1 = length_push n k in
    let less = idle_queued xs qs k p there a.flags off in
    let within : k < length xs = within_slots xs k (Some p) there in
    record {
      flags = length-set qs k true ∙ a.flags;
      each = all_queued xs (set qs k true) t (n ++ k ∷ []) k (λ i port other e w. set_flag qs k i (a.working i port other e w)) (listed_next qs t n k a.listed) (λ port e w. set_here qs k (omega (arith, a.flags, within)));
      count = a.count;
      room_of_turns = omega (arith, a.room_of_turns, one, less);
      room_of_next = omega (arith, a.room_of_next, one, less);
    }

-- its place is told to be queued, or stays as it was
pub kept_queued : (xs : Slots) (qs : List Bool) (t n n' : List ℕ) (k : ℕ) (p : Port) (was is : Bool) (o tm nm : ℕ) → slice_get xs k ≡ Some (Some p) → is_set qs k ≡ was → set qs k was ≡ qs → (has_work p ≡ true → is ≡ true) → IsListedSo k was n is n' → AreKeptBut k xs qs t n o tm nm → AreKept xs (set qs k is) t n' o tm nm
kept_queued xs qs t n n' k p was is o tm nm there flag back works (inl same) a =
    let stays : set qs k is ≡ qs = ap (set qs k) same.0 ∙ back in
    rw (stays, same.1) (kept_as xs qs t n k o tm nm (λ port e w. flag ∙ sym same.0 ∙ works (let is : Some (Some p) ≡ Some (Some port) = sym there ∙ e in let q : p ≡ port = cc in ap has_work q ∙ w)) a)
kept_queued xs qs t n n' k p was is o tm nm there flag back works (inr more) a =
    rw (more.1, more.2) (kept_next xs qs t n k p o tm nm there (flag ∙ more.0) a)

-- its place goes
pub kept_closed : (xs : Slots) (qs rs : List Bool) (t n : List ℕ) (k : ℕ) (p : Port) (o tm nm : ℕ) → slice_get xs k ≡ Some (Some p) → IsUnset qs k rs → length rs ≡ length qs → AreKeptBut k xs qs t n o tm nm → 1 ≤ o × AreKept (set xs k None) rs t n (o - 1) tm nm
kept_closed xs qs rs t n k p o tm nm there unset long a =
    let one : how_many_open (set xs k None) + 1 ≡ how_many_open xs = one_out xs k p there in
    let count = a.count in
    let longs = length-set xs k None in
    let few = idle_fewer xs qs (set xs k None) rs a.flags (long ∙ a.flags ∙ sym longs) longs (gone_idle xs qs rs k p there unset) in (
      omega arith,
      record {
        flags = long ∙ a.flags ∙ sym longs;
        each = all_queued (set xs k None) rs t n k
            (λ i port other e w. unset.others i other ∙ a.working i port other (sym (slot_other xs k (Some p) None i there other) ∙ e) w)
            (listed_unset qs rs t n k unset a.listed)
            (λ port e w. let wrong : Some None ≡ Some (Some port) = sym (slot_now xs k (Some p) None there) ∙ e in absurd cc);
        count = omega arith;
        room_of_turns = omega (arith, a.room_of_turns, few);
        room_of_next = omega (arith, a.room_of_next, few);
      },
    )
