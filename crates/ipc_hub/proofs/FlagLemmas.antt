-- The flags of connections, of which some are kept.
use Rattle.std.proofs.Common.{◌≡◌, ℕ, zero, suc, ◌+◌, ◌<◌, ◌≤◌, Bool, true, false, eqb, List, [], ◌∷◌, ◌++◌, length, map, set, Option, Some, None, is_some, refl, sym, ap, subst, ◌∙◌, arith}
use Rattle.std.proofs.lemmas.Bool.{eqb-false}
use Rattle.ipc_terms.specs.Lists.{changed}
use Rattle.ipc_containers.specs.Slots.{at, emptied, how_many_filled}
use Rattle.ipc_containers.proofs.SlotsLemmas.{slot_at, filled_push, filled_emptied, filled_changed}
use Rattle.ipc_hub.specs.Marking.{is_set, how_many_set, flag_in, Owners, AreListed, AreMarks, MarksView}
use Rattle.ipc_hub.proofs.MarkLemmas.{listed_more, listed_marked, listed_named}

-- ---- one of them

pub kept_flag : (flags : List (Option Bool)) (i : ℕ) (b : Bool) → at flags i ≡ Some b → (is_set (map flag_in flags) i ≡ b) × (is_set (map is_some flags) i ≡ true)
kept_flag [] i b e = absurd cc
kept_flag (x ∷ xs) zero b e = (ap flag_in e, ap is_some e)
kept_flag (x ∷ xs) (suc i) b e = kept_flag xs i b e

pub no_flag : (flags : List (Option Bool)) (i : ℕ) → at flags i ≡ None → (is_set (map flag_in flags) i ≡ false) × (is_set (map is_some flags) i ≡ false)
no_flag [] i e = (refl, refl)
no_flag (x ∷ xs) zero e = (ap flag_in e, ap is_some e)
no_flag (x ∷ xs) (suc i) e = no_flag xs i e

pub kept_within : (flags : List (Option Bool)) (i : ℕ) (b : Bool) → at flags i ≡ Some b → i < length (map flag_in flags)
kept_within [] i b e = absurd cc
kept_within (x ∷ xs) zero b e = omega arith
kept_within (x ∷ xs) (suc i) b e = let lt = kept_within xs i b e in omega arith

pub set_is_kept : (flags : List (Option Bool)) (i : ℕ) → is_set (map flag_in flags) i ≡ true → at flags i ≡ Some true
set_is_kept [] i on = absurd cc
set_is_kept (None ∷ xs) zero on = absurd cc
set_is_kept (Some b ∷ xs) zero on = ap Some on
set_is_kept (x ∷ xs) (suc i) on = set_is_kept xs i on

-- ---- one changes

pub changed_flag : (flags : List (Option Bool)) (i : ℕ) (b c : Bool) → at flags i ≡ Some b → map flag_in (changed (λ o. Some c) flags i) ≡ set (map flag_in flags) i c
changed_flag [] i b c e = absurd cc
changed_flag (x ∷ xs) zero b c e = refl
changed_flag (x ∷ xs) (suc i) b c e = ap (λ l. flag_in x ∷ l) (changed_flag xs i b c e)

pub changed_kept : (flags : List (Option Bool)) (i : ℕ) (b c : Bool) → at flags i ≡ Some b → map is_some (changed (λ o. Some c) flags i) ≡ map is_some flags
changed_kept [] i b c e = absurd cc
changed_kept (x ∷ xs) zero b c e = ap (λ w. w ∷ map is_some xs) (sym (ap is_some e))
changed_kept (x ∷ xs) (suc i) b c e = ap (λ l. is_some x ∷ l) (changed_kept xs i b c e)

-- ---- one more

pub pushed_flag : (flags : List (Option Bool)) → map flag_in (flags ++ Some false ∷ []) ≡ map flag_in flags ++ false ∷ []
pushed_flag [] = refl
pushed_flag (x ∷ xs) = ap (λ l. flag_in x ∷ l) (pushed_flag xs)

pub pushed_kept : (flags : List (Option Bool)) → map is_some (flags ++ Some false ∷ []) ≡ map is_some flags ++ true ∷ []
pushed_kept [] = refl
pushed_kept (x ∷ xs) = ap (λ l. is_some x ∷ l) (pushed_kept xs)

-- ---- one goes that is off

pub emptied_flag : (flags : List (Option Bool)) (i : ℕ) → at flags i ≡ Some false → map flag_in (changed emptied flags i) ≡ map flag_in flags
emptied_flag [] i e = refl
emptied_flag (x ∷ xs) zero e = ap (λ w. w ∷ map flag_in xs) (sym (ap flag_in e))
emptied_flag (x ∷ xs) (suc i) e = ap (λ l. flag_in x ∷ l) (emptied_flag xs i e)

pub others_kept : (flags : List (Option Bool)) (i j : ℕ) → (j ≡ i → ⊥) → is_set (map is_some (changed emptied flags i)) j ≡ is_set (map is_some flags) j
others_kept [] i j apart = refl
others_kept (x ∷ xs) zero zero apart = absurd (apart refl)
others_kept (x ∷ xs) zero (suc j) apart = refl
others_kept (x ∷ xs) (suc i) zero apart = refl
others_kept (x ∷ xs) (suc i) (suc j) apart = others_kept xs i j (λ q. apart (ap suc q))

pub kept_no_more : (flags : List (Option Bool)) (i : ℕ) → is_set (map is_some (changed emptied flags i)) i ≡ false
kept_no_more [] i = refl
kept_no_more (x ∷ xs) zero = refl
kept_no_more (x ∷ xs) (suc i) = kept_no_more xs i

-- ---- how many

pub set_are_kept : (flags : List (Option Bool)) → how_many_set (map flag_in flags) ≤ how_many_filled flags
set_are_kept [] = omega arith
set_are_kept (None ∷ xs) = set_are_kept xs
set_are_kept (Some true ∷ xs) = let le = set_are_kept xs in omega arith
set_are_kept (Some false ∷ xs) = let le = set_are_kept xs in omega arith

pub fewer_set : (flags : List (Option Bool)) (i : ℕ) → at flags i ≡ Some false → how_many_set (map flag_in flags) < how_many_filled flags
fewer_set [] i e = absurd cc
fewer_set (None ∷ xs) zero e = absurd cc
fewer_set (Some true ∷ xs) zero e = absurd cc
fewer_set (Some false ∷ xs) zero e = let le = set_are_kept xs in omega arith
fewer_set (None ∷ xs) (suc i) e = fewer_set xs i e
fewer_set (Some true ∷ xs) (suc i) e = let lt = fewer_set xs i e in omega arith
fewer_set (Some false ∷ xs) (suc i) e = let lt = fewer_set xs i e in omega arith

-- ---- marks, as their flags change

abbrev pub view_of : Owners → List (Option Bool) → MarksView
view_of owners flags = record { owners = owners; marked = map flag_in flags; flagged = map is_some flags }

pub none_kept : AreMarks [] 0 [] 0
none_kept = record { listed = record { once = λ i. refl; count = refl }; counted = refl; fits = omega arith }

pub pushed_marks : (flags fs : List (Option Bool)) (count n : ℕ) (list js : List ℕ) (capacity room : ℕ) → AreMarks flags count list capacity → fs ≡ flags ++ Some false ∷ [] → n ≡ count + 1 → js ≡ list → n ≤ room → AreMarks fs n js room
pushed_marks flags fs count n list js capacity room h now more same fits = record {
  listed = subst (λ (ks : List ℕ). AreListed (map flag_in fs) ks) (sym same) (subst (λ (bs : List Bool). AreListed bs list) (sym (ap (map flag_in) now ∙ pushed_flag flags)) (listed_more (map flag_in flags) list h.listed));
  counted = (let was = h.counted in let one = filled_push flags false in let all : how_many_filled fs ≡ how_many_filled (flags ++ Some false ∷ []) = ap how_many_filled now in omega arith);
  fits = fits;
}

pub emptied_marks : (flags fs : List (Option Bool)) (i count n : ℕ) (list : List ℕ) (capacity : ℕ) → AreMarks flags count list capacity → at flags i ≡ Some false → fs ≡ changed emptied flags i → count ≡ n + 1 → AreMarks fs n list capacity
emptied_marks flags fs i count n list capacity h off now less = record {
  listed = subst (λ (bs : List Bool). AreListed bs list) (sym (ap (map flag_in) now ∙ emptied_flag flags i off)) h.listed;
  counted = (let was = h.counted in let one = filled_emptied flags i false (slot_at flags i false off) in let all : how_many_filled fs ≡ how_many_filled (changed emptied flags i) = ap how_many_filled now in omega arith);
  fits = (let le = h.fits in omega arith);
}

as_many_kept : (flags fs : List (Option Bool)) (i count : ℕ) (b c : Bool) → count ≡ how_many_filled flags → at flags i ≡ Some b → fs ≡ changed (λ o. Some c) flags i → count ≡ how_many_filled fs
as_many_kept flags fs i count b c was there now = was ∙ sym (ap how_many_filled now ∙ filled_changed flags i b c (slot_at flags i b there))

pub marked_marks : (flags fs : List (Option Bool)) (i count : ℕ) (list js : List ℕ) (capacity room : ℕ) → AreMarks flags count list capacity → at flags i ≡ Some false → fs ≡ changed (λ o. Some true) flags i → js ≡ list ++ i ∷ [] → room ≡ capacity → AreMarks fs count js room
marked_marks flags fs i count list js capacity room h off now more same = record {
  listed = subst (λ (ks : List ℕ). AreListed (map flag_in fs) ks) (sym more) (subst (λ (bs : List Bool). AreListed bs (list ++ i ∷ [])) (sym (ap (map flag_in) now ∙ changed_flag flags i false true off)) (listed_marked (map flag_in flags) list i (kept_within flags i false off) (kept_flag flags i false off).0 h.listed));
  counted = as_many_kept flags fs i count false true h.counted off now;
  fits = (let fits = h.fits in omega arith);
}

pub named_marks : (flags fs : List (Option Bool)) (i count : ℕ) (b : Bool) (list js : List ℕ) (capacity room : ℕ) → AreMarks flags count list capacity → at flags i ≡ Some b → list ≡ js ++ i ∷ [] → fs ≡ changed (λ o. Some false) flags i → room ≡ capacity → AreMarks fs count js room
named_marks flags fs i count b list js capacity room h there last now same = record {
  listed = subst (λ (bs : List Bool). AreListed bs js) (sym (ap (map flag_in) now ∙ changed_flag flags i b false there)) (listed_named (map flag_in flags) js i (subst (λ (ks : List ℕ). AreListed (map flag_in flags) ks) last h.listed));
  counted = as_many_kept flags fs i count b false h.counted there now;
  fits = (let fits = h.fits in omega arith);
}

-- ---- and as they are seen

pub written_view : (owners : Owners) (flags fs : List (Option Bool)) (i : ℕ) (b c : Bool) (old : MarksView) → view_of owners flags ≡ old → at flags i ≡ Some b → fs ≡ changed (λ o. Some c) flags i → view_of owners fs ≡ record old { marked = set old.marked i c }
written_view owners flags fs i b c old is there now =
    ap (view_of owners) now
    ∙ ap (λ (bs : List Bool). record (view_of owners (changed (λ o. Some c) flags i)) { marked = bs }) (changed_flag flags i b c there)
    ∙ ap (λ (bs : List Bool). record (view_of owners flags) { marked = set (map flag_in flags) i c; flagged = bs }) (changed_kept flags i b c there)
    ∙ ap (λ (m : MarksView). record m { marked = set m.marked i c }) is

-- connection i has no flag any more
pub record LetsGo (old : MarksView) (i : ℕ) (new : MarksView) : Type 0 where
  pub same : new ≡ record old { flagged = new.flagged }
  pub count : length new.flagged ≡ length old.flagged
  pub others : (j : ℕ) → eqb j i ≡ false → is_set new.flagged j ≡ is_set old.flagged j
  pub gone : is_set new.flagged i ≡ false

pub lets_go : (owners : Owners) (flags fs : List (Option Bool)) (i : ℕ) (old new : MarksView) → view_of owners flags ≡ old → new ≡ view_of owners fs → at flags i ≡ Some false → fs ≡ changed emptied flags i → LetsGo old i new
lets_go owners flags fs i old new is now off gone = record {
  same = now ∙ ap (λ (bs : List Bool). record (view_of owners fs) { marked = bs }) (ap (map flag_in) gone ∙ emptied_flag flags i off) ∙ ap (λ (m : MarksView). record m { flagged = map is_some fs }) is ∙ ap (λ (bs : List Bool). record old { flagged = bs }) (sym flagged);
  count = ap (λ (bs : List Bool). length bs) (flagged ∙ ap (map is_some) gone) ∙ as_many flags i ∙ ap (λ (m : MarksView). length m.flagged) is;
  others = λ j apart. ap (λ (bs : List Bool). is_set bs j) (flagged ∙ ap (map is_some) gone) ∙ others_kept flags i j (eqb-false j i apart) ∙ ap (λ (m : MarksView). is_set m.flagged j) is;
  gone = ap (λ (bs : List Bool). is_set bs i) (flagged ∙ ap (map is_some) gone) ∙ kept_no_more flags i;
} where
  flagged : new.flagged ≡ map is_some fs
  flagged = ap (λ (m : MarksView). m.flagged) now

  as_many : (xs : List (Option Bool)) (n : ℕ) → length (map is_some (changed emptied xs n)) ≡ length (map is_some xs)
  as_many [] n = refl
  as_many (x ∷ xs) zero = refl
  as_many (x ∷ xs) (suc n) = ap suc (as_many xs n)
