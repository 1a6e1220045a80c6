-- An object has a name exactly where the name is bound to it, and no name stands twice in the list of a family's names.
use Rattle.std.proofs.Common.{◌≡◌, ℕ, ◌<◌, Bool, true, false, not, ◌&&◌, eqb, List, [], ◌∷◌, ◌++◌, map, find, filter, cond, Option, Some, None, refl, sym, ap, subst, ◌∙◌, arith}
use Rattle.std.specs.List.{IsDistinct, AllByRecursion}
use Rattle.std.specs.Option.{option_map}
use Rattle.std.proofs.lemmas.Bool.{eqb-true, ne_eqb}
use Rattle.std.proofs.lemmas.Slice.Eq.{bytes_eq-Decides}
use Rattle.ipc_terms.specs.Flags.{has_create}
use Rattle.ipc_terms.specs.Names.{same_family, same_name}
use Rattle.ipc_terms.specs.declared.binding.Binding.{Binding}
use Rattle.ipc_terms.specs.declared.ids.Family.{Family}
use Rattle.ipc_terms.specs.declared.rule.Rule.{Rule}
use Rattle.ipc_terms.specs.declared.record.Event.{Event}
use Rattle.ipc_policy.specs.Decides.History.{History, unless, is_some_and}
use Rattle.ipc_policy.specs.Decides.Names.{Opening, Naming, opening, unlinking, asks_name, unlinks, is_bound, creations, bound}
use Rattle.ipc_policy.specs.Decides.Life.{named, bindings, names}
use Rattle.ipc_policy.specs.Follows.Grow.{is_new, bound_after, named_after, names_after}
use Rattle.ipc_policy.specs.Follows.Laws.{NamedIsBound, NamesDiffer}
use Rattle.ipc_policy.proofs.Directories.Creating.{bound_below}
use Rattle.ipc_policy.proofs.Histories.Growing.{bound_grows}
use Rattle.ipc_policy.proofs.Histories.Known.{asked_is, bound_iff}
use Rattle.ipc_policy.proofs.Directories.Listing.{listed_is_bound, unbound_new}
use Rattle.ipc_policy.proofs.Directories.Living.{named_grows, names_grow}

-- an object is named so, and a name is bound to it
abbrev has_name : Family → List ℕ → Option Opening → Bool
has_name f name w = is_some_and (λ asked. asks_name asked f name) w

abbrev is_at : ℕ → Option ℕ → Bool
is_at o v = is_some_and (λ n. eqb n o) v

-- an unlink of the name takes both
same_unlink : (asked : Opening) (f : Family) (name : List ℕ) (e : Event) → asks_name asked f name ≡ true → unlinks asked.family asked.name e ≡ unlinks f name e
same_unlink asked f name e k = let is = asked_is asked f name k in let one = is.0 in let two = is.1 in rw (one, two) refl

unlinked_some : (b d u : Bool) (x : Bool) → (b ≡ true → d ≡ u) → b ≡ x → (cond d false b) ≡ cond u false x
unlinked_some true true u x same k = rw (sym (same refl)) refl
unlinked_some true false u x same k = rw (sym (same refl)) k
unlinked_some false true true x same k = refl
unlinked_some false true false x same k = k
unlinked_some false false true x same k = refl
unlinked_some false false false x same k = k

at_kept : (d : Bool) (f : Family) (name : List ℕ) (asked : Opening) → has_name f name (cond d None (Some asked)) ≡ cond d false (asks_name asked f name)
at_kept true f name asked = refl
at_kept false f name asked = refl

at_unless : (u : Bool) (o : ℕ) (v : Option ℕ) → is_at o (cond u None v) ≡ cond u false (is_at o v)
at_unless true o v = refl
at_unless false o v = refl

false_either : (u : Bool) (x : Bool) → false ≡ x → false ≡ cond u false x
false_either true x k = refl
false_either false x k = k

tied_unlinked : (f : Family) (name : List ℕ) (e : Event) (o : ℕ) (w : Option Opening) (v : Option ℕ) → has_name f name w ≡ is_at o v → has_name f name (unless (λ asked. unlinks asked.family asked.name e) w) ≡ is_at o (cond (unlinks f name e) None v)
tied_unlinked f name e o None v known = false_either (unlinks f name e) (is_at o v) known ∙ sym (at_unless (unlinks f name e) o v)
tied_unlinked f name e o (Some asked) v known = at_kept (unlinks asked.family asked.name e) f name asked ∙ unlinked_some (asks_name asked f name) (unlinks asked.family asked.name e) (unlinks f name e) (is_at o v) (same_unlink asked f name e) known ∙ sym (at_unless (unlinks f name e) o v)

-- a creation binds its name to the new object, to which none was bound; and its name was bound to none
not_yet : (n : ℕ) (v : Option ℕ) → ((i : ℕ) → v ≡ Some i → i < n) → is_at n v ≡ false
not_yet n None below = refl
not_yet n (Some i) below = ne_eqb i n (λ (same : i ≡ n). let lt : i < n = below i refl in absurd (omega arith))

tied_new : (f : Family) (name : List ℕ) (asked : Opening) (n o : ℕ) (w : Option Opening) (v : Option ℕ) (b d k : Bool) → eqb n o ≡ d → asks_name asked f name ≡ k → has_name f name w ≡ is_at o v → ((i : ℕ) → v ≡ Some i → i < n) → (b ≡ true → k ≡ true → v ≡ None) → has_name f name (cond (b && d) (Some asked) w) ≡ is_at o (cond (b && k) (Some n) v)
tied_new f name asked n o w v false d k q p known below none = known
tied_new f name asked n o w v true true true q p known below none = p ∙ sym q
tied_new f name asked n o w v true true false q p known below none = p ∙ sym (let same : n ≡ o = eqb-true n o q in subst (λ (i : ℕ). is_at i v ≡ false) same (not_yet n v below))
tied_new f name asked n o w v true false true q p known below none = known ∙ ap (is_at o) (none refl refl) ∙ sym q
tied_new f name asked n o w v true false false q p known below none = known

was_unbound : (h : History) (asked : Opening) (f : Family) (name : List ℕ) → is_new asked (is_bound h) ≡ true → asks_name asked f name ≡ true → bound h f name ≡ None
was_unbound h asked f name new k =
    let is = asked_is asked f name k in
    let one : asked.family ≡ f = is.0 in
    let two : asked.name ≡ name = is.1 in
    let none : bound h asked.family asked.name ≡ None = unbound_new (has_create asked.flags) (is_bound h asked.family asked.name) (bound h asked.family asked.name) (bound_iff h asked.family asked.name) new in
    subst (λ (g : Family). bound h g name ≡ None) one (subst (λ (s : List ℕ). bound h asked.family s ≡ None) two none)

tied_after : (h : History) (o : ℕ) (f : Family) (name : List ℕ) → has_name f name (named h o) ≡ is_at o (bound h f name) → (e : Event) (w : Option Opening) → opening e ≡ w → has_name f name (named_after o e (is_bound h) (creations h) (named h o)) ≡ is_at o (bound_after f name e (is_bound h) (creations h) (bound h f name))
tied_after h o f name known e None k = rw k (tied_unlinked f name e o (named h o) (bound h f name) known)
tied_after h o f name known e (Some asked) k = rw k (tied_new f name asked (creations h) o (named h o) (bound h f name) (is_new asked (is_bound h)) (eqb (creations h) o) (asks_name asked f name) refl refl known (λ i is. bound_below h f name i is) (λ new same. was_unbound h asked f name new same))

tied_more : (h : History) (o : ℕ) (f : Family) (name : List ℕ) → has_name f name (named h o) ≡ is_at o (bound h f name) → (e : Event) (r : Option Rule) → has_name f name (named (record { event = e; rule = r } ∷ h) o) ≡ is_at o (bound (record { event = e; rule = r } ∷ h) f name)
unfolding named bound
tied_more h o f name known e (Some rule) = known
tied_more h o f name known e None = ap (has_name f name) (named_grows h e o) ∙ tied_after h o f name known e (opening e) refl ∙ sym (ap (is_at o) (bound_grows h e f name))

pub named_is_bound : NamedIsBound
unfolding named bound
named_is_bound [] o f name = refl
named_is_bound (r ∷ h) o f name = tied_more h o f name (named_is_bound h o f name) r.event r.rule

-- a name that is not found is none of those in a list
not_found : (xs : List Binding) (name : List ℕ) → option_map (λ (b : Binding). b.object) (find (λ (b : Binding). same_name b.name name) xs) ≡ None → AllByRecursion (λ s. same_name s name ≡ false) (map (λ b. b.name) xs)
not_found [] name e = tt
not_found (x ∷ xs) name e = at (same_name x.name name) refl (λ k. not_found xs name k) e where
  at : (b : Bool) → same_name x.name name ≡ b → (option_map (λ (y : Binding). y.object) (find (λ (y : Binding). same_name y.name name) xs) ≡ None → AllByRecursion (λ s. same_name s name ≡ false) (map (λ y. y.name) xs)) → option_map (λ (y : Binding). y.object) (cond b (Some x) (find (λ (y : Binding). same_name y.name name) xs)) ≡ None → AllByRecursion (λ s. same_name s name ≡ false) (map (λ y. y.name) (x ∷ xs))
  at true k rest j = absurd cc
  at false k rest j = (k, rest j)

all_more : (P : List ℕ → Type 0) (xs : List (List ℕ)) (x : List ℕ) → AllByRecursion P xs → P x → AllByRecursion P (xs ++ x ∷ [])
all_more P [] x all p = (p, tt)
all_more P (y ∷ xs) x all p = (all.0, all_more P xs x all.1 p)

distinct_more : (xs : List (List ℕ)) (x : List ℕ) → IsDistinct same_name xs → AllByRecursion (λ s. same_name s x ≡ false) xs → IsDistinct same_name (xs ++ x ∷ [])
unfolding IsDistinct
distinct_more [] x apart none = (tt, tt)
distinct_more (y ∷ xs) x apart none = (all_more (λ s. same_name y s ≡ false) xs x apart.0 none.0, distinct_more xs x apart.1 none.1)

all_filtered : (P : List ℕ → Type 0) (p : List ℕ → Bool) (xs : List (List ℕ)) → AllByRecursion P xs → AllByRecursion P (filter p xs)
all_filtered P p [] all = tt
all_filtered P p (x ∷ xs) all = at (p x) (all_filtered P p xs all.1) where
  at : (b : Bool) → AllByRecursion P (filter p xs) → AllByRecursion P (cond b (x ∷ filter p xs) (filter p xs))
  at true rest = (all.0, rest)
  at false rest = rest

distinct_filtered : (p : List ℕ → Bool) (xs : List (List ℕ)) → IsDistinct same_name xs → IsDistinct same_name (filter p xs)
unfolding IsDistinct
distinct_filtered p [] apart = tt
distinct_filtered p (x ∷ xs) apart = at (p x) (distinct_filtered p xs apart.1) where
  at : (b : Bool) → IsDistinct same_name (filter p xs) → IsDistinct same_name (cond b (x ∷ filter p xs) (filter p xs))
  at true rest = (all_filtered (λ s. same_name x s ≡ false) p xs apart.0, rest)
  at false rest = rest

-- a name that an open makes was not listed, and an unlink adds none
differ_after : (f : Family) (w : Option Naming) (was : List (List ℕ)) → IsDistinct same_name was → (o : Option Opening) (is_bound' : Family → List ℕ → Bool) → ((asked : Opening) → is_new asked is_bound' ≡ true → same_family asked.family f ≡ true → AllByRecursion (λ s. same_name s asked.name ≡ false) was) → (e : Event) → opening e ≡ o → unlinking e ≡ w → IsDistinct same_name (names_after f e is_bound' was)
differ_after f w was apart None is_bound' new e k j = rw k (rw j (at w)) where
  at : (v : Option Naming) → IsDistinct same_name (elim v as (λ x. List (List ℕ)) [ None ↦ was | Some what ↦ filter (λ name. not (same_family what.family f && same_name name what.name)) was ])
  at None = apart
  at (Some what) = distinct_filtered (λ name. not (same_family what.family f && same_name name what.name)) was apart
differ_after f w was apart (Some asked) is_bound' new e k j = rw k (at (is_new asked is_bound') refl (same_family asked.family f) refl) where
  at : (b : Bool) → is_new asked is_bound' ≡ b → (d : Bool) → same_family asked.family f ≡ d → IsDistinct same_name (cond (b && d) (was ++ asked.name ∷ []) was)
  at true p true q = distinct_more was asked.name apart (new asked p q)
  at true p false q = apart
  at false p d q = apart

own_name : (asked : Opening) (f : Family) → same_family asked.family f ≡ true → asks_name asked f asked.name ≡ true
own_name asked f same = let own : same_name asked.name asked.name ≡ true = (bytes_eq-Decides asked.name asked.name).1 refl in rw (same, own) refl

new_unlisted : (h : History) (f : Family) (asked : Opening) → is_new asked (is_bound h) ≡ true → same_family asked.family f ≡ true → AllByRecursion (λ s. same_name s asked.name ≡ false) (names h f)
unfolding names
new_unlisted h f asked new same = not_found (bindings h f) asked.name (listed_is_bound h f asked.name ∙ was_unbound h asked f asked.name new (own_name asked f same))

differ_more : (h : History) (f : Family) → IsDistinct same_name (names h f) → (e : Event) (r : Option Rule) → IsDistinct same_name (names (record { event = e; rule = r } ∷ h) f)
unfolding names bindings named creations
differ_more h f known e (Some rule) = known
differ_more h f known e None = subst (IsDistinct same_name) (sym (names_grow h e f)) (differ_after f (unlinking e) (names h f) known (opening e) (is_bound h) (λ asked new same. new_unlisted h f asked new same) e refl refl)

pub names_differ : NamesDiffer
unfolding names bindings creations IsDistinct
names_differ [] f = tt
names_differ (r ∷ h) f = differ_more h f (names_differ h f) r.event r.rule
