-- What the map from names to objects and the counts say of the list of bindings.
use Rattle.std.proofs.Common.{◌≡◌, ◌∙◌, Bool, true, false, cond, not, ◌||◌, ℕ, ◌+◌, ◌-◌, ◌<◌, ◌^◌, ◌==◌, nat_lt, List, [], ◌∷◌, ◌++◌, Option, Some, None, map, length, refl, sym, ap, arith}
use Rattle.std.specs.Option.{option_map}
use Rattle.std.specs.Map.{lookup, remove_entry, keys_of}
use Rattle.std.specs.Str.{bytes_eq}
use Rattle.std.specs.Cmp.Lexicographic.{nat_list_eq_equiv}
use Rattle.std.specs.BTreeMap.{BTreeMap}
use Rattle.std.proofs.lemmas.Bool.Decides.{nat_tests}
use Rattle.std.proofs.lemmas.List.{map-append, length-map}
use Rattle.std.proofs.lemmas.List.Sums.{count_by-le-length}
use Rattle.ipc_terms.specs.declared.binding.Binding.{Binding}
use Rattle.ipc_terms.proofs.Lists.{counted, counted_is, count_push}
use Rattle.ipc_names.specs.Directory.{object_named, without_name, names_object, bound_names}
use Rattle.ipc_terms.specs.Counting.{count_of}
use Rattle.ipc_names.specs.Counting.{bindings_of, is_to, Counts}

-- ---- one object

any_by_test : (b rest : Bool) (n : ℕ) → rest ≡ nat_lt 0 n → (b || rest) ≡ nat_lt 0 (cond b (1 + n) n)
any_by_test true rest n e = grind (arith, nat_tests)
any_by_test false rest n e = e

any_counted : (bindings : List Binding) (o : ℕ) → names_object bindings o ≡ nat_lt 0 (counted (is_to o) bindings)
any_counted [] o = refl
any_counted (binding ∷ bindings) o = any_by_test (is_to o binding) _ _ (any_counted bindings o)

-- an object has a name where its count is above 0
pub counted_named : (counts : BTreeMap ℕ ℕ) (bindings : List Binding) (o : ℕ) → Counts counts bindings → nat_lt 0 (count_of counts o) ≡ names_object bindings o
counted_named counts bindings o h = ap (nat_lt 0) (h o ∙ counted_is (is_to o) bindings) ∙ sym (any_counted bindings o)

-- a count is at most how many names there are
pub one_fits : (counts : BTreeMap ℕ ℕ) (entries : List (List ℕ × ℕ)) (o n : ℕ) → Counts counts (bindings_of entries) → n ≡ length entries → n < 2 ^ 63 → count_of counts o + 1 < 2 ^ 64
one_fits counts entries o n h is few =
    let same = h o in
    let most = count_by-le-length (is_to o) (bindings_of entries) in
    let as_many : length (bindings_of entries) ≡ length entries = length-map entries _ in
    omega arith

-- one name more
pub counts_more : (counts next : BTreeMap ℕ ℕ) (bindings : List Binding) (binding : Binding) → Counts counts bindings → ((o : ℕ) → count_of next o ≡ cond (binding.object == o) (count_of counts o + 1) (count_of counts o)) → Counts next (bindings ++ binding ∷ [])
counts_more counts next bindings binding h raised o =
    raised o ∙ ap (λ n. cond (is_to o binding) (n + 1) n) (h o ∙ counted_is (is_to o) bindings) ∙ sym (count_push (is_to o) bindings binding) ∙ sym (counted_is (is_to o) (bindings ++ binding ∷ []))

fewer_at : (p b : Bool) (n m : ℕ) → n ≡ cond b (m + 1) m → cond p (1 + n) n ≡ cond b (cond p (1 + m) m + 1) (cond p (1 + m) m)
fewer_at true true n m e = omega arith
fewer_at true false n m e = omega arith
fewer_at false true n m e = omega arith
fewer_at false false n m e = omega arith

one_more : (p : Bool) (n : ℕ) → cond p (1 + n) n ≡ cond p (n + 1) n
one_more true n = omega arith
one_more false n = refl

lowered_by_test : (b : Bool) (n m k : ℕ) → n ≡ cond b (m + 1) m → k ≡ cond b (n - 1) n → k ≡ m
lowered_by_test true n m k e f = omega arith
lowered_by_test false n m k e f = f ∙ e

-- ---- one name

found_by_test : (b : Bool) (binding : Binding) (found : Option ℕ) (rest : Option Binding) → found ≡ option_map (λ r. r.object) rest → cond b (Some binding.object) found ≡ option_map (λ r. r.object) (cond b (Some binding) rest)
found_by_test true binding found rest e = refl
found_by_test false binding found rest e = e

stays_by_test : (b : Bool) (found : Option ℕ) (binding : Binding) (bindings left : List Binding) → cond b (Some binding.object) found ≡ None → (found ≡ None → left ≡ bindings) → cond (not b) (binding ∷ left) left ≡ binding ∷ bindings
stays_by_test true found binding bindings left e rest = absurd cc
stays_by_test false found binding bindings left e rest = ap (λ l. binding ∷ l) (rest e)

-- whether the key is the name
abbrev is_name : List ℕ → List ℕ → Bool
is_name name key = bytes_eq name key

-- the names that are bound are the keys
pub names_are_keys : (entries : List (List ℕ × ℕ)) → bound_names (bindings_of entries) ≡ keys_of entries
names_are_keys [] = refl
names_are_keys (entry ∷ entries) = ap (λ l. entry.0 ∷ l) (names_are_keys entries)

-- the map has at the name what is bound to it
pub named : (name : List ℕ) (entries : List (List ℕ × ℕ)) → lookup (is_name name) entries ≡ object_named (bindings_of entries) name
named name [] = refl
named name (entry ∷ entries) = rw (nat_list_eq_equiv.symm entry.0 name) (found_by_test (is_name name entry.0) _ _ _ (named name entries))

-- it has no name that isn't bound
pub absent : (name : List ℕ) (entries same : List (List ℕ × ℕ)) → same ≡ entries → object_named (bindings_of entries) name ≡ None → lookup (is_name name) same ≡ None
absent name entries same unchanged none = rw unchanged (named name entries ∙ none)

-- a binding goes last
pub pushed : (name : List ℕ) (object : ℕ) (entries same later : List (List ℕ × ℕ)) → same ≡ entries → later ≡ same ++ (name, object) ∷ [] → bindings_of later ≡ bindings_of entries ++ record { name = name; object = object } ∷ []
pushed name object entries same later unchanged more = rw (more, unchanged, map-append) refl

-- where it has nothing, no name is left out
pub stays : (name : List ℕ) (entries : List (List ℕ × ℕ)) → lookup (is_name name) entries ≡ None → without_name (bindings_of entries) name ≡ bindings_of entries
stays name [] e = refl
stays name (entry ∷ entries) e = rw (nat_list_eq_equiv.symm entry.0 name) (stays_by_test (is_name name entry.0) _ _ _ _ e (stays name entries))

left_by_test : (b : Bool) (name : List ℕ) (entry : List ℕ × ℕ) (entries rest : List (List ℕ × ℕ)) (left : List Binding) → is_name name entry.0 ≡ b → lookup (is_name name) (cond b entries (entry ∷ rest)) ≡ None → (lookup (is_name name) entries ≡ None → left ≡ bindings_of entries) → (lookup (is_name name) rest ≡ None → bindings_of rest ≡ left) → bindings_of (cond b entries (entry ∷ rest)) ≡ cond (not b) (record { name = entry.0; object = entry.1 } ∷ left) left
left_by_test true name entry entries rest left is e whole fewer = sym (whole e)
left_by_test false name entry entries rest left is e whole fewer = ap (λ l. record { name = entry.0; object = entry.1 } ∷ l) (fewer (sym (ap (λ b. cond b (Some entry.1) (lookup (is_name name) rest)) is) ∙ e))

left : (name : List ℕ) (entries : List (List ℕ × ℕ)) → lookup (is_name name) (remove_entry (is_name name) entries) ≡ None → bindings_of (remove_entry (is_name name) entries) ≡ without_name (bindings_of entries) name
left name [] e = refl
left name (entry ∷ entries) e = rw (nat_list_eq_equiv.symm entry.0 name) (left_by_test (is_name name entry.0) name entry entries (remove_entry (is_name name) entries) _ refl e (stays name entries) (left name entries))

-- where its first entry is taken out and none is left, the others are left
pub removed : (name : List ℕ) (entries later : List (List ℕ × ℕ)) → later ≡ remove_entry (is_name name) entries → lookup (is_name name) later ≡ None → bindings_of later ≡ without_name (bindings_of entries) name
removed name entries later is none = ap bindings_of is ∙ left name entries (ap (lookup (is_name name)) (sym is) ∙ none)

fewer_by_test : (b : Bool) (o object : ℕ) (entry : List ℕ × ℕ) (entries rest : List (List ℕ × ℕ)) (found : Option ℕ) → cond b (Some entry.1) found ≡ Some object → (found ≡ Some object → counted (is_to o) (bindings_of entries) ≡ cond (object == o) (counted (is_to o) (bindings_of rest) + 1) (counted (is_to o) (bindings_of rest))) → counted (is_to o) (bindings_of (entry ∷ entries)) ≡ cond (object == o) (counted (is_to o) (bindings_of (cond b entries (entry ∷ rest))) + 1) (counted (is_to o) (bindings_of (cond b entries (entry ∷ rest))))
fewer_by_test true o object entry entries rest found e fewer = let same : entry.1 ≡ object = cc in rw (← same) (one_more (entry.1 == o) _)
fewer_by_test false o object entry entries rest found e fewer = fewer_at (entry.1 == o) (object == o) _ _ (fewer e)

fewer : (name : List ℕ) (entries : List (List ℕ × ℕ)) (o object : ℕ) → lookup (is_name name) entries ≡ Some object → counted (is_to o) (bindings_of entries) ≡ cond (object == o) (counted (is_to o) (bindings_of (remove_entry (is_name name) entries)) + 1) (counted (is_to o) (bindings_of (remove_entry (is_name name) entries)))
fewer name [] o object e = absurd cc
fewer name (entry ∷ entries) o object e = fewer_by_test (is_name name entry.0) o object entry entries (remove_entry (is_name name) entries) _ e (fewer name entries o object)

-- one name less
pub counts_less : (name : List ℕ) (counts next : BTreeMap ℕ ℕ) (entries : List (List ℕ × ℕ)) (object : ℕ) → Counts counts (bindings_of entries) → lookup (is_name name) entries ≡ Some object → ((o : ℕ) → count_of next o ≡ cond (object == o) (count_of counts o - 1) (count_of counts o)) → Counts next (bindings_of (remove_entry (is_name name) entries))
counts_less name counts next entries object h e lowered o =
    let rest = bindings_of (remove_entry (is_name name) entries) in
    lowered_by_test (object == o) (count_of counts o) (counted (is_to o) rest) (count_of next o) (h o ∙ counted_is (is_to o) (bindings_of entries) ∙ fewer name entries o object e) (lowered o) ∙ sym (counted_is (is_to o) rest)
