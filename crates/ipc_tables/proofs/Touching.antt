-- What a close and an unlink touch: all other objects are kept as before, and so are their registrations.
use Rattle.std.proofs.Common.{rules, ◌≡◌, ◌≢◌, Bool, true, false, cond, not, ℕ, ◌+◌, ◌≤◌, ◌<◌, ◌==◌, ◌&&◌, ◌||◌, List, [], ◌∷◌, Option, Some, None, refl, sym, ap, ◌∙◌, arith, find, filter, is_some}
use Rattle.std.specs.List.{AllByRecursion, list_any}
use Rattle.std.specs.Option.{option_map, option_and_then}
use Rattle.std.proofs.lemmas.Bool.Decides.{nat_tests}
use Rattle.std.proofs.lemmas.Slice.Eq.{bytes_eq-Decides}
use Rattle.ipc_terms.specs.Names.{same_name}
use Rattle.ipc_terms.specs.declared.binding.Binding.{Binding}
use Rattle.ipc_terms.specs.declared.ids.Desc.{Desc}
use Rattle.ipc_terms.specs.declared.ids.Family.{Family}
use Rattle.ipc_terms.specs.declared.ids.Family.TheVariants.{Mq, Sem}
use Rattle.ipc_names.specs.Directory.{Directory, object_named, without_name, names_object}
use Rattle.ipc_descr.specs.declared.row.Row.{Row}
use Rattle.ipc_descr.specs.Descriptions.{number, is_desc, is_of, is_to, if_of, row_of, is_open, Rise}
use Rattle.ipc_descr.proofs.AmongOthers.{and_false}
use Rattle.ipc_tables.specs.declared.rows.ObjectRow.{ObjectRow}
use Rattle.ipc_tables.specs.Objects.{registered_in, held_by, with_held}
use Rattle.ipc_tables.specs.TablesView.{TablesView, directory_kept, is_kept}
use Rattle.ipc_tables.specs.Steps.{without_binding}
use Rattle.ipc_tables.specs.Standing.{BoundOnce, IsOwn, OthersKept, OthersHeld}

-- ---- all of a list

pub all_mapped : {X : Type 0} (P Q : X → Type 0) (xs : List X) → ((x : X) → P x → Q x) → AllByRecursion P xs → AllByRecursion Q xs
all_mapped P Q [] f all = tt
all_mapped P Q (x ∷ xs) f all = (f x all.0, all_mapped P Q xs f all.1)

filtered_by_test : {X : Type 0} (P : X → Type 0) (x : X) (rest : List X) (b : Bool) → P x → AllByRecursion P rest → AllByRecursion P (cond b (x ∷ rest) rest)
filtered_by_test P x rest true here later = (here, later)
filtered_by_test P x rest false here later = later

pub all_filtered : {X : Type 0} (P : X → Type 0) (p : X → Bool) (xs : List X) → AllByRecursion P xs → AllByRecursion P (filter p xs)
all_filtered P p [] all = tt
all_filtered P p (x ∷ xs) all = filtered_by_test P x (filter p xs) (p x) all.0 (all_filtered P p xs all.1)

-- what is found passes the test
found_by_test : {X : Type 0} (p : X → Bool) (x y : X) (later : Option X) (b : Bool) → p x ≡ b → cond b (Some x) later ≡ Some y → (later ≡ Some y → p y ≡ true) → p y ≡ true
found_by_test p x y later true is e rest = let same : x ≡ y = cc in ap p (sym same) ∙ is
found_by_test p x y later false is e rest = rest e

pub found_passes : {X : Type 0} (p : X → Bool) (xs : List X) (y : X) → find p xs ≡ Some y → p y ≡ true
found_passes p [] y e = cc
found_passes p (x ∷ xs) y e = found_by_test p x y (find p xs) (p x) refl e (found_passes p xs y)

-- what is found and kept by a filter: some is found still
kept_by_test : {X : Type 0} (q p : X → Bool) (x y : X) (xs : List X) (a b : Bool) → q x ≡ a → p x ≡ b → cond a (Some x) (find q xs) ≡ Some y → p y ≡ true → (find q xs ≡ Some y → is_some (find q (filter p xs)) ≡ true) → is_some (find q (cond b (x ∷ filter p xs) (filter p xs))) ≡ true
kept_by_test q p x y xs true true qa pb e k rest = rw qa refl
kept_by_test q p x y xs true false qa pb e k rest = let same : x ≡ y = cc in let no : true ≡ false = sym k ∙ ap p (sym same) ∙ pb in absurd cc
kept_by_test q p x y xs false true qa pb e k rest = rw qa (rest e)
kept_by_test q p x y xs false false qa pb e k rest = rest e

pub found_kept : {X : Type 0} (q p : X → Bool) (xs : List X) (y : X) → find q xs ≡ Some y → p y ≡ true → is_some (find q (filter p xs)) ≡ true
found_kept q p [] y e k = cc
found_kept q p (x ∷ xs) y e k = kept_by_test q p x y xs (q x) (p x) refl refl e k (λ e'. found_kept q p xs y e' k)

-- where nothing is found, nothing is found among some of it
not_by_test : {X : Type 0} (q p : X → Bool) (x : X) (xs : List X) (a b : Bool) → q x ≡ a → cond a (Some x) (find q xs) ≡ None → (find q xs ≡ None → find q (filter p xs) ≡ None) → find q (cond b (x ∷ filter p xs) (filter p xs)) ≡ None
not_by_test q p x xs true b qa e rest = cc
not_by_test q p x xs false true qa e rest = rw qa (rest e)
not_by_test q p x xs false false qa e rest = rest e

pub not_found : {X : Type 0} (q p : X → Bool) (xs : List X) → find q xs ≡ None → find q (filter p xs) ≡ None
not_found q p [] e = refl
not_found q p (x ∷ xs) e = not_by_test q p x xs (q x) (p x) refl e (not_found q p xs)

-- a filter that takes out none that pass another test
any_by_test : {X : Type 0} (q p : X → Bool) (x : X) (xs : List X) (b : Bool) → p x ≡ b → (p x ≡ false → q x ≡ false) → list_any q (filter p xs) ≡ list_any q xs → list_any q (cond b (x ∷ filter p xs) (filter p xs)) ≡ (q x || list_any q xs)
any_by_test q p x xs true is none rest = ap (λ b. q x || b) rest
any_by_test q p x xs false is none rest = rw (none is) rest

pub any_filtered : {X : Type 0} (q p : X → Bool) (xs : List X) → AllByRecursion (λ x. p x ≡ false → q x ≡ false) xs → list_any q (filter p xs) ≡ list_any q xs
any_filtered q p [] all = refl
any_filtered q p (x ∷ xs) all = any_by_test q p x xs (p x) refl all.0 (any_filtered q p xs all.1)

-- ---- a close

-- what a row that is taken out gives is what was touched
abbrev pub TakenRow : Option ℕ → (Row → Bool) → Row → Type 0
TakenRow touched stays row = stays row ≡ false → touched ≡ Some row.object

abbrev pub stays_open : ℕ → ℕ → Row → Bool
stays_open s d row = not (is_of s row && is_desc d row)

not_taken : (s d : ℕ) (touched : Option ℕ) (row : Row) → is_desc d row ≡ false → TakenRow touched (stays_open s d) row
not_taken s d touched row apart taken = let stays : stays_open s d row ≡ true = ap not (and_false (is_of s row) (is_desc d row) apart) in let no : true ≡ false = sym stays ∙ taken in absurd cc

none_above : (s d low high : ℕ) (touched : Option ℕ) (rows : List Row) → Rise low high rows → d < low → AllByRecursion (TakenRow touched (stays_open s d)) rows
none_above s d low high touched [] h above = tt
none_above s d low high touched (row ∷ rows) h above =
    let l : low ≤ number row = h.0 in
    let apart : is_desc d row ≡ false = grind (arith, nat_tests) in
    (not_taken s d touched row apart, none_above s d (number row + 1) high touched rows h.1 (omega arith))

own_by_test : (s d : ℕ) (touched : Option ℕ) (row : Row) (b : Bool) → is_of s row ≡ b → is_desc d row ≡ true → touched ≡ option_map (λ r. r.object) (cond b (Some row) None) → TakenRow touched (stays_open s d) row
own_by_test s d touched row true of is e taken = e
own_by_test s d touched row false of is e taken = let stays : stays_open s d row ≡ true = rw of refl in let no : true ≡ false = sym stays ∙ taken in absurd cc

taken_by_test : (s d low high : ℕ) (touched : Option ℕ) (row : Row) (rows : List Row) (b : Bool) → is_desc d row ≡ b → Rise low high (row ∷ rows) → touched ≡ option_map (λ r. r.object) (option_and_then (if_of s) (cond b (Some row) (find (is_desc d) rows))) → (touched ≡ option_map (λ r. r.object) (row_of rows s d) → AllByRecursion (TakenRow touched (stays_open s d)) rows) → AllByRecursion (TakenRow touched (stays_open s d)) (row ∷ rows)
taken_by_test s d low high touched row rows true is h e rest = let n : d < number row + 1 = grind (arith, nat_tests) in (own_by_test s d touched row (is_of s row) refl is e, none_above s d (number row + 1) high touched rows h.1 n)
taken_by_test s d low high touched row rows false is h e rest = (not_taken s d touched row is, rest e)

pub close_takes : (s d low high : ℕ) (touched : Option ℕ) (rows : List Row) → Rise low high rows → touched ≡ option_map (λ r. r.object) (row_of rows s d) → AllByRecursion (TakenRow touched (stays_open s d)) rows
close_takes s d low high touched [] h e = tt
close_takes s d low high touched (row ∷ rows) h e = taken_by_test s d low high touched row rows (is_desc d row) refl h e (close_takes s d (number row + 1) high touched rows h.1)

apart_by_test : (touched : Option ℕ) (n o : ℕ) (b : Bool) → (o == n) ≡ b → touched ≡ Some o → touched ≢ Some n → b ≡ false
apart_by_test touched n o true same e apart = let at : o ≡ n = grind (arith, nat_tests) in absurd (apart (e ∙ ap Some at))
apart_by_test touched n o false same e apart = refl

-- another object is open as before
pub open_still : (touched : Option ℕ) (stays : Row → Bool) (n : ℕ) (rows : List Row) → AllByRecursion (TakenRow touched stays) rows → touched ≢ Some n → is_open (filter stays rows) n ≡ is_open rows n
open_still touched stays n rows all apart = any_filtered (is_to n) stays rows (all_mapped (TakenRow touched stays) (λ row. stays row ≡ false → is_to n row ≡ false) rows (λ row taken gone. apart_by_test touched n row.object (row.object == n) refl (taken gone) apart) all)

-- and a description that gives it is held as before
all_found_by_test : {X : Type 0} (P : X → Type 0) (x y : X) (later : Option X) (b : Bool) → cond b (Some x) later ≡ Some y → P x → (later ≡ Some y → P y) → P y
all_found_by_test P x y later true e here rest = let same : x ≡ y = cc in rw (← same) here
all_found_by_test P x y later false e here rest = rest e

pub all_found : {X : Type 0} (P : X → Type 0) (p : X → Bool) (xs : List X) (y : X) → find p xs ≡ Some y → AllByRecursion P xs → P y
all_found P p [] y e all = cc
all_found P p (x ∷ xs) y e all = all_found_by_test P x y (find p xs) (p x) e all.0 (λ k. all_found P p xs y k all.1)

stays_by_test : (touched : Option ℕ) (stays : Row → Bool) (row : Row) (b : Bool) → stays row ≡ b → TakenRow touched stays row → touched ≢ Some row.object → stays row ≡ true
stays_by_test touched stays row true is taken apart = is
stays_by_test touched stays row false is taken apart = absurd (apart (taken is))

pub held_still : (touched : Option ℕ) (stays : Row → Bool) (rows : List Row) (row : Row) (d : ℕ) → AllByRecursion (TakenRow touched stays) rows → find (is_desc d) rows ≡ Some row → touched ≢ Some row.object → is_some (find (is_desc d) (filter stays rows)) ≡ true
held_still touched stays rows row d all e apart = found_kept (is_desc d) stays rows row e (stays_by_test touched stays row (stays row) refl (all_found (TakenRow touched stays) (is_desc d) rows row e all) apart)

-- so its registration stays
some_row : (w : Option Row) (n : ℕ) → option_map (λ r. r.object) w ≡ Some n → (row : Row) × ((w ≡ Some row) × (row.object ≡ n))
some_row None n e = cc
some_row (Some row) n e = let same : row.object ≡ n = cc in (row, (refl, same))

held_by_registered : (touched : Option ℕ) (stays : Row → Bool) (rows : List Row) (row : ObjectRow) (w : Option Desc) → AllByRecursion (TakenRow touched stays) rows → ((desc : Desc) → w ≡ Some desc → option_map (λ r. r.object) (find (is_desc desc.0) rows) ≡ Some row.number) → touched ≢ Some row.number → held_by (filter stays rows) row w ≡ row
held_by_registered touched stays rows row None all own apart = refl
held_by_registered touched stays rows row (Some desc) all own apart =
    let there = some_row (find (is_desc desc.0) rows) row.number (own desc refl) in
    let held : is_some (find (is_desc desc.0) (filter stays rows)) ≡ true = held_still touched stays rows there.0 desc.0 all there.1.0 (λ k. apart (k ∙ ap Some there.1.1)) in
    rw held refl

pub others_held : (touched : Option ℕ) (stays : Row → Bool) (rows : List Row) (objects : List ObjectRow) → AllByRecursion (TakenRow touched stays) rows → AllByRecursion (IsOwn rows) objects → OthersHeld touched (filter stays rows) objects
others_held touched stays rows objects all own = all_mapped (IsOwn rows) (λ row. touched ≢ Some row.number → with_held (filter stays rows) row ≡ row) objects (λ row is apart. held_by_registered touched stays rows row (registered_in row.body) all is apart) own

own_by_registered : (rows : List Row) (row : ObjectRow) (w : Option Desc) → ((desc : Desc) → w ≡ Some desc → option_map (λ r. r.object) (find (is_desc desc.0) rows) ≡ Some row.number) → held_by rows row w ≡ row
own_by_registered rows row None own = refl
own_by_registered rows row (Some desc) own =
    let there = some_row (find (is_desc desc.0) rows) row.number (own desc refl) in
    let held : is_some (find (is_desc desc.0) rows) ≡ true = ap is_some there.1.0 in
    rw held refl

-- and so do all where no description is closed
pub own_held : (touched : Option ℕ) (rows : List Row) (objects : List ObjectRow) → AllByRecursion (IsOwn rows) objects → OthersHeld touched rows objects
own_held touched rows objects own = all_mapped (IsOwn rows) (λ row. touched ≢ Some row.number → with_held rows row ≡ row) objects (λ row is apart. own_by_registered rows row (registered_in row.body) is) own

-- and it is kept
alive_by : (a b c d : Bool) → c ≡ d → (a || b || d) ≡ true → (a || b || c) ≡ true
alive_by a b c d e k = rw e k

pub close_keeps : (queues semaphores : Directory) (touched : Option ℕ) (stays : Row → Bool) (rows : List Row) (objects : List ObjectRow) → AllByRecursion (TakenRow touched stays) rows → AllByRecursion (λ row. is_kept queues semaphores rows row ≡ true) objects → OthersKept touched (is_kept queues semaphores (filter stays rows)) objects
close_keeps queues semaphores touched stays rows objects all kept = all_mapped (λ row. is_kept queues semaphores rows row ≡ true) (λ row. touched ≢ Some row.number → is_kept queues semaphores (filter stays rows) row ≡ true) objects (λ row is apart. alive_by (names_object queues.bindings row.number) (names_object semaphores.bindings row.number) (is_open (filter stays rows) row.number) (is_open rows row.number) (open_still touched stays row.number rows all apart) is) kept

-- ---- what is found among some of the descriptions was found among all

none_later : (d low high : ℕ) (rows : List Row) → Rise low high rows → d < low → find (is_desc d) rows ≡ None
none_later d low high [] h above = refl
none_later d low high (row ∷ rows) h above =
    let l : low ≤ number row = h.0 in
    let apart : is_desc d row ≡ false = grind (arith, nat_tests) in
    rw apart (none_later d (number row + 1) high rows h.1 (omega arith))

before_by_test : (p : Row → Bool) (d low high : ℕ) (row found : Row) (rows : List Row) (a b : Bool) → is_desc d row ≡ a → Rise low high (row ∷ rows) → find (is_desc d) (cond b (row ∷ filter p rows) (filter p rows)) ≡ Some found → (find (is_desc d) (filter p rows) ≡ Some found → find (is_desc d) rows ≡ Some found) → cond a (Some row) (find (is_desc d) rows) ≡ Some found
before_by_test p d low high row found rows true true is h e rest = rw is at e
before_by_test p d low high row found rows true false is h e rest =
    let n : d < number row + 1 = grind (arith, nat_tests) in
    let none = not_found (is_desc d) p rows (none_later d (number row + 1) high rows h.1 n) in
    let no : ◌≡◌ {A = Option Row} None (Some found) = sym none ∙ e in
    absurd cc
before_by_test p d low high row found rows false true is h e rest = rest (rw is at e)
before_by_test p d low high row found rows false false is h e rest = rest e

pub found_before : (p : Row → Bool) (d low high : ℕ) (found : Row) (rows : List Row) → Rise low high rows → find (is_desc d) (filter p rows) ≡ Some found → find (is_desc d) rows ≡ Some found
found_before p d low high found [] h e = cc
found_before p d low high found (row ∷ rows) h e = before_by_test p d low high row found rows (is_desc d row) (p row) refl h e (found_before p d (number row + 1) high found rows h.1)

-- ---- an unlink

-- what a binding that is taken out gives is what was touched
abbrev pub TakenBinding : Option ℕ → List ℕ → Binding → Type 0
TakenBinding touched name binding = not (same_name binding.name name) ≡ false → touched ≡ Some binding.object

-- where the name is unbound none is taken out
unbound_by_test : (touched : Option ℕ) (name : List ℕ) (binding : Binding) (bindings : List Binding) (b : Bool) → same_name binding.name name ≡ b → option_map (λ (x : Binding). x.object) (cond b (Some binding) (find (λ x. same_name x.name name) bindings)) ≡ None → (object_named bindings name ≡ None → AllByRecursion (TakenBinding touched name) bindings) → AllByRecursion (TakenBinding touched name) (binding ∷ bindings)
unbound_by_test touched name binding bindings true is e rest = cc
unbound_by_test touched name binding bindings false is e rest = ((λ taken. let no : true ≡ false = sym (ap not is) ∙ taken in absurd cc), rest e)

none_taken : (touched : Option ℕ) (name : List ℕ) (bindings : List Binding) → object_named bindings name ≡ None → AllByRecursion (TakenBinding touched name) bindings
none_taken touched name [] e = tt
none_taken touched name (binding ∷ bindings) e = unbound_by_test touched name binding bindings (same_name binding.name name) refl e (none_taken touched name bindings)

pub names_equal : (a b : List ℕ) → same_name a b ≡ true → a ≡ b
names_equal a b e = search (rules, bytes_eq-Decides)

bound_by_test : (touched : Option ℕ) (name : List ℕ) (binding : Binding) (bindings : List Binding) (b : Bool) → same_name binding.name name ≡ b → BoundOnce (binding ∷ bindings) → touched ≡ option_map (λ (x : Binding). x.object) (cond b (Some binding) (find (λ x. same_name x.name name) bindings)) → (touched ≡ object_named bindings name → AllByRecursion (TakenBinding touched name) bindings) → AllByRecursion (TakenBinding touched name) (binding ∷ bindings)
bound_by_test touched name binding bindings true is once e rest = ((λ taken. e), none_taken touched name bindings (ap (object_named bindings) (sym (names_equal binding.name name is)) ∙ once.0))
bound_by_test touched name binding bindings false is once e rest = ((λ taken. let no : true ≡ false = sym (ap not is) ∙ taken in absurd cc), rest e)

pub unlink_takes : (touched : Option ℕ) (name : List ℕ) (bindings : List Binding) → BoundOnce bindings → touched ≡ object_named bindings name → AllByRecursion (TakenBinding touched name) bindings
unlink_takes touched name [] once e = tt
unlink_takes touched name (binding ∷ bindings) once e = bound_by_test touched name binding bindings (same_name binding.name name) refl once e (unlink_takes touched name bindings once.1)

-- another object has the names that it had
pub named_still : (touched : Option ℕ) (name : List ℕ) (n : ℕ) (bindings : List Binding) → BoundOnce bindings → touched ≡ object_named bindings name → touched ≢ Some n → names_object (without_name bindings name) n ≡ names_object bindings n
named_still touched name n bindings once e apart = any_filtered (λ b. b.object == n) (λ b. not (same_name b.name name)) bindings (all_mapped (TakenBinding touched name) (λ b. not (same_name b.name name) ≡ false → (b.object == n) ≡ false) bindings (λ b taken gone. apart_by_test touched n b.object (b.object == n) refl (taken gone) apart) (unlink_takes touched name bindings once e))

pub once_without : (name : List ℕ) (bindings : List Binding) → BoundOnce bindings → BoundOnce (without_name bindings name)
once_without name [] once = tt
once_without name (binding ∷ bindings) once = at (same_name binding.name name) (once_without name bindings once.1) where
  none : (w : Option Binding) → option_map (λ (x : Binding). x.object) w ≡ None → w ≡ None
  none None e = refl
  none (Some x) e = cc

  at : (b : Bool) → BoundOnce (without_name bindings name) → BoundOnce (cond (not b) (binding ∷ without_name bindings name) (without_name bindings name))
  at true rest = rest
  at false rest = (ap (option_map (λ (x : Binding). x.object)) (not_found (λ x. same_name x.name binding.name) (λ x. not (same_name x.name name)) bindings (none (find (λ x. same_name x.name binding.name) bindings) once.0)), rest)

-- the directories once the name of a family is unbound: the names of another object are bound still
pub record Unbound (touched : Option ℕ) (queues semaphores queues' semaphores' : Directory) : Type 0 where
  pub queue_names : BoundOnce queues'.bindings
  pub semaphore_names : BoundOnce semaphores'.bindings
  pub queues_still : (n : ℕ) → touched ≢ Some n → names_object queues'.bindings n ≡ names_object queues.bindings n
  pub semaphores_still : (n : ℕ) → touched ≢ Some n → names_object semaphores'.bindings n ≡ names_object semaphores.bindings n

pub unbound : (family : Family) (name : List ℕ) (t : TablesView) (touched : Option ℕ) (queues' semaphores' : Directory) → record t { queues = queues'; semaphores = semaphores' } ≡ without_binding family name t → touched ≡ object_named (directory_kept family t).bindings name → BoundOnce t.queues.bindings → BoundOnce t.semaphores.bindings → Unbound touched t.queues t.semaphores queues' semaphores'
unbound Mq name t touched queues' semaphores' is e one two =
    let here : queues'.bindings ≡ without_name t.queues.bindings name = ap (λ (x : TablesView). x.queues.bindings) is in
    let there : semaphores'.bindings ≡ t.semaphores.bindings = ap (λ (x : TablesView). x.semaphores.bindings) is in
    record {
      queue_names = rw here (once_without name t.queues.bindings one);
      semaphore_names = rw there two;
      queues_still = λ n apart. rw here (named_still touched name n t.queues.bindings one e apart);
      semaphores_still = λ n apart. rw there refl;
    }
unbound Sem name t touched queues' semaphores' is e one two =
    let there : queues'.bindings ≡ t.queues.bindings = ap (λ (x : TablesView). x.queues.bindings) is in
    let here : semaphores'.bindings ≡ without_name t.semaphores.bindings name = ap (λ (x : TablesView). x.semaphores.bindings) is in
    record {
      queue_names = rw there one;
      semaphore_names = rw here (once_without name t.semaphores.bindings two);
      queues_still = λ n apart. rw there refl;
      semaphores_still = λ n apart. rw here (named_still touched name n t.semaphores.bindings two e apart);
    }

named_by : (a b c d e : Bool) → d ≡ a → e ≡ b → (a || b || c) ≡ true → (d || e || c) ≡ true
named_by a b c d e f g k = rw (f, g) k

pub unlink_keeps : (queues semaphores queues' semaphores' : Directory) (touched : Option ℕ) (rows : List Row) (objects : List ObjectRow) → Unbound touched queues semaphores queues' semaphores' → AllByRecursion (λ row. is_kept queues semaphores rows row ≡ true) objects → OthersKept touched (is_kept queues' semaphores' rows) objects
unlink_keeps queues semaphores queues' semaphores' touched rows objects is kept = all_mapped (λ row. is_kept queues semaphores rows row ≡ true) (λ row. touched ≢ Some row.number → is_kept queues' semaphores' rows row ≡ true) objects (λ row alive apart. named_by (names_object queues.bindings row.number) (names_object semaphores.bindings row.number) (is_open rows row.number) (names_object queues'.bindings row.number) (names_object semaphores'.bindings row.number) (is.queues_still row.number apart) (is.semaphores_still row.number apart) alive) kept
