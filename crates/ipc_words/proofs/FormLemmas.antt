-- The arguments of each form are found at their places and by their names.
use Rattle.std.proofs.Common.{◌≡◌, ℕ, Bool, true, false, cond, List, [], ◌∷◌, Bor, Option, Some, None, option_map, sym, ap, rules, subst}
use Rattle.std.specs.Prelude.{IfSome, find, unwrap_or}
use Rattle.std.specs.List.{AllByRecursion}
use Rattle.std.proofs.lemmas.Option.{none-some}
use Rattle.ipc_words.specs.Grammar.{form_of_row, form_of_word, forms}
use Rattle.ipc_words.specs.Placing.{AreFound, FindsArguments}
use Rattle.ipc_words.specs.declared.commands.Form.{Form as TableRow}

forms_find_arguments : AllByRecursion FindsArguments forms
unfolding forms AreFound
forms_find_arguments = search rules

-- what is found among things that all have P has it
find_has : {X : Type 0} (P : X → Type 0) (test : X → Bool) (xs : List X) (x : X) → AllByRecursion P xs → find test xs ≡ Some x → P x
find_has P test [] x all found = absurd (none-some x found)
find_has P test (y ∷ ys) x all found = go (test y) all.0 (find_has P test ys x all.1) found
  where
    go : (b : Bool) → P y → (find test ys ≡ Some x → P x) → cond b (Some y) (find test ys) ≡ Some x → P x
    go true here later same = subst P (ap (λ found_first. unwrap_or found_first y) same) here
    go false here later same = later same

pub form_finds_arguments : (word : List ℕ) (found : Option (Bor TableRow)) → option_map (λ form. form_of_row form.now) found ≡ form_of_word word
    → IfSome found (λ form. FindsArguments (form_of_row form.now))
form_finds_arguments word None same = tt
form_finds_arguments word (Some form) same = find_has FindsArguments _ forms (form_of_row form.now) forms_find_arguments (sym same)
