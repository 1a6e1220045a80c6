use Rattle.std.proofs.Common.{◌≡◌, ℕ, Bool, true, false, not, ◌==◌, ◌||◌, nat_lt, List, count_by, sym, ◌∙◌, ap, arith}
use Rattle.std.proofs.lemmas.Bool.Decides.{nat_tests}
use Rattle.ipc_descr.specs.declared.row.Row.{Row}
use Rattle.ipc_descr.specs.Descriptions.{is_to, is_open}
use Rattle.ipc_descr.proofs.Answering.{uses_test}
use Rattle.ipc_tables.proofs.objects.is_alive.Goals as goal
use Rattle.ipc_tables.proofs.objects.is_alive.Goals.{then-names_object, else-names_object}

positive : (n : ℕ) (b : Bool) → (0 == n) ≡ not b → nat_lt 0 n ≡ b
positive n true e = grind (arith, nat_tests)
positive n false e = grind (arith, nat_tests)

-- where no name is bound to the object, it is alive where it is held
by_uses : (a b : Bool) (n : ℕ) (rows : List Row) (o : ℕ) → a ≡ false → b ≡ false → n ≡ count_by (is_to o) rows → nat_lt 0 n ≡ (a || b || is_open rows o)
by_uses a b n rows o unnamed other count = rw (unnamed, other) (ap (nat_lt 0) count ∙ positive _ _ (uses_test rows o))

pub returns-else-names_object-2 : goal.returns-else-names_object-2
returns-else-names_object-2 c =
    elim c.if-names_object.branch [
      | then-names_object w ↦ (let no : true ≡ false = sym w.if-names_object.true ∙ sym w.value-is ∙ c.if-names_object-2.false in absurd cc)
      | else-names_object w ↦ by_uses _ _ c.uses.result c.args.descriptions.now.rows c.args.object (sym c.names_object.ensures ∙ w.if-names_object.false) (sym w.names_object-else-names_object.ensures ∙ sym w.value-is ∙ c.if-names_object-2.false) c.uses.ensures
    ]
