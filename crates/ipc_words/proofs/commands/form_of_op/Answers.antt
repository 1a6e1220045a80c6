use Rattle.std.proofs.Common.{◌==◌, map, ap, refl, rules}
use Rattle.std.specs.Slice.Iter.{iter_rest}
use Rattle.std.proofs.lemmas.Iterator.{YieldsList-from_slice}
use Rattle.std.proofs.lemmas.Iterator.Search.{find_from_yields_List}
use Rattle.ipc_terms.specs.Ops.{call_number}
use Rattle.ipc_words.specs.Grammar.{Form, form_of_row, forms}
use Rattle.ipc_words.specs.declared.commands.Form.{Form as TableRow}
use Rattle.ipc_words.proofs.TableLemmas.{find_in_table}
use Rattle.ipc_words.proofs.commands.form_of_op.Goals as goal

pub returns : goal.returns
unfolding forms
returns c =
    let is_it = λ (f : Form). call_number f.op == c.args.op in
    find_in_table is_it form_of_row (iter_rest c.iter.result) forms c.find.result (ap (map form_of_row) c.iter.ensures.rest)
    (find_from_yields_List (λ (row : TableRow). is_it (form_of_row row)) _ _ c.find.result c.find.ensures.ran
    (YieldsList-from_slice (iter_rest c.iter.result) refl) (λ x b q k. search rules))
