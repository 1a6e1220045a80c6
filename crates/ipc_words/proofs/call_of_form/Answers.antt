use Rattle.std.proofs.Common.{◌∙◌, map, sym}
use Rattle.ipc_words.proofs.PlacingLemmas.{placed_meaning}
use Rattle.ipc_words.proofs.call_of_form.Goals as goal

pub returns-then-are_placed : goal.returns-then-are_placed
returns-then-are_placed c =
    placed_meaning c.args.form.now (map (λ w. w.now) c.args.words.now) c.call_of_found.result c.requires
    (sym c.are_placed.ensures ∙ c.if-are_placed.true) c.call_of_found.ensures
