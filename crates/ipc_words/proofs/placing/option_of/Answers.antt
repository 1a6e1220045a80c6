use Rattle.std.proofs.Common.{rules}
use Rattle.std.proofs.lemmas.Iterator.{YieldsList-from_slice}
use Rattle.std.proofs.lemmas.Iterator.Search.{find_from_yields_List}
use Rattle.ipc_words.specs.Placing.{is_option_of}
use Rattle.ipc_words.proofs.placing.option_of.Goals as goal

pub returns : goal.returns
returns c =
    find_from_yields_List (is_option_of c.args.word.now) _ _ c.find.result c.find.ensures.ran
    (YieldsList-from_slice c.args.arguments.now c.iter.ensures.rest) (λ x b q k. search rules)
