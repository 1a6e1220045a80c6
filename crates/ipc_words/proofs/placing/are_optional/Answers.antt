use Rattle.std.proofs.Common.{rules}
use Rattle.std.proofs.lemmas.Iterator.{YieldsList-from_slice}
use Rattle.std.proofs.lemmas.Iterator.Search.{all_from_yields_List}
use Rattle.ipc_words.specs.Placing.{is_optional}
use Rattle.ipc_words.proofs.placing.are_optional.Goals as goal

pub returns : goal.returns
returns c =
    all_from_yields_List is_optional _ _ _ c.all.ensures.ran
    (YieldsList-from_slice c.args.arguments.now c.iter.ensures.rest) (λ x b q k. search rules)
