use Rattle.std.proofs.Common.{rules}
use Rattle.std.proofs.lemmas.Iterator.{YieldsList-from_slice}
use Rattle.std.proofs.lemmas.Iterator.Search.{any_from_yields_List}
use Rattle.ipc_words.specs.Placing.{is_flag_of}
use Rattle.ipc_words.proofs.placing.has_flag.Goals as goal

pub returns : goal.returns
returns c =
    any_from_yields_List (is_flag_of c.args.name.now) _ _ _ c.any.ensures.ran
    (YieldsList-from_slice c.args.arguments.now c.iter.ensures.rest) (λ x b q k. search rules)
