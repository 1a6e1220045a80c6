use Rattle.std.proofs.Common.{◌∙◌, rules}
use Rattle.std.specs.Str.{bytes_eq}
use Rattle.std.proofs.lemmas.Iterator.{YieldsList-from_slice}
use Rattle.std.proofs.lemmas.Iterator.Search.{any_from_yields_List}
use Rattle.ipc_words.proofs.TableLemmas.{any_behind}
use Rattle.ipc_words.proofs.placing.is_among.Goals as goal

pub returns : goal.returns
returns c =
    any_from_yields_List (λ w. bytes_eq c.args.word.now w.now) _ _ _ c.any.ensures.ran
    (YieldsList-from_slice c.args.words.now c.iter.ensures.rest) (λ x b q k. search rules)
    ∙ any_behind (bytes_eq c.args.word.now) c.args.words.now
