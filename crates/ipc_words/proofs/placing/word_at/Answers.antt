use Rattle.std.proofs.Common.{◌∙◌, sym, map, true, false}
use Rattle.ipc_words.proofs.DefaultLemmas.{none_given, word_given}
use Rattle.ipc_words.proofs.placing.word_at.Goals as goal

pub returns-in-Some : goal.returns-in-Some
returns-in-Some c = word_given c.args.name.now (map (λ w. w.now) c.args.words.now) c.args.arguments.now c.in-Some.word.now c.in-Some.ensures

pub returns-in-None : goal.returns-in-None
returns-in-None c =
    none_given c.args.name.now (map (λ w. w.now) c.args.words.now) c.args.arguments.now true c.in-None.ensures
    (sym c.has_flag.ensures ∙ c.if-has_flag.true)

pub returns-in-None-2 : goal.returns-in-None-2
returns-in-None-2 c =
    none_given c.args.name.now (map (λ w. w.now) c.args.words.now) c.args.arguments.now false c.in-None-2.ensures
    (sym c.has_flag.ensures ∙ c.if-has_flag.false)
