use Rattle.std.proofs.Common.{◌∙◌, ◌++◌, ◌∷◌, [], ap, ap₂, sym, map, string_bytes}
use Rattle.std.proofs.lemmas.List.{map_more, map_push}
use Rattle.ipc_program.proofs.trails.copied.Goals as goal

-- a word more
pub loop-word-preserved : goal.loop-word-preserved
loop-word-preserved c =
    ap (map string_bytes) c.in_ok-push.ensures.items
    ∙ map_push string_bytes _ _
    ∙ ap₂ (λ words word. words ++ word ∷ []) c.loop-word.invariant c.in_ok-from_str.ensures.ok
    ∙ sym (map_more (λ word. word.now) c.args.words.now c.loop-word.word-index _ c.loop-word-test.true)
