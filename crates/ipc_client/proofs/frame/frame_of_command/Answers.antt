use Rattle.std.proofs.Common.{ℕ, List, map, sym, ◌∙◌, Bor}
use Rattle.ipc_client.specs.Dialogues.{bytes_of}
use Rattle.ipc_client.proofs.CommandLemmas.{frame_lacking, frame_plain}
use Rattle.ipc_client.proofs.TalkLemmas.{frame_of}
use Rattle.ipc_client.proofs.frame.frame_of_command.Goals as goal

pub returns-then-lacks_description : goal.returns-then-lacks_description
returns-then-lacks_description c =
    let words : List (List ℕ) = map (λ (w : Bor (List ℕ)). w.now) c.args.words.now in
    let plain = c.frame_of_words-frame.result in
    frame_lacking c.args.last words (bytes_of plain) (bytes_of c.frame_by_last.result) (sym c.lacks_description.ensures ∙ c.if-lacks_description.true) (frame_of words plain c.frame_of_words-frame.ensures.spelled c.frame_of_words-frame.ensures.fault) c.frame_by_last.ensures

pub returns : goal.returns
returns c =
    let words : List (List ℕ) = map (λ (w : Bor (List ℕ)). w.now) c.args.words.now in
    let plain = c.frame_of_words-frame.result in
    frame_plain c.args.last words (bytes_of plain) (sym c.lacks_description.ensures ∙ c.if-lacks_description.false) (frame_of words plain c.frame_of_words-frame.ensures.spelled c.frame_of_words-frame.ensures.fault)
