use Rattle.std.proofs.Common.{ℕ, List, map, Bor}
use Rattle.ipc_client.specs.Dialogues.{link}
use Rattle.ipc_client.proofs.CommandLemmas.{said}
use Rattle.ipc_client.proofs.TalkLemmas.{frame_of}
use Rattle.ipc_client.proofs.session.Session.ask_words.Goals as goal

pub returns : goal.returns
returns g c =
    let words : List (List ℕ) = map (λ (w : Bor (List ℕ)). w.now) c.args.words.now in
    let frame = c.frame_of_words-frame.result in
    said words frame (link g.R.Read.remaining g.W.Write.contents c.args.self.now c.args.writer.now) (link g.R.Read.remaining g.W.Write.contents c.ask.new.self c.ask.new.writer) c.ask.result
    (frame_of words frame c.frame_of_words-frame.ensures.spelled c.frame_of_words-frame.ensures.fault) c.ask.ensures
