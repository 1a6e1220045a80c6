use Rattle.std.proofs.Common.{ℕ, List, map, ap, ◌∙◌, Bor}
use Rattle.ipc_client.specs.Dialogues.{bytes_of, incoming_of, last_after, link}
use Rattle.ipc_client.proofs.CommandLemmas.{called}
use Rattle.ipc_client.proofs.session.Session.call.Goals as goal

pub returns : goal.returns
returns g c =
    let words : List (List ℕ) = map (λ (w : Bor (List ℕ)). w.now) c.args.words.now in
    called c.args.last.now c.last_after.result words (bytes_of c.frame_of_command-frame.result) c.in_ok-outcome.outcome (link g.R.Read.remaining g.W.Write.contents c.args.self.now c.args.writer.now) (link g.R.Read.remaining g.W.Write.contents c.ask.new.self c.ask.new.writer) (incoming_of g.R.Read.remaining c.show.new.self) c.show.result
    c.frame_of_command-frame.ensures c.in_ok-outcome.ensures c.show.ensures.kept (c.last_after.ensures ∙ ap (λ o. last_after o c.args.last.now) c.opened_by.ensures) c.show.ensures.done
