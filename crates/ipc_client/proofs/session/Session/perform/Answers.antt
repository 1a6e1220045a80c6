use Rattle.std.proofs.Common.{ℕ, List, map, Bor, refl}
use Rattle.ipc_client.specs.Dialogues.{incoming_of, link}
use Rattle.ipc_client.proofs.CommandLemmas.{does}
use Rattle.ipc_client.proofs.session.Session.perform.Goals as goal

pub returns : goal.returns
returns g c =
    let words : List (List ℕ) = map (λ (w : Bor (List ℕ)). w.now) c.args.words.now in
    does words words c.in_ok-outcome.outcome (link g.R.Read.remaining g.W.Write.contents c.args.self.now c.args.writer.now) (link g.R.Read.remaining g.W.Write.contents c.ask_words.new.self c.ask_words.new.writer) (incoming_of g.R.Read.remaining c.show.new.self) c.show.result
    refl c.in_ok-outcome.ensures c.show.ensures.kept c.show.ensures.done
