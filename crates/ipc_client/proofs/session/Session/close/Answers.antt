use Rattle.std.proofs.Common.{ℕ, List, map, ap, ◌∙◌, Bor}
use Rattle.ipc_client.specs.Acts.{closing}
use Rattle.ipc_client.specs.Dialogues.{incoming_of, link}
use Rattle.ipc_client.proofs.CommandLemmas.{does}
use Rattle.ipc_client.proofs.session.Session.close.Goals as goal

pub returns : goal.returns
returns g c =
    let now : List (Bor (List ℕ)) → List (List ℕ) = map (λ (w : Bor (List ℕ)). w.now) in
    does (now c.deref.result.now) (closing c.args.act c.args.desc.now) c.in_ok-closed.closed (link g.R.Read.remaining g.W.Write.contents c.args.self.now c.args.writer.now) (link g.R.Read.remaining g.W.Write.contents c.ask_words.new.self c.ask_words.new.writer) (incoming_of g.R.Read.remaining c.show_refusal.new.self) c.show_refusal.result
    (ap now c.deref.ensures.value ∙ c.in_ok-closing.ensures) c.in_ok-closed.ensures c.show_refusal.ensures.kept c.show_refusal.ensures.done
