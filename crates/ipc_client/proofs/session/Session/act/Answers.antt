use Rattle.std.proofs.Common.{ℕ, Bool, List, [], ◌∷◌, map, ap, sym, subst, ◌∙◌, Bor, codes, decimal, IfOk}
use Rattle.ipc_client.specs.Acts.{Does}
use Rattle.ipc_client.specs.Dialogues.{Link, Talks, incoming_of, link}
use Rattle.ipc_client.proofs.CommandLemmas.{act_received, act_shown}
use Rattle.ipc_client.proofs.session.Session.act.Goals as goal

pub returns-in-Some : goal.returns-in-Some
returns-in-Some g c =
    let now : List (Bor (List ℕ)) → List (List ℕ) = map (λ (w : Bor (List ℕ)). w.now) in
    let asked : Link = link g.R.Read.remaining g.W.Write.contents c.ask_words.new.self c.ask_words.new.writer in
    let ended : Link = link g.R.Read.remaining g.W.Write.contents c.perform.new.self c.perform.new.writer in
    act_received c.args.act c.args.desc.now (now c.args.arguments.now) (now c.deref.result.now) c.in-Some.size c.in_ok-outcome.outcome (link g.R.Read.remaining g.W.Write.contents c.args.self.now c.args.writer.now) asked ended c.perform.result
    (ap now c.deref.ensures.value ∙ c.in_ok-words.ensures) (sym c.size_told.ensures ∙ c.in-Some.is) c.in_ok-outcome.ensures
    (subst (λ (size : List ℕ). IfOk c.perform.result (λ (is_done : Bool). Talks (Does (codes "mq-receive" ∷ c.args.desc.now ∷ size ∷ []) is_done) asked ended)) (c.as_str.ensures.value ∙ c.in_ok-size-in-Some.ensures ∙ ap decimal c.from.ensures) c.perform.ensures)

pub returns : goal.returns
returns g c =
    let now : List (Bor (List ℕ)) → List (List ℕ) = map (λ (w : Bor (List ℕ)). w.now) in
    act_shown c.args.act c.args.desc.now (now c.args.arguments.now) (now c.deref.result.now) c.in_ok-outcome.outcome (link g.R.Read.remaining g.W.Write.contents c.args.self.now c.args.writer.now) (link g.R.Read.remaining g.W.Write.contents c.ask_words.new.self c.ask_words.new.writer) (incoming_of g.R.Read.remaining c.show.new.self) c.show.result
    (ap now c.deref.ensures.value ∙ c.in_ok-words.ensures) (sym c.size_told.ensures ∙ c.in-None.is) c.in_ok-outcome.ensures c.show.ensures.kept c.show.ensures.done
