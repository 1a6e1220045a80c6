use Rattle.std.proofs.Common.{ℕ, List, Bor, map, ap, ◌∙◌}
use Rattle.ipc_client.specs.Dialogues.{Link, incoming_of, link}
use Rattle.ipc_client.specs.Lists.{NameGoes}
use Rattle.ipc_client.proofs.CommandLemmas.{on_ok_shown}
use Rattle.ipc_client.proofs.ListLemmas.{name_told}
use Rattle.ipc_client.proofs.session.Session.list_name.Goals as goal

pub returns : goal.returns
returns g c =
    let now : List (Bor (List ℕ)) → List (List ℕ) = map (λ (w : Bor (List ℕ)). w.now) in
    let start : Link = link g.R.Read.remaining g.W.Write.contents c.args.self.now c.args.writer.now in
    let looked : Link = link g.R.Read.remaining g.W.Write.contents c.look.new.self c.look.new.writer in
    on_ok_shown (NameGoes c.args.family c.args.name.now) c.write_object.result start looked (incoming_of g.R.Read.remaining c.write_object.new.self)
    (name_told c.args.family c.look_of.result c.args.name.now c.word_of.result.now (now c.deref.result.now) c.in_ok-facts.facts start (link g.R.Read.remaining g.W.Write.contents c.ask_words.new.self c.ask_words.new.writer) looked
    (ap now c.deref.ensures.value ∙ c.in_ok-words.ensures) c.word_of.ensures c.look_of.ensures c.in_ok-facts.ensures c.in_ok-state.ensures)
    c.write_object.ensures
