use Rattle.std.proofs.Common.{ℕ, List, Bor, map, refl, ap, ◌∙◌}
use Rattle.ipc_client.specs.Dialogues.{link}
use Rattle.ipc_client.proofs.ListLemmas.{names_listed}
use Rattle.ipc_client.proofs.session.Session.list_names.Goals as goal

pub returns : goal.returns
returns g c =
    let now : List (Bor (List ℕ)) → List (List ℕ) = map (λ (w : Bor (List ℕ)). w.now) in
    names_listed c.args.family c.args.answer.now c.as_str.result.now c.deref.result.now c.get.result _ c.unwrap_or-names.result _ (link g.R.Read.remaining g.W.Write.contents c.args.self.now c.args.writer.now) (link g.R.Read.remaining g.W.Write.contents c.list_each.new.self c.list_each.new.writer)
    (c.as_str.ensures.value ∙ c.in_ok-line.ensures) (ap now c.deref.ensures.value ∙ c.in_ok-words.ensures) c.get.ensures.lookup c.unwrap_or-names.ensures refl refl c.in_ok-list_each.ensures
