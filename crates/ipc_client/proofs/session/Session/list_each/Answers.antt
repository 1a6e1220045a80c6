use Rattle.std.proofs.Common.{ℕ, List, Bor, map, take}
use Rattle.std.proofs.lemmas.List.{map_more}
use Rattle.ipc_client.specs.Dialogues.{link}
use Rattle.ipc_client.proofs.ListLemmas.{no_name, one_name_more}
use Rattle.ipc_client.proofs.session.Session.list_each.Goals as goal

pub loop-name-init : goal.loop-name-init
loop-name-init g c = no_name c.args.family (link g.R.Read.remaining g.W.Write.contents c.args.self.now c.args.writer.now)

pub loop-name-preserved : goal.loop-name-preserved
loop-name-preserved g c =
    let now : Bor (List ℕ) → List ℕ = λ (w : Bor (List ℕ)). w.now in
    one_name_more c.args.family (map now (take c.loop-name.name-index c.args.names.now)) _ _ (link g.R.Read.remaining g.W.Write.contents c.args.self.now c.args.writer.now) (link g.R.Read.remaining g.W.Write.contents c.loop-name.self c.loop-name.writer) (link g.R.Read.remaining g.W.Write.contents c.list_name.new.self c.list_name.new.writer)
    (map_more now c.args.names.now c.loop-name.name-index _ c.loop-name-test.true) c.loop-name.invariant c.in_ok-list_name.ensures
