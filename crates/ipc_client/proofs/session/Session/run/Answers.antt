use Rattle.std.proofs.Common.{ℕ, List, map, Bor}
use Rattle.ipc_client.specs.Dialogues.{link}
use Rattle.ipc_client.proofs.EndLemmas.{lines_end, no_line, one_line_more}
use Rattle.ipc_client.proofs.session.Session.run.Goals as goal

pub loop-init : goal.loop-init
loop-init g c = no_line (link g.R.Read.remaining g.W.Write.contents c.args.self.now c.args.writer.now)

pub loop-preserved : goal.loop-preserved
loop-preserved g c = one_line_more (link g.R.Read.remaining g.W.Write.contents c.args.self.now c.args.writer.now) (link g.R.Read.remaining g.W.Write.contents c.loop.self c.loop.writer) (link g.R.Read.remaining g.W.Write.contents c.follow.new.self c.follow.new.writer) (map (λ (w : Bor (List ℕ)). w.now) c.deref.result.now) c.loop.last c.follow.new.last c.loop.all_are_done c.in_ok-all_are_done.field-0 c.loop.invariant c.in_ok-all_are_done.ensures
