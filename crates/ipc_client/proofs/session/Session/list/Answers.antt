use Rattle.ipc_client.specs.Dialogues.{link}
use Rattle.ipc_client.proofs.ListLemmas.{both_families}
use Rattle.ipc_client.proofs.session.Session.list.Goals as goal

pub returns : goal.returns
returns g c = both_families c.in_ok-queues.queues c.in_ok-semaphores.semaphores (link g.R.Read.remaining g.W.Write.contents c.args.self.now c.args.writer.now) (link g.R.Read.remaining g.W.Write.contents c.list_family.new.self c.list_family.new.writer) (link g.R.Read.remaining g.W.Write.contents c.list_family-2.new.self c.list_family-2.new.writer) c.in_ok-queues.ensures c.in_ok-semaphores.ensures
