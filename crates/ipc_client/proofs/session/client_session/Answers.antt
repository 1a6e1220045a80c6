use Rattle.ipc_client.specs.Connections.{incoming}
use Rattle.ipc_client.specs.Dialogues.{link}
use Rattle.ipc_client.proofs.EndLemmas.{not_started, started}
use Rattle.ipc_client.proofs.session.client_session.Goals as goal

pub returns-then-not-branch : goal.returns-then-not-branch
returns-then-not-branch g c = not_started c.args.key.now (g.R.Read.remaining c.args.conn_reader) (record { incoming = incoming g.R.Read.remaining c.in_ok-connection.connection; held = g.W.Write.contents c.args.conn_writer.now }) (link g.R.Read.remaining g.W.Write.contents c.start.new.self c.start.new.writer) c.in_ok-start.field-0 c.in_ok-connection.ensures.new c.if-not-branch.true c.in_ok-start.ensures

pub returns : goal.returns
returns g c = started c.args.key.now (g.R.Read.remaining c.args.conn_reader) (record { incoming = incoming g.R.Read.remaining c.in_ok-connection.connection; held = g.W.Write.contents c.args.conn_writer.now }) (link g.R.Read.remaining g.W.Write.contents c.start.new.self c.start.new.writer) (link g.R.Read.remaining g.W.Write.contents c.run.new.self c.run.new.writer) c.in_ok-start.field-0 c.run.result c.in_ok-connection.ensures.new c.if-not-branch.false c.in_ok-start.ensures c.run.ensures
