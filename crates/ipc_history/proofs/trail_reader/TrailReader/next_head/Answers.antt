use Rattle.std.proofs.Common.{rules}
use Rattle.std.proofs.lemmas.Result.{err_from_is_err_and}
use Rattle.ipc_history.specs.Incoming.{incoming}
use Rattle.ipc_history.specs.Files.{IsNoHead}
use Rattle.ipc_history.proofs.PastLemmas.{reader_no_head}
use Rattle.ipc_history.proofs.StreamLemmas.{failed}
use Rattle.ipc_history.proofs.trail_reader.TrailReader.next_head.Goals as goal

pub returns-in_err-read_more-clause-fault : goal.returns-in_err-read_more-clause-fault
returns-in_err-read_more-clause-fault g c =
    let given = err_from_is_err_and c.from_residual-in_err-read_more.result c.from_residual-in_err-read_more.ensures.1 in
    rw (given.1, given.2) (failed (IsNoHead c.in_err-read_more.field-0.0) (incoming g.R.Read.remaining c.args.self.now) (incoming g.R.Read.remaining c.take_head.new.self) (incoming g.R.Read.remaining c.read_more.new.self)
    (reader_no_head c.in_err-read_more.field-0.0 c.in_err-read_more.ensures.fault) (search rules) c.in_err-read_more.ensures.lost)
