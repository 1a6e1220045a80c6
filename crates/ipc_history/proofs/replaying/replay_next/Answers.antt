use Rattle.std.proofs.lemmas.Result.{err_from_is_err_and}
use Rattle.ipc_history.specs.Incoming.{incoming}
use Rattle.ipc_history.proofs.ReplayLemmas.{not_next, next_ends, next_read}
use Rattle.ipc_history.proofs.replaying.replay_next.Goals as goal

pub returns-in_err-goes_on-clause-fault : goal.returns-in_err-goes_on-clause-fault
returns-in_err-goes_on-clause-fault g c =
    let given = err_from_is_err_and c.from_residual-in_err-goes_on.result c.from_residual-in_err-goes_on.ensures.1 in
    rw (given.1, given.2) (not_next c.args.past.now c.in_ok-head.head c.in_err-goes_on.field-0.0
    (incoming g.R.Read.remaining c.args.reader.now) (incoming g.R.Read.remaining c.next_head.new.self)
    c.in_err-goes_on.ensures.fault c.in_ok-head.ensures.head)

pub returns-in_err-read_records-clause-fault : goal.returns-in_err-read_records-clause-fault
returns-in_err-read_records-clause-fault g c =
    let given = err_from_is_err_and c.from_residual-in_err-read_records.result c.from_residual-in_err-read_records.ensures.1 in
    rw (given.1, given.2) (next_ends c.in_ok-head.head c.args.past.now c.read_records.new.self c.in_err-read_records.field-0.0
    (incoming g.R.Read.remaining c.args.reader.now) (incoming g.R.Read.remaining c.next_head.new.self) (incoming g.R.Read.remaining c.read_records.new.reader)
    c.in_ok-head.ensures.head c.in_err-read_records.ensures.reads)

pub returns-clause-ok : goal.returns-clause-ok
returns-clause-ok g c =
    next_read c.in_ok-head.head c.args.past.now c.read_records.new.self _
    (incoming g.R.Read.remaining c.args.reader.now) (incoming g.R.Read.remaining c.next_head.new.self) (incoming g.R.Read.remaining c.read_records.new.reader)
    c.in_ok-goes_on.ensures.ok c.in_ok-head.ensures.head c.in_ok-read_records.ensures.reads
