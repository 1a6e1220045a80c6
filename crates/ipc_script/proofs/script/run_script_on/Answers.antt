use Rattle.ipc_script.proofs.RunLemmas.{ended_blames_no_users, script_writes}
use Rattle.ipc_script.proofs.script.run_script_on.Goals as goal

pub returns-clause-prints : goal.returns-clause-prints
returns-clause-prints g c =
    let read = c.in_ok-core.ensures.core in
    script_writes g.W.Write.contents c.args.limits read.0 _ _ _ _ _ c.args.writer c.finish-writer.result.0
    c.in_ok-core.core c.in_ok-script.script c.run-outcome.new.self c.run-outcome.result c.ended.result c.finish-writer.result.1
    c.in_ok-lines.ensures.unread c.in_ok-lines.ensures.none_read read.1 read.2 read.3
    c.in_ok-script.ensures.core c.in_ok-script.ensures.labels c.in_ok-script.ensures.nothing
    c.run-outcome.ensures.prints c.finish-writer.ensures.kept c.finish-writer.ensures.fault c.ended.ensures

pub returns-clause-fault_of_a_step : goal.returns-clause-fault_of_a_step
returns-clause-fault_of_a_step g c =
    ended_blames_no_users c.run-outcome.result c.ended.result c.finish-writer.result.1
    c.run-outcome.ensures.fault c.finish-writer.ensures.fault c.ended.ensures
