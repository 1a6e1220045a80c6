use Rattle.ipc_log.proofs.PendingLemmas.{more_written}
use Rattle.ipc_log.proofs.trail_writer.TrailWriter.write.Goals as goal

pub loop-self-preserved : goal.loop-self-preserved
loop-self-preserved g c = more_written _ _ _ _ _ _ c.loop-self.invariant c.write_some.ensures.writes

pub returns-in_err-write_some-clause-writes : goal.returns-in_err-write_some-clause-writes
returns-in_err-write_some-clause-writes g c = more_written _ _ _ _ _ _ c.loop-self.invariant c.write_some.ensures.writes
