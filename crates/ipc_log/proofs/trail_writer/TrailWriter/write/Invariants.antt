use Rattle.std.proofs.Common.{length}
use Rattle.ipc_log.specs.Writing.{Writes}
use Rattle.ipc_log.proofs.trail_writer.TrailWriter.write.Given as goal

-- the first of what was left is written
abbrev pub invariant-loop-self : goal.invariant-loop-self
invariant-loop-self g l = Writes l.initial.self l.self (g.W.Write.contents l.initial.writer) (g.W.Write.contents l.writer)

abbrev pub decreases-loop-self : goal.decreases-loop-self
decreases-loop-self g l = length l.self.left
