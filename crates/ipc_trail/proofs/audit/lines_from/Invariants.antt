use Rattle.std.proofs.Common.{◌≡◌, take, drop}
use Rattle.ipc_trail.specs.Receipts.{lines_from}
use Rattle.ipc_trail.proofs.audit.lines_from.Given as goal

abbrev pub invariant-loop-index : goal.invariant-loop-index
invariant-loop-index l = l.lines.items ≡ lines_from l.first (take l.index (drop l.skipped l.records.items))
