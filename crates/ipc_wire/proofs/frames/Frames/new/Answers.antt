use Rattle.std.proofs.Common.{rules, tests}
use Rattle.ipc_wire.proofs.frames.Frames.new.Goals as goal

pub returns : goal.returns
returns c = search (tests, rules)
