use Rattle.std.proofs.Common.{◌≡◌}
use Rattle.ipc_living.proofs.compacting.tell_limits.Given as goal

abbrev pub invariant-loop-index : goal.invariant-loop-index
invariant-loop-index g l = l.story.config ≡ l.initial.story.config
