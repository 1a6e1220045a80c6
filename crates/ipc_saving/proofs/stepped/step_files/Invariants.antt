use Rattle.ipc_living.specs.Living.{AreSenders}
use Rattle.ipc_saving.proofs.stepped.step_files.Given as goal

abbrev pub invariant-loop-path : goal.invariant-loop-path
invariant-loop-path g l = AreSenders l.senders l.past.history
