use Rattle.std.proofs.Common.{◌≡◌}
use Rattle.ipc_living.specs.Living.{AreSenders}
use Rattle.ipc_living.proofs.stepping.step_noting.Given as goal

abbrev pub invariant-loop : goal.invariant-loop
invariant-loop g l =
    AreSenders l.senders l.past.history
    × (l.past.config ≡ l.initial.past.config)
    × (l.past.retelling ≡ l.initial.past.retelling)
