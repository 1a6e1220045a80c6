use Rattle.std.proofs.Common.{◌≡◌}
use Rattle.ipc_replay.specs.HangingUp.{first_hung_up}
use Rattle.ipc_replay.proofs.replay.Replay.hang_up_all.Given as goal

abbrev pub invariant-loop-number : goal.invariant-loop-number
invariant-loop-number l = l.replay ≡ record l.initial.replay { history = first_hung_up l.number l.initial.replay.history }
