use Rattle.ipc_state.proofs.Accepting.{core_new}
use Rattle.ipc_state.proofs.Clocking.{on_new}
use Rattle.ipc_state.proofs.states.State.new.Goals as goal

pub invariant_of-result : goal.invariant_of-result
invariant_of-result c = rw (c.new-2.ensures.history, c.in_ok-tables.ensures, c.new-3.ensures) (record { core = core_new c.args.config c.requires; on_time = on_new c.args.config })
