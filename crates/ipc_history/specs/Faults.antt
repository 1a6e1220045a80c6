-- Which faults come from where.
use Rattle.ipc_replay.specs.declared.fault.ReplayFault.{ReplayFault}
use Rattle.ipc_replay.specs.declared.fault.ReplayFault.TheVariants as replay
use Rattle.ipc_history.specs.declared.fault.HistoryFault.{HistoryFault}
use Rattle.ipc_history.specs.declared.fault.HistoryFault.TheVariants as fault

-- the fault of a record that was not stepped, or of a configuration
abbrev pub of_replay : ReplayFault → HistoryFault
of_replay (replay.BadConfig field) = fault.BadConfig field
of_replay (replay.Differs place) = fault.Differs place
of_replay replay.NoMemory = fault.NoMemory
