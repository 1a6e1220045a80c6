-- The exit status of the program.
use Rattle.std.specs.Prelude.{ℕ}
use Rattle.clap.specs.Words.{kind_of}
use Rattle.clap.specs.declared.error.kind.ErrorKind.{ErrorKind}
use Rattle.clap.specs.declared.error.kind.ErrorKind.TheVariants.{DisplayHelp, DisplayVersion}
use Rattle.ipc_history.specs.declared.fault.HistoryFault.{HistoryFault}
use Rattle.ipc_history.specs.declared.fault.HistoryFault.TheVariants.{BadConfig, NoMemory, OtherLimits, OtherUsers, Read}
use Rattle.ipc_script.specs.Faults.{status_of}
use Rattle.ipc_program.specs.declared.fault.ProgramFault.{ProgramFault}
use Rattle.ipc_program.specs.declared.fault.ProgramFault.TheVariants.{Arguments, CutOff, Net, NoTrail, NotUtf8, Retelling, Script, Trail}

-- 0 where the arguments ask for help or the version, and 2 for all that is wrong with them
abbrev pub status_of_arguments : ErrorKind → ℕ
status_of_arguments DisplayHelp = 0
status_of_arguments DisplayVersion = 0
status_of_arguments kind = 2

-- 3 where a trail is of other users or limits, or of limits out of range, 4 for reading, 5 for memory, 6 for all else that is
-- wrong with it
abbrev pub status_of_trail : HistoryFault → ℕ
status_of_trail (BadConfig field) = 3
status_of_trail OtherUsers = 3
status_of_trail OtherLimits = 3
status_of_trail Read = 4
status_of_trail NoMemory = 5
status_of_trail fault = 6

-- that of the arguments, of the script's fault, 4 for the network and for a trail's file that can't be made, that of the trail, or 7 for
-- a retelling
abbrev pub status_of_fault : ProgramFault → ℕ
status_of_fault (Arguments error) = status_of_arguments (kind_of error)
status_of_fault NotUtf8 = 2
status_of_fault (Script fault) = status_of fault
status_of_fault Net = 4
status_of_fault NoTrail = 4
status_of_fault (Trail fault) = status_of_trail fault
status_of_fault (CutOff place) = 6
status_of_fault (Retelling fault) = 7
