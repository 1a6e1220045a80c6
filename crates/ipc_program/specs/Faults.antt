-- Which fault of the program stands for a fault below it. Want of memory is always the script's.
use Rattle.clap.specs.declared.error.Error.{Error}
use Rattle.clap.specs.declared.error.kind.ErrorKind.{ErrorKind as ArgumentKind}
use Rattle.clap.specs.declared.error.kind.ErrorKind.TheVariants.{OutOfMemory as NoRoom}
use Rattle.std.specs.declared.io.ErrorKind.{ErrorKind}
use Rattle.std.specs.declared.io.ErrorKind.TheVariants.{OutOfMemory}
use Rattle.ipc_history.specs.declared.fault.HistoryFault.{HistoryFault}
use Rattle.ipc_history.specs.declared.fault.HistoryFault.TheVariants.{NoMemory, Read as NoRead}
use Rattle.ipc_living.specs.declared.fault.CompactFault.{CompactFault}
use Rattle.ipc_living.specs.declared.fault.CompactFault.TheVariants.{Config as BadLimit, NoMemory as NoPlace, Write as NoWrite}
use Rattle.ipc_script.specs.declared.fault.ScriptFault.TheVariants.{Config, Memory, Read, Write}
use Rattle.ipc_program.specs.declared.fault.ProgramFault.{ProgramFault}
use Rattle.ipc_program.specs.declared.fault.ProgramFault.TheVariants.{Arguments, Net, NoTrail, NotUtf8, Retelling, Script, Trail}

-- what the parser of the arguments refuses
abbrev pub of_arguments : Error → ArgumentKind → ProgramFault
of_arguments error NoRoom = Script Memory
of_arguments error kind = Arguments error

-- where the arguments can't be read
abbrev pub of_reading : ErrorKind → ProgramFault
of_reading OutOfMemory = Script Memory
of_reading kind = NotUtf8

-- a fault, or want of memory where the system says so
abbrev pub or_memory : ErrorKind → ProgramFault → ProgramFault
or_memory OutOfMemory fault = Script Memory
or_memory kind fault = fault

-- where a file can't be read
abbrev pub of_file : ErrorKind → ProgramFault
of_file kind = or_memory kind (Script Read)

-- where standard output can't be written
abbrev pub of_output : ErrorKind → ProgramFault
of_output kind = or_memory kind (Script Write)

-- where an address can't be bound
abbrev pub of_address : ErrorKind → ProgramFault
of_address kind = or_memory kind Net

-- where the file of a trail can't be made
abbrev pub of_trail_file : ErrorKind → ProgramFault
of_trail_file kind = or_memory kind NoTrail

-- where a trail can't be read, or no further
abbrev pub of_history : HistoryFault → ProgramFault
of_history NoRead = Script Read
of_history NoMemory = Script Memory
of_history fault = Trail fault

-- where a trail isn't retold
abbrev pub of_compact : CompactFault → ProgramFault
of_compact NoWrite = NoTrail
of_compact NoPlace = Script Memory
of_compact (BadLimit field) = Script (Config field)
of_compact fault = Retelling fault
