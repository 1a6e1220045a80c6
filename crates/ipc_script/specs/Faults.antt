-- The exit status of each fault, and which fault of a script stands for a fault below it.
use Rattle.std.specs.Prelude.{⊤, ℕ, Bool, true, false}
use Rattle.ipc_access.specs.declared.fault.UserFault.{UserFault}
use Rattle.ipc_access.specs.declared.fault.UserFault.TheVariants.{NoMemory}
use Rattle.ipc_core.specs.declared.fault.CoreFault.{CoreFault}
use Rattle.ipc_core.specs.declared.fault.CoreFault.TheVariants.{BadConfig}
use Rattle.ipc_lines.specs.declared.fault.LineFault.{LineFault}
use Rattle.ipc_lines.specs.declared.fault.LineFault.TheVariants.{Read as NoRead, Write as NoWrite, Memory as NoGrowth, Bad}
use Rattle.ipc_script.specs.declared.fault.ScriptFault.{ScriptFault}
use Rattle.ipc_script.specs.declared.fault.ScriptFault.TheVariants.{Users, Config, Read, Write, Memory, Line}

-- 3 for the users and the limits, 4 for reading and writing, 5 for memory, 6 for a line
abbrev pub status_of : ScriptFault → ℕ
status_of (Users fault) = 3
status_of (Config field) = 3
status_of Read = 4
status_of Write = 4
status_of Memory = 5
status_of (Line number) = 6

-- want of memory is never a fault of the users
abbrev pub of_users : UserFault → ScriptFault
of_users NoMemory = Memory
of_users fault = Users fault

abbrev pub of_core : CoreFault → ScriptFault
of_core (BadConfig field) = Config field
of_core fault = Memory

abbrev pub of_line : LineFault → ScriptFault
of_line NoRead = Read
of_line NoWrite = Write
of_line NoGrowth = Memory
of_line (Bad number) = Line number

-- whether it blames the users for want of memory, which no run does
abbrev pub is_users_memory : ScriptFault → Bool
is_users_memory (Users NoMemory) = true
is_users_memory fault = false

-- the writer failed, or there was no memory
abbrev pub IsOfOutput : ScriptFault → Type 0
IsOfOutput Write = ⊤
IsOfOutput Memory = ⊤
IsOfOutput fault = ⊥
