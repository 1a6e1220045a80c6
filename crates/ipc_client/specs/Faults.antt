-- The exit status of each fault, and which fault of the client stands for a fault below it.
use Rattle.std.specs.Prelude.{⊤, ℕ, Bool, true, false}
use Rattle.std.specs.declared.io.ErrorKind.{ErrorKind}
use Rattle.std.specs.declared.io.ErrorKind.TheVariants.{OutOfMemory}
use Rattle.ipc_lines.specs.declared.fault.LineFault.{LineFault}
use Rattle.ipc_lines.specs.declared.fault.LineFault.TheVariants.{Read as NoRead, Write as NoWrite, Memory as NoGrowth, Bad}
use Rattle.ipc_client.specs.declared.fault.ClientFault.{ClientFault}
use Rattle.ipc_client.specs.declared.fault.ClientFault.TheVariants.{Read, Write, Net, Memory, Line}
use Rattle.ipc_client.specs.declared.fault.ProgramFault.{ProgramFault}
use Rattle.ipc_client.specs.declared.fault.ProgramFault.TheVariants.{Arguments, Client}

-- 4 for reading, writing and the network, 5 for memory, 6 for a line
abbrev pub status_of : ClientFault → ℕ
status_of Read = 4
status_of Write = 4
status_of Net = 4
status_of Memory = 5
status_of (Line number) = 6

-- 2 for the arguments, or that of the client's fault
abbrev pub status_of_program : ProgramFault → ℕ
status_of_program Arguments = 2
status_of_program (Client fault) = status_of fault

abbrev pub of_line : LineFault → ClientFault
of_line NoRead = Read
of_line NoWrite = Write
of_line NoGrowth = Memory
of_line (Bad number) = Line number

-- whether it blames the network, which no encoding does
abbrev pub is_net : ClientFault → Bool
is_net Net = true
is_net fault = false

-- the fault of a connection's error
abbrev pub of_connection : ErrorKind → ClientFault
of_connection OutOfMemory = Memory
of_connection kind = Net

-- the connection failed or there was no memory; the commands and the output are not blamed
abbrev pub IsOfConnection : ClientFault → Type 0
IsOfConnection Net = ⊤
IsOfConnection Memory = ⊤
IsOfConnection fault = ⊥
