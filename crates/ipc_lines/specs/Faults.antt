-- Which faults come from where.
use Rattle.std.specs.Prelude.{⊤, ◌≡◌, ℕ}
use Rattle.std.specs.declared.io.ErrorKind.{ErrorKind}
use Rattle.std.specs.declared.io.ErrorKind.TheVariants.{OutOfMemory}
use Rattle.ipc_lines.specs.declared.fault.LineFault.{LineFault}
use Rattle.ipc_lines.specs.declared.fault.LineFault.TheVariants.{Read, Write, Memory, Bad}

-- the fault of a writer's error
abbrev pub of_writer : ErrorKind → LineFault
of_writer OutOfMemory = Memory
of_writer kind = Write

-- the writer failed or there was no memory; no line is blamed
abbrev pub IsOfWriter : LineFault → Type 0
IsOfWriter Read = ⊥
IsOfWriter Write = ⊤
IsOfWriter Memory = ⊤
IsOfWriter (Bad number) = ⊥

-- if a line is blamed, it is the one of this number
abbrev pub BlamesOnly : ℕ → LineFault → Type 0
BlamesOnly number (Bad blamed) = blamed ≡ number
BlamesOnly number fault = ⊤
