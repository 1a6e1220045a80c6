-- A fault of a line is never one of the users.
use Rattle.std.proofs.Common.{◌≡◌, false, refl}
use Rattle.ipc_lines.specs.declared.fault.LineFault.{LineFault}
use Rattle.ipc_lines.specs.declared.fault.LineFault.TheVariants.{Read, Write, Memory, Bad}
use Rattle.ipc_script.specs.Faults.{of_line, is_users_memory}

pub of_no_users : (fault : LineFault) → is_users_memory (of_line fault) ≡ false
of_no_users Read = refl
of_no_users Write = refl
of_no_users Memory = refl
of_no_users (Bad number) = refl
