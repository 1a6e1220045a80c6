-- What functions give that may run out of memory.
use Rattle.std.specs.Prelude.{◌≡◌, Result, Ok, Err}
use Rattle.ipc_log.specs.declared.fault.TrailFault.{TrailFault}
use Rattle.ipc_log.specs.declared.fault.LogFault.{LogFault}
use Rattle.ipc_log.specs.declared.fault.LogFault.TheVariants as reading

-- What a function returned, seen by view, is what reading gives, unless memory ran out.
abbrev pub Fails : {Y : Type 0} → LogFault → Result Y TrailFault → Type 0
Fails reading.NoMemory read = Unit {0}
Fails (reading.Trail f) read = read ≡ Err f

abbrev pub Finds : {X Y : Type 0} → (X → Y) → Result X LogFault → Result Y TrailFault → Type 0
Finds view (Ok x) read = read ≡ Ok (view x)
Finds view (Err e) read = Fails e read
