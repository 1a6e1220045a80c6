-- What functions give that may run out of memory.
use Rattle.std.specs.Prelude.{◌≡◌, ℕ, List, ◌++◌, Option, Some, None, Result, Ok, Err}
use Rattle.ipc_fields.specs.declared.fault.WireFault.{WireFault}
use Rattle.ipc_fields.specs.declared.fault.ReadFault.{ReadFault}
use Rattle.ipc_fields.specs.declared.fault.ReadFault.TheVariants as reading
use Rattle.ipc_fields.specs.declared.fault.WriteFault.{WriteFault}
use Rattle.ipc_fields.specs.declared.fault.WriteFault.TheVariants as writing
use Rattle.ipc_fields.specs.Field.{◌⊕◌}

-- What a function returned, seen by view, is what reading gives, unless memory ran out.
abbrev pub Fails : {Y : Type 0} → ReadFault → Result Y WireFault → Type 0
Fails reading.NoMemory read = Unit {0}
Fails (reading.Wire f) read = read ≡ Err f

abbrev pub Gives : {X Y : Type 0} → (X → Y) → Result X ReadFault → Result Y WireFault → Type 0
Gives view (Ok x) read = read ≡ Ok (view x)
Gives view (Err e) read = Fails e read

-- The old bytes stand in front of the new ones.
pub record Begins (old new : List ℕ) : Type 0 where
  pub more : List ℕ
  pub parts : new ≡ old ++ more

-- The text stands behind old now, or there is none, unless memory ran out.
abbrev pub Lacks : WriteFault → Option (List ℕ) → Type 0
Lacks writing.TooLong text = text ≡ None
Lacks writing.NoMemory text = Unit {0}

abbrev pub Puts : {X : Type 0} → List ℕ → List ℕ → Result X WriteFault → Option (List ℕ) → Type 0
Puts old new (Ok x) text = ((Some old) ⊕ text) ≡ Some new
Puts old new (Err e) text = Lacks e text
