-- What a chmod and a chown make of an owner, group and mode.
use Rattle.std.specs.Prelude.{Option, Some, None, unwrap_or}
use Rattle.ipc_terms.specs.declared.ids.Mode.{Mode}
use Rattle.ipc_terms.specs.declared.ids.Target.{Target}
use Rattle.ipc_terms.specs.declared.ids.Target.TheVariants.{Dir, Name}
use Rattle.ipc_terms.specs.declared.call.Call.{Call}
use Rattle.ipc_terms.specs.declared.call.Call.TheVariants.{Chmod, Chown}
use Rattle.ipc_terms.specs.declared.facts.Facts.{Facts}
use Rattle.ipc_policy.specs.Decides.Objects.{object_bits, directory_bits}

-- what a chmod or a chown means, if the call is one
abbrev pub changing : Call → Option Target
changing (Chmod mode target) = Some target
changing (Chown owner group target) = Some target
changing _ = None

-- what the target takes of a mode
abbrev pub bits_of : Target → Mode → Mode
bits_of (Dir family) = directory_bits
bits_of (Name family name) = object_bits

-- what the call makes of the owner, group and mode of what it means
abbrev pub changed_by : Call → Facts → Facts
changed_by (Chmod mode target) was = record was { mode = bits_of target mode }
changed_by (Chown owner group target) was = record was { owner = unwrap_or owner was.owner; group = unwrap_or group was.group }
changed_by _ was = was
