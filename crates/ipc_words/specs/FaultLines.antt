-- The lines of faults.
use Rattle.std.specs.Prelude.{ℕ, List, ◌++◌, codes}
use Rattle.ipc_words.specs.declared.faults.WordFault.{WordFault}
use Rattle.ipc_words.specs.declared.faults.WordFault.TheVariants.{Usage, BadValue, NoMemory}

-- the line of a fault, without a line end
unfoldable pub fault_line : WordFault → List ℕ
fault_line Usage = codes "fault usage"
fault_line (BadValue argument) = codes "fault value " ++ argument.now
fault_line NoMemory = codes "fault memory"
