-- The frame of a command's words, and the line that is printed of them.
use Rattle.std.specs.Prelude.{⊤, ◌≡◌, ◌⊎◌, ℕ, Bool, true, false, List, ◌++◌, Option, None, Some, Result, Ok, Err, codes}
use Rattle.hex.specs.Hex.{encode_lower}
use Rattle.ipc_terms.specs.declared.call.Call.{Call}
use Rattle.ipc_wire.specs.Streams.{spell}
use Rattle.ipc_wire.specs.declared.request.Request.TheVariants.{Do}
use Rattle.ipc_words.specs.Calls.{Means}
use Rattle.ipc_words.specs.FaultLines.{fault_line}
use Rattle.ipc_words.specs.Hyphens.{any_breaks_hyphen_rule}
use Rattle.ipc_words.specs.declared.faults.WordFault.{WordFault}
use Rattle.ipc_words.specs.declared.faults.WordFault.TheVariants.{Usage, BadValue, NoMemory}

-- Usage where a word breaks the hyphen rule, otherwise what the words mean
abbrev pub MeansUnlessHyphen : Bool → List (List ℕ) → Result Call WordFault → Type 0
MeansUnlessHyphen true words result = result ≡ Err Usage
MeansUnlessHyphen false words result = Means words result

-- the call that a command's words mean, or their fault
abbrev pub Asks : List (List ℕ) → Result Call WordFault → Type 0
Asks words result = MeansUnlessHyphen (any_breaks_hyphen_rule words) words result

-- the words mean a call, and this is the frame of its request, if it has one
abbrev pub AreSpelled : List (List ℕ) → Option (List ℕ) → Type 0
AreSpelled words frame = (call : Call) × Asks words (Ok call) × (spell (Do call) ≡ frame)

-- the words are at fault, or their request has no frame, which is the fault of its name
abbrev pub AreAtFault : List (List ℕ) → WordFault → Type 0
AreAtFault words NoMemory = ⊥
AreAtFault words Usage = Asks words (Err Usage)
AreAtFault words (BadValue argument) = Asks words (Err (BadValue argument)) ⊎ (AreSpelled words None × (argument.now ≡ codes "name"))

-- the fault of the words, unless memory ran out
abbrev pub FailsBy : List (List ℕ) → WordFault → Type 0
FailsBy words NoMemory = ⊤
FailsBy words fault = AreAtFault words fault

-- the line of a command's words: their frame in hexadecimal, or their fault; and whether they are without fault
abbrev pub IsEncoded : List (List ℕ) → List ℕ → Bool → Type 0
IsEncoded words line true = (frame : List ℕ) × AreSpelled words (Some frame) × (line ≡ encode_lower frame ++ codes "\n")
IsEncoded words line false = (fault : WordFault) × AreAtFault words fault × (line ≡ fault_line fault ++ codes "\n")
