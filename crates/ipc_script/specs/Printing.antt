-- What a script prints: the lines of its steps' answers, one behind the other.
use Rattle.std.specs.Prelude.{⊤, ◌≡◌, ◌==◌, ◌-◌, ℕ, Bool, true, List, [], ◌∷◌, ◌++◌, take, codes, Result, Option, Ok, Err, if◌then◌else◌}
use Rattle.ipc_terms.specs.declared.call.Answer.{Answer}
use Rattle.ipc_terms.specs.declared.call.Answer.TheVariants.{Started as SaysStarted}
use Rattle.ipc_terms.specs.declared.ids.Sid.{Sid}
use Rattle.ipc_terms.specs.declared.record.Event.{Event}
use Rattle.ipc_policy.specs.declared.config.Config.{Config}
use Rattle.ipc_policy.specs.declared.config.Limits.{Limits}
use Rattle.ipc_policy.specs.Decides.History.{History}
use Rattle.ipc_policy.specs.Decides.Verdict.{after_event, answers}
use Rattle.std.specs.Io.KnownBytes.{Appends}
use Rattle.std.specs.Str.{bytes_eq}
use Rattle.ipc_access.specs.UserFile.{lines_of, users_of}
use Rattle.ipc_lines.specs.Words.{words_in}
use Rattle.ipc_words.specs.Answers.{answer_line}
use Rattle.ipc_words.specs.FaultLines.{fault_line}
use Rattle.ipc_words.specs.declared.faults.WordFault.{WordFault}
use Rattle.ipc_words.specs.declared.faults.WordFault.TheVariants.{NoMemory}
use Rattle.ipc_script.specs.Labels.{acting_for, label_for, label_form}
use Rattle.ipc_script.specs.Steps.{AskFor, Choice}
use Rattle.ipc_script.specs.declared.labels.Started.{Started}
use Rattle.ipc_script.specs.declared.fault.ScriptFault.{ScriptFault}
use Rattle.ipc_script.specs.declared.fault.ScriptFault.TheVariants.{Write, Memory, Line}

-- where a script stands: the history of its core, and which sessions its labels started
pub record Scene : Type 0 where
  pub history : History
  pub started : List Started

-- `LABEL LINE` and a line end
abbrev pub labelled_line : List ℕ → Answer → List ℕ
labelled_line label answer = label ++ codes " " ++ answer_line answer ++ codes "\n"

-- the sessions that were started, once an answer is written under a label
abbrev pub with_start : List Started → List ℕ → Answer → List Started
with_start started label (SaysStarted sid) = started ++ record { label = label; sid = sid } ∷ []
with_start started label answer = started

abbrev pub with_starts : List Started → List ℕ → List (Sid × Answer) → List Started
with_starts started label [] = started
with_starts started label (p ∷ told) = with_starts (with_start started label p.1) label told

-- the lines of answers in their order, each under the label that started the session which it is for
abbrev pub answer_lines : List Started → List ℕ → List (Sid × Answer) → List ℕ
answer_lines started label [] = []
answer_lines started label (p ∷ told) =
    let now = with_start started label p.1 in labelled_line (label_for now label p.0) p.1 ++ answer_lines now label told

-- the fault of a label's words
abbrev pub FaultPrints : List ℕ → WordFault → Scene → Scene → List ℕ → Type 0
FaultPrints label fault before after out = (after ≡ before) × (out ≡ label ++ codes " " ++ fault_line fault ++ codes "\n")

-- a step prints its answers, and the event is recorded; a fault prints itself, and changes nothing. Want of memory prints nothing.
abbrev pub StepPrints : Config → List ℕ → Scene → Result Event WordFault → Scene → List ℕ → Type 0
StepPrints c label before (Ok event) after out =
    (after ≡ record {
      history = after_event c before.history event;
      started = with_starts before.started label (answers c before.history event);
    })
    × (out ≡ answer_lines before.started label (answers c before.history event))
StepPrints c label before (Err NoMemory) after out = ⊥
StepPrints c label before (Err fault) after out = FaultPrints label fault before after out

-- what words that are asked under a label print
abbrev pub AskedPrint : Config → List ℕ → List (List ℕ) → Scene → Scene → List ℕ → Type 0
AskedPrint c label words before after out =
    (asked : Result Event WordFault) × AskFor c.users (acting_for before.started label) words asked × StepPrints c label before asked after out

-- a line without a label
abbrev pub NoLabelPrints : Scene → Scene → List ℕ → Type 0
NoLabelPrints before after out = (after ≡ before) × (out ≡ codes "- fault line\n")

-- words print what they ask for under a label
abbrev pub WordsPrint : Config → List (List ℕ) → Scene → Scene → List ℕ → Type 0
WordsPrint c [] before after out = NoLabelPrints before after out
WordsPrint c (label ∷ words) before after out =
    Choice (label_form label) (AskedPrint c label words before after out) (NoLabelPrints before after out)

-- an empty line and a comment
abbrev pub is_skipped : List ℕ → Bool
is_skipped [] = true
is_skipped (byte ∷ bytes) = byte == 35

-- a line prints what its words do; those that are skipped print nothing
abbrev pub LinePrints : Config → List ℕ → Scene → Scene → List ℕ → Type 0
LinePrints c line before after out =
    Choice (is_skipped line) ((after ≡ before) × (out ≡ [])) (WordsPrint c (words_in line) before after out)

-- lines print one behind the other
unfoldable pub LinesPrint : Config → List (List ℕ) → Scene → Scene → List ℕ → Type 0
LinesPrint c [] before after out = (after ≡ before) × (out ≡ [])
LinesPrint c (line ∷ lines) before after out =
    (between : Scene) × (first : List ℕ) × (others : List ℕ)
    × LinePrints c line before between first × LinesPrint c lines between after others × (out ≡ first ++ others)

-- the user file of a script: its lines before the first `.`, each with a line end
abbrev pub file_of : List (List ℕ) → List ℕ
file_of [] = []
file_of (line ∷ lines) = if bytes_eq line (codes ".") then [] else line ++ 10 ∷ file_of lines

-- and its steps: the lines behind that
abbrev pub steps_of : List (List ℕ) → List (List ℕ)
steps_of [] = []
steps_of (line ∷ lines) = if bytes_eq line (codes ".") then lines else steps_of lines

-- A script prints what its steps do, from an empty history on, by the users of its file.
abbrev pub ScriptPrints : Limits → List (List ℕ) → List ℕ → Type 0
ScriptPrints limits lines out =
    (after : Scene)
    × LinesPrint (record { users = users_of (lines_of (file_of lines)); limits = limits }) (steps_of lines) (record { history = []; started = [] }) after out

-- Of the lines of a script these are run before it ends: all; those before the line at fault; or else some first ones.
abbrev pub AreRun : {T : Type 0} → List (List ℕ) → Result T ScriptFault → List (List ℕ) → Type 0
AreRun lines (Ok value) first = first ≡ lines
AreRun lines (Err (Line number)) first = first ≡ take (number - 1) lines
AreRun lines (Err fault) first = (count : ℕ) × (first ≡ take count lines)

-- However a script ends, what it wrote is what those lines print. Nothing is said of a writer that failed, nor where
-- memory ran out, which may be the writer's.
abbrev pub ScriptWrites : {T : Type 0} → Limits → List (List ℕ) → Result T ScriptFault → Option (List ℕ) → Option (List ℕ) → Type 0
ScriptWrites limits lines (Err Write) before after = ⊤
ScriptWrites limits lines (Err Memory) before after = ⊤
ScriptWrites limits lines outcome before after =
    (first : List (List ℕ)) × (out : List ℕ) × AreRun lines outcome first × ScriptPrints limits first out × Appends before after out
