-- What the parts of a script do on its way: its scene, and the bytes that are read and printed.
use Rattle.std.specs.Prelude.{⊤, ◌≡◌, ◌+◌, ℕ, List, [], ◌++◌, length, Result, Option, None, Some, Ok, Err}
use Rattle.std.specs.Io.KnownBytes.{Appends}
use Rattle.ipc_terms.specs.declared.call.Answer.{Answer}
use Rattle.ipc_terms.specs.declared.ids.Sid.{Sid}
use Rattle.ipc_lines.specs.Lines.{written}
use Rattle.ipc_lines.specs.Reading.{lines_in}
use Rattle.ipc_script.specs.Printing.{LinesPrint, Scene, answer_lines, file_of, steps_of, with_starts}
use Rattle.ipc_script.specs.declared.fault.ScriptFault.{ScriptFault}
use Rattle.ipc_script.specs.declared.fault.ScriptFault.TheVariants.{Write, Memory, Line}
use Rattle.ipc_script.specs.declared.script.Script.{Script}

-- the scene of a script that runs
abbrev pub scene_of : {W : Type 0} → Script W → Scene
scene_of script = record { history = script.core.history; started = script.labels }

-- bytes are printed, of which this holds and of the scenes before and behind them; the configuration stays
abbrev pub Prints : {W : Type 0} → (W → Option (List ℕ)) → (Scene → Scene → List ℕ → Type 0) → Script W → Script W → Type 0
Prints contents P before after =
    (out : List ℕ) × Appends (written contents before.output) (written contents after.output) out
    × P (scene_of before) (scene_of after) out × (after.core.config ≡ before.core.config)

-- the scene once answers are written, and their lines
abbrev pub AreWritten : List ℕ → List (Sid × Answer) → Scene → Scene → List ℕ → Type 0
AreWritten label told before after out =
    (after ≡ record { history = before.history; started = with_starts before.started label told })
    × (out ≡ answer_lines before.started label told)

-- these lines are the user file of each script that they begin, and its `.`
abbrev pub AreFile : List (List ℕ) → List ℕ → Type 0
AreFile head file = (steps : List (List ℕ)) → (file_of (head ++ steps) ≡ file) × (steps_of (head ++ steps) ≡ steps)

-- of the known lines the user file is read, whose lines are counted; it stands behind what was read before
abbrev pub FileIsRead : List ℕ → List ℕ → ℕ → ℕ → Option (List ℕ) → Option (List ℕ) → Type 0
FileIsRead file longer count more None after = ⊤
FileIsRead file longer count more (Some bytes) None = ⊥
FileIsRead file longer count more (Some bytes) (Some rest) =
    (head : List (List ℕ)) × (added : List ℕ) × (lines_in bytes ≡ head ++ lines_in rest) × (more ≡ count + length head)
    × (longer ≡ file ++ added) × AreFile head added

-- how a run ends behind so many lines of the input, where these are left
abbrev pub EndsBehind : {T : Type 0} → ℕ → List (List ℕ) → Result T ScriptFault → Type 0
EndsBehind count left (Ok value) = left ≡ []
EndsBehind count left (Err (Line number)) = number ≡ count + 1
EndsBehind count left (Err fault) = ⊤

-- a run over these lines, behind so many others, prints what the first of them do
abbrev pub RunPrints : {W T : Type 0} → (W → Option (List ℕ)) → ℕ → List (List ℕ) → Result T ScriptFault → Script W → Script W → Type 0
RunPrints contents count lines (Err Write) before after = ⊤
RunPrints contents count lines (Err Memory) before after = ⊤
RunPrints contents count lines outcome before after =
    (first : List (List ℕ)) × (left : List (List ℕ)) × (lines ≡ first ++ left) × EndsBehind (count + length first) left outcome
    × Prints contents (LinesPrint before.core.config first) before after
