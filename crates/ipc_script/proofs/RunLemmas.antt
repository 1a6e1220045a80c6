-- Runs over the lines of an input: its user file, and the steps behind that.
use Rattle.std.proofs.Common.{◌≡◌, ◌∙◌, ℕ, ◌+◌, ◌-◌, List, [], ◌∷◌, ◌++◌, length, take, Option, None, Some, append_assoc, append-nil, length-append, add-zero, zero-add, add-sub_cancel, arith, ap, subst, sym, refl}
use Rattle.std.proofs.Math.Seq.{take-append_seam}
use Rattle.std.specs.Prelude.{⊤, true, false, IfErr, IfSome, MatchResult, OnOk, Result, Ok, Err, codes}
use Rattle.std.specs.Io.KnownBytes.{Appends, Keeps}
use Rattle.std.specs.Str.{bytes_eq}
use Rattle.std.proofs.KnownBytes.{Appends-kept, Appends-nil, Appends-trans}
use Rattle.ipc_lines.specs.Faults.{BlamesOnly, IsOfWriter}
use Rattle.ipc_lines.specs.Lines.{written}
use Rattle.ipc_lines.specs.Reading.{IsNextLine, lines_in}
use Rattle.ipc_lines.specs.declared.fault.LineFault.{LineFault}
use Rattle.ipc_lines.specs.declared.fault.LineFault.TheVariants.{Read as NoRead, Write as NoWrite, Memory as NoGrowth, Bad}
use Rattle.ipc_lines.specs.declared.output.Output.{Output}
use Rattle.ipc_access.specs.UserFile.{lines_of, users_of}
use Rattle.ipc_core.specs.CoreView.{CoreView}
use Rattle.ipc_policy.specs.declared.config.Limits.{Limits}
use Rattle.ipc_script.specs.Faults.{IsOfOutput, is_users_memory, of_line}
use Rattle.ipc_script.specs.Printing.{AreRun, LinePrints, LinesPrint, ScriptPrints, ScriptWrites, file_of, steps_of}
use Rattle.ipc_script.specs.Running.{AreFile, EndsBehind, FileIsRead, Prints, RunPrints, scene_of}
use Rattle.ipc_script.specs.declared.fault.ScriptFault.{ScriptFault}
use Rattle.ipc_script.specs.declared.fault.ScriptFault.TheVariants.{Users, Config, Read, Write, Memory, Line}
use Rattle.ipc_script.specs.declared.script.Script.{Script}
use Rattle.ipc_script.proofs.PrintLemmas.{lines_more, no_lines, prints_kept, prints_then}

-- ---- faults

pub of_output : (fault : LineFault) → IsOfWriter fault → IsOfOutput (of_line fault)
of_output NoRead of = of
of_output NoWrite of = tt
of_output NoGrowth of = tt
of_output (Bad number) of = of

pub blames_no_users : (fault : ScriptFault) → IsOfOutput fault → is_users_memory fault ≡ false
blames_no_users (Users fault) of = absurd of
blames_no_users (Config field) of = absurd of
blames_no_users Read of = absurd of
blames_no_users Write of = refl
blames_no_users Memory of = refl
blames_no_users (Line number) of = absurd of

-- ---- the steps

-- one line more is counted
one_more : {A : Type 0} (count more most : ℕ) (lines : List A) (line : A) → more ≡ count + length lines → most ≡ more + 1 → most ≡ count + length (lines ++ line ∷ [])
one_more count more most lines line so_many counted = rw (length-append lines (line ∷ [])) (omega (arith, so_many, counted))

-- of the known lines the first are read and printed, and counted
abbrev pub SoFar : {W : Type 0} → (W → Option (List ℕ)) → ℕ → ℕ → Option (List ℕ) → Option (List ℕ) → Script W → Script W → Type 0
SoFar contents count more None after a b = ⊤
SoFar contents count more (Some bytes) None a b = ⊥
SoFar contents count more (Some bytes) (Some rest) a b =
    (first : List (List ℕ)) × (lines_in bytes ≡ first ++ lines_in rest) × (more ≡ count + length first) × Prints contents (LinesPrint a.core.config first) a b

pub none_so_far : {W : Type 0} (contents : W → Option (List ℕ)) (count : ℕ) (before : Option (List ℕ)) (a : Script W) → SoFar contents count count before before a a
none_so_far contents count None a = tt
none_so_far contents count (Some bytes) a = ([], refl, sym (add-zero count), ([], Appends-nil _, no_lines a.core.config (scene_of a), refl))

pub more_so_far : {W : Type 0} (contents : W → Option (List ℕ)) (line : List ℕ) (count more most : ℕ) (before between after : Option (List ℕ)) (a b d : Script W) (output : Output W)
    → SoFar contents count more before between a b → most ≡ more + 1 → IsNextLine (Some line) between after → Keeps (written contents b.output) (written contents output)
    → Prints contents (LinePrints b.core.config line) (record b { output = output }) d → SoFar contents count most before after a d
more_so_far contents line count more most None between after a b d output so_far counted next kept prints = tt
more_so_far contents line count more most (Some bytes) None after a b d output so_far counted next kept prints = absurd so_far
more_so_far contents line count more most (Some bytes) (Some middle) None a b d output so_far counted next kept prints = next
more_so_far contents line count more most (Some bytes) (Some middle) (Some rest) a b d output (lines, read, so_many, (out, appended, printed, same)) counted next kept prints =
    let c = a.core.config in
    let first = prints_kept contents (LinesPrint c lines) a b output (out, appended, printed, same) kept in
    let second = subst (λ config. Prints contents (LinePrints config line) (record b { output = output }) d) same prints in (
      lines ++ line ∷ [],
      read ∙ ap (λ l. lines ++ l) next ∙ sym (append_assoc lines (line ∷ []) (lines_in rest)),
      one_more count more most lines line so_many counted,
      prints_then contents (LinesPrint c lines) (LinePrints c line) (LinesPrint c (lines ++ line ∷ [])) a (record b { output = output }) d
          (lines_more c lines line) first second,
    )

-- all lines are run
pub run_ends : {W : Type 0} (contents : W → Option (List ℕ)) (count more : ℕ) (before between after : Option (List ℕ)) (a b : Script W) (output : Output W)
    → SoFar contents count more before between a b → IsNextLine None between after → Keeps (written contents b.output) (written contents output)
    → IfSome before (λ bytes. RunPrints {T = Unit} contents count (lines_in bytes) (Ok tt) a (record b { output = output }))
run_ends contents count more None between after a b output so_far next kept = tt
run_ends contents count more (Some bytes) None after a b output so_far next kept = absurd so_far
run_ends contents count more (Some bytes) (Some rest) after a b output (first, read, so_many, printed) next kept =
    (first, [], read ∙ ap (λ l. first ++ l) next, refl, prints_kept contents (LinesPrint a.core.config first) a b output printed kept)

-- no next line can be read
pub run_fails : {W : Type 0} (contents : W → Option (List ℕ)) (fault : LineFault) (count more : ℕ) (before between : Option (List ℕ)) (a b : Script W) (output : Output W)
    → SoFar contents count more before between a b → BlamesOnly (more + 1) fault → Keeps (written contents b.output) (written contents output)
    → IfSome before (λ bytes. RunPrints {T = Unit} contents count (lines_in bytes) (Err (of_line fault)) a (record b { output = output }))
run_fails contents fault count more None between a b output so_far blamed kept = tt
run_fails contents fault count more (Some bytes) None a b output so_far blamed kept = absurd so_far
run_fails contents NoWrite count more (Some bytes) (Some rest) a b output so_far blamed kept = tt
run_fails contents NoGrowth count more (Some bytes) (Some rest) a b output so_far blamed kept = tt
run_fails contents NoRead count more (Some bytes) (Some rest) a b output (first, read, so_many, printed) blamed kept =
    (first, lines_in rest, read, tt, prints_kept contents (LinesPrint a.core.config first) a b output printed kept)
run_fails contents (Bad number) count more (Some bytes) (Some rest) a b output (first, read, so_many, printed) blamed kept =
    (first, lines_in rest, read, blamed ∙ ap (λ k. k + 1) so_many, prints_kept contents (LinesPrint a.core.config first) a b output printed kept)

-- the reads are over
pub run_stops : {W : Type 0} (contents : W → Option (List ℕ)) (count more : ℕ) (before between : Option (List ℕ)) (a b : Script W)
    → SoFar contents count more before between a b → IfSome before (λ bytes. RunPrints {T = Unit} contents count (lines_in bytes) (Err Read) a b)
run_stops contents count more None between a b so_far = tt
run_stops contents count more (Some bytes) None a b so_far = absurd so_far
run_stops contents count more (Some bytes) (Some rest) a b (first, read, so_many, printed) = (first, lines_in rest, read, tt, printed)

-- ---- the user file

-- no line of it is left out, and the steps stay
abbrev pub FileSoFar : List ℕ → List ℕ → ℕ → ℕ → Option (List ℕ) → Option (List ℕ) → Type 0
FileSoFar file longer count more None after = ⊤
FileSoFar file longer count more (Some bytes) None = ⊥
FileSoFar file longer count more (Some bytes) (Some rest) =
    (head : List (List ℕ)) × (added : List ℕ) × (lines_in bytes ≡ head ++ lines_in rest) × (more ≡ count + length head)
    × (longer ≡ file ++ added) × ((others : List (List ℕ)) → (file_of (head ++ others) ≡ added ++ file_of others) × (steps_of (head ++ others) ≡ steps_of others))

pub no_file : (file : List ℕ) (count : ℕ) (before : Option (List ℕ)) → FileSoFar file file count count before before
no_file file count None = tt
no_file file count (Some bytes) = ([], [], refl, sym (add-zero count), sym (append-nil file), λ others. (refl, refl))

pub more_file : (file longer longest line : List ℕ) (count more most : ℕ) (before between after : Option (List ℕ)) → FileSoFar file longer count more before between
    → most ≡ more + 1 → IsNextLine (Some line) between after → bytes_eq line (codes ".") ≡ false → longest ≡ (longer ++ line) ++ 10 ∷ [] → FileSoFar file longest count most before after
more_file file longer longest line count more most None between after so_far counted next other grown = tt
more_file file longer longest line count more most (Some bytes) None after so_far counted next other grown = absurd so_far
more_file file longer longest line count more most (Some bytes) (Some middle) None so_far counted next other grown = next
more_file file longer longest line count more most (Some bytes) (Some middle) (Some rest) (head, added, read, so_many, is, begins) counted next other grown = (
  head ++ line ∷ [],
  added ++ (line ++ 10 ∷ []),
  read ∙ ap (λ l. head ++ l) next ∙ sym (append_assoc head (line ∷ []) (lines_in rest)),
  one_more count more most head line so_many counted,
  grown ∙ append_assoc longer line (10 ∷ []) ∙ ap (λ l. l ++ (line ++ 10 ∷ [])) is ∙ append_assoc file added (line ++ 10 ∷ []),
  λ others.
      let file_is : file_of (line ∷ others) ≡ line ++ 10 ∷ file_of others = rw other refl in
      let steps_are : steps_of (line ∷ others) ≡ steps_of others = rw other refl in
      let parts = append_assoc head (line ∷ []) others in (
        ap file_of parts
            ∙ (begins (line ∷ others)).0
            ∙ ap (λ l. added ++ l) (file_is ∙ sym (append_assoc line (10 ∷ []) (file_of others)))
            ∙ sym (append_assoc added (line ++ 10 ∷ []) (file_of others)),
        ap steps_of parts ∙ (begins (line ∷ others)).1 ∙ steps_are,
      ),
)

pub file_ends : (file longer line : List ℕ) (count more most : ℕ) (before between after : Option (List ℕ)) → FileSoFar file longer count more before between
    → most ≡ more + 1 → IsNextLine (Some line) between after → bytes_eq line (codes ".") ≡ true → FileIsRead file longer count most before after
file_ends file longer line count more most None between after so_far counted next last = tt
file_ends file longer line count more most (Some bytes) None after so_far counted next last = absurd so_far
file_ends file longer line count more most (Some bytes) (Some middle) None so_far counted next last = next
file_ends file longer line count more most (Some bytes) (Some middle) (Some rest) (head, added, read, so_many, is, begins) counted next last = (
  head ++ line ∷ [],
  added,
  read ∙ ap (λ l. head ++ l) next ∙ sym (append_assoc head (line ∷ []) (lines_in rest)),
  one_more count more most head line so_many counted,
  is,
  λ steps.
      let file_is : file_of (line ∷ steps) ≡ [] = rw last refl in
      let steps_are : steps_of (line ∷ steps) ≡ steps = rw last refl in
      let parts = append_assoc head (line ∷ []) steps in (
        ap file_of parts ∙ (begins (line ∷ steps)).0 ∙ ap (λ l. added ++ l) file_is ∙ append-nil added,
        ap steps_of parts ∙ (begins (line ∷ steps)).1 ∙ steps_are,
      ),
)

-- ---- the whole script

-- the lines behind a user file print what the script does that has both
script_prints : {W : Type 0} (limits : Limits) (head first : List (List ℕ)) (file out : List ℕ) (core : CoreView) (a b : Script W)
    → AreFile head file → core.config ≡ record { users = users_of (lines_of file); limits = limits } → core.history ≡ [] → a.core ≡ core → a.labels ≡ []
    → LinesPrint a.core.config first (scene_of a) (scene_of b) out → ScriptPrints limits (head ++ first) out
script_prints limits head first file out core a b begins config history is labels prints =
    let scene : scene_of a ≡ record { history = []; started = [] } =
    ap (λ h. record { history = h; started = a.labels }) (ap (λ c. c.history) is ∙ history) ∙ ap (λ l. record { history = []; started = l }) labels in
    let users = ap (λ f. record { users = users_of (lines_of f); limits = limits }) (sym (begins first).0) in (
      scene_of b,
      subst (λ c. LinesPrint c (steps_of (head ++ first)) (record { history = []; started = [] }) (scene_of b) out) (ap (λ c. c.config) is ∙ config ∙ users)
          (subst (λ l. LinesPrint a.core.config l (record { history = []; started = [] }) (scene_of b) out) (sym (begins first).1)
          (subst (λ s. LinesPrint a.core.config first s (scene_of b) out) scene prints)),
    )

first_part : (lines first left : List (List ℕ)) (count : ℕ) → lines ≡ first ++ left → count ≡ length first → first ≡ take count lines
first_part lines first left count is so_many =
    sym (ap (λ k. take k lines) so_many ∙ ap (take (length first)) is ∙ take-append_seam first left)

-- what is run by how it ends
are_run : {T : Type 0} (outcome : Result T ScriptFault) (lines first left : List (List ℕ)) → lines ≡ first ++ left → EndsBehind (length first) left outcome → AreRun lines outcome first
are_run (Ok value) lines first left is ends = sym (is ∙ ap (λ l. first ++ l) ends ∙ append-nil first)
are_run (Err (Line number)) lines first left is ends = first_part lines first left _ is (ap (λ k. k - 1) ends ∙ add-sub_cancel (length first) 1)
are_run (Err (Users fault)) lines first left is ends = (length first, first_part lines first left _ is refl)
are_run (Err (Config field)) lines first left is ends = (length first, first_part lines first left _ is refl)
are_run (Err Read) lines first left is ends = (length first, first_part lines first left _ is refl)
are_run (Err Write) lines first left is ends = (length first, first_part lines first left _ is refl)
are_run (Err Memory) lines first left is ends = (length first, first_part lines first left _ is refl)

-- what a run writes behind a user file, where it is known
whole : {W T : Type 0} (outcome : Result T ScriptFault) (contents : W → Option (List ℕ)) (limits : Limits) (head lines others : List (List ℕ)) (file : List ℕ) (count : ℕ) (writer last : W) (core : CoreView) (a b : Script W)
    → lines ≡ head ++ others → count ≡ length head → AreFile head file
    → core.config ≡ record { users = users_of (lines_of file); limits = limits } → core.history ≡ [] → a.core ≡ core → a.labels ≡ []
    → Appends (contents writer) (written contents a.output) [] → Keeps (written contents b.output) (contents last)
    → ((first : List (List ℕ)) × (left : List (List ℕ)) × (others ≡ first ++ left) × EndsBehind (count + length first) left outcome × Prints contents (LinesPrint a.core.config first) a b)
    → (first : List (List ℕ)) × (out : List ℕ) × AreRun lines outcome first × ScriptPrints limits first out × Appends (contents writer) (contents last) out
whole outcome contents limits head lines others file count writer last core a b is counted begins config history made labels nothing kept (first, left, parts, ends, (out, appended, prints, same)) =
    let all : lines ≡ (head ++ first) ++ left = is ∙ ap (λ l. head ++ l) parts ∙ sym (append_assoc head first left) in
    let so_many : count + length first ≡ length (head ++ first) = ap (λ k. k + length first) counted ∙ sym (length-append head first) in (
      head ++ first,
      out,
      are_run outcome lines (head ++ first) left all (subst (λ k. EndsBehind k left outcome) so_many ends),
      script_prints limits head first file out core a b begins config history made labels prints,
      Appends-kept _ _ _ out (Appends-trans _ _ _ [] out nothing appended) kept,
    )

run_writes : {W T : Type 0} (outcome : Result T ScriptFault) (contents : W → Option (List ℕ)) (limits : Limits) (head lines others : List (List ℕ)) (file : List ℕ) (count : ℕ) (writer last : W) (core : CoreView) (a b : Script W)
    → lines ≡ head ++ others → count ≡ length head → AreFile head file
    → core.config ≡ record { users = users_of (lines_of file); limits = limits } → core.history ≡ [] → a.core ≡ core → a.labels ≡ []
    → Appends (contents writer) (written contents a.output) [] → Keeps (written contents b.output) (contents last)
    → RunPrints contents count others outcome a b → ScriptWrites limits lines outcome (contents writer) (contents last)
run_writes {T = T} (Ok value) contents limits head lines others file count writer last core a b is counted begins config history made labels nothing kept ran =
    whole {T = T} (Ok value) contents limits head lines others file count writer last core a b is counted begins config history made labels nothing kept ran
run_writes {T = T} (Err Write) contents limits head lines others file count writer last core a b is counted begins config history made labels nothing kept ran = tt
run_writes {T = T} (Err Memory) contents limits head lines others file count writer last core a b is counted begins config history made labels nothing kept ran = tt
run_writes {T = T} (Err Read) contents limits head lines others file count writer last core a b is counted begins config history made labels nothing kept ran =
    whole {T = T} (Err Read) contents limits head lines others file count writer last core a b is counted begins config history made labels nothing kept ran
run_writes {T = T} (Err (Line number)) contents limits head lines others file count writer last core a b is counted begins config history made labels nothing kept ran =
    whole {T = T} (Err (Line number)) contents limits head lines others file count writer last core a b is counted begins config history made labels nothing kept ran
run_writes {T = T} (Err (Users fault)) contents limits head lines others file count writer last core a b is counted begins config history made labels nothing kept ran =
    whole {T = T} (Err (Users fault)) contents limits head lines others file count writer last core a b is counted begins config history made labels nothing kept ran
run_writes {T = T} (Err (Config field)) contents limits head lines others file count writer last core a b is counted begins config history made labels nothing kept ran =
    whole {T = T} (Err (Config field)) contents limits head lines others file count writer last core a b is counted begins config history made labels nothing kept ran

-- nothing is said where the writer failed
writer_failed : (T : Type 0) (fault : LineFault) (limits : Limits) (lines : List (List ℕ)) (before after : Option (List ℕ))
    → IsOfWriter fault → ScriptWrites {T = T} limits lines (Err (of_line fault)) before after
writer_failed T NoRead limits lines before after of = absurd of
writer_failed T NoWrite limits lines before after of = tt
writer_failed T NoGrowth limits lines before after of = tt
writer_failed T (Bad number) limits lines before after of = absurd of

pub script_writes : {W T : Type 0} (contents : W → Option (List ℕ)) (limits : Limits) (file : List ℕ) (count more : ℕ) (given before after : Option (List ℕ)) (writer last : W) (core : CoreView) (a b : Script W) (outcome ended : Result T ScriptFault) (flushed : Result T LineFault)
    → Keeps given before → count ≡ 0 → FileIsRead [] file count more before after
    → core.config ≡ record { users = users_of (lines_of file); limits = limits } → core.history ≡ [] → a.core ≡ core → a.labels ≡ []
    → Appends (contents writer) (written contents a.output) []
    → IfSome after (λ rest. RunPrints contents more (lines_in rest) outcome a b)
    → OnOk flushed (Keeps (written contents b.output) (contents last)) → IfErr flushed IsOfWriter
    → MatchResult flushed (λ _. ended ≡ outcome) (λ fault. ended ≡ Err (of_line fault))
    → IfSome given (λ input. ScriptWrites limits (lines_in input) ended (contents writer) (contents last))
script_writes contents limits file count more None before after writer last core a b outcome ended flushed known none is_read config history made labels nothing ran kept of is = tt
script_writes contents limits file count more (Some input) None after writer last core a b outcome ended flushed known none is_read config history made labels nothing ran kept of is = absurd known
script_writes contents limits file count more (Some input) (Some bytes) None writer last core a b outcome ended flushed known none is_read config history made labels nothing ran kept of is = absurd is_read
script_writes {T = T} contents limits file count more (Some input) (Some bytes) (Some rest) writer last core a b outcome ended (Err fault) known none is_read config history made labels nothing ran kept of is =
    rw is (writer_failed T fault limits (lines_in input) (contents writer) (contents last) of)
script_writes contents limits file count more (Some input) (Some bytes) (Some rest) writer last core a b outcome ended (Ok value) known none (head, added, read, counted, added_is, begins) config history made labels nothing ran kept of is =
    rw is
    (run_writes outcome contents limits head (lines_in input) (lines_in rest) file more writer last core a b (ap lines_in (sym known) ∙ read)
    (counted ∙ ap (λ k. k + length head) none ∙ zero-add (length head)) (subst (AreFile head) (sym added_is) begins)
    config history made labels nothing kept ran)

pub ended_blames_no_users : {T : Type 0} (outcome ended : Result T ScriptFault) (flushed : Result T LineFault)
    → IfErr outcome (λ fault. is_users_memory fault ≡ false) → IfErr flushed IsOfWriter
    → MatchResult flushed (λ _. ended ≡ outcome) (λ fault. ended ≡ Err (of_line fault)) → IfErr ended (λ fault. is_users_memory fault ≡ false)
ended_blames_no_users outcome ended (Ok value) blamed of is = rw is blamed
ended_blames_no_users outcome ended (Err fault) blamed of is = rw is (blames_no_users (of_line fault) (of_output fault of))
