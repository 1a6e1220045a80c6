-- What is printed one behind the other.
use Rattle.std.proofs.Common.{◌≡◌, ◌∙◌, ℕ, ◌+◌, ◌<◌, List, [], ◌∷◌, ◌++◌, length, take, get_or, Option, append_assoc, append-nil, ap, subst, sym, refl}
use Rattle.std.specs.Io.KnownBytes.{Appends, Keeps}
use Rattle.std.specs.Prelude.{Ok}
use Rattle.std.specs.String.{string_bytes}
use Rattle.std.proofs.lemmas.List.{map-append, take_more}
use Rattle.std.proofs.KnownBytes.{Appends-kept, Appends-trans}
use Rattle.ipc_lines.specs.Lines.{written}
use Rattle.ipc_lines.specs.declared.output.Output.{Output}
use Rattle.ipc_terms.specs.declared.call.Answer.{Answer}
use Rattle.ipc_terms.specs.declared.ids.Sid.{Sid}
use Rattle.ipc_terms.specs.declared.record.Event.{Event}
use Rattle.ipc_core.specs.CoreView.{CoreView}
use Rattle.ipc_policy.specs.declared.config.Config.{Config}
use Rattle.ipc_policy.specs.Decides.Verdict.{after_event, answers}
use Rattle.ipc_script.specs.Labels.{label_for}
use Rattle.ipc_script.specs.Printing.{LinePrints, LinesPrint, Scene, StepPrints, answer_lines, labelled_line, with_start, with_starts}
use Rattle.ipc_script.specs.Running.{AreWritten, Prints, scene_of}
use Rattle.ipc_script.specs.Told.{to_session}
use Rattle.ipc_script.specs.declared.labels.Started.{Started}
use Rattle.ipc_script.specs.declared.script.Script.{Script}

-- what holds of bytes that are printed holds of a weaker saying
pub prints_so : {W : Type 0} (contents : W → Option (List ℕ)) (P Q : Scene → Scene → List ℕ → Type 0) (a b : Script W)
    → ((x y : Scene) (o : List ℕ) → P x y o → Q x y o) → Prints contents P a b → Prints contents Q a b
prints_so contents P Q a b weaker (out, appended, holds, same) = (out, appended, weaker (scene_of a) (scene_of b) out holds, same)

-- and of two that are printed one behind the other
pub prints_then : {W : Type 0} (contents : W → Option (List ℕ)) (P Q R : Scene → Scene → List ℕ → Type 0) (a b d : Script W)
    → ((x y z : Scene) (o m : List ℕ) → P x y o → Q y z m → R x z (o ++ m)) → Prints contents P a b → Prints contents Q b d → Prints contents R a d
prints_then contents P Q R a b d joins (out, appended, p, same) (more, grown, q, still) =
    (out ++ more, Appends-trans _ _ _ out more appended grown, joins (scene_of a) (scene_of b) (scene_of d) out more p q, still ∙ same)

-- ---- answers

lines_more_told : (started : List Started) (label : List ℕ) (told more : List (Sid × Answer))
    → answer_lines started label (told ++ more) ≡ answer_lines started label told ++ answer_lines (with_starts started label told) label more
lines_more_told started label [] more = refl
lines_more_told started label (q ∷ told) more =
    let now = with_start started label q.1 in
    let first = labelled_line (label_for now label q.0) q.1 in
    ap (λ l. first ++ l) (lines_more_told now label told more)
    ∙ sym (append_assoc first (answer_lines now label told) (answer_lines (with_starts now label told) label more))

starts_more_told : (started : List Started) (label : List ℕ) (told more : List (Sid × Answer))
    → with_starts started label (told ++ more) ≡ with_starts (with_starts started label told) label more
starts_more_told started label [] more = refl
starts_more_told started label (q ∷ told) more = starts_more_told (with_start started label q.1) label told more

pub written_more : (label : List ℕ) (told more : List (Sid × Answer)) (x y z : Scene) (o m : List ℕ)
    → AreWritten label told x y o → AreWritten label more y z m → AreWritten label (told ++ more) x z (o ++ m)
written_more label told more x y z o m (scene, lines) (later, others) =
    let started = ap (λ s. s.started) scene in
    let history = ap (λ s. s.history) scene in (
      later
          ∙ ap (λ h. record { history = h; started = with_starts y.started label more }) history
          ∙ ap (λ s. record { history = x.history; started = s }) (ap (λ s. with_starts s label more) started ∙ sym (starts_more_told x.started label told more)),
      ap (λ l. l ++ m) lines
          ∙ ap (λ l. answer_lines x.started label told ++ l) (others ∙ ap (λ s. answer_lines s label more) started)
          ∙ sym (lines_more_told x.started label told more),
    )

-- one answer more to a session, behind those before it
pub written_next : {W : Type 0} (contents : W → Option (List ℕ)) (label : List ℕ) (sid : Sid) (told : List Answer) (i : ℕ) (answer : Answer) (a b d : Script W)
    → i < length told → answer ≡ get_or told i answer → Prints contents (AreWritten label (to_session sid (take i told))) a b
    → Prints contents (AreWritten label ((sid, answer) ∷ [])) b d → Prints contents (AreWritten label (to_session sid (take (i + 1) told))) a d
written_next contents label sid told i answer a b d within at first second =
    let one_more : take (i + 1) told ≡ take i told ++ answer ∷ [] = take_more told i answer within ∙ ap (λ l. take i told ++ l ∷ []) (sym at) in
    let more : to_session sid (take (i + 1) told) ≡ to_session sid (take i told) ++ (sid, answer) ∷ [] =
    ap (to_session sid) one_more ∙ map-append (λ l. (sid, l)) (take i told) (answer ∷ []) in
    rw more (prints_then contents (AreWritten label (to_session sid (take i told))) (AreWritten label ((sid, answer) ∷ []))
    (AreWritten label (to_session sid (take i told) ++ (sid, answer) ∷ [])) a b d (written_more label (to_session sid (take i told)) ((sid, answer) ∷ [])) first second)

-- what is told of a step is printed
pub step_prints : {W : Type 0} (contents : W → Option (List ℕ)) (label : List ℕ) (event : Event) (told : List (Sid × Answer)) (core : CoreView) (a d : Script W)
    → told ≡ answers a.core.config a.core.history event → core.history ≡ after_event a.core.config a.core.history event → core.config ≡ a.core.config
    → Prints contents (AreWritten label told) (record a { core = core }) d
    → Prints contents (λ x y o. StepPrints a.core.config label x (Ok event) y o) a d
step_prints contents label event told core a d is recorded config (out, appended, (scene, lines), same) = (
  out,
  appended,
  (
    scene
        ∙ ap (λ h. record { history = h; started = with_starts a.labels label told }) recorded
        ∙ ap (λ t. record { history = after_event a.core.config a.core.history event; started = with_starts a.labels label t }) is,
    lines ∙ ap (answer_lines a.labels label) is,
  ),
  same ∙ config,
)

-- the scene, the configuration and the output after each part of the writing of one answer
pub written_one : {W : Type 0} (contents : W → Option (List ℕ)) (label : List ℕ) (sid : Sid) (answer : Answer) (a b d e : Script W)
    → b.labels ≡ with_start a.labels label answer → (b.core ≡ a.core) × (b.output ≡ a.output)
    → string_bytes d.line ≡ labelled_line (label_for b.labels label sid) answer → (d.core ≡ b.core) × (d.labels ≡ b.labels) × (d.output ≡ b.output)
    → Appends (written contents d.output) (written contents e.output) (string_bytes d.line) → (e.core ≡ d.core) × (e.labels ≡ d.labels)
    → Prints contents (AreWritten label ((sid, answer) ∷ [])) a e
written_one contents label sid answer a b d e started (b_core, b_output) line (d_core, d_labels, d_output) appended (e_core, e_labels) =
    let core = e_core ∙ d_core ∙ b_core in
    let labels = e_labels ∙ d_labels ∙ started in (
      string_bytes d.line,
      subst (λ o. Appends (written contents o) (written contents e.output) (string_bytes d.line)) (d_output ∙ b_output) appended,
      (
        ap (λ c. record { history = c.history; started = e.labels }) core ∙ ap (λ s. record { history = a.core.history; started = s }) labels,
        line ∙ ap (λ s. labelled_line (label_for s label sid) answer) started ∙ sym (append-nil _),
      ),
      ap (λ c. c.config) core,
    )

-- ---- lines

pub no_lines : (c : Config) (x : Scene) → LinesPrint c [] x x []
unfolding LinesPrint
no_lines c x = (refl, refl)

pub lines_more : (c : Config) (lines : List (List ℕ)) (line : List ℕ) (x y z : Scene) (o m : List ℕ)
    → LinesPrint c lines x y o → LinePrints c line y z m → LinesPrint c (lines ++ line ∷ []) x z (o ++ m)
unfolding LinesPrint
lines_more c [] line x y z o m (same, none) prints = (
  z,
  m,
  [],
  subst (λ s. LinePrints c line s z m) same prints,
  (refl, refl),
  ap (λ l. l ++ m) none ∙ sym (append-nil m),
)
lines_more c (first ∷ lines) line x y z o m (between, one, others, prints, follow, is) last = (
  between,
  one,
  others ++ m,
  prints,
  lines_more c lines line between y z others m follow last,
  ap (λ l. l ++ m) is ∙ append_assoc one others m,
)

-- the output was written out between
pub prints_kept : {W : Type 0} (contents : W → Option (List ℕ)) (P : Scene → Scene → List ℕ → Type 0) (a b : Script W) (output : Output W)
    → Prints contents P a b → Keeps (written contents b.output) (written contents output) → Prints contents P a (record b { output = output })
prints_kept contents P a b output (out, appended, holds, same) kept = (out, Appends-kept _ _ _ out appended kept, holds, same)
