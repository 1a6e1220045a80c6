-- A page: families, and the samples of each.
use Rattle.std.specs.Prelude.{ℕ, ◌/◌, ◌%◌, List, ◌++◌, flat_map, slice_index, codes}
use Rattle.std.specs.Fmt.{decimal}
use Rattle.ipc_terms.specs.Rules.{every_rule, error_word, name_word, number_of}
use Rattle.ipc_terms.specs.declared.rule.Rule.{Rule}
use Rattle.ipc_metrics.specs.Families.{Family, families, kind_word}
use Rattle.ipc_metrics.specs.declared.families.Samples.{Samples}
use Rattle.ipc_metrics.specs.declared.families.Samples.TheVariants.{Sessions, Connections, Objects, Messages, MessageBytes, ChargedBytes, Kept, KeptBytes, Recorded, Accepted, Refused, Rounds, ProcessorSeconds, Resident}
use Rattle.ipc_metrics.specs.declared.numbers.Numbers.{Numbers}

-- a sample: a name, with or without labels, and a value
abbrev pub sample : List ℕ → ℕ → List ℕ
sample name value = name ++ codes " " ++ decimal value ++ codes "\n"

-- a sample whose name has labels
abbrev pub labelled : List ℕ → List ℕ → ℕ → List ℕ
labelled name labels value = name ++ codes "{" ++ labels ++ codes "} " ++ decimal value ++ codes "\n"

-- a label that isn't the first
unfoldable pub label : List ℕ → List ℕ → List ℕ
label word value = codes "," ++ word ++ codes "=\"" ++ value ++ codes "\""

-- the events that a rule refused
unfoldable pub refusal_text : Numbers → List ℕ → Rule → List ℕ
refusal_text numbers name rule =
    name ++ codes "{rule=\"" ++ decimal (number_of rule) ++ codes "\"" ++ label (codes "name") (name_word rule) ++ label (codes "error") (error_word rule)
    ++ codes "} " ++ decimal (slice_index numbers.verdicts (number_of rule)) ++ codes "\n"

-- those that each rule refused
unfoldable pub refusals_text : Numbers → List ℕ → List ℕ
refusals_text numbers name = flat_map (refusal_text numbers name) every_rule

-- hundredths of a second, in seconds with two digits behind the point
abbrev pub seconds_text : ℕ → List ℕ
seconds_text ticks = codes " " ++ decimal (ticks / 100) ++ codes "." ++ decimal (ticks / 10 % 10) ++ decimal (ticks % 10) ++ codes "\n"

-- the samples of a family under its name
abbrev pub samples_text : Numbers → Samples → List ℕ → List ℕ
samples_text numbers Sessions name = sample name numbers.sessions
samples_text numbers Connections name = sample name numbers.connections
samples_text numbers Objects name =
    labelled name (codes "family=\"mq\"") numbers.queues ++ labelled name (codes "family=\"sem\"") numbers.semaphores
samples_text numbers Messages name = sample name numbers.messages
samples_text numbers MessageBytes name = sample name numbers.message_bytes
samples_text numbers ChargedBytes name = sample name numbers.charged_bytes
samples_text numbers Kept name = sample name numbers.kept
samples_text numbers KeptBytes name = sample name numbers.kept_bytes
samples_text numbers Recorded name = sample name numbers.recorded
samples_text numbers Accepted name = sample name (slice_index numbers.verdicts 0)
samples_text numbers Refused name = refusals_text numbers name
samples_text numbers Rounds name = sample name numbers.rounds
samples_text numbers ProcessorSeconds name = name ++ seconds_text numbers.processor_ticks
samples_text numbers Resident name = sample name numbers.resident

-- what a family's help or its kind is told by
unfoldable pub comment : List ℕ → List ℕ → List ℕ → List ℕ
comment word name told = codes "# " ++ word ++ codes " " ++ name ++ codes " " ++ told ++ codes "\n"

-- a family: its help, its kind, and its samples
unfoldable pub family_text : Numbers → Family → List ℕ
family_text numbers f =
    comment (codes "HELP") f.name f.help ++ comment (codes "TYPE") f.name (kind_word f.kind) ++ samples_text numbers f.samples f.name

-- the page: every family
abbrev pub page_text : Numbers → List ℕ
page_text numbers = flat_map (family_text numbers) families
