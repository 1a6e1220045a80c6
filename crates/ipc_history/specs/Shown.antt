-- What is shown of a record, and of the answers that it gave.
use Rattle.std.specs.Prelude.{ℕ, List, [], ◌++◌, Option, Some, None, codes}
use Rattle.std.specs.Fmt.{decimal}
use Rattle.ipc_terms.specs.Lines.{line_of}
use Rattle.ipc_terms.specs.Timed.{deadline_of}
use Rattle.ipc_terms.specs.declared.call.Answer.{Answer}
use Rattle.ipc_terms.specs.declared.record.Event.{Event}
use Rattle.ipc_terms.specs.declared.record.Event.TheVariants.{Hello, Do, Hangup, Tick}
use Rattle.ipc_terms.specs.declared.record.Record.{Record}
use Rattle.ipc_words.specs.Answers.{◌⦂◌, answer_line, line_text}

abbrev pub deadline_text : Option ℕ → List ℕ
deadline_text None = []
deadline_text (Some deadline) = codes " deadline=" ++ decimal deadline

-- what an audit leaves out: whom a hello was found to be, a tick's moment, a timed call's deadline
abbrev pub rest_text : Event → List ℕ
rest_text (Hello None) = codes " found=-"
rest_text (Hello (Some user)) = codes " found=" ++ decimal user.0
rest_text (Tick moment) = codes " moment=" ++ decimal moment
rest_text (Do sid call) = deadline_text (deadline_of call)
rest_text (Hangup sid) = []

-- a record by its place: its line in an audit, and this
abbrev pub record_text : ℕ → Record → List ℕ
record_text place r = line_text (line_of place r) ++ rest_text r.event

-- an answer by the place of the record that gave it
abbrev pub answer_text : ℕ → Answer → List ℕ
answer_text place answer = decimal place ⦂ answer_line answer

-- an audit's answer by that place: how many lines it showed, and from which place on, without the lines
abbrev pub page_text : ℕ → ℕ → ℕ → List ℕ
page_text place start shown = decimal place ++ codes ":records " ++ decimal shown ++ codes " from " ++ decimal start
