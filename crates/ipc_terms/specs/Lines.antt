-- What the audit shows of each record.
use Rattle.std.specs.Prelude.{Bool, ℕ, ◌==◌, List, [], ◌∷◌, ◌++◌, length, take, Option, Some, None, unwrap_or}
use Rattle.std.specs.Cmp.Lexicographic.{pointwise}
use Rattle.std.specs.Ordering.{on, eq_of_both}
use Rattle.ipc_terms.specs.Rules.{number_of}
use Rattle.ipc_terms.specs.Events.{caller}
use Rattle.ipc_terms.specs.Ops.{hello_number, hang_up_number, tick_number, call_number, call_op}
use Rattle.ipc_terms.specs.History.{History}
use Rattle.ipc_terms.specs.declared.ids.Target.TheVariants.{Name}
use Rattle.ipc_terms.specs.declared.line.Line.{Line}
use Rattle.ipc_terms.specs.declared.rule.Rule.{Rule}
use Rattle.ipc_terms.specs.declared.call.Call.{Call}
use Rattle.ipc_terms.specs.declared.call.Call.TheVariants.{MqOpen, MqUnlink, SemOpen, SemUnlink, StatName, Chmod, Chown}
use Rattle.ipc_terms.specs.declared.record.Event.{Event}
use Rattle.ipc_terms.specs.declared.record.Event.TheVariants.{Hello, Do, Hangup, Tick}
use Rattle.ipc_terms.specs.declared.record.Record.{Record}

-- the number of a call, as its frames carry it
abbrev pub op_of : Call → ℕ
op_of call = call_number (call_op call)

-- the number of an event
abbrev pub event_op : Event → ℕ
event_op (Hello found) = hello_number
event_op (Do sid call) = op_of call
event_op (Hangup sid) = hang_up_number
event_op (Tick moment) = tick_number

-- the name that a call names, if it names one
abbrev pub name_of : Call → Option (List ℕ)
name_of (MqOpen asked) = Some asked.name
name_of (MqUnlink name) = Some name
name_of (SemOpen asked) = Some asked.name
name_of (SemUnlink name) = Some name
name_of (StatName (Name family name)) = Some name
name_of (Chmod mode (Name family name)) = Some name
name_of (Chown owner group (Name family name)) = Some name
name_of _ = None

-- the name that an event names, if it is a call that names one
abbrev pub event_name : Event → Option (List ℕ)
event_name (Do sid call) = name_of call
event_name _ = None

-- the number of a refusal, or 0
abbrev pub rule_number : Option Rule → ℕ
rule_number None = 0
rule_number (Some rule) = number_of rule

-- what the audit shows of the record of a place: the first 256 bytes of its name, if it has one
abbrev pub line_of : ℕ → Record → Line
line_of place r = record { place = place; sid = caller r.event; op = event_op r.event; rule = rule_number r.rule; name = take 256 (unwrap_or (event_name r.event) []) }

-- the lines of a history, the oldest first
abbrev pub lines : History → List Line
lines [] = []
lines (r ∷ before) = lines before ++ line_of (length before) r ∷ []

-- whether both are the same line
abbrev pub same_line : Line → Line → Bool
same_line =
    eq_of_both (on (λ (l : Line). l.place) ◌==◌)
    (eq_of_both (on (λ (l : Line). l.sid.0) ◌==◌)
    (eq_of_both (on (λ (l : Line). l.op) ◌==◌)
    (eq_of_both (on (λ (l : Line). l.rule) ◌==◌) (on (λ (l : Line). l.name) (pointwise ◌==◌)))))
