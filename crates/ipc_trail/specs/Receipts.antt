-- What a receipt says of a record, and the lines of records that follow one another.
use Rattle.std.specs.Prelude.{ℕ, ◌+◌, List, [], ◌∷◌}
use Rattle.ipc_terms.specs.Lines.{line_of}
use Rattle.ipc_terms.specs.declared.line.Line.{Line}
use Rattle.ipc_terms.specs.declared.record.Record.{Record}
use Rattle.ipc_trail.specs.declared.audit.Receipt.{Receipt}

-- what a line says, but for the name
abbrev pub receipt_of : Line → Receipt
receipt_of line = record { place = line.place; sid = line.sid; op = line.op; rule = line.rule }

-- the lines of records that follow one another from this place on, the oldest first
abbrev pub lines_from : ℕ → List Record → List Line
lines_from place [] = []
lines_from place (r ∷ rs) = line_of place r ∷ lines_from (place + 1) rs
