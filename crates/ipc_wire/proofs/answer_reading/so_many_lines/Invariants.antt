use Rattle.std.proofs.Common.{◌≡◌, ◌-◌}
use Rattle.ipc_fields.specs.Field.{so_many}
use Rattle.ipc_wire.specs.Answers.{line_field}
use Rattle.ipc_fields.proofs.Many.{with_front}
use Rattle.ipc_wire.proofs.answer_reading.so_many_lines.Given as goal

-- the lines so far and those to come are all
abbrev pub invariant-loop : goal.invariant-loop
invariant-loop l = with_front l.lines.items (so_many line_field (l.count - l.counter) l.rest) ≡ so_many line_field l.count l.bytes
