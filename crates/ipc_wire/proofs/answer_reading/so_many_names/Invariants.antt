use Rattle.std.proofs.Common.{◌≡◌, ◌-◌}
use Rattle.ipc_fields.specs.Field.{text, so_many}
use Rattle.ipc_fields.proofs.Many.{with_front}
use Rattle.ipc_wire.proofs.answer_reading.so_many_names.Given as goal

-- the names so far and those to come are all
abbrev pub invariant-loop : goal.invariant-loop
invariant-loop l = with_front l.names.items (so_many text (l.count - l.counter) l.rest) ≡ so_many text l.count l.bytes
