use Rattle.std.proofs.Common.{◌≡◌, drop, Some}
use Rattle.ipc_fields.specs.Field.{◌⊕◌, all_spelled}
use Rattle.ipc_wire.specs.Answers.{line_field}
use Rattle.ipc_fields.specs.Given.{Begins}
use Rattle.ipc_wire.proofs.answer_writing.put_each_line.Given as goal

-- what is written and what is to come are all, and it stands behind what stood there
abbrev pub invariant-loop-line : goal.invariant-loop-line
invariant-loop-line l = record {
  puts : (Some l.out.items ⊕ all_spelled line_field (drop l.line-index l.lines)) ≡ (Some l.fn.out.items ⊕ all_spelled line_field l.lines);
  begins : Begins l.fn.out.items l.out.items;
}
