use Rattle.std.proofs.Common.{◌≡◌, drop, Some}
use Rattle.ipc_fields.specs.Field.{◌⊕◌, text, all_spelled}
use Rattle.ipc_fields.specs.Given.{Begins}
use Rattle.ipc_wire.proofs.answer_writing.put_each_name.Given as goal

-- what is written and what is to come are all, and it stands behind what stood there
abbrev pub invariant-loop-name : goal.invariant-loop-name
invariant-loop-name l = record {
  puts : (Some l.out.items ⊕ all_spelled text (drop l.name-index l.names)) ≡ (Some l.fn.out.items ⊕ all_spelled text l.names);
  begins : Begins l.fn.out.items l.out.items;
}
