use Rattle.std.proofs.Common.{◌≡◌, drop, Some}
use Rattle.ipc_fields.specs.Field.{◌⊕◌, all_spelled}
use Rattle.ipc_fields.specs.Given.{Begins}
use Rattle.ipc_hub.specs.Hub.{spell_answers}
use Rattle.ipc_hub.proofs.FrameLists.{frame_field}
use Rattle.ipc_hub.proofs.spelling.write_answers.Given as goal

-- what is written and what is to come are all, behind what stood in the buffer
abbrev pub invariant-loop-answer : goal.invariant-loop-answer
invariant-loop-answer l = record {
  spelled : (Some l.out.items ⊕ all_spelled frame_field (drop l.answer-index l.answers)) ≡ (Some l.fn.out.items ⊕ spell_answers l.answers);
  begins : Begins l.fn.out.items l.out.items;
}
