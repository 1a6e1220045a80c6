use Rattle.std.proofs.Common.{rules}
use Rattle.ipc_lines.proofs.LineLemmas.{fed_next, none_next, none_over, unfed_next}
use Rattle.ipc_lines.proofs.lines.Lines.read_next.Goals.{else-self-3-via-then-self-3+else-is_empty, else-self-3-via-else-self-3}
use Rattle.ipc_lines.proofs.lines.Lines.read_next.Goals as goal

pub returns-then-self-clause-next : goal.returns-then-self-clause-next
returns-then-self-clause-next g c = none_over _ _ _ c.if-self.true

pub returns-then-is_empty-clause-next : goal.returns-then-is_empty-clause-next
returns-then-is_empty-clause-next g c = none_next _ _ _ _ _ _ c.if-self.false (search rules) (search rules) c.in_ok-is_fed.ensures.read

pub returns-clause-next : goal.returns-clause-next
returns-clause-next g c = elim c.else-self-3.branch [
  | else-self-3-via-then-self-3+else-is_empty w ↦ unfed_next _ _ _ _ _ c.if-self.false (search rules) (search rules) (search rules) c.in_ok-is_fed.ensures.read
  | else-self-3-via-else-self-3 w ↦ fed_next _ _ _ _ _ c.if-self.false (search rules) c.in_ok-is_fed.ensures.read
]
