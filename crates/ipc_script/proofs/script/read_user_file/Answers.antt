use Rattle.std.proofs.Common.{rules}
use Rattle.ipc_script.proofs.RunLemmas.{file_ends, more_file, no_file}
use Rattle.ipc_script.proofs.script.read_user_file.Goals as goal

pub loop-init : goal.loop-init
loop-init g c = no_file _ _ _

pub returns-then-eq-clause-read : goal.returns-then-eq-clause-read
returns-then-eq-clause-read g c =
    file_ends _ _ _ _ _ _ _ _ _ c.loop.invariant (rw c.if-not-branch.false at c.in_ok-read_next.ensures.counted)
    (rw c.if-not-branch.false at c.in_ok-read_next.ensures.next) (search rules)

pub loop-preserved : goal.loop-preserved
loop-preserved g c =
    more_file _ _ _ _ _ _ _ _ _ _ c.loop.invariant (rw c.if-not-branch.false at c.in_ok-read_next.ensures.counted)
    (rw c.if-not-branch.false at c.in_ok-read_next.ensures.next) (search rules) (search rules)
