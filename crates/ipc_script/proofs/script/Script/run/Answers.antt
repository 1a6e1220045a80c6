use Rattle.std.proofs.Common.{◌≡◌, Err, rules}
use Rattle.ipc_script.proofs.RunLemmas.{more_so_far, none_so_far, run_ends, run_fails, run_stops}
use Rattle.ipc_script.specs.Faults.{of_line}
use Rattle.ipc_script.proofs.script.Script.run.Goals as goal

pub loop-init : goal.loop-init
loop-init g c = none_so_far g.W.Write.contents _ _ c.args.self.now

pub loop-preserved : goal.loop-preserved
loop-preserved g c =
    more_so_far g.W.Write.contents _ _ _ _ _ _ _ c.args.self.now c.loop.self c.take_line.new.self c.read_next_after.new.output
    c.loop.invariant (rw c.if-not-branch.false at c.in_ok-read_next_after.ensures.counted)
    (rw c.if-not-branch.false at c.in_ok-read_next_after.ensures.next)
    c.read_next_after.ensures.kept (rw c.in_ok-line.ensures.text at c.in_ok-take_line.ensures.prints)

pub returns-then-not-branch-clause-prints : goal.returns-then-not-branch-clause-prints
returns-then-not-branch-clause-prints g c =
    run_ends g.W.Write.contents _ _ _ _ _ c.args.self.now c.loop.self c.read_next_after.new.output
    c.loop.invariant (rw c.if-not-branch.true at c.in_ok-read_next_after.ensures.next) c.read_next_after.ensures.kept

pub returns-in_err-read_next_after-clause-prints : goal.returns-in_err-read_next_after-clause-prints
returns-in_err-read_next_after-clause-prints g c =
    let fault = c.in_err-read_next_after.field-0.0 in
    let told : c.from_residual.result ≡ Err (of_line fault) = search rules in
    rw told
    (run_fails g.W.Write.contents fault _ _ _ _ c.args.self.now c.loop.self c.read_next_after.new.output
    c.loop.invariant (search rules) c.read_next_after.ensures.kept)

pub returns-in_err-line-clause-prints : goal.returns-in_err-line-clause-prints
returns-in_err-line-clause-prints g c =
    let fault = c.in_err-line.field-0.0 in
    let told : c.from_residual-in_err-line.result ≡ Err (of_line fault) = search rules in
    rw told
    (run_fails g.W.Write.contents fault _ _ _ _ c.args.self.now c.loop.self c.read_next_after.new.output
    c.loop.invariant (rw c.in_err-line.ensures.blamed (rw c.if-not-branch.false at c.in_ok-read_next_after.ensures.counted)) c.read_next_after.ensures.kept)

pub returns-clause-prints : goal.returns-clause-prints
returns-clause-prints g c = run_stops g.W.Write.contents _ _ _ _ c.args.self.now c.loop.self c.loop.invariant
