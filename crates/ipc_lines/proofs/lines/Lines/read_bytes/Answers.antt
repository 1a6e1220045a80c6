use Rattle.std.proofs.Common.{rules, refl}
use Rattle.ipc_lines.proofs.LineLemmas.{fed_line, last_line, no_run, run_longer}
use Rattle.ipc_lines.proofs.lines.Lines.read_bytes.Goals as goal

pub returns-in-Fed-clause-read : goal.returns-in-Fed-clause-read
returns-in-Fed-clause-read g c = fed_line _ _ _ _ _ c.loop.invariant.run (rw c.in-Fed.is at c.in_ok-read_piece.ensures.read)

pub returns-in-Last-clause-read : goal.returns-in-Last-clause-read
returns-in-Last-clause-read g c = last_line _ _ _ _ _ c.loop.invariant.run (rw c.in-Last.is at c.in_ok-read_piece.ensures.read)

pub loop-init : goal.loop-init
loop-init g c = record { count = refl; run = rw c.clear.ensures.items (no_run _) }

pub loop-preserved : goal.loop-preserved
loop-preserved g c = record {
  count = search rules;
  run = run_longer _ _ _ _ _ c.loop.invariant.run (rw c.in-Open.is at c.in_ok-read_piece.ensures.read);
}
