use Rattle.ipc_lines.proofs.OutputLemmas.{kept_where_flushed}
use Rattle.ipc_lines.proofs.output.Output.finish.Goals as goal

pub returns-clause-kept : goal.returns-clause-kept
returns-clause-kept g c =
    rw c.into_parts-writer.ensures.inner
    (kept_where_flushed c.flush-outcome.result _ _ _ c.flush-outcome.ensures.emptied c.flush-outcome.ensures.kept)
