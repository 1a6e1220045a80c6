use Rattle.ipc_metrics.proofs.ProcessLemmas.{behind_last}
use Rattle.ipc_metrics.proofs.process.behind_bracket.Goals as goal

pub returns-in-Some : goal.returns-in-Some
returns-in-Some c = behind_last c.args.text.now c.in-Some.field-0-0.now c.in-Some.behind.now c.in-Some.ensures.cases
