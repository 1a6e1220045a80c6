use Rattle.ipc_policy.proofs.Histories.Refused.{same_values}
use Rattle.ipc_policy.proofs.Queues.Queueing.{refused_answered}
use Rattle.ipc_policy.proofs.laws.quiet.Goals as goal

pub returns-clause-values : goal.returns-clause-values
returns-clause-values g = same_values

pub returns-clause-answers : goal.returns-clause-answers
returns-clause-answers g = refused_answered
