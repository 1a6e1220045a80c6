use Rattle.ipc_policy.proofs.Directories.NameLengths.{bound_short}
use Rattle.ipc_policy.proofs.Outcomes.MessageSizes.{messages_fit, deliveries_fit, size_in_range}
use Rattle.ipc_policy.proofs.Outcomes.AnswerSizes.{answers_small, outbox_small}
use Rattle.ipc_policy.proofs.laws.sized.Goals as goal

pub returns-clause-names : goal.returns-clause-names
returns-clause-names g = bound_short

pub returns-clause-messages : goal.returns-clause-messages
returns-clause-messages g = messages_fit

pub returns-clause-deliveries : goal.returns-clause-deliveries
returns-clause-deliveries g = deliveries_fit

pub returns-clause-sizes : goal.returns-clause-sizes
returns-clause-sizes g = size_in_range

pub returns-clause-answers : goal.returns-clause-answers
returns-clause-answers g = answers_small

pub returns-clause-outboxes : goal.returns-clause-outboxes
returns-clause-outboxes g = outbox_small
