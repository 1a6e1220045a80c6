use Rattle.ipc_policy.proofs.Fates.Bringing.{answers_delivered}
use Rattle.ipc_policy.proofs.Fates.Delivering.{delivery_confined, delivered_once}
use Rattle.ipc_policy.proofs.Holdings.Leading.{lead_is_whole}
use Rattle.ipc_policy.proofs.messages.confined.Goals as goal

pub returns-clause-answers : goal.returns-clause-answers
returns-clause-answers g = answers_delivered

pub returns-clause-deliveries : goal.returns-clause-deliveries
returns-clause-deliveries g = delivery_confined

pub returns-clause-sends : goal.returns-clause-sends
returns-clause-sends g = delivered_once

pub returns-clause-gives : goal.returns-clause-gives
returns-clause-gives g = lead_is_whole
