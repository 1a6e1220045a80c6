use Rattle.ipc_policy.proofs.Outcomes.Answering.{call_answered, parking_unanswered, hello_answered, hangup_unanswered, refusal_answered, ticks_answered}
use Rattle.ipc_policy.proofs.laws.answered.Goals as goal

pub returns-clause-calls : goal.returns-clause-calls
returns-clause-calls g = call_answered

pub returns-clause-parking : goal.returns-clause-parking
returns-clause-parking g = parking_unanswered

pub returns-clause-hellos : goal.returns-clause-hellos
returns-clause-hellos g = hello_answered

pub returns-clause-hangups : goal.returns-clause-hangups
returns-clause-hangups g = hangup_unanswered

pub returns-clause-refusals : goal.returns-clause-refusals
returns-clause-refusals g = refusal_answered

pub returns-clause-ticks : goal.returns-clause-ticks
returns-clause-ticks g = ticks_answered
