use Rattle.std.proofs.Common.{rules, tests}
use Rattle.ipc_core.proofs.answer.post_answers.Goals as goal

pub returns-in-Some : goal.returns-in-Some
returns-in-Some c = search (tests, rules)

pub returns-in-None : goal.returns-in-None
returns-in-None c = search (tests, rules)
