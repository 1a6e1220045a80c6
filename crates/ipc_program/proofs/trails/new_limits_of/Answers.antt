use Rattle.std.proofs.Common.{rules, tests}
use Rattle.ipc_program.proofs.trails.new_limits_of.Goals as goal

pub returns-in_err-optional_count-2 : goal.returns-in_err-optional_count-2
returns-in_err-optional_count-2 c = search (tests, rules)

pub returns-in_err-optional_count-3 : goal.returns-in_err-optional_count-3
returns-in_err-optional_count-3 c = search (tests, rules)

pub returns : goal.returns
returns c = search (tests, rules)
