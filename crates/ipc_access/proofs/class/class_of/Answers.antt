use Rattle.std.proofs.Common.{rules, tests}
use Rattle.ipc_access.proofs.class.class_of.Goals as goal

pub returns-then-cred-owner : goal.returns-then-cred-owner
returns-then-cred-owner c = search (tests, rules)

pub returns-then-is_in : goal.returns-then-is_in
returns-then-is_in c = search (tests, rules)

pub returns-else-is_in : goal.returns-else-is_in
returns-else-is_in c = search (tests, rules)
