use Rattle.std.proofs.Common.{rules}
use Rattle.ipc_access.proofs.removal.may_remove.Goals as goal

pub returns-then-cred-owner : goal.returns-then-cred-owner
returns-then-cred-owner c = search rules

pub returns-else-cred-owner : goal.returns-else-cred-owner
returns-else-cred-owner c = search rules
