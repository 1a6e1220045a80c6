use Rattle.ipc_policy.proofs.Holdings.HeldRights.{held_outlives, held_handed_over, rights_by_description}
use Rattle.ipc_policy.proofs.laws.rights.Goals as goal

pub returns-clause-outlive : goal.returns-clause-outlive
returns-clause-outlive g = held_outlives

pub returns-clause-handed_over : goal.returns-clause-handed_over
returns-clause-handed_over g = held_handed_over

pub returns-clause-by_description : goal.returns-clause-by_description
returns-clause-by_description g = rights_by_description
