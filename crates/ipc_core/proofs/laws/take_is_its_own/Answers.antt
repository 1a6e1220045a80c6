use Rattle.ipc_core.proofs.BoxSteps.{taken_here, taken_elsewhere}
use Rattle.ipc_core.proofs.laws.take_is_its_own.Goals as goal

pub returns-clause-own : goal.returns-clause-own
returns-clause-own c = taken_here

pub returns-clause-others : goal.returns-clause-others
returns-clause-others c = taken_elsewhere
