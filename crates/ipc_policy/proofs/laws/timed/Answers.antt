use Rattle.ipc_policy.proofs.Outcomes.Answering.{counts_as_plain, each_would_park}
use Rattle.ipc_policy.proofs.laws.timed.Goals as goal

pub returns-clause-plain : goal.returns-clause-plain
returns-clause-plain g = counts_as_plain

pub returns-clause-parks : goal.returns-clause-parks
returns-clause-parks g = each_would_park
