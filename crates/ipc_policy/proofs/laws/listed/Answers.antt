use Rattle.ipc_policy.proofs.Histories.Known.{bound_iff}
use Rattle.ipc_policy.proofs.Directories.Listing.{listed_is_bound}
use Rattle.ipc_policy.proofs.Directories.NamesBound.{named_is_bound, names_differ}
use Rattle.ipc_policy.proofs.laws.listed.Goals as goal

pub returns-clause-objects : goal.returns-clause-objects
returns-clause-objects g = listed_is_bound

pub returns-clause-bound : goal.returns-clause-bound
returns-clause-bound g = bound_iff

pub returns-clause-named : goal.returns-clause-named
returns-clause-named g = named_is_bound

pub returns-clause-differ : goal.returns-clause-differ
returns-clause-differ g = names_differ
