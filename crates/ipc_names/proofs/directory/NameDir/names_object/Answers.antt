use Rattle.std.proofs.Common.{◌∙◌, ap, nat_lt}
use Rattle.ipc_names.proofs.DirectoryLemmas.{counted_named}
use Rattle.ipc_names.proofs.directory.NameDir.names_object.Goals as goal

pub returns : goal.returns
returns c = rw (← c.self.view_is) (ap (nat_lt 0) c.count.ensures ∙ counted_named c.self.inside.counts _ c.args.object c.self.invariant)
