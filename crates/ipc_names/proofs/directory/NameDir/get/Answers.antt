use Rattle.std.proofs.Common.{◌∙◌}
use Rattle.ipc_names.proofs.DirectoryLemmas.{named}
use Rattle.ipc_names.proofs.directory.NameDir.get.Goals as goal

pub returns : goal.returns
returns c = rw (← c.self.view_is) (c.copied.ensures ∙ c.get.ensures.value ∙ named c.args.name.now c.self.inside.objects.entries)
