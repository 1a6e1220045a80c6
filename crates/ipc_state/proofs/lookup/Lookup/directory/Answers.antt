use Rattle.std.proofs.Common.{ap, ◌∙◌}
use Rattle.ipc_names.specs.Directory.{Directory}
use Rattle.ipc_state.proofs.Lookups.{directory_agrees}
use Rattle.ipc_state.proofs.lookup.Lookup.directory.Goals as goal

pub returns : goal.returns
returns c =
    let agrees = directory_agrees _ _ _ c.args.family c.self.invariant.core.agrees in
    rw (← c.self.view_is) (c.facts.ensures ∙ ap (λ (d : Directory). d.facts) c.names.ensures ∙ agrees.facts)
