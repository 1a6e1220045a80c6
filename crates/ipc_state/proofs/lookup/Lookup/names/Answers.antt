use Rattle.std.proofs.Common.{ap, ◌∙◌}
use Rattle.ipc_terms.specs.Pages.{page}
use Rattle.ipc_names.specs.Directory.{Directory, bound_names}
use Rattle.ipc_state.proofs.Lookups.{names_are, directory_agrees}
use Rattle.ipc_state.proofs.lookup.Lookup.names.Goals as goal

pub returns : goal.returns
returns c =
    let here = ap (λ (d : Directory). bound_names d.bindings) c.names.ensures ∙ names_are _ c.args.family _ (directory_agrees _ _ _ c.args.family c.tables.ensures.agrees) in
    c.in_ok-listed.ensures ∙ ap (page c.args.start c.args.count) here
