use Rattle.std.proofs.Common.{ap, ◌∙◌}
use Rattle.ipc_descr.specs.Descriptions.{Descriptions}
use Rattle.ipc_state.proofs.lookup.Lookup.opened.Goals as goal

pub returns : goal.returns
returns c = c.opened.ensures.opened ∙ ap (λ (ds : Descriptions). ds.opened) c.descriptions.ensures ∙ c.tables.ensures.agrees.descriptions.opened
