use Rattle.std.proofs.Common.{ap, ◌∙◌, count_by}
use Rattle.ipc_descr.specs.Descriptions.{Descriptions, is_of}
use Rattle.ipc_state.proofs.Lookups.{counts_is}
use Rattle.ipc_state.proofs.lookup.Lookup.held_count.Goals as goal

pub returns : goal.returns
returns c =
    let is = c.count.ensures ∙ ap (λ (ds : Descriptions). count_by (is_of c.args.sid.0) ds.rows) c.descriptions.ensures in
    is ∙ counts_is _ _ c.args.sid.0 c.tables.ensures.agrees.descriptions
