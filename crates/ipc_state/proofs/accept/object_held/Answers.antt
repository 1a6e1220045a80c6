use Rattle.std.proofs.Common.{is_some, sym, ap, ◌∙◌}
use Rattle.ipc_state.proofs.Serving.{object_there}
use Rattle.ipc_state.proofs.accept.object_held.Goals as goal

pub unreachable-requires : goal.unreachable-requires
unreachable-requires c =
    let some = object_there c.args.config.now c.args.past.now.history c.args.sid c.args.call.now c.requires.named c.requires.accepted in
    let none = ap is_some (sym c.requires.held ∙ c.in_default.is) in
    cc
