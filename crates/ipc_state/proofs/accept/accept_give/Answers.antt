use Rattle.std.proofs.Common.{is_some, refl, sym, ap, ◌∙◌}
use Rattle.ipc_terms.specs.declared.ids.Family.TheVariants.{Mq}
use Rattle.ipc_terms.specs.declared.call.Call.TheVariants.{MqGive}
use Rattle.ipc_policy.proofs.Histories.Unforbidden.{call_free}
use Rattle.ipc_state.proofs.QueueLookups.{held_row}
use Rattle.ipc_state.proofs.Accepted.{not_bad_held}
use Rattle.ipc_state.proofs.Serving.{IsHereQueue, call_here, object_there}
use Rattle.ipc_state.proofs.Accepting.{agrees_given}
use Rattle.ipc_state.proofs.accept.accept_give.Goals as goal

pub unreachable-requires : goal.unreachable-requires
unreachable-requires c =
    let some = object_there c.args.config.now c.args.past.now.history c.args.sid (MqGive c.args.desc c.args.taker) refl c.requires.accepted in
    let none = ap is_some (sym c.requires.held ∙ c.in_default.is) in
    cc

pub hand_over-requires : goal.hand_over-requires
hand_over-requires c = held_row c.args.config.now c.args.past.now.history c.args.tables.now c.args.sid.0 c.args.desc.0 c.requires.core.agrees (not_bad_held c.args.config.now c.args.past.now.history c.args.sid.0 Mq c.args.desc.0 (call_free _ _ c.args.sid (MqGive c.args.desc c.args.taker) Mq c.args.desc refl refl c.requires.accepted).held)

pub returns-clause-ok : goal.returns-clause-ok
returns-clause-ok c =
    let here : IsHereQueue c.args.config.now c.args.past.now.history c.args.tables.now c.args.sid.0 c.args.desc.0 c.in-Some.object = call_here _ _ _ c.args.sid.0 c.args.desc.0 _ c.requires.core.agrees (call_free _ _ c.args.sid (MqGive c.args.desc c.args.taker) Mq c.args.desc refl refl c.requires.accepted) (sym c.requires.held ∙ c.in-Some.is) in
    rw (c.set_registered.ensures, c.in_ok-hand_over.ensures.ok) (agrees_given c.args.config.now c.args.past.now.history c.args.tables.now c.args.sid c.args.taker c.args.desc c.in-Some.object c.requires.core here)
