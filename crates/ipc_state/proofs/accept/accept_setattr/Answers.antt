use Rattle.std.proofs.Common.{refl}
use Rattle.ipc_terms.specs.declared.ids.Family.TheVariants.{Mq}
use Rattle.ipc_terms.specs.declared.call.Call.TheVariants.{MqSetattr}
use Rattle.ipc_state.proofs.QueueLookups.{held_row}
use Rattle.ipc_policy.proofs.Histories.Unforbidden.{call_free}
use Rattle.ipc_state.proofs.Accepted.{not_bad_held}
use Rattle.ipc_state.proofs.Accepting.{agrees_set}
use Rattle.ipc_state.proofs.accept.accept_setattr.Goals as goal

pub returns : goal.returns
returns c = rw c.set_nonblock.ensures (agrees_set c.args.config.now c.args.past.now.history c.args.tables.now c.args.sid c.args.desc c.args.nonblock c.requires.core.agrees)

pub set_nonblock-requires : goal.set_nonblock-requires
set_nonblock-requires c = held_row c.args.config.now c.args.past.now.history c.args.tables.now c.args.sid.0 c.args.desc.0 c.requires.core.agrees (not_bad_held c.args.config.now c.args.past.now.history c.args.sid.0 Mq c.args.desc.0 (call_free _ _ c.args.sid (MqSetattr c.args.desc c.args.nonblock) Mq c.args.desc refl refl c.requires.accepted).held)
