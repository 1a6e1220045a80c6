use Rattle.std.proofs.Common.{sym, ap, ◌∙◌}
use Rattle.std.specs.Option.{option_map}
use Rattle.ipc_terms.specs.declared.ids.Sid.{Sid}
use Rattle.ipc_state.proofs.Withdrawals.{agrees_ticked}
use Rattle.ipc_state.proofs.Timing.{tick_agrees}
use Rattle.ipc_state.proofs.accept.accept_tick.Goals as goal

pub returns : goal.returns
returns c = rw c.withdraw.ensures (tick_agrees c.args.config.now c.args.past.now.history _ c.args.moment c.in-Some.sid c.requires.core (sym c.requires.due ∙ ap (option_map (λ (s : Sid). s.0)) c.in-Some.is))

pub returns-in_default : goal.returns-in_default
returns-in_default c = agrees_ticked c.args.config.now c.args.past.now.history _ c.args.moment (sym c.requires.due ∙ ap (option_map (λ (s : Sid). s.0)) c.in_default.is) c.requires.core.agrees
