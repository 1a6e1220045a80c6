use Rattle.std.proofs.Common.{sym, subst}
use Rattle.ipc_hub.specs.Hub.{Hub}
use Rattle.ipc_loop.specs.Serving.{Serves}
use Rattle.ipc_loop.proofs.UndoneLemmas.{opened_up}
use Rattle.ipc_loop.proofs.ServingLemmas.{served_nothing, opened_serves}
use Rattle.ipc_loop.proofs.accepting.open_next.Goals as goal

pub returns-then-is_ok-clause-serves : goal.returns-then-is_ok-clause-serves
returns-then-is_ok-clause-serves c = λ m p. served_nothing _ m p

pub returns-in_default-clause-serves : goal.returns-in_default-clause-serves
returns-in_default-clause-serves c = λ m p. subst (λ (x : Hub). Serves c.args.hub.now m p x m p) (sym c.in_default.ensures.err) (served_nothing c.args.hub.now m p)

pub returns-clause-serves : goal.returns-clause-serves
returns-clause-serves c = λ m p. opened_serves _ _ m p c.in-Ok.ensures.ok

pub returns-clause-marks : goal.returns-clause-marks
returns-clause-marks c = λ p. opened_up c.args.hub.now c.open.new.self p c.in-Ok.ensures.ok
