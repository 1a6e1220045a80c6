use Rattle.std.proofs.Common.{refl, ap}
use Rattle.ipc_loop.specs.Ports.{Port}
use Rattle.ipc_loop.proofs.MoveLemmas.{go_nowhere}
use Rattle.ipc_loop.proofs.ServingLemmas.{stays_serve, hang_port, hang_marks}
use Rattle.ipc_loop.proofs.UndoneLemmas.{same_undone, hung_undone}
use Rattle.ipc_loop.proofs.port.Port.hang_up.Goals as goal

pub returns-then-is_none-clause-serves : goal.returns-then-is_none-clause-serves
returns-then-is_none-clause-serves c = λ moves. stays_serve _ _ moves moves _ _ (go_nowhere moves) refl refl

pub returns-in-Err-NoMemory-clause-serves : goal.returns-in-Err-NoMemory-clause-serves
returns-in-Err-NoMemory-clause-serves c = hang_port _ _ _ _ _ c.hang_up.result c.hang_up.ensures.ok c.hang_up.ensures.err refl refl

pub returns-in-Ok-clause-serves : goal.returns-in-Ok-clause-serves
returns-in-Ok-clause-serves c = hang_port _ _ _ _ _ c.hang_up.result c.hang_up.ensures.ok c.hang_up.ensures.err (ap (λ (p : Port). p.left) c.self.view_is) (ap (λ (p : Port). p.ending) c.self.view_is)

pub returns-in-Ok-clause-marks : goal.returns-in-Ok-clause-marks
returns-in-Ok-clause-marks c = hang_marks _ _ _ _ _ c.hang_up.result c.hang_up.ensures.ok c.hang_up.ensures.err (ap (λ (p : Port). p.left) c.self.view_is)

pub returns-then-is_none-clause-undone : goal.returns-then-is_none-clause-undone
returns-then-is_none-clause-undone c = same_undone c.args.number c.args.hub.now

pub returns-in-Err-NoMemory-clause-undone : goal.returns-in-Err-NoMemory-clause-undone
returns-in-Err-NoMemory-clause-undone c = hung_undone c.args.number _ _ c.hang_up.result c.hang_up.ensures.ok c.hang_up.ensures.err

pub returns-in-Ok-clause-undone : goal.returns-in-Ok-clause-undone
returns-in-Ok-clause-undone c = hung_undone c.args.number _ _ c.hang_up.result c.hang_up.ensures.ok c.hang_up.ensures.err
