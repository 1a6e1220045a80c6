use Rattle.std.proofs.Common.{refl}
use Rattle.ipc_loop.specs.declared.ending.Ending.TheVariants.{TooMuchUnfinished}
use Rattle.ipc_loop.proofs.MoveLemmas.{go_nowhere}
use Rattle.ipc_loop.proofs.ServingLemmas.{bound_serve, port_both, marks_refed}
use Rattle.ipc_loop.proofs.port.Port.give_up.Goals as goal

pub returns-clause-serves : goal.returns-clause-serves
returns-clause-serves c = λ moves. port_both _ _ _ _ _ _ _ _ _ _ (bound_serve _ _ moves moves _ _ TooMuchUnfinished (go_nowhere moves) refl c.end.ensures.left c.end.ensures.ended) (c.hang_up.ensures.serves moves)

pub returns-clause-marks : goal.returns-clause-marks
returns-clause-marks c = marks_refed c.args.number c.args.hub.now c.hang_up.new.hub c.args.self.now c.end.new.self c.hang_up.new.self c.end.ensures.left c.hang_up.ensures.marks
