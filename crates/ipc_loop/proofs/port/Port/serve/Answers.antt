use Rattle.ipc_loop.proofs.ServingLemmas.{port_both}
use Rattle.ipc_loop.proofs.AskingLemmas.{port_stops}
use Rattle.ipc_loop.proofs.OfferingLemmas.{turn_then}
use Rattle.ipc_loop.proofs.UndoneLemmas.{both_undone}
use Rattle.ipc_loop.proofs.port.Port.serve.Goals as goal

pub returns-clause-serves : goal.returns-clause-serves
returns-clause-serves g c = port_both _ _ _ _ _ _ _ _ _ _ c.work.ensures.serves (port_both _ _ _ _ _ _ _ _ _ _ (c.keep_few.ensures.serves (g.H.Host.moves c.work.new.host)) (c.hang_up.ensures.serves (g.H.Host.moves c.work.new.host)))

pub returns-clause-marks : goal.returns-clause-marks
returns-clause-marks g c = λ others i owed. c.hang_up.ensures.marks others i (c.keep_few.ensures.marks others i (c.work.ensures.marks others i owed))

pub returns-clause-turn : goal.returns-clause-turn
returns-clause-turn g c =
    turn_then c.args.number _ _ c.args.self.now c.keep_few.new.self c.hang_up.new.self (turn_then c.args.number _ _ c.args.self.now c.work.new.self c.keep_few.new.self c.work.ensures.turn c.keep_few.ensures.left (port_stops c.args.number _ _ _ _ c.work.new.self c.keep_few.new.self (c.keep_few.ensures.serves (g.H.Host.moves c.work.new.host))))
    c.hang_up.ensures.left (port_stops c.args.number _ _ _ _ c.keep_few.new.self c.hang_up.new.self (c.hang_up.ensures.serves (g.H.Host.moves c.work.new.host)))

pub returns-clause-undone : goal.returns-clause-undone
returns-clause-undone g c = both_undone c.args.number c.args.hub.now c.work.new.hub c.hang_up.new.hub c.work.ensures.undone c.hang_up.ensures.undone
