use Rattle.std.proofs.Common.{[], ◌+◌, arith, refl}
use Rattle.ipc_loop.proofs.MoveLemmas.{go_nowhere, adds_nothing}
use Rattle.ipc_loop.proofs.ServingLemmas.{feeds_serve, port_both}
use Rattle.ipc_loop.proofs.PortionLemmas.{portion_collects, portion_adds}
use Rattle.ipc_loop.proofs.UndoneLemmas.{both_undone}
use Rattle.ipc_loop.proofs.port.Port.step_again.Goals as goal

pub returns-clause-serves : goal.returns-clause-serves
returns-clause-serves c = λ moves. port_both _ _ _ _ moves moves moves _ _ _ (feeds_serve _ _ _ moves moves _ _ [] c.requires (adds_nothing _ _ _ (go_nowhere moves)) refl refl c.feed.ensures.fed) (c.take.ensures.serves moves)

pub returns-clause-collects : goal.returns-clause-collects
returns-clause-collects c = portion_collects _ _ _ _ _ _ _ _ c.feed.ensures.steps c.take.ensures.collects

pub returns-clause-adds : goal.returns-clause-adds
returns-clause-adds c = λ all. portion_adds c.args.number (c.next_portion-most.result + 1) c.args.hub.now c.feed.new.hub c.args.self.now c.feed.new.self c.take.new.self all (omega (arith, c.next_portion-most.ensures)) c.feed.ensures.steps c.take.ensures.adds

pub returns-clause-undone : goal.returns-clause-undone
returns-clause-undone c = both_undone c.args.number c.args.hub.now c.feed.new.hub c.take.new.hub c.feed.ensures.undone c.take.ensures.undone
