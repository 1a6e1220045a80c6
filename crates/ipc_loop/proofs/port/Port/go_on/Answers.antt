use Rattle.std.proofs.Common.{◌≡◌, true, false, ℕ, List, Option, refl, arith, subst}
use Rattle.ipc_loop.specs.Portions.{IsUnder}
use Rattle.ipc_loop.proofs.MoveLemmas.{go_nowhere}
use Rattle.ipc_loop.proofs.OfferingLemmas.{no_reads}
use Rattle.ipc_loop.proofs.ServingLemmas.{stays_serve, port_both}
use Rattle.ipc_loop.proofs.PortionLemmas.{same_steps, steps_both, same_bound, adds_bound, bound_both, portion_collects, portion_adds}
use Rattle.ipc_loop.proofs.UndoneLemmas.{same_undone, both_undone}
use Rattle.ipc_loop.proofs.port.Port.go_on.Goals as goal

pub returns-then-not-has_room-clause-serves : goal.returns-then-not-has_room-clause-serves
returns-then-not-has_room-clause-serves g c = stays_serve _ _ _ _ _ _ (go_nowhere _) refl refl

pub returns-then-not-has_room-clause-collects : goal.returns-then-not-has_room-clause-collects
returns-then-not-has_room-clause-collects g c = same_steps _ _ _ c.requires

pub returns-then-not-has_room-clause-bound : goal.returns-then-not-has_room-clause-bound
returns-then-not-has_room-clause-bound g c = same_bound _

pub step_on-requires : goal.step_on-requires
step_on-requires g c = c.take.ensures.collects.all

pub returns-clause-serves : goal.returns-clause-serves
returns-clause-serves g c = port_both _ _ _ _ _ _ _ _ _ _ c.start.ensures.serves (port_both _ _ _ _ _ _ _ _ _ _ (c.take.ensures.serves (g.H.Host.moves c.start.new.host)) (c.step_on.ensures.serves (g.H.Host.moves c.start.new.host)))

pub returns-clause-collects : goal.returns-clause-collects
returns-clause-collects g c = steps_both _ _ _ _ _ _ (portion_collects _ _ _ _ _ _ _ _ c.start.ensures.steps c.take.ensures.collects) c.step_on.ensures.collects

pub returns-clause-bound : goal.returns-clause-bound
returns-clause-bound g c = bound_both _ _ _ (adds_bound _ _ _ (c.if-not-has_room.ensures.under refl) (portion_adds c.args.number 9 c.args.hub.now c.start.new.hub c.args.self.now c.start.new.self c.take.new.self c.requires (omega arith) c.start.ensures.steps c.take.ensures.adds)) c.step_on.ensures.bound

pub returns-then-not-has_room-clause-asks : goal.returns-then-not-has_room-clause-asks
returns-then-not-has_room-clause-asks g c = no_reads _ _ _ (λ left heard is few readable stepped. let wrong : false ≡ true = c.if-not-has_room.ensures.room left heard is few in absurd cc)

pub returns-clause-idle : goal.returns-clause-idle
returns-clause-idle g c = λ left is le. absurd (omega (arith, subst (λ (x : Option (List ℕ)). IsUnder x) is (c.if-not-has_room.ensures.under refl), le))

pub returns-then-not-has_room-clause-undone : goal.returns-then-not-has_room-clause-undone
returns-then-not-has_room-clause-undone g c = same_undone c.args.number c.args.hub.now

pub returns-clause-undone : goal.returns-clause-undone
returns-clause-undone g c = both_undone c.args.number c.args.hub.now c.start.new.hub c.step_on.new.hub c.start.ensures.undone (both_undone c.args.number c.start.new.hub c.take.new.hub c.step_on.new.hub c.take.ensures.undone c.step_on.ensures.undone)
