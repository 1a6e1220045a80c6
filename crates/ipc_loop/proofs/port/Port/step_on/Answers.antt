use Rattle.std.proofs.Common.{refl, ◌∙◌}
use Rattle.ipc_loop.proofs.MoveLemmas.{go_nowhere}
use Rattle.ipc_loop.proofs.ServingLemmas.{stays_serve, port_both}
use Rattle.ipc_loop.proofs.PortionLemmas.{same_steps, steps_both, same_bound, adds_bound}
use Rattle.ipc_loop.proofs.UndoneLemmas.{same_undone, both_undone}
use Rattle.ipc_loop.proofs.port.Port.step_on.Goals as goal

pub loop-init : goal.loop-init
loop-init c = record { serves = λ moves. stays_serve _ _ moves moves _ _ (go_nowhere moves) refl refl; collects = same_steps c.args.number c.args.hub.now c.args.self.now c.requires; undone = same_undone c.args.number c.args.hub.now; bound = same_bound c.args.self.now.left; may_write = refl }

pub loop-preserved : goal.loop-preserved
loop-preserved c = record {
  serves = λ moves. port_both _ _ _ _ moves moves moves _ _ _ (c.loop.invariant.serves moves) (c.step_again-is_large.ensures.serves moves);
  collects = steps_both c.args.number c.args.hub.now c.loop.hub c.step_again-is_large.new.hub c.loop.self c.step_again-is_large.new.self c.loop.invariant.collects c.step_again-is_large.ensures.collects;
  undone = both_undone c.args.number c.args.hub.now c.loop.hub c.step_again-is_large.new.hub c.loop.invariant.undone c.step_again-is_large.ensures.undone;
  bound = adds_bound c.args.self.now.left c.loop.self.left c.step_again-is_large.new.self.left (c.if-not-has_room.ensures.under refl) (c.step_again-is_large.ensures.adds c.loop.invariant.collects.all);
  may_write = c.step_again-is_large.ensures.may_write ∙ c.loop.invariant.may_write;
}
