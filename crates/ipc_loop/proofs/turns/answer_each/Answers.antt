use Rattle.std.proofs.Common.{◌<◌, ◌≡◌, ◌≢◌, ◌⊎◌, List, [], Some, Bool, false, refl, sym, subst, ◌∙◌}
use Rattle.ipc_hub.specs.Hub.{Hub, untaken_at}
use Rattle.ipc_loop.specs.Serving.{is_done}
use Rattle.ipc_loop.proofs.ServingLemmas.{served_nothing, serves_both, named_serves}
use Rattle.ipc_loop.proofs.TurnLemmas.{how_many, named_fewer}
use Rattle.ipc_loop.proofs.UndoneLemmas.{named_up}
use Rattle.ipc_loop.proofs.OpeningLemmas.{closes_same, closes_both}
use Rattle.ipc_loop.proofs.AskingLemmas.{refused_nothing, refuses_both}
use Rattle.ipc_loop.proofs.turns.answer_each.Goals as goal

pub loop-conn-init : goal.loop-conn-init
loop-conn-init g c = record { serves = served_nothing _ _ _; marks = c.requires; silent = refl; closes = closes_same _ _ refl; turns = refl; refuses = refused_nothing _ _ }

pub loop-conn-preserved : goal.loop-conn-preserved
loop-conn-preserved g c = record {
  serves = serves_both _ _ _ _ _ _ _ _ _ c.loop-conn.invariant.serves (serves_both _ _ _ _ _ _ _ _ _ (named_serves c.in-Some.conn.0 _ _ _ _ c.in-Some.ensures.some) c.answer.ensures.serves);
  marks = named_up c.in-Some.conn.0 c.loop-conn.hub c.next_answered.new.self c.answer.new.hub c.loop-conn.ports.all c.answer.new.self.all c.in-Some.ensures.some (λ i is owed. c.answer.ensures.marks i owed) c.answer.ensures.answered c.loop-conn.invariant.marks;
  silent = c.answer.ensures.silent ∙ c.loop-conn.invariant.silent;
  closes = closes_both _ _ _ c.loop-conn.invariant.closes c.answer.ensures.closes;
  turns = c.answer.ensures.turns ∙ c.loop-conn.invariant.turns;
  refuses = refuses_both _ _ _ _ _ _ c.loop-conn.invariant.refuses c.answer.ensures.refuses;
}

pub loop-conn-smaller : goal.loop-conn-smaller
loop-conn-smaller g c = subst (λ (flags : List Bool). how_many flags < how_many c.loop-conn.hub.marked) (sym c.answer.ensures.marked) (named_fewer c.in-Some.conn.0 c.loop-conn.hub c.next_answered.new.self c.in-Some.ensures.some)

pub returns-clause-rests : goal.returns-clause-rests
returns-clause-rests g c = λ i port e. subst (λ (x : Hub). (untaken_at x i ≡ []) ⊎ (port.left ≢ Some [])) (sym c.in_default.ensures.same) ((c.loop-conn.invariant.marks i (c.in_default.ensures.none i)).0 port e)

pub returns-clause-undone : goal.returns-clause-undone
returns-clause-undone g c = λ i port e. subst (λ (x : Hub). is_done x i port ≡ false) (sym c.in_default.ensures.same) ((c.loop-conn.invariant.marks i (c.in_default.ensures.none i)).1 port e)
