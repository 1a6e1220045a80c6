use Rattle.std.proofs.Common.{refl}
use Rattle.ipc_core.specs.Boxes.{untaken_by}
use Rattle.ipc_core.proofs.BoxSteps.{stepped}
use Rattle.ipc_core.proofs.core_state.Core.commit.Goals as goal

pub invariant_of-self-2 : goal.invariant_of-self-2
invariant_of-self-2 c =
    let verdict = rw (← c.self.view_is) at c.requires.verdict in
    let answers = rw (← c.self.view_is) at c.requires.answers in
    let step = stepped c.self.inside.state c.args.event c.args.rule _ (untaken_by c.self.inside.outboxes) (untaken_by c.make_room.new.outboxes) (untaken_by c.put_all.new.outboxes) verdict answers c.make_room.ensures.kept c.put_all.ensures c.self.invariant in
    rw c.in_ok-add.ensures.ok step.stand

pub returns-clause-ok : goal.returns-clause-ok
returns-clause-ok c =
    let verdict = rw (← c.self.view_is) at c.requires.verdict in
    let answers = rw (← c.self.view_is) at c.requires.answers in
    let step = stepped c.self.inside.state c.args.event c.args.rule _ (untaken_by c.self.inside.outboxes) (untaken_by c.make_room.new.outboxes) (untaken_by c.put_all.new.outboxes) verdict answers c.make_room.ensures.kept c.put_all.ensures c.self.invariant in
    rw (← c.self.view_is, c.in_ok-add.ensures.ok, step.first) refl
