use Rattle.std.proofs.Common.{List, Option, refl, sym, ap, subst, ◌∙◌}
use Rattle.ipc_loop.specs.Ports.{Port}
use Rattle.ipc_loop.specs.Moves.{Moved}
use Rattle.ipc_loop.specs.Asking.{TakesTurn, Reads, KeepsAllButLeft}
use Rattle.ipc_loop.specs.Portions.{HasAll}
use Rattle.ipc_loop.proofs.OwingLemmas.{answers_keep}
use Rattle.ipc_loop.proofs.ServingLemmas.{writes_serve, port_both, port_so}
use Rattle.ipc_loop.proofs.PortionLemmas.{collects_steps, steps_both, steps_keep, wrote_all, left_answers}
use Rattle.ipc_loop.proofs.AskingLemmas.{port_stops}
use Rattle.ipc_loop.proofs.OfferingLemmas.{flush_turn, whole_turn, port_cuts}
use Rattle.ipc_loop.proofs.UndoneLemmas.{same_undone, both_undone}
use Rattle.ipc_loop.proofs.port.Port.work.Goals as goal

pub returns-then-not-is_written-clause-serves : goal.returns-then-not-is_written-clause-serves
returns-then-not-is_written-clause-serves g c = writes_serve _ _ _ _ _ _ c.flush.ensures.writes

pub returns-then-not-is_written-clause-marks : goal.returns-then-not-is_written-clause-marks
returns-then-not-is_written-clause-marks g c = answers_keep c.args.number c.args.hub.now c.args.hub.now c.args.self.now c.flush.new.self (left_answers c.args.number c.args.hub.now c.flush.new.self (sym c.if-not-is_written.ensures))

pub go_on-requires : goal.go_on-requires
go_on-requires g c = c.take.ensures.collects.all

pub returns-clause-serves : goal.returns-clause-serves
returns-clause-serves g c =
    port_both _ _ _ _ _ _ _ _ _ _ (port_so _ _ _ _ _ _ _ _ _ refl c.lend.ensures (writes_serve _ _ _ _ _ _ c.flush.ensures.writes))
    (port_both _ _ _ _ _ _ _ _ _ _ (c.take.ensures.serves (g.H.Host.moves c.flush.new.host))
    (port_both _ _ _ _ _ _ _ _ _ _ (port_so _ _ _ _ _ _ _ _ _ c.greet.ensures.moved c.greet.ensures.same c.go_on.ensures.serves)
    (port_so _ _ _ _ _ _ _ _ _ refl c.give_back.ensures (writes_serve _ _ _ _ _ _ c.flush_saved.ensures.writes))))

pub returns-clause-marks : goal.returns-clause-marks
returns-clause-marks g c =
    let steps = steps_both c.args.number c.args.hub.now c.take.new.hub c.go_on.new.hub c.take.new.self c.go_on.new.self (collects_steps c.args.number c.args.hub.now c.take.new.hub c.take.new.self c.take.ensures.collects) c.go_on.ensures.collects in
    let greeted = subst (λ (p : Port). HasAll c.args.number c.go_on.new.hub p) (sym c.greet.ensures.same) steps.all in
    let written = subst (λ (p : Port). HasAll c.args.number c.go_on.new.hub p) (sym c.give_back.ensures) (wrote_all c.args.number c.go_on.new.hub _ _ c.greet.new.self c.flush_saved.new.self c.flush_saved.ensures.writes greeted) in
    steps_keep c.args.number c.args.hub.now c.go_on.new.hub c.args.self.now c.give_back.new.self (record { all = written; others = steps.others })

pub returns-then-not-is_written-clause-turn : goal.returns-then-not-is_written-clause-turn
returns-then-not-is_written-clause-turn g c = flush_turn _ _ _ _ _ c.flush.ensures.all (sym c.if-not-is_written.ensures)

pub returns-clause-turn : goal.returns-clause-turn
returns-clause-turn g c =
    let greeted = port_so _ _ _ _ _ _ _ _ _ c.greet.ensures.moved c.greet.ensures.same c.go_on.ensures.serves in
    let written = writes_serve c.args.number c.go_on.new.hub _ _ _ _ c.flush_saved.ensures.writes in
    subst (λ (p : Port). TakesTurn c.args.number (g.H.Host.moves c.args.host.now) (g.H.Host.moves c.flush_saved.new.host) c.args.self.now p) (sym c.give_back.ensures)
    (whole_turn c.args.number _ _ (g.H.Host.moves c.greet.new.host) _ c.args.self.now c.flush.new.self c.take.new.self c.greet.new.self c.flush_saved.new.self c.flush.ensures.all (sym c.if-not-is_written.ensures) c.flush.ensures.writable
    (subst (λ (p : Port). KeepsAllButLeft p c.take.new.self) c.lend.ensures c.take.ensures.kept)
    (c.take.ensures.may_write ∙ ap (λ (p : Port). p.may_write) c.lend.ensures)
    (subst (λ (w : Option (List Moved)). Reads c.args.number (g.H.Host.moves c.flush.new.host) w c.take.new.self) (sym c.greet.ensures.moved) c.go_on.ensures.asks)
    (λ left is le. c.greet.ensures.same ∙ c.go_on.ensures.idle left is le)
    (port_cuts _ _ _ _ _ _ _ greeted)
    (λ over. port_stops _ _ _ _ _ _ _ written (port_stops _ _ _ _ _ _ _ greeted over))
    (ap (λ (p : Port). p.may_write) c.greet.ensures.same ∙ c.go_on.ensures.may_write)
    c.flush_saved.ensures.all)

pub returns-then-not-is_written-clause-undone : goal.returns-then-not-is_written-clause-undone
returns-then-not-is_written-clause-undone g c = same_undone c.args.number c.args.hub.now

pub returns-clause-undone : goal.returns-clause-undone
returns-clause-undone g c = both_undone c.args.number c.args.hub.now c.take.new.hub c.go_on.new.hub c.take.ensures.undone c.go_on.ensures.undone
