use Rattle.std.proofs.Common.{refl, sym, ap, subst, ◌∙◌}
use Rattle.ipc_loop.specs.Ports.{Port}
use Rattle.ipc_loop.specs.Serving.{Answers}
use Rattle.ipc_loop.specs.Asking.{OffersPort}
use Rattle.ipc_loop.proofs.ServingLemmas.{writes_serve, port_both, port_so}
use Rattle.ipc_loop.proofs.PortionLemmas.{wrote_answers, left_answers}
use Rattle.ipc_loop.proofs.OfferingLemmas.{flush_offers, whole_offer}
use Rattle.ipc_loop.proofs.UndoneLemmas.{same_undone}
use Rattle.ipc_loop.proofs.port.Port.send.Goals as goal

pub returns-then-not-is_written-clause-serves : goal.returns-then-not-is_written-clause-serves
returns-then-not-is_written-clause-serves g c = writes_serve _ _ _ _ _ _ c.flush.ensures.writes

pub returns-then-not-is_written-clause-answers : goal.returns-then-not-is_written-clause-answers
returns-then-not-is_written-clause-answers g c = left_answers c.args.number c.args.hub.now c.flush.new.self (sym c.if-not-is_written.ensures)

pub returns-clause-serves : goal.returns-clause-serves
returns-clause-serves g c =
    port_both _ _ _ _ _ _ _ _ _ _ (port_so _ _ _ _ _ _ _ _ _ refl c.lend.ensures (writes_serve _ _ _ _ _ _ c.flush.ensures.writes))
    (port_both _ _ _ _ _ _ _ _ _ _ (c.take.ensures.serves (g.H.Host.moves c.flush.new.host)) (port_so _ _ _ _ _ _ _ _ _ refl c.give_back.ensures (writes_serve _ _ _ _ _ _ c.flush_saved.ensures.writes)))

pub returns-clause-answers : goal.returns-clause-answers
returns-clause-answers g c = subst (λ (p : Port). Answers c.args.number c.args.hub.now c.take.new.hub p) (sym c.give_back.ensures) (wrote_answers c.args.number c.args.hub.now c.take.new.hub _ _ c.take.new.self c.flush_saved.new.self c.take.ensures.collects c.flush_saved.ensures.writes)

pub returns-then-not-is_written-clause-offers : goal.returns-then-not-is_written-clause-offers
returns-then-not-is_written-clause-offers g c = flush_offers _ _ _ _ _ c.flush.ensures.all

pub returns-clause-offers : goal.returns-clause-offers
returns-clause-offers g c =
    subst (λ (p : Port). OffersPort c.args.number (g.H.Host.moves c.args.host.now) (g.H.Host.moves c.flush_saved.new.host) c.args.self.now p) (sym c.give_back.ensures)
    (whole_offer c.args.number _ _ _ c.args.self.now c.flush.new.self c.take.new.self c.flush_saved.new.self c.flush.ensures.all (sym c.if-not-is_written.ensures) c.flush.ensures.writable (c.take.ensures.may_write ∙ ap (λ (p : Port). p.may_write) c.lend.ensures) c.flush_saved.ensures.all)

pub returns-then-not-is_written-clause-undone : goal.returns-then-not-is_written-clause-undone
returns-then-not-is_written-clause-undone g c = same_undone c.args.number c.args.hub.now
