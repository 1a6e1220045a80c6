use Rattle.std.proofs.Common.{sym, ap, ◌∙◌}
use Rattle.ipc_loop.specs.Moves.{is_fault}
use Rattle.ipc_loop.proofs.OfferingLemmas.{took_offers, refused_offers, waited_offers}
use Rattle.ipc_loop.proofs.serving.write_some.Goals as goal

pub returns-then-is_fault-clause-offers : goal.returns-then-is_fault-clause-offers
returns-then-is_fault-clause-offers g c = refused_offers c.args.number _ _ c.args.bytes.now _ c.in-Err.ensures.moved (ap is_fault (sym c.kind-kind.ensures) ∙ sym c.if-is_fault.ensures)

pub returns-in-Ok-clause-offers : goal.returns-in-Ok-clause-offers
returns-in-Ok-clause-offers g c = took_offers c.args.number _ _ c.args.bytes.now c.in-Ok.count c.in-Ok.ensures.bound c.in-Ok.ensures.moved

pub returns-then-eq-clause-offers : goal.returns-then-eq-clause-offers
returns-then-eq-clause-offers g c = waited_offers c.args.number _ _ c.args.bytes.now _ c.in-Err.ensures.moved (ap is_fault (sym c.kind-kind.ensures) ∙ sym c.if-is_fault.ensures)

pub returns-else-eq-clause-offers : goal.returns-else-eq-clause-offers
returns-else-eq-clause-offers g c = waited_offers c.args.number _ _ c.args.bytes.now _ c.in-Err.ensures.moved (ap is_fault (sym c.kind-kind.ensures) ∙ sym c.if-is_fault.ensures)
