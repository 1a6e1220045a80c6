use Rattle.std.proofs.Common.{◌≡◌, ℕ, List, [], ◌∷◌, false, Some, slice_get, refl, sym, ap, subst, ◌∙◌}
use Rattle.std.specs.Option.{option_copied_mut}
use Rattle.std.specs.Vec.{vec_capacity}
use Rattle.ipc_loop.specs.Asking.{Asks}
use Rattle.ipc_loop.specs.Ports.{port_at}
use Rattle.ipc_loop.specs.Standing.{Ports, AreKept, IsSettled, seen, flags}
use Rattle.ipc_loop.specs.declared.ports.Place.{Place}
use Rattle.ipc_loop.proofs.PortLemmas.{Slots}
use Rattle.ipc_loop.proofs.PlaceLemmas.{Rewritten}
use Rattle.ipc_loop.proofs.ActingLemmas.{acted_settled, turned_kept, gone_kept, none_seen, port_seen}
use Rattle.ipc_loop.proofs.ServingLemmas.{same_serves}
use Rattle.ipc_loop.proofs.TurnLemmas.{settled_serves}
use Rattle.ipc_loop.proofs.UndoneLemmas.{settled_up}
use Rattle.ipc_loop.proofs.OpeningLemmas.{settled_closes}
use Rattle.ipc_loop.proofs.AskingLemmas.{same_asks, none_asks, port_stops, turn_asks, settled_asks}
use Rattle.ipc_loop.proofs.ports.Ports.turn.Given.{Over}
use Rattle.ipc_loop.proofs.ports.Ports.turn.Goals as goal
use Rattle.ipc_loop.proofs.ports.Ports.turn.Goals.{After-settle}

-- what is left in the place
abbrev left : (g : Over) → After-settle g → Place
left g c = record { port = c.serve.new.self; is_queued = false }

written : (g : Over) (c : After-settle g) (place : Place) → Rewritten c.self.inside.all c.in_ok-number.number c.in-Some.place.now place (c.get_mut.follows.lender place)
written g c place = (sym c.get_mut.ensures.value ∙ ap option_copied_mut c.in-Some.is, rw c.in-Some.is at (c.get_mut.follows.holds place))

there : (g : Over) (c : After-settle g) → slice_get c.args.self.now.all c.in_ok-number.number ≡ Some (Some c.in-Some.place.now.port)
there g c = port_seen c.self.inside.all c.args.self.now.all c.in_ok-number.number c.in-Some.place.now (ap (λ (p : Ports). p.all) c.self.view_is) (written g c (left g c)).0

settled : (g : Over) (c : After-settle g) → IsSettled c.serve.new.hub (g.H.Host.moves c.serve.new.host) c.args.self.now.all c.in_ok-number.number c.serve.new.self c.settle.new.hub (g.H.Host.moves c.settle.new.host) (seen c.settle.new.all)
settled g c = acted_settled c.self.inside.all (c.get_mut.follows.lender (left g c)) c.in_ok-number.number c.in-Some.place.now (left g c) c.serve.new.hub c.settle.new.hub (g.H.Host.moves c.serve.new.host) (g.H.Host.moves c.settle.new.host) c.args.self.now.all (seen c.settle.new.all) (ap (λ (p : Ports). p.all) c.self.view_is) (written g c (left g c)) c.settle.ensures.settled

pub returns-in_err-number-clause-serves : goal.returns-in_err-number-clause-serves
returns-in_err-number-clause-serves g c = same_serves _ _ _ _ (ap (λ (p : Ports). p.all) c.self.view_is)

pub returns-in_err-number-clause-asks : goal.returns-in_err-number-clause-asks
returns-in_err-number-clause-asks g c = rw c.from_residual.ensures (same_asks _ _ _ (ap (λ (p : Ports). p.all) c.self.view_is))

pub returns-in_default-clause-serves : goal.returns-in_default-clause-serves
returns-in_default-clause-serves g c = same_serves _ _ _ _ (ap seen c.get_mut.follows.holds-at-none ∙ ap (λ (p : Ports). p.all) c.self.view_is)

pub invariant_of-self-in_default : goal.invariant_of-self-in_default
invariant_of-self-in_default g c = rw (c.get_mut.follows.holds-at-none, c.in_ok-number.ensures.capacity)
    (gone_kept c.self.inside.all c.in_ok-number.number _ _ _ _ _ (sym c.get_mut.ensures.value ∙ ap option_copied_mut c.in_default.is) (subst (λ (ts : List ℕ). AreKept (seen c.self.inside.all) (flags c.self.inside.all) ts c.self.inside.next.items c.self.inside.open (vec_capacity c.self.inside.turns) (vec_capacity c.self.inside.next)) c.in_ok-number.ensures.items c.self.invariant))

pub returns-in_default-clause-asks : goal.returns-in_default-clause-asks
returns-in_default-clause-asks g c = subst (λ (zs : Slots). Asks (c.in_ok-number.number ∷ []) (g.H.Host.moves c.args.host.now) (g.H.Host.moves c.args.host.now) (port_at c.args.self.now.all) (port_at zs)) (sym (ap seen c.get_mut.follows.holds-at-none ∙ ap (λ (p : Ports). p.all) c.self.view_is)) (none_asks c.in_ok-number.number (g.H.Host.moves c.args.host.now) c.args.self.now.all (none_seen c.self.inside.all c.args.self.now.all c.in_ok-number.number (ap (λ (p : Ports). p.all) c.self.view_is) (sym c.get_mut.ensures.value ∙ ap option_copied_mut c.in_default.is)))

pub settle-requires : goal.settle-requires
settle-requires g c =
    let left : Place = record { port = c.serve.new.self; is_queued = false } in
    let r : Rewritten c.self.inside.all c.in_ok-number.number c.in-Some.place.now left (c.get_mut.follows.lender left) = (sym c.get_mut.ensures.value ∙ ap option_copied_mut c.in-Some.is, rw c.in-Some.is at (c.get_mut.follows.holds left)) in
    (c.pop.new.self.items, vec_capacity c.pop.new.self, turned_kept c.self.inside.all (c.get_mut.follows.lender left) c.in_ok-number.number c.in-Some.place.now left c.self.inside.turns.items c.pop.new.self.items c.self.inside.next.items c.self.inside.open (vec_capacity c.self.inside.turns) (vec_capacity c.pop.new.self) _ r refl c.in_ok-number.ensures.items c.in_ok-number.ensures.capacity c.self.invariant)

pub invariant_of-self-2 : goal.invariant_of-self-2
invariant_of-self-2 g c = c.settle.ensures.kept c.pop.new.self.items (vec_capacity c.pop.new.self) (turned_kept c.self.inside.all (c.get_mut.follows.lender (left g c)) c.in_ok-number.number c.in-Some.place.now (left g c) c.self.inside.turns.items c.pop.new.self.items c.self.inside.next.items c.self.inside.open (vec_capacity c.self.inside.turns) (vec_capacity c.pop.new.self) _ (written g c (left g c)) refl c.in_ok-number.ensures.items c.in_ok-number.ensures.capacity c.self.invariant)

pub returns-clause-serves : goal.returns-clause-serves
returns-clause-serves g c = settled_serves c.in_ok-number.number c.args.hub.now c.serve.new.hub c.settle.new.hub (g.H.Host.moves c.args.host.now) (g.H.Host.moves c.serve.new.host) (g.H.Host.moves c.settle.new.host) c.in-Some.place.now.port c.serve.new.self c.args.self.now.all (seen c.settle.new.all) (there g c) c.serve.ensures.serves (settled g c)

pub returns-clause-marks : goal.returns-clause-marks
returns-clause-marks g c = settled_up c.in_ok-number.number c.args.hub.now c.serve.new.hub c.settle.new.hub (g.H.Host.moves c.serve.new.host) (g.H.Host.moves c.settle.new.host) c.in-Some.place.now.port c.serve.new.self c.args.self.now.all (seen c.settle.new.all) (there g c) c.serve.ensures.marks c.serve.ensures.undone (settled g c)

pub returns-clause-closes : goal.returns-clause-closes
returns-clause-closes g c = settled_closes c.in_ok-number.number c.serve.new.hub c.settle.new.hub (g.H.Host.moves c.serve.new.host) (g.H.Host.moves c.settle.new.host) c.in-Some.place.now.port c.serve.new.self c.args.self.now.all (seen c.settle.new.all) (there g c) (settled g c)

pub returns-clause-asks : goal.returns-clause-asks
returns-clause-asks g c = settled_asks c.in_ok-number.number (c.in_ok-number.number ∷ []) c.serve.new.hub c.settle.new.hub (g.H.Host.moves c.args.host.now) (g.H.Host.moves c.serve.new.host) (g.H.Host.moves c.settle.new.host) c.in-Some.place.now.port c.serve.new.self c.args.self.now.all (seen c.settle.new.all) (there g c) (turn_asks c.in_ok-number.number (g.H.Host.moves c.args.host.now) (g.H.Host.moves c.serve.new.host) c.in-Some.place.now.port c.serve.new.self (port_at c.args.self.now.all) (port_stops _ _ _ _ _ _ _ c.serve.ensures.serves) c.serve.ensures.turn) (settled g c)
