use Rattle.std.proofs.Common.{◌≡◌, [], inr, Some, slice_get, refl, sym, ap, ◌∙◌}
use Rattle.std.specs.Option.{option_copied_mut}
use Rattle.std.specs.Vec.{vec_capacity}
use Rattle.ipc_loop.specs.Ports.{port_at}
use Rattle.ipc_loop.specs.Standing.{Ports, IsSettled, seen}
use Rattle.ipc_loop.specs.declared.ports.Place.{Place}
use Rattle.ipc_loop.proofs.PlaceLemmas.{Rewritten}
use Rattle.ipc_loop.proofs.ActingLemmas.{acted_settled, acted_kept, port_seen}
use Rattle.ipc_loop.proofs.ServingLemmas.{same_serves, is_ended}
use Rattle.ipc_loop.proofs.TurnLemmas.{settled_serves}
use Rattle.ipc_loop.proofs.UndoneLemmas.{settled_up}
use Rattle.ipc_loop.proofs.OpeningLemmas.{settled_closes}
use Rattle.ipc_loop.proofs.AskingLemmas.{same_asks, quiet_asks, settled_asks}
use Rattle.ipc_loop.proofs.ports.Ports.give_up.Given.{Over}
use Rattle.ipc_loop.proofs.ports.Ports.give_up.Goals as goal
use Rattle.ipc_loop.proofs.ports.Ports.give_up.Goals.{After-settle}

-- what is left in the place
abbrev left : (g : Over) → After-settle g → Place
left g c = record { port = c.give_up.new.self; is_queued = c.in-Some.place.now.is_queued }

written : (g : Over) (c : After-settle g) (place : Place) → Rewritten c.self.inside.all c.args.number c.in-Some.place.now place (c.get_mut.follows.lender place)
written g c place = (sym c.get_mut.ensures.value ∙ ap option_copied_mut c.in-Some.is, rw c.in-Some.is at (c.get_mut.follows.holds place))

there : (g : Over) (c : After-settle g) → slice_get c.args.self.now.all c.args.number ≡ Some (Some c.in-Some.place.now.port)
there g c = port_seen c.self.inside.all c.args.self.now.all c.args.number c.in-Some.place.now (ap (λ (p : Ports). p.all) c.self.view_is) (written g c (left g c)).0

settled : (g : Over) (c : After-settle g) → IsSettled c.give_up.new.hub (g.H.Host.moves c.args.host.now) c.args.self.now.all c.args.number c.give_up.new.self c.settle.new.hub (g.H.Host.moves c.settle.new.host) (seen c.settle.new.all)
settled g c = acted_settled c.self.inside.all (c.get_mut.follows.lender (left g c)) c.args.number c.in-Some.place.now (left g c) c.give_up.new.hub c.settle.new.hub (g.H.Host.moves c.args.host.now) (g.H.Host.moves c.settle.new.host) c.args.self.now.all (seen c.settle.new.all) (ap (λ (p : Ports). p.all) c.self.view_is) (written g c (left g c)) c.settle.ensures.settled

pub returns-in_default-clause-serves : goal.returns-in_default-clause-serves
returns-in_default-clause-serves g c = same_serves _ _ _ _ (ap seen c.get_mut.follows.holds-at-none ∙ ap (λ (p : Ports). p.all) c.self.view_is)

pub returns-in_default-clause-asks : goal.returns-in_default-clause-asks
returns-in_default-clause-asks g c = same_asks _ _ _ (ap seen c.get_mut.follows.holds-at-none ∙ ap (λ (p : Ports). p.all) c.self.view_is)

pub settle-requires : goal.settle-requires
settle-requires g c =
    let left : Place = record { port = c.give_up.new.self; is_queued = c.in-Some.place.now.is_queued } in
    let r : Rewritten c.self.inside.all c.args.number c.in-Some.place.now left (c.get_mut.follows.lender left) = (sym c.get_mut.ensures.value ∙ ap option_copied_mut c.in-Some.is, rw c.in-Some.is at (c.get_mut.follows.holds left)) in
    (c.self.inside.turns.items, vec_capacity c.self.inside.turns, acted_kept c.self.inside.all (c.get_mut.follows.lender left) c.args.number c.in-Some.place.now left c.self.inside.turns.items c.self.inside.next.items c.self.inside.open _ _ r refl c.self.invariant)

pub invariant_of-self-2 : goal.invariant_of-self-2
invariant_of-self-2 g c = c.settle.ensures.kept c.self.inside.turns.items (vec_capacity c.self.inside.turns) (acted_kept c.self.inside.all (c.get_mut.follows.lender (left g c)) c.args.number c.in-Some.place.now (left g c) c.self.inside.turns.items c.self.inside.next.items c.self.inside.open _ _ (written g c (left g c)) refl c.self.invariant)

pub returns-clause-serves : goal.returns-clause-serves
returns-clause-serves g c = settled_serves c.args.number c.args.hub.now c.give_up.new.hub c.settle.new.hub (g.H.Host.moves c.args.host.now) (g.H.Host.moves c.args.host.now) (g.H.Host.moves c.settle.new.host) c.in-Some.place.now.port c.give_up.new.self c.args.self.now.all (seen c.settle.new.all) (there g c) (c.give_up.ensures.serves (g.H.Host.moves c.args.host.now)) (settled g c)

pub returns-clause-marks : goal.returns-clause-marks
returns-clause-marks g c = settled_up c.args.number c.args.hub.now c.give_up.new.hub c.settle.new.hub (g.H.Host.moves c.args.host.now) (g.H.Host.moves c.settle.new.host) c.in-Some.place.now.port c.give_up.new.self c.args.self.now.all (seen c.settle.new.all) (there g c) c.give_up.ensures.marks c.give_up.ensures.undone (settled g c)

pub returns-clause-closes : goal.returns-clause-closes
returns-clause-closes g c = settled_closes c.args.number c.give_up.new.hub c.settle.new.hub (g.H.Host.moves c.args.host.now) (g.H.Host.moves c.settle.new.host) c.in-Some.place.now.port c.give_up.new.self c.args.self.now.all (seen c.settle.new.all) (there g c) (settled g c)

pub returns-clause-asks : goal.returns-clause-asks
returns-clause-asks g c =
    let over = is_ended c.give_up.new.self c.give_up.ensures.ended in
    settled_asks c.args.number [] c.give_up.new.hub c.settle.new.hub (g.H.Host.moves c.args.host.now) (g.H.Host.moves c.args.host.now) (g.H.Host.moves c.settle.new.host) c.in-Some.place.now.port c.give_up.new.self c.args.self.now.all (seen c.settle.new.all) (there g c) (quiet_asks c.args.number (g.H.Host.moves c.args.host.now) c.in-Some.place.now.port c.give_up.new.self (port_at c.args.self.now.all) c.give_up.ensures.left (λ on. c.give_up.ensures.may_write ∙ on) (λ e. over) (λ may. inr over)) (settled g c)
