use Rattle.std.proofs.Common.{◌≡◌, [], ◌∷◌, inl, Some, slice_get, refl, sym, ap, subst, ◌∙◌}
use Rattle.std.specs.Option.{option_copied_mut}
use Rattle.std.specs.Vec.{vec_capacity}
use Rattle.ipc_loop.specs.declared.links.Ready.{Ready}
use Rattle.ipc_loop.specs.declared.links.Ready.TheVariants.{Link}
use Rattle.ipc_loop.specs.Hearing.{NotesAll}
use Rattle.ipc_loop.specs.Ports.{Port, port_at, unfed_of}
use Rattle.ipc_loop.specs.Standing.{Ports, IsSettled, seen}
use Rattle.ipc_loop.specs.declared.ports.Place.{Place}
use Rattle.ipc_loop.proofs.PortLemmas.{Slots}
use Rattle.ipc_loop.proofs.PlaceLemmas.{Rewritten}
use Rattle.ipc_loop.proofs.ActingLemmas.{acted_settled, acted_kept, none_seen, port_seen}
use Rattle.ipc_loop.proofs.MoveLemmas.{go_nowhere}
use Rattle.ipc_loop.proofs.OwingLemmas.{same_keep}
use Rattle.ipc_loop.proofs.ServingLemmas.{served_nothing, same_serves, stays_serve}
use Rattle.ipc_loop.proofs.TurnLemmas.{settled_serves}
use Rattle.ipc_loop.proofs.UndoneLemmas.{settled_up, same_undone}
use Rattle.ipc_loop.proofs.OpeningLemmas.{settled_closes}
use Rattle.ipc_loop.proofs.AskingLemmas.{asked_nothing, same_asks, quiet_asks, settled_asks, noted_may, noted_write}
use Rattle.ipc_loop.proofs.HearingLemmas.{notes_none, notes_settled}
use Rattle.ipc_loop.proofs.ports.Ports.note.Given.{Over}
use Rattle.ipc_loop.proofs.ports.Ports.note.Goals as goal
use Rattle.ipc_loop.proofs.ports.Ports.note.Goals.{After-settle}

-- what is left in the place
abbrev left : (g : Over) → After-settle g → Place
left g c = record { port = c.note.new.self; is_queued = c.in-Some.place.now.is_queued }

written : (g : Over) (c : After-settle g) (place : Place) → Rewritten c.self.inside.all c.in-Link.number c.in-Some.place.now place (c.get_mut.follows.lender place)
written g c place = (sym c.get_mut.ensures.value ∙ ap option_copied_mut c.in-Some.is, rw c.in-Some.is at (c.get_mut.follows.holds place))

there : (g : Over) (c : After-settle g) → slice_get c.args.self.now.all c.in-Link.number ≡ Some (Some c.in-Some.place.now.port)
there g c = port_seen c.self.inside.all c.args.self.now.all c.in-Link.number c.in-Some.place.now (ap (λ (p : Ports). p.all) c.self.view_is) (written g c (left g c)).0

settled : (g : Over) (c : After-settle g) → IsSettled c.args.hub.now (g.H.Host.moves c.args.host.now) c.args.self.now.all c.in-Link.number c.note.new.self c.settle.new.hub (g.H.Host.moves c.settle.new.host) (seen c.settle.new.all)
settled g c = acted_settled c.self.inside.all (c.get_mut.follows.lender (left g c)) c.in-Link.number c.in-Some.place.now (left g c) c.args.hub.now c.settle.new.hub (g.H.Host.moves c.args.host.now) (g.H.Host.moves c.settle.new.host) c.args.self.now.all (seen c.settle.new.all) (ap (λ (p : Ports). p.all) c.self.view_is) (written g c (left g c)) c.settle.ensures.settled

pub returns-in_default-clause-serves : goal.returns-in_default-clause-serves
returns-in_default-clause-serves g c = served_nothing _ _ _

pub returns-in_default-clause-asks : goal.returns-in_default-clause-asks
returns-in_default-clause-asks g c = asked_nothing _ _

pub returns-in_default-get_mut-clause-serves : goal.returns-in_default-get_mut-clause-serves
returns-in_default-get_mut-clause-serves g c = same_serves _ _ _ _ (ap seen c.get_mut.follows.holds-at-none ∙ ap (λ (p : Ports). p.all) c.self.view_is)

pub returns-in_default-get_mut-clause-asks : goal.returns-in_default-get_mut-clause-asks
returns-in_default-get_mut-clause-asks g c = same_asks _ _ _ (ap seen c.get_mut.follows.holds-at-none ∙ ap (λ (p : Ports). p.all) c.self.view_is)

pub returns-in_default-get_mut-clause-notes : goal.returns-in_default-get_mut-clause-notes
returns-in_default-get_mut-clause-notes g c = subst (λ (r : Ready). NotesAll (r ∷ []) c.args.self.now.all (seen c.get_mut.follows.lender-at-none)) (sym c.in-Link.is)
    (subst (λ (zs : Slots). NotesAll (Link c.in-Link.number c.in-Link.is_readable c.in-Link.is_writable c.in-Link.has_ended ∷ []) c.args.self.now.all zs) (sym (ap seen c.get_mut.follows.holds-at-none ∙ ap (λ (p : Ports). p.all) c.self.view_is)) (notes_none c.in-Link.number c.in-Link.is_readable c.in-Link.is_writable c.in-Link.has_ended c.args.self.now.all (none_seen c.self.inside.all c.args.self.now.all c.in-Link.number (ap (λ (p : Ports). p.all) c.self.view_is) (sym c.get_mut.ensures.value ∙ ap option_copied_mut c.in_default-get_mut.is))))

pub settle-requires : goal.settle-requires
settle-requires g c =
    let left : Place = record { port = c.note.new.self; is_queued = c.in-Some.place.now.is_queued } in
    let r : Rewritten c.self.inside.all c.in-Link.number c.in-Some.place.now left (c.get_mut.follows.lender left) = (sym c.get_mut.ensures.value ∙ ap option_copied_mut c.in-Some.is, rw c.in-Some.is at (c.get_mut.follows.holds left)) in
    (c.self.inside.turns.items, vec_capacity c.self.inside.turns, acted_kept c.self.inside.all (c.get_mut.follows.lender left) c.in-Link.number c.in-Some.place.now left c.self.inside.turns.items c.self.inside.next.items c.self.inside.open _ _ r refl c.self.invariant)

pub invariant_of-self-2 : goal.invariant_of-self-2
invariant_of-self-2 g c = c.settle.ensures.kept c.self.inside.turns.items (vec_capacity c.self.inside.turns) (acted_kept c.self.inside.all (c.get_mut.follows.lender (left g c)) c.in-Link.number c.in-Some.place.now (left g c) c.self.inside.turns.items c.self.inside.next.items c.self.inside.open _ _ (written g c (left g c)) refl c.self.invariant)

pub returns-clause-serves : goal.returns-clause-serves
returns-clause-serves g c = settled_serves c.in-Link.number c.args.hub.now c.args.hub.now c.settle.new.hub (g.H.Host.moves c.args.host.now) (g.H.Host.moves c.args.host.now) (g.H.Host.moves c.settle.new.host) c.in-Some.place.now.port c.note.new.self c.args.self.now.all (seen c.settle.new.all) (there g c) (stays_serve c.in-Link.number c.args.hub.now (g.H.Host.moves c.args.host.now) (g.H.Host.moves c.args.host.now) c.in-Some.place.now.port c.note.new.self (go_nowhere _) (ap (λ (p : Port). p.left) c.note.ensures) (ap (λ (p : Port). p.ending) c.note.ensures)) (settled g c)

pub returns-clause-marks : goal.returns-clause-marks
returns-clause-marks g c = settled_up c.in-Link.number c.args.hub.now c.args.hub.now c.settle.new.hub (g.H.Host.moves c.args.host.now) (g.H.Host.moves c.settle.new.host) c.in-Some.place.now.port c.note.new.self c.args.self.now.all (seen c.settle.new.all) (there g c) (same_keep c.in-Link.number c.args.hub.now c.in-Some.place.now.port c.note.new.self (ap (λ (p : Port). p.left) c.note.ensures)) (same_undone c.in-Link.number c.args.hub.now) (settled g c)

pub returns-clause-closes : goal.returns-clause-closes
returns-clause-closes g c = settled_closes c.in-Link.number c.args.hub.now c.settle.new.hub (g.H.Host.moves c.args.host.now) (g.H.Host.moves c.settle.new.host) c.in-Some.place.now.port c.note.new.self c.args.self.now.all (seen c.settle.new.all) (there g c) (settled g c)

pub returns-clause-asks : goal.returns-clause-asks
returns-clause-asks g c = settled_asks c.in-Link.number [] c.args.hub.now c.settle.new.hub (g.H.Host.moves c.args.host.now) (g.H.Host.moves c.args.host.now) (g.H.Host.moves c.settle.new.host) c.in-Some.place.now.port c.note.new.self c.args.self.now.all (seen c.settle.new.all) (there g c) (quiet_asks c.in-Link.number (g.H.Host.moves c.args.host.now) c.in-Some.place.now.port c.note.new.self (port_at c.args.self.now.all) (ap (λ (p : Port). p.left) c.note.ensures) (λ on. noted_write c.in-Some.place.now.port c.note.new.self _ _ _ c.note.ensures on) (λ e. ap (λ (p : Port). unfed_of (Some p)) c.note.ensures ∙ e) (λ may. inl (noted_may c.in-Some.place.now.port c.note.new.self _ _ _ c.note.ensures may))) (settled g c)

pub returns-clause-notes : goal.returns-clause-notes
returns-clause-notes g c = subst (λ (x : Ready). NotesAll (x ∷ []) c.args.self.now.all (seen c.settle.new.all)) (sym c.in-Link.is)
    (notes_settled c.in-Link.number c.in-Link.is_readable c.in-Link.is_writable c.in-Link.has_ended c.args.hub.now c.settle.new.hub (g.H.Host.moves c.args.host.now) (g.H.Host.moves c.settle.new.host) c.in-Some.place.now.port c.note.new.self c.args.self.now.all (seen c.settle.new.all) (there g c) c.note.ensures (settled g c))
