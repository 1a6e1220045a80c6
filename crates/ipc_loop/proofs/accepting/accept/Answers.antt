use Rattle.std.proofs.Common.{◌≡◌, ◌-◌, ◌∷◌, [], ◌++◌, ℕ, List, Option, Some, length, take, slice_get, sym, ap, subst, ◌∙◌, arith}
use Rattle.std.proofs.lemmas.List.{length_push}
use Rattle.ipc_loop.specs.Moves.{LinkOpened, GoOn}
use Rattle.ipc_loop.specs.Ports.{Port, new_port, port_at, open_at}
use Rattle.ipc_loop.specs.Serving.{KeepsUpToDate}
use Rattle.ipc_loop.proofs.PortLemmas.{Slots}
use Rattle.ipc_loop.proofs.PlaceLemmas.{last_pushed, without_pushed}
use Rattle.ipc_loop.proofs.AcceptingLemmas.{unasked_serves, refused_serves, accepted_serves}
use Rattle.ipc_loop.proofs.UndoneLemmas.{accepted_up}
use Rattle.ipc_loop.proofs.AskingLemmas.{same_asks, nobody_asks, opened_asks}
use Rattle.ipc_loop.proofs.accepting.accept.Goals as goal

last_of : (xs ys : Slots) → ys ≡ xs ++ Some new_port ∷ [] → slice_get ys (length ys - 1) ≡ Some (Some new_port)
last_of xs ys is = rw is (last_pushed xs (length (xs ++ Some new_port ∷ []) - 1) (Some new_port) (let long = length_push xs (Some new_port) in omega arith))

undone : (xs ys zs : Slots) → ys ≡ xs ++ Some new_port ∷ [] → zs ≡ take (length ys - 1) ys → zs ≡ xs
undone xs ys zs is left = left ∙ ap (λ (ws : Slots). take (length ws - 1) ws) is ∙ without_pushed xs (length (xs ++ Some new_port ∷ []) - 1) (Some new_port) (let long = length_push xs (Some new_port) in omega arith)

pub returns-in_default-clause-serves : goal.returns-in_default-clause-serves
returns-in_default-clause-serves g c = unasked_serves _ _ _ _ _ c.in_default.ensures.err (c.prepare.ensures.serves (g.H.Host.moves c.args.host.now) (port_at c.args.ports.now.all))

pub returns-in_default-clause-marks : goal.returns-in_default-clause-marks
returns-in_default-clause-marks g c = subst (λ (zs : List (Option Port)). KeepsUpToDate c.args.hub.now (open_at c.args.ports.now.all) c.prepare.new.hub (open_at zs)) (sym c.in_default.ensures.err) (c.prepare.ensures.marks (open_at c.args.ports.now.all))

pub returns-in_default-clause-asks : goal.returns-in_default-clause-asks
returns-in_default-clause-asks g c = same_asks _ _ _ c.in_default.ensures.err

pub undo_push-requires : goal.undo_push-requires
undo_push-requires g c = last_of c.args.ports.now.all c.prepare.new.ports.all c.in-Ok.ensures.ok

pub returns-clause-serves : goal.returns-clause-serves
returns-clause-serves g c = refused_serves _ _ _ _ _ _ _ (undone c.args.ports.now.all _ _ c.in-Ok.ensures.ok c.undo_push.ensures.all) c.in-Err.ensures.moved (c.prepare.ensures.serves (g.H.Host.moves c.args.host.now) (port_at c.args.ports.now.all))

pub returns-clause-marks : goal.returns-clause-marks
returns-clause-marks g c = subst (λ (zs : List (Option Port)). KeepsUpToDate c.args.hub.now (open_at c.args.ports.now.all) c.prepare.new.hub (open_at zs)) (sym (undone c.args.ports.now.all _ _ c.in-Ok.ensures.ok c.undo_push.ensures.all)) (c.prepare.ensures.marks (open_at c.args.ports.now.all))

pub returns-clause-asks : goal.returns-clause-asks
returns-clause-asks g c = nobody_asks _ _ _ _ _ (undone c.args.ports.now.all _ _ c.in-Ok.ensures.ok c.undo_push.ensures.all) c.in-Err.ensures.moved

pub returns-in_default-accept-clause-serves : goal.returns-in_default-accept-clause-serves
returns-in_default-accept-clause-serves g c =
    let went = subst (λ (n : ℕ). GoOn (g.H.Host.moves c.args.host.now) (g.H.Host.moves c.accept.new.self) (LinkOpened n ∷ [])) c.len-number.ensures c.in_default-accept.ensures.moved in
    accepted_serves _ _ _ _ _ _ c.in-Ok.ensures.ok went (c.prepare.ensures.serves (g.H.Host.moves c.args.host.now) (port_at c.args.ports.now.all))

pub returns-in_default-accept-clause-marks : goal.returns-in_default-accept-clause-marks
returns-in_default-accept-clause-marks g c =
    accepted_up c.args.hub.now c.prepare.new.hub c.args.ports.now.all c.prepare.new.ports.all c.in-Ok.ensures.untaken c.in-Ok.ensures.going c.in-Ok.ensures.ok (c.prepare.ensures.marks (open_at c.args.ports.now.all))

pub returns-in_default-accept-clause-asks : goal.returns-in_default-accept-clause-asks
returns-in_default-accept-clause-asks g c = opened_asks _ _ _ c.args.ports.now.all c.prepare.new.ports.all c.in-Ok.ensures.ok c.in_default-accept.ensures.moved
