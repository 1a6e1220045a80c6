use Rattle.std.proofs.Common.{◌≡◌, ◌<◌, length, slice_get, Option, Some, is_some, refl, sym, ap, subst, ◌∙◌, arith}
use Rattle.std.specs.Option.{option_copied, option_map}
use Rattle.ipc_hub.specs.Hub.{Hub, Connection, IsSessionFault}
use Rattle.ipc_hub.specs.Gone.{all_of, gone_at}
use Rattle.ipc_hub.specs.declared.fed.HubFault.TheVariants.{Ended}
use Rattle.ipc_hub.proofs.KeptLemmas.{kept_there, gone_there, away_at}
use Rattle.ipc_hub.proofs.hub.Hub.has_session.Goals as goal

pub returns-in-Some-clause-ok : goal.returns-in-Some-clause-ok
returns-in-Some-clause-ok c =
    let kept = sym c.get.ensures ∙ ap option_copied c.in-Some.is in
    let seen : slice_get c.args.self.now.connections c.args.conn.0 ≡ Some c.in-Some.connection.now = ap (λ (h : Hub). slice_get h.connections c.args.conn.0) (sym c.self.view_is) ∙ ap (slice_get (all_of c.self.inside.connections c.self.inside.gone.value)) (sym c.in_ok-i.ensures.ok.0) ∙ kept_there c.self.inside.connections c.self.inside.gone.value c.in_ok-i.i c.in-Some.connection.now kept in
    ap (option_map (λ (x : Connection). is_some x.session)) seen ∙ ap Some (sym c.has_session.ensures)

pub returns-in-None-clause-fault : goal.returns-in-None-clause-fault
returns-in-None-clause-fault c =
    let same = ap (λ (h : Hub). length h.connections) c.self.view_is in
    let lt = c.in_ok-i.ensures.ok.1 in
    let absent = sym c.get.ensures ∙ ap option_copied c.in-None.is in
    let within : c.in_ok-i.i < length (all_of c.self.inside.connections c.self.inside.gone.value) = omega arith in
    let away = away_at c.self.inside.core.core c.self.inside.connections c.self.inside.gone.value c.in_ok-i.i c.self.invariant.1 within absent in
    let seen : slice_get c.args.self.now.connections c.args.conn.0 ≡ Some (gone_at c.self.inside.gone.value c.in_ok-i.i) = ap (λ (h : Hub). slice_get h.connections c.args.conn.0) (sym c.self.view_is) ∙ ap (slice_get (all_of c.self.inside.connections c.self.inside.gone.value)) (sym c.in_ok-i.ensures.ok.0) ∙ gone_there c.self.inside.connections c.self.inside.gone.value c.in_ok-i.i within absent in
    subst (λ (o : Option Connection). IsSessionFault o Ended) (sym seen) (refl, away.over, away.kept)
