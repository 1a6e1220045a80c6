use Rattle.std.proofs.Common.{◌≡◌, [], ◌<◌, length, slice_get, Option, Some, sym, ap, ◌∙◌, arith}
use Rattle.std.specs.Prelude.{unwrap_or}
use Rattle.std.specs.Option.{option_copied, option_map}
use Rattle.ipc_hub.specs.Hub.{Hub, Connection, untaken}
use Rattle.ipc_hub.specs.Gone.{all_of, gone_at}
use Rattle.ipc_hub.proofs.KeptLemmas.{kept_there, gone_there, away_at}
use Rattle.ipc_hub.proofs.hub.Hub.untaken.Goals as goal
use Rattle.ipc_core.specs.CoreView.{CoreView}

pub returns-in-Some-clause-ok : goal.returns-in-Some-clause-ok
returns-in-Some-clause-ok c =
    let kept = sym c.get.ensures ∙ ap option_copied c.in-Some.is in
    let seen : slice_get c.args.self.now.connections c.args.conn.0 ≡ Some c.in-Some.connection.now = ap (λ (h : Hub). slice_get h.connections c.args.conn.0) (sym c.self.view_is) ∙ ap (slice_get (all_of c.self.inside.connections c.self.inside.gone.value)) (sym c.in_ok-i.ensures.ok.0) ∙ kept_there c.self.inside.connections c.self.inside.gone.value c.in_ok-i.i c.in-Some.connection.now kept in
    c.untaken.ensures ∙ ap (λ (a : CoreView). length (untaken a c.in-Some.connection.now)) (c.core.ensures ∙ ap (λ (h : Hub). h.core) c.self.view_is) ∙ sym (ap (λ (o : Option Connection). length (unwrap_or (option_map (untaken c.args.self.now.core) o) [])) seen)

pub returns-in-None-clause-ok : goal.returns-in-None-clause-ok
returns-in-None-clause-ok c =
    let same = ap (λ (h : Hub). length h.connections) c.self.view_is in
    let lt = c.in_ok-i.ensures.ok.1 in
    let absent = sym c.get.ensures ∙ ap option_copied c.in-None.is in
    let within : c.in_ok-i.i < length (all_of c.self.inside.connections c.self.inside.gone.value) = omega arith in
    let away = away_at c.self.inside.core.core c.self.inside.connections c.self.inside.gone.value c.in_ok-i.i c.self.invariant.1 within absent in
    let seen : slice_get c.args.self.now.connections c.args.conn.0 ≡ Some (gone_at c.self.inside.gone.value c.in_ok-i.i) = ap (λ (h : Hub). slice_get h.connections c.args.conn.0) (sym c.self.view_is) ∙ ap (slice_get (all_of c.self.inside.connections c.self.inside.gone.value)) (sym c.in_ok-i.ensures.ok.0) ∙ gone_there c.self.inside.connections c.self.inside.gone.value c.in_ok-i.i within absent in
    sym (ap length (ap (λ (o : Option Connection). unwrap_or (option_map (untaken c.args.self.now.core) o) []) seen ∙ ap (λ (h : Hub). untaken h.core (gone_at c.self.inside.gone.value c.in_ok-i.i)) (sym c.self.view_is) ∙ away.nothing))
