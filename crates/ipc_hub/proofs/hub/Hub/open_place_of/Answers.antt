use Rattle.std.proofs.Common.{◌≡◌, ◌<◌, Bool, cond, length, slice_get, Some, None, sym, ap, ◌∙◌, arith}
use Rattle.std.specs.Option.{option_copied}
use Rattle.ipc_hub.specs.Hub.{Hub, fault_of_change}
use Rattle.ipc_hub.specs.Gone.{all_of, gone_at}
use Rattle.ipc_hub.specs.declared.fed.HubFault.TheVariants.{Ended}
use Rattle.ipc_hub.proofs.KeptLemmas.{kept_there, gone_there, away_at}
use Rattle.ipc_hub.proofs.hub.Hub.open_place_of.Goals as goal

pub returns-in-Some-clause-none : goal.returns-in-Some-clause-none
returns-in-Some-clause-none c =
    let kept = sym c.get.ensures ∙ ap option_copied c.in-Some.is in
    let seen : slice_get c.args.self.now.connections c.args.conn.0 ≡ Some c.in-Some.connection.now = ap (λ (h : Hub). slice_get h.connections c.args.conn.0) (sym c.self.view_is) ∙ ap (slice_get (all_of c.self.inside.connections c.self.inside.gone.value)) (sym c.in_ok-i.ensures.ok.0) ∙ kept_there c.self.inside.connections c.self.inside.gone.value c.in_ok-i.i c.in-Some.connection.now kept in
    ap fault_of_change seen ∙ ap (λ (b : Bool). cond b (Some Ended) None) (sym c.is_over.ensures ∙ c.if-not-is_over.true)

pub returns-in_default-clause-fault : goal.returns-in_default-clause-fault
returns-in_default-clause-fault c =
    let kept = sym c.get.ensures ∙ ap option_copied c.in-Some.is in
    let seen : slice_get c.args.self.now.connections c.args.conn.0 ≡ Some c.in-Some.connection.now = ap (λ (h : Hub). slice_get h.connections c.args.conn.0) (sym c.self.view_is) ∙ ap (slice_get (all_of c.self.inside.connections c.self.inside.gone.value)) (sym c.in_ok-i.ensures.ok.0) ∙ kept_there c.self.inside.connections c.self.inside.gone.value c.in_ok-i.i c.in-Some.connection.now kept in
    ap fault_of_change seen ∙ ap (λ (b : Bool). cond b (Some Ended) None) (sym c.is_over.ensures ∙ c.if-not-is_over.false)

pub returns-in_default-2-clause-fault : goal.returns-in_default-2-clause-fault
returns-in_default-2-clause-fault c =
    let same = ap (λ (h : Hub). length h.connections) c.self.view_is in
    let lt = c.in_ok-i.ensures.ok.1 in
    let absent = sym c.get.ensures ∙ ap option_copied c.in_default.is in
    let within : c.in_ok-i.i < length (all_of c.self.inside.connections c.self.inside.gone.value) = omega arith in
    let away = away_at c.self.inside.core.core c.self.inside.connections c.self.inside.gone.value c.in_ok-i.i c.self.invariant.1 within absent in
    let seen : slice_get c.args.self.now.connections c.args.conn.0 ≡ Some (gone_at c.self.inside.gone.value c.in_ok-i.i) = ap (λ (h : Hub). slice_get h.connections c.args.conn.0) (sym c.self.view_is) ∙ ap (slice_get (all_of c.self.inside.connections c.self.inside.gone.value)) (sym c.in_ok-i.ensures.ok.0) ∙ gone_there c.self.inside.connections c.self.inside.gone.value c.in_ok-i.i within absent in
    ap fault_of_change seen ∙ ap (λ (b : Bool). cond b (Some Ended) None) away.over
