use Rattle.std.proofs.Common.{ℕ, ◌<◌, length, slice_get, Some, sym, ap, ◌∙◌, arith}
use Rattle.std.specs.Option.{option_copied, option_map}
use Rattle.ipc_hub.specs.Hub.{Hub, Connection}
use Rattle.ipc_hub.specs.Gone.{all_of}
use Rattle.ipc_hub.proofs.KeptLemmas.{kept_there, gone_there, away_at}
use Rattle.ipc_hub.proofs.hub.Hub.is_over.Goals as goal

pub returns-in-Some-clause-ok : goal.returns-in-Some-clause-ok
returns-in-Some-clause-ok c =
    let kept = sym c.get.ensures ∙ ap option_copied c.in-Some.is in
    let there = kept_there c.self.inside.connections c.self.inside.gone.value c.in_ok-i.i c.in-Some.connection.now kept in
    ap (λ (h : Hub). option_map (λ (x : Connection). x.is_over) (slice_get h.connections c.args.conn.0)) (sym c.self.view_is)
    ∙ ap (λ (n : ℕ). option_map (λ (x : Connection). x.is_over) (slice_get (all_of c.self.inside.connections c.self.inside.gone.value) n)) (sym c.in_ok-i.ensures.ok.0)
    ∙ ap (option_map (λ (x : Connection). x.is_over)) there
    ∙ ap Some (sym c.is_over.ensures)

pub returns-in-None-clause-ok : goal.returns-in-None-clause-ok
returns-in-None-clause-ok c =
    let same = ap (λ (h : Hub). length h.connections) c.self.view_is in
    let lt = c.in_ok-i.ensures.ok.1 in
    let absent = sym c.get.ensures ∙ ap option_copied c.in-None.is in
    let within : c.in_ok-i.i < length (all_of c.self.inside.connections c.self.inside.gone.value) = omega arith in
    let away = away_at c.self.inside.core.core c.self.inside.connections c.self.inside.gone.value c.in_ok-i.i c.self.invariant.1 within absent in
    ap (λ (h : Hub). option_map (λ (x : Connection). x.is_over) (slice_get h.connections c.args.conn.0)) (sym c.self.view_is)
    ∙ ap (λ (n : ℕ). option_map (λ (x : Connection). x.is_over) (slice_get (all_of c.self.inside.connections c.self.inside.gone.value) n)) (sym c.in_ok-i.ensures.ok.0)
    ∙ ap (option_map (λ (x : Connection). x.is_over)) (gone_there c.self.inside.connections c.self.inside.gone.value c.in_ok-i.i within absent)
    ∙ ap Some away.over
