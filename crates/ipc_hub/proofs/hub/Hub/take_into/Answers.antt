use Rattle.std.proofs.Common.{◌≡◌, [], ◌<◌, List, length, set, slice_get, Some, None, sym, ap, subst, ◌∙◌, arith}
use Rattle.std.specs.Option.{option_copied_mut}
use Rattle.ipc_containers.specs.Slots.{at}
use Rattle.ipc_hub.specs.Hub.{Hub, Connection}
use Rattle.ipc_hub.specs.Gone.{all_of, gone_at}
use Rattle.ipc_hub.specs.Sessions.{Stands}
use Rattle.ipc_hub.proofs.KeptLemmas.{kept_there, gone_there, away_at, kept_set, same_written, on_err}
use Rattle.ipc_hub.proofs.hub.Hub.take_into.Goals as goal
use Rattle.ipc_policy.specs.Decides.Verdict.{Legal}
use Rattle.ipc_state.specs.Ranges.{first_bad}
use Rattle.ipc_core.specs.CoreView.{CoreView}
use Rattle.ipc_core.specs.Outboxes.{BoxesAgree}
use Rattle.ipc_terms.specs.Lists.{changed}
use Rattle.ipc_hub.proofs.HubLemmas.{untaken_spelled}
use Rattle.ipc_hub.proofs.HubMarks.{taken_stands}
use Rattle.ipc_hub.proofs.HubCalls.{taken_is}
use Rattle.ipc_hub.proofs.KeptLemmas.{taken_away, takes_nothing}
use Rattle.std.proofs.lemmas.List.{append-nil}
use Rattle.ipc_hub.specs.Hub.{Takes}
use Rattle.ipc_hub.specs.Gone.{IsAway}
use Rattle.ipc_hub.specs.MarkedCore.{MarkedView}
use Rattle.ipc_hub.proofs.hub.Hub.take_into.Goals.{In-Some, After-take_into}

kept : (c : In-Some) → at c.self.inside.connections c.in_ok-i.i ≡ Some c.in-Some.connection.now
kept c = sym c.get_mut.ensures.value ∙ ap option_copied_mut c.in-Some.is

there : (c : In-Some) → slice_get (all_of c.self.inside.connections c.self.inside.gone.value) c.in_ok-i.i ≡ Some c.in-Some.connection.now
there c = kept_there c.self.inside.connections c.self.inside.gone.value c.in_ok-i.i c.in-Some.connection.now (kept c)

wrote : (c : After-take_into) → c.get_mut.follows.lender c.take_into.new.self ≡ changed (λ o. Some c.take_into.new.self) c.self.inside.connections c.in_ok-i.i
wrote c = rw c.in-Some.is at (c.get_mut.follows.holds c.take_into.new.self)

now : (c : After-take_into) → all_of (c.get_mut.follows.lender c.take_into.new.self) c.self.inside.gone.value ≡ set (all_of c.self.inside.connections c.self.inside.gone.value) c.in_ok-i.i c.take_into.new.self
now c = rw (wrote c) (kept_set c.self.inside.connections c.self.inside.gone.value c.in_ok-i.i c.in-Some.connection.now c.take_into.new.self (kept (goal.at.After-take_into c).In-Some))

pub returns-in_default-clause-ok : goal.returns-in_default-clause-ok
returns-in_default-clause-ok c =
    let same = ap (λ (h : Hub). length h.connections) c.self.view_is in
    let lt = c.in_ok-i.ensures.ok.1 in
    let absent = sym c.get_mut.ensures.value ∙ ap option_copied_mut c.in_default.is in
    let within : c.in_ok-i.i < length (all_of c.self.inside.connections c.self.inside.gone.value) = omega arith in
    let away = away_at c.self.inside.core.core c.self.inside.connections c.self.inside.gone.value c.in_ok-i.i c.self.invariant.1 within absent in
    let seen : slice_get c.args.self.now.connections c.args.conn.0 ≡ Some (gone_at c.self.inside.gone.value c.in_ok-i.i) = ap (λ (h : Hub). slice_get h.connections c.args.conn.0) (sym c.self.view_is) ∙ ap (slice_get (all_of c.self.inside.connections c.self.inside.gone.value)) (sym c.in_ok-i.ensures.ok.0) ∙ gone_there c.self.inside.connections c.self.inside.gone.value c.in_ok-i.i within absent in
    let core = ap (λ (h : Hub). h.core) c.self.view_is in
    ([], sym (append-nil c.args.out.now.items), rw (c.get_mut.follows.holds-at-none) (subst (λ (h : Hub). Takes c.args.self.now c.args.conn.0 [] h) (sym c.self.view_is) (takes_nothing c.args.self.now c.args.conn.0 (gone_at c.self.inside.gone.value c.in_ok-i.i) seen (subst (λ (a : CoreView). IsAway a (gone_at c.self.inside.gone.value c.in_ok-i.i)) core away))))

pub take_into-requires : goal.take_into-requires
take_into-requires c =
    let range = subst (λ (a : CoreView). first_bad a.config.limits ≡ None) c.core.ensures c.is_legal.ensures.in_range in
    let legal = subst (λ (a : CoreView). Legal a.config a.history) c.core.ensures c.is_legal.ensures.legal in
    let last = subst (λ (a : CoreView). BoxesAgree a.config a.history a.untaken) c.core-2.ensures c.keeps_the_last.ensures in
    untaken_spelled c.self.inside.core.core c.in-Some.connection.now range legal last

pub invariant_of-self-in_err-take_into : goal.invariant_of-self-in_err-take_into
invariant_of-self-in_err-take_into c =
    let back = wrote (goal.at.invariant_of-self-in_err-take_into c).After-take_into ∙ same_written c.self.inside.connections c.in_ok-i.i c.in-Some.connection.now c.take_into.new.self (kept (goal.at.invariant_of-self-in_err-take_into c).In-Some) c.in_err-take_into.ensures.err in
    rw (back, c.in_err-take_into.ensures.same) c.self.invariant

pub returns-in_err-take_into-clause-err : goal.returns-in_err-take_into-clause-err
returns-in_err-take_into-clause-err c =
    let back = wrote (goal.at.returns-in_err-take_into-clause-err c).After-take_into ∙ same_written c.self.inside.connections c.in_ok-i.i c.in-Some.connection.now c.take_into.new.self (kept (goal.at.returns-in_err-take_into-clause-err c).In-Some) c.in_err-take_into.ensures.err in
    on_err c.from_residual-in_err-take_into.result (rw (back, c.in_err-take_into.ensures.same) c.self.view_is)

pub invariant_of-self-2 : goal.invariant_of-self-2
invariant_of-self-2 c =
    let after = (goal.at.invariant_of-self-2 c).After-take_into in
    let x = c.in-Some.connection.now in (
      subst (λ (xs : List Connection). Stands c.take_into.new.core xs) (sym (now after)) (taken_stands c.self.inside.core c.take_into.new.core (all_of c.self.inside.connections c.self.inside.gone.value) c.in_ok-i.i x c.take_into.new.self c.self.invariant.0 (there (goal.at.invariant_of-self-2 c).In-Some) c.in_ok-take_into.ensures.core c.in_ok-take_into.ensures.ok),
      rw (wrote after) (taken_away x.session c.self.inside.core.core c.take_into.new.core.core c.self.inside.connections c.self.inside.gone.value c.in_ok-i.i c.take_into.new.self (ap (λ (m : MarkedView). m.core) c.in_ok-take_into.ensures.core) c.self.invariant.1),
    )

pub returns-clause-ok : goal.returns-clause-ok
returns-clause-ok c =
    rw (now (goal.at.returns-clause-ok c).After-take_into) (taken_is c.args.self.now c.self.inside.core c.take_into.new.core (all_of c.self.inside.connections c.self.inside.gone.value) c.in_ok-i.i c.args.conn.0 c.in-Some.connection.now c.take_into.new.self c.args.out.now.items c.take_into.new.out.items c.self.view_is c.in_ok-i.ensures.ok.0 (there (goal.at.returns-clause-ok c).In-Some) c.in_ok-take_into.ensures.core c.in_ok-take_into.ensures.ok c.in_ok-take_into.ensures.put)
