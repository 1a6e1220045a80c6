use Rattle.std.proofs.Common.{◌≡◌, [], ℕ, ◌<◌, Bool, true, false, cond, List, length, set, slice_get, Option, Some, None, refl, sym, ap, subst, ◌∙◌, arith}
use Rattle.std.specs.Prelude.{unwrap_or}
use Rattle.std.specs.Option.{option_copied_mut, option_map}
use Rattle.ipc_containers.specs.Slots.{at}
use Rattle.ipc_hub.specs.Hub.{Hub, Connection}
use Rattle.ipc_hub.specs.Gone.{all_of, gone_at}
use Rattle.ipc_hub.specs.Sessions.{Stands}
use Rattle.ipc_hub.proofs.HubMarks.{hub_view}
use Rattle.ipc_hub.proofs.KeptLemmas.{kept_there, gone_there, away_at, kept_set}
use Rattle.ipc_hub.proofs.hub.Hub.discard.Goals as goal
use Rattle.ipc_policy.specs.Decides.Verdict.{Legal}
use Rattle.ipc_state.specs.Ranges.{first_bad}
use Rattle.ipc_core.specs.CoreView.{CoreView}
use Rattle.ipc_core.specs.Outboxes.{BoxesAgree}
use Rattle.ipc_terms.specs.Lists.{changed}
use Rattle.ipc_hub.proofs.HubLemmas.{untaken_spelled}
use Rattle.ipc_hub.proofs.HubMarks.{taken_stands}
use Rattle.ipc_hub.proofs.HubCalls.{discarded_is}
use Rattle.ipc_hub.proofs.KeptLemmas.{taken_away, takes_nothing}
use Rattle.std.proofs.Common.{◌==◌}
use Rattle.std.proofs.lemmas.Bool.{eq-eqb}
use Rattle.ipc_hub.specs.Hub.{Takes, IsGone, is_over_at}
use Rattle.ipc_hub.specs.Sessions.{EachHasItsOwn}
use Rattle.ipc_hub.specs.Gone.{IsAway}
use Rattle.ipc_hub.specs.MarkedCore.{MarkedView}
use Rattle.ipc_hub.proofs.SessionLemmas.{get_set}
use Rattle.ipc_hub.proofs.GoneLemmas.{discarded_gone}
use Rattle.ipc_hub.proofs.KeptLemmas.{gone_of_away}
use Rattle.ipc_hub.proofs.hub.Hub.discard.Goals.{In-Some, After-discard}

kept : (c : In-Some) → at c.self.inside.connections c.in_ok-i.i ≡ Some c.in-Some.connection.now
kept c = sym c.get_mut.ensures.value ∙ ap option_copied_mut c.in-Some.is

there : (c : In-Some) → slice_get (all_of c.self.inside.connections c.self.inside.gone.value) c.in_ok-i.i ≡ Some c.in-Some.connection.now
there c = kept_there c.self.inside.connections c.self.inside.gone.value c.in_ok-i.i c.in-Some.connection.now (kept c)

wrote : (c : After-discard) → c.get_mut.follows.lender c.discard.new.self ≡ changed (λ o. Some c.discard.new.self) c.self.inside.connections c.in_ok-i.i
wrote c = rw c.in-Some.is at (c.get_mut.follows.holds c.discard.new.self)

now : (c : After-discard) → all_of (c.get_mut.follows.lender c.discard.new.self) c.self.inside.gone.value ≡ set (all_of c.self.inside.connections c.self.inside.gone.value) c.in_ok-i.i c.discard.new.self
now c = rw (wrote c) (kept_set c.self.inside.connections c.self.inside.gone.value c.in_ok-i.i c.in-Some.connection.now c.discard.new.self (kept (goal.at.After-discard c).In-Some))

takes : (c : After-discard) → (bytes : List ℕ) × Takes c.args.self.now c.in_ok-i.i bytes (hub_view c.discard.new.core (all_of (c.get_mut.follows.lender c.discard.new.self) c.self.inside.gone.value))
takes c =
    let range = subst (λ (a : CoreView). first_bad a.config.limits ≡ None) c.core.ensures c.is_legal.ensures.in_range in
    let legal = subst (λ (a : CoreView). Legal a.config a.history) c.core.ensures c.is_legal.ensures.legal in
    let last = subst (λ (a : CoreView). BoxesAgree a.config a.history a.untaken) c.core-2.ensures c.keeps_the_last.ensures in
    let spelled = untaken_spelled c.self.inside.core.core c.in-Some.connection.now range legal last in
    rw (now c) (discarded_is c.args.self.now c.self.inside.core c.discard.new.core (all_of c.self.inside.connections c.self.inside.gone.value) c.in_ok-i.i c.in_ok-i.i c.in-Some.connection.now c.discard.new.self c.self.view_is refl (there (goal.at.After-discard c).In-Some) c.discard.ensures.core c.discard.ensures.ok spelled)

goes : (c : After-discard) → is_over_at c.args.self.now c.in_ok-i.i ≡ true → IsGone (hub_view c.discard.new.core (all_of (c.get_mut.follows.lender c.discard.new.self) c.self.inside.gone.value)) c.in_ok-i.i
goes c over = let t = takes c in discarded_gone c.args.self.now _ c.in_ok-i.i t.0 (subst (λ (h : Hub). EachHasItsOwn h.core h.connections) c.self.view_is c.self.invariant.0.sessions) t.1 over

pub returns-in_default-clause-ok : goal.returns-in_default-clause-ok
returns-in_default-clause-ok c =
    let same = ap (λ (h : Hub). length h.connections) c.self.view_is in
    let lt = c.in_ok-i.ensures.ok.1 in
    let absent = sym c.get_mut.ensures.value ∙ ap option_copied_mut c.in_default.is in
    let within : c.in_ok-i.i < length (all_of c.self.inside.connections c.self.inside.gone.value) = omega arith in
    let away = away_at c.self.inside.core.core c.self.inside.connections c.self.inside.gone.value c.in_ok-i.i c.self.invariant.1 within absent in
    let seen : slice_get c.args.self.now.connections c.args.conn.0 ≡ Some (gone_at c.self.inside.gone.value c.in_ok-i.i) = ap (λ (h : Hub). slice_get h.connections c.args.conn.0) (sym c.self.view_is) ∙ ap (slice_get (all_of c.self.inside.connections c.self.inside.gone.value)) (sym c.in_ok-i.ensures.ok.0) ∙ gone_there c.self.inside.connections c.self.inside.gone.value c.in_ok-i.i within absent in
    let core = ap (λ (h : Hub). h.core) c.self.view_is in
    ([], rw (c.get_mut.follows.holds-at-none) (subst (λ (h : Hub). Takes c.args.self.now c.args.conn.0 [] h) (sym c.self.view_is) (takes_nothing c.args.self.now c.args.conn.0 (gone_at c.self.inside.gone.value c.in_ok-i.i) seen (subst (λ (a : CoreView). IsAway a (gone_at c.self.inside.gone.value c.in_ok-i.i)) core away))))

pub returns-in_default-clause-gone : goal.returns-in_default-clause-gone
returns-in_default-clause-gone c = λ over.
    let same = ap (λ (h : Hub). length h.connections) c.self.view_is in
    let lt = c.in_ok-i.ensures.ok.1 in
    let absent = sym c.get_mut.ensures.value ∙ ap option_copied_mut c.in_default.is in
    let within : c.in_ok-i.i < length (all_of c.self.inside.connections c.self.inside.gone.value) = omega arith in
    let away = away_at c.self.inside.core.core c.self.inside.connections c.self.inside.gone.value c.in_ok-i.i c.self.invariant.1 within absent in
    let seen : slice_get c.args.self.now.connections c.args.conn.0 ≡ Some (gone_at c.self.inside.gone.value c.in_ok-i.i) = ap (λ (h : Hub). slice_get h.connections c.args.conn.0) (sym c.self.view_is) ∙ ap (slice_get (all_of c.self.inside.connections c.self.inside.gone.value)) (sym c.in_ok-i.ensures.ok.0) ∙ gone_there c.self.inside.connections c.self.inside.gone.value c.in_ok-i.i within absent in
    let core = ap (λ (h : Hub). h.core) c.self.view_is in
    rw (c.get_mut.follows.holds-at-none) (subst (λ (h : Hub). IsGone h c.args.conn.0) (sym c.self.view_is) (gone_of_away c.args.self.now c.args.conn.0 (gone_at c.self.inside.gone.value c.in_ok-i.i) seen (subst (λ (a : CoreView). IsAway a (gone_at c.self.inside.gone.value c.in_ok-i.i)) core away)))

pub invariant_of-self-2 : goal.invariant_of-self-2
invariant_of-self-2 c =
    let after = (goal.at.invariant_of-self-2 c).After-discard in
    let x = c.in-Some.connection.now in (
      subst (λ (xs : List Connection). Stands c.discard.new.core xs) (sym (now after)) (taken_stands c.self.inside.core c.discard.new.core (all_of c.self.inside.connections c.self.inside.gone.value) c.in_ok-i.i x c.discard.new.self c.self.invariant.0 (there (goal.at.invariant_of-self-2 c).In-Some) c.discard.ensures.core c.discard.ensures.ok),
      rw (wrote after) (taken_away x.session c.self.inside.core.core c.discard.new.core.core c.self.inside.connections c.self.inside.gone.value c.in_ok-i.i c.discard.new.self (ap (λ (m : MarkedView). m.core) c.discard.ensures.core) c.self.invariant.1),
    )

pub let_go-requires : goal.let_go-requires
let_go-requires c = λ over.
    let after = (goal.at.let_go-requires c).After-discard in
    let x = c.in-Some.connection.now in
    let was = there (goal.at.let_go-requires c).In-Some in
    let own : (c.in_ok-i.i == c.in_ok-i.i) ≡ true = eq-eqb c.in_ok-i.i c.in_ok-i.i refl in
    let found : slice_get (set (all_of c.self.inside.connections c.self.inside.gone.value) c.in_ok-i.i c.discard.new.self) c.in_ok-i.i ≡ Some c.discard.new.self = get_set (all_of c.self.inside.connections c.self.inside.gone.value) c.in_ok-i.i x c.discard.new.self c.in_ok-i.i was ∙ ap (λ (b : Bool). cond b (Some c.discard.new.self) (slice_get (all_of c.self.inside.connections c.self.inside.gone.value) c.in_ok-i.i)) own in
    let is_over : x.is_over ≡ true = sym (ap (λ (y : Connection). y.is_over) c.discard.ensures.ok) ∙ sym (ap (λ (o : Option Connection). unwrap_or (option_map (λ (y : Connection). y.is_over) o) false) found) ∙ (rw (now after) at over) in
    goes after (ap (λ (h : Hub). is_over_at h c.in_ok-i.i) (sym c.self.view_is) ∙ ap (λ (o : Option Connection). unwrap_or (option_map (λ (y : Connection). y.is_over) o) false) was ∙ is_over)

pub returns-clause-ok : goal.returns-clause-ok
returns-clause-ok c = rw (c.let_go.ensures, ← c.in_ok-i.ensures.ok.0) (takes (goal.at.returns-clause-ok c).After-discard)

pub returns-clause-gone : goal.returns-clause-gone
returns-clause-gone c = λ over. rw (c.let_go.ensures, ← c.in_ok-i.ensures.ok.0) (goes (goal.at.returns-clause-gone c).After-discard (ap (is_over_at c.args.self.now) c.in_ok-i.ensures.ok.0 ∙ over))
