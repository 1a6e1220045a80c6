use Rattle.std.proofs.Common.{◌≡◌, ◌++◌, ℕ, false, List, length, set, slice_get, Some, sym, ap, subst, ◌∙◌, arith}
use Rattle.std.specs.Option.{option_copied_mut}
use Rattle.ipc_containers.specs.Slots.{at}
use Rattle.ipc_hub.specs.Hub.{Hub, Connection, fault_of_change}
use Rattle.ipc_hub.specs.Gone.{all_of}
use Rattle.ipc_hub.specs.Sessions.{Stands}
use Rattle.ipc_hub.specs.Marking.{is_set}
use Rattle.ipc_hub.specs.Stepping.{Ends}
use Rattle.ipc_hub.proofs.HubLemmas.{found_open}
use Rattle.ipc_hub.proofs.HubMarks.{hub_view, fed_stands}
use Rattle.ipc_hub.proofs.HubCalls.{FedAt, fed_is}
use Rattle.ipc_hub.proofs.GoneLemmas.{fed_steps}
use Rattle.ipc_hub.proofs.KeptLemmas.{kept_there, kept_set, stepped_away, open_is_kept, same_written, on_err}
use Rattle.ipc_hub.proofs.hub.Hub.feed_within.Goals as goal
use Rattle.ipc_terms.specs.Lists.{changed}
use Rattle.ipc_hub.proofs.hub.Hub.feed_within.Goals.{In-Some, After-feed, In_ok-feed}

-- the connection is kept, and is not over
kept : (c : In-Some) → at c.self.inside.connections c.in_ok-i.i ≡ Some c.in-Some.connection.now
kept c = sym c.get_mut.ensures.value ∙ ap option_copied_mut c.in-Some.is

there : (c : In-Some) → slice_get (all_of c.self.inside.connections c.self.inside.gone.value) c.in_ok-i.i ≡ Some c.in-Some.connection.now
there c = kept_there c.self.inside.connections c.self.inside.gone.value c.in_ok-i.i c.in-Some.connection.now (kept c)

still : (c : In-Some) → c.in-Some.connection.now.is_over ≡ false
still c = found_open c.args.self.now (all_of c.self.inside.connections c.self.inside.gone.value) c.in_ok-i.i c.args.conn.0 c.in-Some.connection.now (ap (λ (h : Hub). h.connections) c.self.view_is) c.in_ok-i.ensures.ok.0 (there c) c.in_ok-i.ensures.none

pub unreachable-requires : goal.unreachable-requires
unreachable-requires c =
    let same = ap (λ (h : Hub). length h.connections) c.self.view_is in
    let lt = c.in_ok-i.ensures.ok.1 in
    open_is_kept c.self.inside.core.core c.self.inside.connections c.self.inside.gone.value c.in_ok-i.i c.self.invariant.1 (omega arith) (ap fault_of_change (ap (slice_get (all_of c.self.inside.connections c.self.inside.gone.value)) c.in_ok-i.ensures.ok.0 ∙ ap (λ (h : Hub). slice_get h.connections c.args.conn.0) c.self.view_is) ∙ c.in_ok-i.ensures.none) (sym c.get_mut.ensures.value ∙ ap option_copied_mut c.in_default.is)

-- what stands is as the call left the connection
wrote : (c : After-feed) → c.get_mut.follows.lender c.feed.new.self ≡ changed (λ o. Some c.feed.new.self) c.self.inside.connections c.in_ok-i.i
wrote c = rw c.in-Some.is at (c.get_mut.follows.holds c.feed.new.self)

now : (c : After-feed) → all_of (c.get_mut.follows.lender c.feed.new.self) c.self.inside.gone.value ≡ set (all_of c.self.inside.connections c.self.inside.gone.value) c.in_ok-i.i c.feed.new.self
now c = rw (wrote c) (kept_set c.self.inside.connections c.self.inside.gone.value c.in_ok-i.i c.in-Some.connection.now c.feed.new.self (kept (goal.at.After-feed c).In-Some))

ends : (c : In_ok-feed) → Ends c.in_ok-feed.field-0 c.in_ok-i.i c.args.most c.self.inside.core c.in-Some.connection.now.session c.feed.new.core c.feed.new.self.session
ends c = subst (λ (k : ℕ). Ends c.in_ok-feed.field-0 k c.args.most c.self.inside.core c.in-Some.connection.now.session c.feed.new.core c.feed.new.self.session) (sym c.in_ok-i.ensures.ok.0) c.in_ok-feed.ensures.marks

fed : (c : In_ok-feed) → FedAt c.args.self.now (hub_view c.feed.new.core (all_of (c.get_mut.follows.lender c.feed.new.self) c.self.inside.gone.value)) c.args.conn.0 c.args.piece.now c.in_ok-feed.field-0 c.args.most
fed c =
    let here = (goal.at.In_ok-feed c).In-Some in
    rw (now (goal.at.In_ok-feed c).After-feed) (fed_is c.args.self.now c.self.inside.core c.feed.new.core (all_of c.self.inside.connections c.self.inside.gone.value) c.in_ok-i.i c.args.conn.0 c.in-Some.connection.now c.feed.new.self c.args.piece.now c.in_ok-feed.field-0 c.args.most c.self.view_is c.in_ok-i.ensures.ok.0 c.self.invariant.0 (there here) (still here) c.in_ok-feed.ensures.ok (ends c))

pub feed-requires-clause-open : goal.feed-requires-clause-open
feed-requires-clause-open c = still (goal.at.feed-requires-clause-open c).In-Some

pub feed-requires-clause-own : goal.feed-requires-clause-own
feed-requires-clause-own c =
    let here = (goal.at.feed-requires-clause-own c).In-Some in
    ap (is_set c.self.inside.core.flagged) (sym c.in_ok-i.ensures.ok.0) ∙ c.self.invariant.0.flagged c.in_ok-i.i c.in-Some.connection.now (there here) (still here)

pub invariant_of-self : goal.invariant_of-self
invariant_of-self c =
    let back = wrote (goal.at.invariant_of-self c).After-feed ∙ same_written c.self.inside.connections c.in_ok-i.i c.in-Some.connection.now c.feed.new.self (kept (goal.at.invariant_of-self c).In-Some) c.in_err-feed.ensures.err in
    rw (back, c.in_err-feed.ensures.core) c.self.invariant

pub returns-in_err-feed-clause-err : goal.returns-in_err-feed-clause-err
returns-in_err-feed-clause-err c =
    let back = wrote (goal.at.returns-in_err-feed-clause-err c).After-feed ∙ same_written c.self.inside.connections c.in_ok-i.i c.in-Some.connection.now c.feed.new.self (kept (goal.at.returns-in_err-feed-clause-err c).In-Some) c.in_err-feed.ensures.err in
    on_err c.from_residual-in_err-feed.result (rw (back, c.in_err-feed.ensures.core) c.self.view_is)

pub invariant_of-self-2 : goal.invariant_of-self-2
invariant_of-self-2 c =
    let here = (goal.at.invariant_of-self-2 c).In-Some in
    let after = (goal.at.invariant_of-self-2 c).After-feed in
    let x = c.in-Some.connection.now in
    let steps = fed_steps c.in_ok-feed.field-0 c.self.inside.core.core c.feed.new.core.core x c.feed.new.self _ c.in_ok-feed.ensures.ok in (
      subst (λ (xs : List Connection). Stands c.feed.new.core xs) (sym (now after)) (fed_stands c.in_ok-feed.field-0 c.args.most c.self.inside.core c.feed.new.core (all_of c.self.inside.connections c.self.inside.gone.value) c.in_ok-i.i x c.feed.new.self (x.kept ++ c.args.piece.now) c.self.invariant.0 (there here) (still here) c.in_ok-feed.ensures.ok (ends (goal.at.invariant_of-self-2 c).In_ok-feed)),
      rw (wrote after) (stepped_away steps.0 c.self.inside.core.core c.feed.new.core.core c.self.inside.connections c.self.inside.gone.value c.in_ok-i.i c.feed.new.self steps.1 c.self.invariant.1),
    )

pub returns-clause-ok : goal.returns-clause-ok
returns-clause-ok c = (fed (goal.at.returns-clause-ok c).In_ok-feed).feeds

pub returns-clause-full : goal.returns-clause-full
returns-clause-full c = (fed (goal.at.returns-clause-full c).In_ok-feed).full

pub returns-clause-within : goal.returns-clause-within
returns-clause-within c = (fed (goal.at.returns-clause-within c).In_ok-feed).within
