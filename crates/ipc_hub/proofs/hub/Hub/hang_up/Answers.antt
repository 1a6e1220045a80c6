use Rattle.std.proofs.Common.{◌≡◌, false, List, length, set, slice_get, Some, sym, ap, subst, ◌∙◌, arith}
use Rattle.std.specs.Option.{option_copied_mut}
use Rattle.ipc_containers.specs.Slots.{at}
use Rattle.ipc_hub.specs.Hub.{Hub, Connection, fault_of_change, hang_up_of}
use Rattle.ipc_hub.specs.Gone.{all_of}
use Rattle.ipc_hub.specs.Sessions.{Stands}
use Rattle.ipc_hub.proofs.HubLemmas.{found_open}
use Rattle.ipc_hub.proofs.HubMarks.{hung_up_stands}
use Rattle.ipc_hub.proofs.HubCalls.{hung_up_is}
use Rattle.ipc_hub.proofs.KeptLemmas.{kept_there, kept_set, stepped_away, open_is_kept, same_written, on_err}
use Rattle.ipc_hub.proofs.hub.Hub.hang_up.Goals as goal
use Rattle.ipc_terms.specs.Lists.{changed}
use Rattle.ipc_hub.proofs.hub.Hub.hang_up.Goals.{In-Some, After-hang_up}

-- the connection is kept, and is not over
kept : (c : In-Some) → at c.self.inside.connections c.in_ok-i.i ≡ Some c.in-Some.connection.now
kept c = sym c.get_mut.ensures.value ∙ ap option_copied_mut c.in-Some.is

there : (c : In-Some) → slice_get (all_of c.self.inside.connections c.self.inside.gone.value) c.in_ok-i.i ≡ Some c.in-Some.connection.now
there c = kept_there c.self.inside.connections c.self.inside.gone.value c.in_ok-i.i c.in-Some.connection.now (kept c)

still : (c : In-Some) → c.in-Some.connection.now.is_over ≡ false
still c = found_open c.args.self.now (all_of c.self.inside.connections c.self.inside.gone.value) c.in_ok-i.i c.args.conn.0 c.in-Some.connection.now (ap (λ (h : Hub). h.connections) c.self.view_is) c.in_ok-i.ensures.ok.0 (there c) c.in_ok-i.ensures.none

pub unreachable-requires : goal.unreachable-requires
unreachable-requires c =
    let same = ap (λ (h : Hub). length h.connections) c.self.view_is in
    let lt = c.in_ok-i.ensures.ok.1 in
    open_is_kept c.self.inside.core.core c.self.inside.connections c.self.inside.gone.value c.in_ok-i.i c.self.invariant.1 (omega arith) (ap fault_of_change (ap (slice_get (all_of c.self.inside.connections c.self.inside.gone.value)) c.in_ok-i.ensures.ok.0 ∙ ap (λ (h : Hub). slice_get h.connections c.args.conn.0) c.self.view_is) ∙ c.in_ok-i.ensures.none) (sym c.get_mut.ensures.value ∙ ap option_copied_mut c.in_default.is)

-- what stands is as the call left the connection
wrote : (c : After-hang_up) → c.get_mut.follows.lender c.hang_up.new.self ≡ changed (λ o. Some c.hang_up.new.self) c.self.inside.connections c.in_ok-i.i
wrote c = rw c.in-Some.is at (c.get_mut.follows.holds c.hang_up.new.self)

now : (c : After-hang_up) → all_of (c.get_mut.follows.lender c.hang_up.new.self) c.self.inside.gone.value ≡ set (all_of c.self.inside.connections c.self.inside.gone.value) c.in_ok-i.i c.hang_up.new.self
now c = rw (wrote c) (kept_set c.self.inside.connections c.self.inside.gone.value c.in_ok-i.i c.in-Some.connection.now c.hang_up.new.self (kept (goal.at.After-hang_up c).In-Some))

pub hang_up-requires : goal.hang_up-requires
hang_up-requires c = still (goal.at.hang_up-requires c).In-Some

pub invariant_of-self : goal.invariant_of-self
invariant_of-self c =
    let back = wrote (goal.at.invariant_of-self c).After-hang_up ∙ same_written c.self.inside.connections c.in_ok-i.i c.in-Some.connection.now c.hang_up.new.self (kept (goal.at.invariant_of-self c).In-Some) c.in_err-hang_up.ensures.err in
    rw (back, c.in_err-hang_up.ensures.same) c.self.invariant

pub returns-in_err-hang_up-clause-err : goal.returns-in_err-hang_up-clause-err
returns-in_err-hang_up-clause-err c =
    let back = wrote (goal.at.returns-in_err-hang_up-clause-err c).After-hang_up ∙ same_written c.self.inside.connections c.in_ok-i.i c.in-Some.connection.now c.hang_up.new.self (kept (goal.at.returns-in_err-hang_up-clause-err c).In-Some) c.in_err-hang_up.ensures.err in
    on_err c.from_residual-in_err-hang_up.result (rw (back, c.in_err-hang_up.ensures.same) c.self.view_is)

pub invariant_of-self-2 : goal.invariant_of-self-2
invariant_of-self-2 c =
    let here = (goal.at.invariant_of-self-2 c).In-Some in
    let after = (goal.at.invariant_of-self-2 c).After-hang_up in
    let x = c.in-Some.connection.now in (
      subst (λ (xs : List Connection). Stands c.hang_up.new.core xs) (sym (now after)) (hung_up_stands c.self.inside.core c.hang_up.new.core (all_of c.self.inside.connections c.self.inside.gone.value) c.in_ok-i.i x c.hang_up.new.self c.self.invariant.0 (there here) (still here) c.in_ok-hang_up.ensures.core c.in_ok-hang_up.ensures.marks c.in_ok-hang_up.ensures.ok),
      rw (wrote after) (stepped_away (hang_up_of x.session) c.self.inside.core.core c.hang_up.new.core.core c.self.inside.connections c.self.inside.gone.value c.in_ok-i.i c.hang_up.new.self c.in_ok-hang_up.ensures.core c.self.invariant.1),
    )

pub returns-clause-ok : goal.returns-clause-ok
returns-clause-ok c =
    let here = (goal.at.returns-clause-ok c).In-Some in
    let after = (goal.at.returns-clause-ok c).After-hang_up in
    rw (now after) (hung_up_is c.args.self.now c.self.inside.core c.hang_up.new.core (all_of c.self.inside.connections c.self.inside.gone.value) c.in_ok-i.i c.args.conn.0 c.in-Some.connection.now c.hang_up.new.self c.self.view_is c.in_ok-i.ensures.ok.0 c.self.invariant.0 (there here) (still here) c.in_ok-hang_up.ensures.core c.in_ok-hang_up.ensures.marks c.in_ok-hang_up.ensures.ok)
