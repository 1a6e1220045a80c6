use Rattle.std.proofs.Common.{Some, sym, ap, ◌∙◌}
use Rattle.std.specs.List.{list_any}
use Rattle.std.specs.Option.{option_copied}
use Rattle.ipc_terms.specs.Lists.{without_first}
use Rattle.ipc_containers.specs.Waiters.{is_call_of, numbers_of}
use Rattle.ipc_containers.proofs.Holding.{first_found, left}
use Rattle.ipc_containers.proofs.Arrivals.{starts, none_starts, none_withdrawn, one_withdrawn}
use Rattle.ipc_containers.proofs.waiters.Waiters.withdraw.Goals as goal

pub returns-in_default-clause-found : goal.returns-in_default-clause-found
returns-in_default-clause-found g c =
    let caller = g.T.Waiting.caller in
    let calls = c.self.inside.calls.entries in
    let s = c.args.session.0 in
    let none = none_starts (numbers_of caller s calls) (first_found c.self.inside.numbers _ s (option_copied c.first_of.result) c.self.invariant.held c.first_of.ensures ∙ ap option_copied c.in_default.is) in
    sym (none_withdrawn caller s calls none).0 ∙ ap (λ l. list_any (is_call_of caller c.args.session) l) c.self.view_is

pub returns-in_default-clause-rest : goal.returns-in_default-clause-rest
returns-in_default-clause-rest g c =
    let caller = g.T.Waiting.caller in
    let calls = c.self.inside.calls.entries in
    let s = c.args.session.0 in
    let none = none_starts (numbers_of caller s calls) (first_found c.self.inside.numbers _ s (option_copied c.first_of.result) c.self.invariant.held c.first_of.ensures ∙ ap option_copied c.in_default.is) in
    sym c.self.view_is ∙ sym (none_withdrawn caller s calls none).1 ∙ ap (λ l. without_first (is_call_of caller c.args.session) l) c.self.view_is

pub invariant_of-self : goal.invariant_of-self
invariant_of-self g c =
    let caller = g.T.Waiting.caller in
    let calls = c.self.inside.calls.entries in
    let s = c.args.session.0 in
    let one = starts (numbers_of caller s calls) c.in-Some.number.now (first_found c.self.inside.numbers _ s (Some c.in-Some.number.now) c.self.invariant.held c.in-Some.ensures) in
    let gone = one_withdrawn caller s 0 c.in-Some.number.now one.0 calls c.self.inside.next c.self.invariant.rising one.1 in
    rw c.remove.ensures.entries record {
      rising = gone.rising;
      held = left c.self.inside.numbers c.leave.new.self _ _ s c.self.invariant.held c.leave.ensures.rest c.leave.ensures.alone gone.numbers;
    }

pub returns-clause-found : goal.returns-clause-found
returns-clause-found g c =
    let caller = g.T.Waiting.caller in
    let calls = c.self.inside.calls.entries in
    let s = c.args.session.0 in
    let one = starts (numbers_of caller s calls) c.in-Some.number.now (first_found c.self.inside.numbers _ s (Some c.in-Some.number.now) c.self.invariant.held c.in-Some.ensures) in
    let gone = one_withdrawn caller s 0 c.in-Some.number.now one.0 calls c.self.inside.next c.self.invariant.rising one.1 in
    sym gone.found ∙ ap (λ l. list_any (is_call_of caller c.args.session) l) c.self.view_is

pub returns-clause-rest : goal.returns-clause-rest
returns-clause-rest g c =
    let caller = g.T.Waiting.caller in
    let calls = c.self.inside.calls.entries in
    let s = c.args.session.0 in
    let one = starts (numbers_of caller s calls) c.in-Some.number.now (first_found c.self.inside.numbers _ s (Some c.in-Some.number.now) c.self.invariant.held c.in-Some.ensures) in
    let gone = one_withdrawn caller s 0 c.in-Some.number.now one.0 calls c.self.inside.next c.self.invariant.rising one.1 in
    rw c.remove.ensures.entries (gone.calls ∙ ap (λ l. without_first (is_call_of caller c.args.session) l) c.self.view_is)
