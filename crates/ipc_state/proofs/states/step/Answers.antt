use Rattle.std.proofs.Common.{sym, ◌∙◌}
use Rattle.ipc_state.proofs.Accepting.{none_from, some_from, core_accepted, core_refused}
use Rattle.ipc_state.proofs.Clocking.{may_come, undone, on_stepped, on_passed}
use Rattle.ipc_state.proofs.states.step.Goals as goal

pub push-requires : goal.push-requires
push-requires c = may_come _ _ _ c.args.clock.now c.args.event.now c.args.rule c.args.meant.parks c.timed_call-call.result c.requires.state.core c.requires.state.on_time c.requires.verdict c.requires.parks c.timed_call-call.ensures

pub accept-requires-clause-accepted : goal.accept-requires-clause-accepted
accept-requires-clause-accepted c = sym c.requires.verdict ∙ none_from _ _ c.is_none.ensures c.if-is_none.true

pub returns-in-Err-clause-err : goal.returns-in-Err-clause-err
returns-in-Err-clause-err c =
    let may = may_come _ _ _ c.args.clock.now c.args.event.now c.args.rule c.args.meant.parks c.timed_call-call.result c.requires.state.core c.requires.state.on_time c.requires.verdict c.requires.parks c.timed_call-call.ensures in
    rw (c.in-Err.ensures.err, c.leave.ensures, c.session_in.ensures, c.in_ok-push.ensures.ok)
    (record { core = c.requires.state.core; on_time = undone _ _ _ c.timed_call-call.result c.requires.state.on_time may })

pub returns-in_default-clause-ok : goal.returns-in_default-clause-ok
returns-in_default-clause-ok c =
    let accepted = none_from c.args.rule c.is_none.result c.is_none.ensures c.if-is_none.true in
    rw (c.tell.ensures, c.leave-then-is_none.ensures, c.in_ok-push.ensures.ok, c.timed_call-call.ensures)
    (record { core = core_accepted _ _ _ _ _ _ c.requires.state.core c.requires.verdict accepted c.in_default.ensures.ok; on_time = on_stepped _ _ _ c.args.clock.now c.args.event.now c.args.rule c.args.meant.parks c.args.meant.ended c.requires.state.core c.requires.state.on_time c.requires.verdict accepted c.requires.parks c.requires.ended })

pub returns-else-is_none-clause-ok : goal.returns-else-is_none-clause-ok
returns-else-is_none-clause-ok c =
    let refused = some_from c.args.rule c.is_none.result c.is_none.ensures c.if-is_none.false in
    rw (c.in_ok-push.ensures.ok, c.timed_call-call.ensures)
    (record { core = core_refused _ _ _ _ _ c.requires.state.core c.requires.verdict refused; on_time = on_passed _ _ c.args.clock.now c.args.event.now c.args.rule c.args.meant.parks c.requires.state.on_time refused })
