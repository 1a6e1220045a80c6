use Rattle.std.proofs.Common.{rules, ◌≡◌, Some, ap}
use Rattle.ipc_policy.specs.Decides.Bodies.{due}
use Rattle.ipc_book.specs.Seats.{SeatView}
use Rattle.ipc_book.proofs.Collected.{ended_call}
use Rattle.ipc_book.proofs.LastReceipts.{says_across}
use Rattle.ipc_book.proofs.shared.Shared.tick_if_due.Goals as goal

pub returns-in_err-made-clause-stale : goal.returns-in_err-made-clause-stale
returns-in_err-made-clause-stale g c =
    says_across c.make_room.new.self.list c.args.seat.now.list c.tick_if_due.result c.from_residual.result c.in_err-made.field-0.0 (search rules) (search rules) (ap (λ (s : SeatView). s.list) c.make_room.ensures) c.tick_if_due.ensures.stale

pub returns-clause-made : goal.returns-clause-made
returns-clause-made g c =
    let a = c.deref_mut.result.now.core in
    let was_due : due a.config a.history c.args.moment ≡ Some c.in-Some.session.0 = search rules in
    (a.config, ended_call a c.tick_if_due.new.self.core c.args.seat.now c.make_room.new.self c.tick_if_due.new.seat c.args.moment c.in-Some.session.0 c.in-Some.receipt c.make_room.ensures (search rules) c.tick_if_due.ensures.session (search rules) was_due)
