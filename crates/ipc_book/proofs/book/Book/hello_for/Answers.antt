use Rattle.std.proofs.Common.{rules, ◌≡◌, true, false, is_none, sym, ◌∙◌}
use Rattle.ipc_access.specs.Users.{user_of_key}
use Rattle.ipc_terms.specs.declared.record.Event.TheVariants.{Hello}
use Rattle.ipc_policy.specs.Decides.Verdict.{verdict}
use Rattle.ipc_book.specs.Seats.{without_event}
use Rattle.ipc_book.proofs.LastReceipts.{stale_across}
use Rattle.ipc_book.proofs.Starting.{hello_told, sid_started, sid_stays, none_is}
use Rattle.ipc_book.proofs.book.Book.hello_for.Goals as goal

pub returns-in_err-receipt-clause-stale : goal.returns-in_err-receipt-clause-stale
returns-in_err-receipt-clause-stale g c =
    stale_across c.args.self.now.core c.args.seat.now.list (without_event c.step_with_copy.result) c.from_residual.result c.in_err-receipt.field-0.0.fault (search rules) (search rules) c.step_with_copy.ensures.stale

pub returns-then-is_none-clause-session : goal.returns-then-is_none-clause-session
returns-then-is_none-clause-session g c =
    let a = c.args.self.now.core in
    let found = c.find-found.result in
    let v = c.in_ok-receipt.posted.verdict in
    let same : v ≡ verdict a.config a.history (Hello found) = c.in_ok-receipt.ensures.verdict in
    let q : found ≡ user_of_key a.config.users c.args.key.now = search rules in
    let is : is_none v ≡ true = search rules in
    let told = c.in_ok-receipt.ensures.caller ∙ hello_told a.config a.history found (sym same ∙ none_is v is) in
    sid_started a found (user_of_key a.config.users c.args.key.now) v c.args.seat.now.sid c.in_ok-receipt.posted.caller q same is told

pub returns-else-is_none-clause-session : goal.returns-else-is_none-clause-session
returns-else-is_none-clause-session g c =
    let a = c.args.self.now.core in
    let found = c.find-found.result in
    let v = c.in_ok-receipt.posted.verdict in
    let q : found ≡ user_of_key a.config.users c.args.key.now = search rules in
    let is : is_none v ≡ false = search rules in
    sid_stays a found (user_of_key a.config.users c.args.key.now) v c.args.seat.now.sid c.step_with_copy.new.seat.sid q c.in_ok-receipt.ensures.verdict is c.in_ok-receipt.ensures.session
