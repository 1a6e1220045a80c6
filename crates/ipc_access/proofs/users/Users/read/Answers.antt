use Rattle.std.proofs.Common.{refl, sym, ap, ◌∙◌}
use Rattle.std.proofs.lemmas.Result.{err_from_is_err_and}
use Rattle.ipc_access.proofs.LineLemmas.{behind}
use Rattle.ipc_access.specs.UserFile.{user_fault}
use Rattle.ipc_access.proofs.FileLemmas.{turned, stopped, line_at, within_behind}
use Rattle.ipc_access.proofs.PlaceLemmas.{one_more}
use Rattle.ipc_access.proofs.users.Users.read.Goals as goal

-- a line at fault ends the loop, and its fault is the file's
pub returns-in_err-user-clause-fault : goal.returns-in_err-user-clause-fault
returns-in_err-user-clause-fault c =
    let items = c.deref-line-items.result.now in
    let i = c.loop-line.line-index in
    let within = c.loop-line-test.true in
    let whole = sym c.in_ok-lines.ensures ∙ ap behind (sym c.deref-line-items.ensures.value) in
    let given = err_from_is_err_and c.from_residual-in_err-user.result c.from_residual-in_err-user.ensures.1 in
    rw (given.1, given.2) (λ other.
    ap user_fault whole
    ∙ stopped (behind items) i c.loop-line.rows.items c.deref.result.now _ c.in_err-user.field-0.0 c.loop-line.invariant.0 (within_behind items i within) c.deref.ensures.value (line_at items i _ within) (c.in_err-user.ensures.fault other))

-- a line that spells a new user is one line more that was read
pub loop-line-preserved : goal.loop-line-preserved
loop-line-preserved c =
    let items = c.deref-line-items.result.now in
    let i = c.loop-line.line-index in
    let within = c.loop-line-test.true in
    rw c.in_ok-push.ensures.items (
      turned (behind items) i c.loop-line.rows.items c.deref.result.now _ c.in_ok-user.user c.loop-line.invariant.0 (within_behind items i within) c.deref.ensures.value (line_at items i _ within) c.in_ok-user.ensures.user c.in_ok-user.ensures.faultless,
      one_more c.loop-line.seen c.add.new.self c.loop-line.rows.items c.in_ok-user.user c.loop-line.invariant.1 c.in_ok-add.ensures.names c.in_ok-add.ensures.keys c.in_ok-add.ensures.ids,
    )

pub returns-in_err-add-clause-fault : goal.returns-in_err-add-clause-fault
returns-in_err-add-clause-fault c =
    let given = err_from_is_err_and c.from_residual-in_err-add.result c.from_residual-in_err-add.ensures.1 in
    rw (given.1, given.2) (λ other. absurd (other refl))

pub returns-in_err-push-clause-fault : goal.returns-in_err-push-clause-fault
returns-in_err-push-clause-fault c =
    let given = err_from_is_err_and c.from_residual-in_err-push.result c.from_residual-in_err-push.ensures.1 in
    rw (given.1, given.2) (λ other. absurd (other refl))
