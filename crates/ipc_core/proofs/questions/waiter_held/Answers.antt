use Rattle.std.proofs.Common.{sym, ap, ◌∙◌}
use Rattle.std.specs.Prelude.{option_and_then}
use Rattle.std.specs.Option.{option_copied}
use Rattle.ipc_terms.specs.Lists.{first}
use Rattle.ipc_sem.specs.Counters.{Counter}
use Rattle.ipc_core.proofs.ByDescription.{waiter_by}
use Rattle.ipc_core.proofs.questions.waiter_held.Goals as goal

pub returns-in_err-semaphore : goal.returns-in_err-semaphore
returns-in_err-semaphore c =
    let semaphore = sym (ap option_copied c.in_err-semaphore.was) ∙ c.semaphore.ensures.found in
    c.from_residual.ensures ∙ ap (option_and_then (λ (q : Counter). first q.waiters)) semaphore ∙ waiter_by _ _ c.args.lookup.now.event

pub returns : goal.returns
returns c =
    let semaphore = sym (ap option_copied c.in_ok-semaphore.was) ∙ c.semaphore.ensures.found in
    c.waiter.ensures ∙ ap (option_and_then (λ (q : Counter). first q.waiters)) semaphore ∙ waiter_by _ _ c.args.lookup.now.event
