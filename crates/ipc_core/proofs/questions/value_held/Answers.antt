use Rattle.std.proofs.Common.{sym, ap, ◌∙◌, Some}
use Rattle.std.specs.Option.{option_copied, option_map}
use Rattle.ipc_sem.specs.Counters.{Counter}
use Rattle.ipc_core.proofs.ByDescription.{counted_by}
use Rattle.ipc_core.proofs.questions.value_held.Goals as goal

pub returns-in_err-semaphore : goal.returns-in_err-semaphore
returns-in_err-semaphore c =
    let semaphore = sym (ap option_copied c.in_err-semaphore.was) ∙ c.semaphore.ensures.found in
    c.from_residual.ensures ∙ ap (option_map (λ (q : Counter). q.value)) semaphore ∙ counted_by _ _ c.args.lookup.now.event c.semaphore.ensures.legal

pub returns : goal.returns
returns c =
    let semaphore = sym (ap option_copied c.in_ok-semaphore.was) ∙ c.semaphore.ensures.found in
    ap Some c.value.ensures ∙ ap (option_map (λ (q : Counter). q.value)) semaphore ∙ counted_by _ _ c.args.lookup.now.event c.semaphore.ensures.legal
