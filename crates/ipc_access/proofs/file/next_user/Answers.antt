use Rattle.std.proofs.Common.{length, ◌+◌, sym, ap, ◌∙◌}
use Rattle.ipc_access.specs.UserFile.{fault_of_user}
use Rattle.ipc_access.proofs.PlaceLemmas.{same_fault, none_anyway}
use Rattle.ipc_access.proofs.file.next_user.Goals as goal

pub returns-in-Some-fault_of-clause-fault : goal.returns-in-Some-fault_of-clause-fault
returns-in-Some-fault_of-clause-fault c = λ other.
    let number = length c.args.earlier.now + 1 in
    let spelled = sym c.in_ok-user.ensures ∙ c.in-Some.is in
    rw (← c.is_full.ensures, c.if-is_full.false)
    (ap (fault_of_user c.args.earlier.now number) spelled ∙ sym (same_fault c.args.seen.now c.args.earlier.now number c.in-Some.user c.requires) ∙ sym c.fault_of.ensures ∙ c.in-Some-fault_of.is)

pub returns-in-None-clause-faultless : goal.returns-in-None-clause-faultless
returns-in-None-clause-faultless c =
    let number = length c.args.earlier.now + 1 in
    let spelled = sym c.in_ok-user.ensures ∙ c.in-Some.is in
    rw (← c.is_full.ensures, c.if-is_full.false)
    (ap (fault_of_user c.args.earlier.now number) spelled ∙ sym (same_fault c.args.seen.now c.args.earlier.now number c.in-Some.user c.requires) ∙ sym c.fault_of.ensures ∙ c.in-None.is)

pub returns-in-None-clause-unseen : goal.returns-in-None-clause-unseen
returns-in-None-clause-unseen c = none_anyway c.args.seen.now (length c.args.earlier.now + 1) 0 c.in-Some.user (sym c.fault_of.ensures ∙ c.in-None.is)
