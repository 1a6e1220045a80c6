use Rattle.std.proofs.Common.{◌∙◌, sym, ap}
use Rattle.std.specs.Option.{option_copied}
use Rattle.ipc_state.proofs.ChargeTables.{limit_absent, limit_present, limit_found}
use Rattle.ipc_state.proofs.lookup.Lookup.limit.Goals as goal

pub returns-in_err-cred : goal.returns-in_err-cred
returns-in_err-cred c =
    let none = rw c.config.ensures at (sym c.cred.ensures ∙ ap option_copied c.in_err-cred.was) in
    rw c.from_residual.ensures (sym (limit_absent _ _ c.args.uid none))

pub returns : goal.returns
returns c =
    let there = rw c.config.ensures at (sym c.cred.ensures ∙ ap option_copied c.in_ok-cred.was) in
    rw (c.limit.ensures, c.charges.ensures) (limit_found _ _ _ c.args.uid (limit_present _ _ c.args.uid c.in_ok-cred.field-0.now there) c.tables.ensures.agrees.charges)
