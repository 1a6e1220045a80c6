use Rattle.std.proofs.Common.{rules, refl}
use Rattle.ipc_history.proofs.CountLemmas.{one_counted}
use Rattle.ipc_history.proofs.counts.Counts.add.Goals as goal

pub returns : goal.returns
returns c = λ h short are.
    one_counted c.args.self.now _ c.args.added.now h c.code_of-code.result c.raised.result (search rules) short are
    (rw c.is_call.ensures at c.raised-self.ensures) (rw c.is_session.ensures at c.raised-self-2.ensures) (rw c.is_refused_hello.ensures at c.raised-self-3.ensures)
    (rw c.is_end.ensures at c.raised-self-4.ensures)
    c.code_of-code.ensures.code c.raised.ensures refl
