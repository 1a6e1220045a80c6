use Rattle.ipc_policy.proofs.Histories.Unforbidden.{hello_known}
use Rattle.ipc_state.proofs.Accepting.{agrees_begun}
use Rattle.ipc_state.proofs.accept.accept_hello.Goals as goal

pub unreachable-requires : goal.unreachable-requires
unreachable-requires c = let known = hello_known c.args.config.now c.args.past.now.history _ (rw c.in-None.is at c.requires.accepted) in cc

pub returns-clause-ok : goal.returns-clause-ok
returns-clause-ok c = rw (c.in_ok-start_session-in-Some.ensures.ok, c.in-Some.is) (agrees_begun _ _ _ c.in-Some.uid c.requires.core)
