use Rattle.std.proofs.Common.{refl}
use Rattle.ipc_loop.specs.declared.ending.Ending.TheVariants.{TooMuchUnfinished}
use Rattle.ipc_loop.proofs.MoveLemmas.{go_nowhere}
use Rattle.ipc_loop.proofs.ServingLemmas.{stays_serve, bound_serve}
use Rattle.ipc_loop.proofs.port.Port.keep_few.Goals as goal

pub returns-then-kept-gt-MOST_OF_A_STRANGER-clause-serves : goal.returns-then-kept-gt-MOST_OF_A_STRANGER-clause-serves
returns-then-kept-gt-MOST_OF_A_STRANGER-clause-serves c = λ moves. bound_serve _ _ moves moves _ _ TooMuchUnfinished (go_nowhere moves) refl c.end.ensures.left c.end.ensures.ended

pub returns-else-not-has_session-clause-serves : goal.returns-else-not-has_session-clause-serves
returns-else-not-has_session-clause-serves c = λ moves. stays_serve _ _ moves moves _ _ (go_nowhere moves) refl refl
