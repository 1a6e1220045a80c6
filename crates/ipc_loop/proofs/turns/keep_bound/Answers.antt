use Rattle.ipc_loop.proofs.AskingLemmas.{asked_nothing}
use Rattle.ipc_loop.proofs.ServingLemmas.{served_nothing}
use Rattle.ipc_loop.proofs.turns.keep_bound.Goals as goal

pub returns-then-desk-le-MOST_UNFINISHED-clause-serves : goal.returns-then-desk-le-MOST_UNFINISHED-clause-serves
returns-then-desk-le-MOST_UNFINISHED-clause-serves g c = served_nothing _ _ _

pub returns-then-desk-le-MOST_UNFINISHED-clause-asks : goal.returns-then-desk-le-MOST_UNFINISHED-clause-asks
returns-then-desk-le-MOST_UNFINISHED-clause-asks g c = asked_nothing _ _

pub returns-in_default-clause-serves : goal.returns-in_default-clause-serves
returns-in_default-clause-serves g c = served_nothing _ _ _

pub returns-in_default-clause-asks : goal.returns-in_default-clause-asks
returns-in_default-clause-asks g c = asked_nothing _ _
