use Rattle.ipc_words.proofs.usage.push_argument.Goals as goal

pub returns-in-Flag : goal.returns-in-Flag
returns-in-Flag c = rw c.in-Flag.is c.push_between-in-Flag.ensures
