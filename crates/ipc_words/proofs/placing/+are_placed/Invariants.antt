use Rattle.std.proofs.Common.{length}
use Rattle.ipc_words.proofs.placing.+are_placed.Given as goal

abbrev pub decreases-are_placed : goal.decreases-are_placed
decreases-are_placed l = length l.words.now
