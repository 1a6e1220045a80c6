use Rattle.std.proofs.Common.{length}
use Rattle.ipc_words.proofs.placing.+given_word.Given as goal

abbrev pub decreases-given_word : goal.decreases-given_word
decreases-given_word l = length l.words.now
