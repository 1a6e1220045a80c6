use Rattle.std.proofs.Common.{length}
use Rattle.ipc_words.proofs.placing.+option_word.Given as goal

abbrev pub decreases-option_word : goal.decreases-option_word
decreases-option_word l = length l.words.now
