use Rattle.std.proofs.Common.{◌≡◌, ◌++◌, map}
use Rattle.std.specs.Str.{IsCharBoundary}
use Rattle.ipc_lines.specs.Words.{words_in}
use Rattle.ipc_lines.proofs.WordLemmas.{AreBlanks, words_cut}
use Rattle.ipc_lines.proofs.words.words_of.Given as goal

-- the words so far and those of what is left are the line's
abbrev pub invariant-loop-end : goal.invariant-loop-end
invariant-loop-end l = record {
  boundary : IsCharBoundary l.line l.start;
  blanks : AreBlanks l.line l.start l.end-iterator;
  words : map (λ word. word.now) l.words.items ++ words_cut l.line l.start l.end-iterator ≡ words_in l.line;
}
