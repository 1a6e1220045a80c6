-- The words of a line.
use Rattle.std.specs.Prelude.{ℕ, Bool, List, [], ◌∷◌, ◌++◌, ◌==◌, ◌||◌, if◌then◌else◌}

-- a space or a tab
abbrev pub is_blank : ℕ → Bool
is_blank byte = byte == 32 || byte == 9

-- a run of bytes without a blank is one word, and an empty one is none
abbrev pub words_of_run : List ℕ → List (List ℕ)
words_of_run [] = []
words_of_run (byte ∷ bytes) = (byte ∷ bytes) ∷ []

-- the words of bytes that follow `run`, which has what was read since the last blank
unfoldable pub words_behind : List ℕ → List ℕ → List (List ℕ)
words_behind run [] = words_of_run run
words_behind run (byte ∷ bytes) =
    if is_blank byte then words_of_run run ++ words_behind [] bytes else words_behind (run ++ byte ∷ []) bytes

-- the words of a line: its runs of bytes between blanks
abbrev pub words_in : List ℕ → List (List ℕ)
words_in line = words_behind [] line
