-- The lines of an input, and how they are read one by one.
use Rattle.std.specs.Prelude.{⊤, ◌≡◌, ◌≢◌, ◌⊎◌, ◌<◌, ◌==◌, ℕ, Bool, true, false, List, [], ◌∷◌, ◌++◌, length, Option, None, Some, if◌then◌else◌}
use Rattle.std.specs.List.{All}
use Rattle.ipc_lines.specs.declared.lines.Piece.{Piece}
use Rattle.ipc_lines.specs.declared.lines.Piece.TheVariants.{Fed, Open, Last}

-- bytes without a line feed behind them are a line, unless there are none
abbrev pub line_of_run : List ℕ → List (List ℕ)
line_of_run [] = []
line_of_run (byte ∷ bytes) = (byte ∷ bytes) ∷ []

-- the lines of bytes that follow `run`, which has what was read since the last line feed
unfoldable pub lines_behind : List ℕ → List ℕ → List (List ℕ)
lines_behind run [] = line_of_run run
lines_behind run (byte ∷ bytes) =
    if byte == 10 then run ∷ lines_behind [] bytes else lines_behind (run ++ byte ∷ []) bytes

-- the lines of an input: its runs of bytes between line feeds. A last one may lack its line feed
abbrev pub lines_in : List ℕ → List (List ℕ)
lines_in input = lines_behind [] input

-- Of the known bytes that are unread this is the next line, and those behind it are unread then; or there is none.
abbrev pub IsNextLine : Option (List ℕ) → Option (List ℕ) → Option (List ℕ) → Type 0
IsNextLine found None after = ⊤
IsNextLine None (Some before) after = lines_in before ≡ []
IsNextLine (Some line) (Some before) None = ⊥
IsNextLine (Some line) (Some before) (Some after) = lines_in before ≡ line ∷ lines_in after

-- ---- how a line's bytes are read

-- no byte is a line feed
abbrev pub HasNoFeed : List ℕ → Type 0
HasNoFeed bytes = All (λ byte. byte ≢ 10) bytes

-- some of the known bytes are read, and this holds of them and of the rest
abbrev pub Splits : (List ℕ → List ℕ → Type 0) → Option (List ℕ) → Option (List ℕ) → Type 0
Splits P None after = ⊤
Splits P (Some before) None = ⊥
Splits P (Some before) (Some after) = (read : List ℕ) × (before ≡ read ++ after) × P read after

-- nothing is read; since the input ends there, or the line is too long
abbrev pub IsLast : List ℕ → List ℕ → Type 0
IsLast line rest = (rest ≡ []) ⊎ (1048576 < length line)

-- what is read adds these bytes to a line: before its line feed, without one, or none
abbrev pub EndsPiece : Piece → List ℕ → List ℕ → List ℕ → List ℕ → Type 0
EndsPiece Fed line added read rest = read ≡ added ++ 10 ∷ []
EndsPiece Open line added read rest = read ≡ added
EndsPiece Last line added read rest = (read ≡ []) × (added ≡ []) × IsLast line rest

-- a piece more of the line is read
abbrev pub ReadsPiece : Piece → List ℕ → List ℕ → Option (List ℕ) → Option (List ℕ) → Type 0
ReadsPiece piece line longer before after =
    Splits (λ read rest. (added : List ℕ) × (longer ≡ line ++ added) × HasNoFeed added × EndsPiece piece line added read rest) before after

-- a line is read with its line feed, or without one
abbrev pub EndsLine : Bool → List ℕ → List ℕ → List ℕ → Type 0
EndsLine true line read rest = read ≡ line ++ 10 ∷ []
EndsLine false line read rest = (read ≡ line) × IsLast line rest

-- a line's bytes are read up to its line feed, up to the input's end, or up to one byte too many
abbrev pub ReadsLine : Bool → List ℕ → Option (List ℕ) → Option (List ℕ) → Type 0
ReadsLine is_fed line before after = Splits (λ read rest. HasNoFeed line × EndsLine is_fed line read rest) before after
