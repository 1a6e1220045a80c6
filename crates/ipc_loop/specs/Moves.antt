-- What links do, in order, and what they were asked for in vain.
use Rattle.std.specs.Prelude.{◌≡◌, ◌==◌, ◌||◌, ◌-◌, ◌+◌, Bool, true, false, nat_le, length, ℕ, List, [], ◌∷◌, ◌++◌, take, ⊤, Option, Some, None, Result, MatchResult, if◌then◌else◌}
use Rattle.std.specs.IoError.{error_kind}
use Rattle.std.specs.declared.io.Error.{Error}
use Rattle.std.specs.declared.io.ErrorKind.{ErrorKind}
use Rattle.std.specs.declared.io.ErrorKind.TheVariants.{WouldBlock, Interrupted}
use Rattle.ipc_loop.specs.declared.ending.Ending.{Ending}

-- link i was opened, gave these bytes, took these of what it was offered and left so many, or was closed and this was told. Or nobody came,
-- link i gave nothing, or took none of so many bytes that it was offered, for a reason
pub data Moved : Type 0 where
  LinkOpened : ℕ → Moved
  LinkGave : ℕ → List ℕ → Moved
  LinkTook : ℕ → List ℕ → ℕ → Moved
  LinkClosed : ℕ → Ending → Moved
  NobodyCame : ErrorKind → Moved
  GaveNothing : ℕ → ErrorKind → Moved
  TookNothing : ℕ → ℕ → ErrorKind → Moved

-- all that link i gave
abbrev pub read_of : ℕ → List Moved → List ℕ
read_of i [] = []
read_of i (LinkGave j bytes ∷ moves) = if j == i then bytes ++ read_of i moves else read_of i moves
read_of i (move ∷ moves) = read_of i moves

-- all that it took
abbrev pub written_of : ℕ → List Moved → List ℕ
written_of i [] = []
written_of i (LinkTook j bytes left ∷ moves) = if j == i then bytes ++ written_of i moves else written_of i moves
written_of i (move ∷ moves) = written_of i moves

-- whether its stream ended: it gave nothing once
abbrev pub comes_to_its_end : ℕ → List Moved → Bool
comes_to_its_end i [] = false
comes_to_its_end i (LinkGave j [] ∷ moves) = if j == i then true else comes_to_its_end i moves
comes_to_its_end i (move ∷ moves) = comes_to_its_end i moves

-- the links that were opened, in order
abbrev pub opened_in : List Moved → List ℕ
opened_in [] = []
opened_in (LinkOpened i ∷ moves) = i ∷ opened_in moves
opened_in (move ∷ moves) = opened_in moves

-- what was told where link i was closed, if it was
abbrev pub closed_as : ℕ → List Moved → Option Ending
closed_as i [] = None
closed_as i (LinkClosed j ending ∷ moves) = if j == i then Some ending else closed_as i moves
closed_as i (move ∷ moves) = closed_as i moves

-- whether a failure says more than that the call would have waited, or that a signal came
abbrev pub is_fault : ErrorKind → Bool
is_fault WouldBlock = false
is_fault Interrupted = false
is_fault kind = true

-- whether a read of link i failed, and a write to it
abbrev pub fails_to_give : ℕ → List Moved → Bool
fails_to_give i [] = false
fails_to_give i (GaveNothing j kind ∷ moves) = (if j == i then is_fault kind else false) || fails_to_give i moves
fails_to_give i (move ∷ moves) = fails_to_give i moves

abbrev pub fails_to_take : ℕ → List Moved → Bool
fails_to_take i [] = false
fails_to_take i (TookNothing j count kind ∷ moves) = (if j == i then is_fault kind else false) || fails_to_take i moves
fails_to_take i (move ∷ moves) = fails_to_take i moves

-- whether link i was asked for bytes
abbrev pub is_asked : ℕ → List Moved → Bool
is_asked i [] = false
is_asked i (LinkGave j bytes ∷ moves) = (j == i) || is_asked i moves
is_asked i (GaveNothing j kind ∷ moves) = (j == i) || is_asked i moves
is_asked i (move ∷ moves) = is_asked i moves

-- how many bytes link i left of those that it was offered last; n, where it was offered none
abbrev pub left_by : ℕ → ℕ → List Moved → ℕ
left_by i n [] = n
left_by i n (LinkTook j bytes left ∷ moves) = left_by i (if j == i then left else n) moves
left_by i n (TookNothing j count kind ∷ moves) = left_by i (if j == i then count else n) moves
left_by i n (move ∷ moves) = left_by i n moves

-- whether it was offered so many bytes at once, or more
abbrev pub is_offered : ℕ → ℕ → List Moved → Bool
is_offered i n [] = false
is_offered i n (LinkTook j bytes left ∷ moves) = (if j == i then nat_le n (length bytes + left) else false) || is_offered i n moves
is_offered i n (TookNothing j count kind ∷ moves) = (if j == i then nat_le n count else false) || is_offered i n moves
is_offered i n (move ∷ moves) = is_offered i n moves

-- moves, where they are known, go on with these
abbrev pub GoOn : Option (List Moved) → Option (List Moved) → List Moved → Type 0
GoOn None new more = ⊤
GoOn (Some moves) None more = ⊥
GoOn (Some moves) (Some later) more = later ≡ moves ++ more

-- an accept opened link i, or nobody came
abbrev pub Opens : Option (List Moved) → Option (List Moved) → ℕ → Result Unit Error → Type 0
Opens old new i r = MatchResult r (λ _. GoOn old new (LinkOpened i ∷ [])) (λ e. GoOn old new (NobodyCame (error_kind e) ∷ []))

-- a read of link i gave the bytes that it left in the buffer, or nothing
abbrev pub Gives : Option (List Moved) → Option (List Moved) → ℕ → Result ℕ Error → List ℕ → Type 0
Gives old new i r buffer = MatchResult r (λ n. GoOn old new (LinkGave i (take n buffer) ∷ [])) (λ e. GoOn old new (GaveNothing i (error_kind e) ∷ []))

-- a write to link i took the first of the bytes, or nothing
abbrev pub Takes : Option (List Moved) → Option (List Moved) → ℕ → Result ℕ Error → List ℕ → Type 0
Takes old new i r bytes = MatchResult r (λ n. GoOn old new (LinkTook i (take n bytes) (length bytes - n) ∷ [])) (λ e. GoOn old new (TookNothing i (length bytes) (error_kind e) ∷ []))

-- moves go on with link k giving and taking these bytes, and coming to its end or not; no read of another failed, and no write to one
pub record Adds (moves moves' : Option (List Moved)) (k : ℕ) (gave took : List ℕ) (ended : Bool) : Type 0 where
  pub moved : List Moved
  pub went : GoOn moves moves' moved
  pub read : (i : ℕ) → read_of i moved ≡ (if k == i then gave else [])
  pub written : (i : ℕ) → written_of i moved ≡ (if k == i then took else [])
  pub end : (i : ℕ) → comes_to_its_end i moved ≡ (if k == i then ended else false)
  pub opened : opened_in moved ≡ []
  pub fails : (i : ℕ) → (k == i) ≡ false → fails_to_give i moved ≡ false
  pub refuses : (i : ℕ) → (k == i) ≡ false → fails_to_take i moved ≡ false
  pub closed : (i : ℕ) → closed_as i moved ≡ None
