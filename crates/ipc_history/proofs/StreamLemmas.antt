-- Bytes are read piece by piece, and what is found is found in all that came.
use Rattle.std.proofs.Common.{◌≡◌, ℕ, List, [], ◌++◌, sym, ap, subst, append_assoc, append-nil}
use Rattle.std.proofs.KnownBytes.{Consumes-nil, Consumes-trans}
use Rattle.std.specs.Prelude.{⊤}
use Rattle.ipc_history.specs.Incoming.{Incoming, Reads, TakesNone}

-- first this, and then that
abbrev pub ReadThen : (List ℕ → List ℕ → Type 0) → (List ℕ → List ℕ → Type 0) → List ℕ → List ℕ → Type 0
ReadThen P Q bytes rest = (between : List ℕ) × P bytes between × Q between rest

-- it holds also where more follows
abbrev pub IsOpen : (List ℕ → List ℕ → Type 0) → Type 0
IsOpen P = (bytes rest more : List ℕ) → P bytes rest → P (bytes ++ more) (rest ++ more)

pub none_open : IsOpen TakesNone
none_open bytes rest more is = ap (λ (z : List ℕ). z ++ more) is

pub read_nothing : (P : List ℕ → List ℕ → Type 0) (i : Incoming) → P i.waiting i.waiting → Reads P i i
read_nothing P i holds = ([], Consumes-nil i.unread, subst (λ (bytes : List ℕ). P bytes i.waiting) (sym (append-nil i.waiting)) holds)

pub read_then : (P Q : List ℕ → List ℕ → Type 0) → IsOpen P → (a b c : Incoming) → Reads P a b → Reads Q b c → Reads (ReadThen P Q) a c
read_then P Q more a b c (first, given, p) (second, given_then, q) = (
  first ++ second,
  Consumes-trans a.unread b.unread c.unread first second given given_then,
  (b.waiting ++ second, subst (λ (bytes : List ℕ). P bytes (b.waiting ++ second)) (append_assoc a.waiting first second) (more (a.waiting ++ first) b.waiting second p), q),
)

pub read_as : (P Q : List ℕ → List ℕ → Type 0) → ((bytes rest : List ℕ) → P bytes rest → Q bytes rest) → (a b : Incoming) → Reads P a b → Reads Q a b
read_as P Q turn a b (came, given, p) = (came, given, turn (a.waiting ++ came) b.waiting p)

-- behind what was only read
pub none_then : (Q : List ℕ → List ℕ → Type 0) (a b c : Incoming) → Reads TakesNone a b → Reads Q b c → Reads Q a c
none_then Q a b c none reads =
    read_as (ReadThen TakesNone Q) Q (λ bytes rest x. subst (λ (z : List ℕ). Q z rest) x.1 x.2) a c (read_then TakesNone Q none_open a b c none reads)

-- of what waits something is taken, and nothing is read
pub taken : (P : List ℕ → List ℕ → Type 0) (a b : Incoming) → b.unread ≡ a.unread → P a.waiting b.waiting → Reads P a b
taken P a b same holds =
    ([], rw same (Consumes-nil a.unread), subst (λ (bytes : List ℕ). P bytes b.waiting) (sym (append-nil a.waiting)) holds)

-- where a read fails nothing is said of the bytes
pub failed : (P : List ℕ → Type 0) (a b c : Incoming) → ((bytes : List ℕ) → P bytes) → Reads TakesNone a b → Reads (λ bytes rest. ⊤) b c → Reads (λ bytes rest. P bytes) a c
failed P a b c holds none lost = none_then (λ bytes rest. P bytes) a b c none (read_as (λ bytes rest. ⊤) (λ bytes rest. P bytes) (λ bytes rest x. holds bytes) b c lost)
