-- What a reader of a trail has: the bytes that came, and those that it has yet to give.
use Rattle.std.specs.Prelude.{ℕ, ◌≡◌, ◌+◌, ◌≤◌, List, [], ◌++◌, length, Option}
use Rattle.std.specs.Io.KnownBytes.{Consumes}
use Rattle.ipc_history.specs.declared.trail_reader.TrailReader.{TrailReader}

-- the bytes that came and were not yet taken
abbrev pub waiting : {R : Type 0} → TrailReader R → List ℕ
waiting reader = reader.waiting.items

-- they are at most all but the last byte of the longest record, and what one read brings
abbrev pub IsBounded : List ℕ → Type 0
IsBounded bytes = length bytes ≤ 16777333 + 1024

-- the bytes that are given from here on, where they are known
abbrev pub unread : {R : Type 0} → (R → Option (List ℕ)) → TrailReader R → Option (List ℕ)
unread remaining reader = remaining reader.reader

pub record Incoming : Type 0 where
  pub waiting : List ℕ
  pub unread : Option (List ℕ)

abbrev pub incoming : {R : Type 0} → (R → Option (List ℕ)) → TrailReader R → Incoming
incoming remaining reader = record { waiting = waiting reader; unread = unread remaining reader }

-- nothing came yet of what is given
abbrev pub new_incoming : Option (List ℕ) → Incoming
new_incoming given = record { waiting = []; unread = given }

-- Some bytes came behind those that waited. This holds of them all, and of what waits now.
abbrev pub Reads : (List ℕ → List ℕ → Type 0) → Incoming → Incoming → Type 0
Reads P before after = (came : List ℕ) × Consumes before.unread after.unread came × P (before.waiting ++ came) after.waiting

-- nothing is taken of them
abbrev pub TakesNone : List ℕ → List ℕ → Type 0
TakesNone bytes rest = rest ≡ bytes
