-- What a connection has of its server: the bytes that came, and those that its reader has yet to give.
use Rattle.std.specs.Prelude.{ℕ, ◌≡◌, ⊤, List, [], ◌++◌, Option, None, Some, Result, Ok, Err}
use Rattle.std.specs.Io.KnownBytes.{Consumes}
use Rattle.ipc_terms.specs.declared.call.Answer.{Answer}
use Rattle.ipc_fields.specs.declared.fault.WireFault.{WireFault}
use Rattle.ipc_wire.specs.Streams.{answer_front}
use Rattle.ipc_client.specs.declared.connection.Connection.{Connection}
use Rattle.ipc_client.specs.declared.fault.ClientFault.{ClientFault}
use Rattle.ipc_client.specs.declared.fault.ClientFault.TheVariants.{Net, Memory}

-- how many more reads are made at most
abbrev pub reads_left : {R : Type 0} → Connection R → ℕ
reads_left connection = connection.left

-- the bytes that came and are not yet read as answers
abbrev pub waiting : {R : Type 0} → Connection R → List ℕ
waiting connection = connection.waiting.items

-- the bytes that the reader gives from here on, where they are known
abbrev pub unread : {R : Type 0} → (R → Option (List ℕ)) → Connection R → Option (List ℕ)
unread remaining connection = remaining connection.reader

-- what a connection has to give
pub record Incoming : Type 0 where
  pub waiting : List ℕ
  pub unread : Option (List ℕ)

abbrev pub incoming : {R : Type 0} → (R → Option (List ℕ)) → Connection R → Incoming
incoming remaining connection = record { waiting = waiting connection; unread = unread remaining connection }

-- nothing came yet of what is given
abbrev pub new_incoming : Option (List ℕ) → Incoming
new_incoming given = record { waiting = []; unread = given }

-- Some bytes came behind those that waited. This holds of them all, and of what waits now.
abbrev pub Reads : (List ℕ → List ℕ → Type 0) → Incoming → Incoming → Type 0
Reads P before after = (came : List ℕ) × Consumes before.unread after.unread came × P (before.waiting ++ came) after.waiting

-- no answer is taken
abbrev pub TakesNone : List ℕ → List ℕ → Type 0
TakesNone bytes rest = rest ≡ bytes

-- the answer stands in front of the bytes, and the rest behind it
abbrev pub IsNext : Answer → List ℕ → List ℕ → Type 0
IsNext answer bytes rest = answer_front bytes ≡ Ok (Some (answer, rest))

-- the front of what came is no answer, or memory ran out
abbrev pub IsNoAnswer : ClientFault → List ℕ → Type 0
IsNoAnswer Net came = (fault : WireFault) × (answer_front came ≡ Err fault)
IsNoAnswer Memory came = ⊤
IsNoAnswer fault came = ⊥

-- what is taken of what came, and what is left: the answer in front with its frame, or nothing as long as no frame is whole
abbrev pub Takes : Result (Option Answer) ClientFault → List ℕ → List ℕ → Type 0
Takes (Ok (Some answer)) came left = IsNext answer came left
Takes (Ok None) came left = (answer_front came ≡ Ok None) × (left ≡ came)
Takes (Err fault) came left = IsNoAnswer fault came × (left ≡ came)
