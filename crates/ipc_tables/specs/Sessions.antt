-- The sessions, as what became of them tells.
use Rattle.std.specs.Prelude.{◌≡◌, false, List, [], ◌∷◌, ◌++◌, None}
use Rattle.ipc_terms.specs.Lists.{changed}
use Rattle.ipc_tables.specs.declared.rows.Session.{Session}
use Rattle.ipc_tables.specs.declared.sessions.Past.{Past}
use Rattle.ipc_tables.specs.declared.sessions.Past.TheVariants.{Nothing, Started', Masked', Parked', Ended'}
use Rattle.ipc_tables.specs.Steps.{first_row, with_mask, with_parked, hung_up}

-- all sessions that ever started, at their numbers
abbrev pub sessions_of : Past → List Session
sessions_of Nothing = []
sessions_of (Started' user _ _ past) = sessions_of past ++ first_row user.value ∷ []
sessions_of (Masked' sid mask _ _ past) = changed (with_mask mask.value) (sessions_of past) sid.value.0
sessions_of (Parked' sid object _ _ past) = changed (with_parked object.value) (sessions_of past) sid.value.0
sessions_of (Ended' sid _ _ past) = changed hung_up (sessions_of past) sid.value.0

-- no session that ended is parked
abbrev pub NoneEndedIsParked : List Session → Type 0
NoneEndedIsParked [] = Unit {0}
NoneEndedIsParked (row ∷ rows) = (row.is_live ≡ false → row.parked_on ≡ None) × NoneEndedIsParked rows
