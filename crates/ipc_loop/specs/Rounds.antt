-- What follows from the rounds of a server, over any number of them: from the bytes that a link gives to those that it takes.
use Rattle.std.specs.Prelude.{◌≡◌, true, ℕ, List, [], ◌∷◌, ◌++◌, slice_get, Option, Some, None}
use Rattle.ipc_terms.specs.declared.ids.Sid.{Sid}
use Rattle.ipc_policy.specs.declared.config.Config.{Config}
use Rattle.ipc_policy.specs.Decides.Verdict.{outbox}
use Rattle.ipc_state.specs.Ranges.{first_bad}
use Rattle.ipc_core.specs.CoreView.{CoreView}
use Rattle.ipc_hub.specs.Hub.{Connection, new_hub, spell_answers}
use Rattle.ipc_hub.specs.Laws.{IsStepped, GivesOneRefusal}
use Rattle.ipc_loop.specs.declared.accepting.Bounds.{Bounds}
use Rattle.ipc_loop.specs.Moves.{Moved, read_of, written_of}
use Rattle.ipc_loop.specs.Server.{Server}
use Rattle.ipc_loop.specs.Serving.{ServesAndOpens}

-- what a round makes of a server and of its host's moves
abbrev pub MakesRound : Server → Option (List Moved) → Server → Option (List Moved) → Type 0
MakesRound old moves new moves' = ServesAndOpens old.hub moves old.ports new.hub moves' new.ports

-- a server between two rounds, and what its host's links did until then
pub record Between : Type 0 where
  pub server : Server
  pub moves : Option (List Moved)

-- one round after another
abbrev pub MakesRounds : List Between → Server → Option (List Moved) → Server → Option (List Moved) → Type 0
MakesRounds [] old moves new moves' = (new ≡ old) × (moves' ≡ moves)
MakesRounds (next ∷ later) old moves new moves' = MakesRound old moves next.server next.moves × MakesRounds later next.server next.moves new moves'

-- a server that has done nothing
abbrev pub new_server : Config → Bounds → Server
new_server c bounds = record { hub = new_hub c; ports = []; turns = []; bounds = bounds; keeping = record { records = None; bytes = None }; may_accept = true; pausing = None }

-- of what a link gave, a beginning was fed, each byte once and in order. It is a hello, then the calls of the session in the
-- trail, and then what was not stepped
pub record GaveCalls (a : CoreView) (x : Connection) (sid : Sid) (gave : List ℕ) : Type 0 where
  pub fed : List ℕ
  pub rest : List ℕ
  pub whole : gave ≡ fed ++ rest
  pub stepped : IsStepped a x sid fed

-- what a link took is a beginning of the spellings of all that the session was answered while it was live
pub record TookAnswers (a : CoreView) (sid : Sid) (took : List ℕ) : Type 0 where
  pub rest : List ℕ
  pub whole : spell_answers (outbox a.config a.history sid.0) ≡ Some (took ++ rest)

abbrev pub EachLinkIsServed : Type 0
EachLinkIsServed =
    (c : Config) (bounds : Bounds) (rounds : List Between) (server : Server) (moved : List Moved) (i : ℕ) (x : Connection) (sid : Sid) →
    first_bad c.limits ≡ None → MakesRounds rounds (new_server c bounds) (Some []) server (Some moved) →
    slice_get server.hub.connections i ≡ Some x → x.session ≡ Some sid →
    GaveCalls server.hub.core x sid (read_of i moved) × TookAnswers server.hub.core sid (written_of i moved)

-- a link whose connection has no session took a beginning of the frame of its hello's refusal, and nothing else
abbrev pub EachOtherIsRefused : Type 0
EachOtherIsRefused =
    (c : Config) (bounds : Bounds) (rounds : List Between) (server : Server) (moved : List Moved) (i : ℕ) (x : Connection) →
    first_bad c.limits ≡ None → MakesRounds rounds (new_server c bounds) (Some []) server (Some moved) →
    slice_get server.hub.connections i ≡ Some x → x.session ≡ None →
    GivesOneRefusal (written_of i moved)
