-- The connections that are gone: at run time nothing is kept of them.
use Rattle.std.specs.Prelude.{◌≡◌, ◌==◌, ◌+◌, true, false, ℕ, List, [], ◌∷◌, slice_get, Option, Some, None, if◌then◌else◌}
use Rattle.ipc_terms.specs.declared.ids.Sid.{Sid}
use Rattle.ipc_core.specs.CoreView.{CoreView}
use Rattle.ipc_hub.specs.declared.hub.Gone.{Gone}
use Rattle.ipc_hub.specs.declared.hub.Gone.TheVariants.{Nothing, Also'}
use Rattle.ipc_hub.specs.Hub.{Connection, untaken, HasEnded}

-- a connection that is over, of which nothing was ever asked
abbrev pub closed : Connection
closed = record { kept = []; session = None; has_refusal = false; is_over = true }

-- what the connection of this number was when it went
abbrev pub gone_at : Gone → ℕ → Connection
gone_at Nothing i = closed
gone_at (Also' number connection _ _ before) i = if number.value == i then connection.value else gone_at before i

-- all connections from this number on, kept or gone
abbrev pub all_from : ℕ → List (Option Connection) → Gone → List Connection
all_from k [] gone = []
all_from k (None ∷ rows) gone = gone_at gone k ∷ all_from (k + 1) rows gone
all_from k (Some x ∷ rows) gone = x ∷ all_from (k + 1) rows gone

abbrev pub all_of : List (Option Connection) → Gone → List Connection
all_of rows gone = all_from 0 rows gone

-- the connection is over, keeps no bytes, and has nothing untaken; and its session has ended, if there was one
pub record IsAway (a : CoreView) (x : Connection) : Type 0 where
  pub over : x.is_over ≡ true
  pub kept : x.kept ≡ []
  pub nothing : untaken a x ≡ []
  pub session : (sid : Sid) → x.session ≡ Some sid → HasEnded a sid

-- so is each that isn't kept
pub record AreAway (a : CoreView) (rows : List (Option Connection)) (gone : Gone) : Type 0 where
  pub each : (i : ℕ) → slice_get rows i ≡ Some None → IsAway a (gone_at gone i)
