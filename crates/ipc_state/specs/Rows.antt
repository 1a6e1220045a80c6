-- What is looked up for an event, in tables that agree with the history.
use Rattle.std.specs.Prelude.{◌≡◌, ℕ, ◌<◌, ◌^◌, length, Option, option_and_then}
use Rattle.ipc_terms.specs.declared.record.Event.{Event}
use Rattle.ipc_terms.specs.Events.{caller}
use Rattle.ipc_access.specs.declared.class.Cred.{Cred}
use Rattle.ipc_access.specs.Users.{cred_of}
use Rattle.ipc_names.specs.Directory.{object_named}
use Rattle.ipc_descr.specs.declared.row.Row.{Row}
use Rattle.ipc_descr.specs.Descriptions.{Descriptions, row_of}
use Rattle.ipc_tables.specs.declared.rows.Session.{Session}
use Rattle.ipc_tables.specs.declared.rows.ObjectRow.{ObjectRow}
use Rattle.ipc_tables.specs.Objects.{row_at}
use Rattle.ipc_tables.specs.TablesView.{TablesView, directory_kept, live_session, parked_on_at}
use Rattle.ipc_policy.specs.declared.config.Config.{Config}
use Rattle.ipc_policy.specs.Decides.History.{History}
use Rattle.ipc_state.specs.declared.clock.Clock.{Clock}
use Rattle.ipc_state.specs.Agrees.{IsCore}
use Rattle.ipc_state.specs.OnTime.{IsOnTime}
use Rattle.ipc_state.specs.Meetings.{by_description, by_name}

-- the user of a session
abbrev pub user_in : Config → Option Session → Option Cred
user_in c session = option_and_then (λ row. cred_of c.users row.user) session

-- the row by which the caller holds the description that the event names
abbrev pub row_meant : Descriptions → Event → Option Row
row_meant t e = by_description (row_of t.rows) e

-- the object to which the name is bound that the event names
abbrev pub number_meant : TablesView → Event → Option ℕ
number_meant t e = by_name (λ x. object_named (directory_kept x.family t).bindings x.name) e

-- each was looked up in the tables: the caller's session, if it is live, the row of the description that the event names and the object
-- that it gives, and the object to which the name is bound that the event names
pub record IsLookup (c : Config) (h : History) (t : TablesView) (k : Clock) (e : Event) (session : Option Session) (row : Option Row) (given : Option ObjectRow) (bound : Option ℕ) (named : Option ObjectRow) : Type 0 where
  pub core : IsCore c h t
  pub on_time : IsOnTime c h k
  pub of_session : session ≡ live_session t.sessions (caller e).0
  pub parks : option_and_then (λ row. row.parked_on) session ≡ parked_on_at t.sessions (caller e).0
  pub few : length t.sessions < 2 ^ 64
  pub of_row : row ≡ row_meant t.descriptions e
  pub of_given : given ≡ option_and_then (λ r. row_at t.objects r.object) row
  pub of_bound : bound ≡ number_meant t e
  pub of_named : named ≡ option_and_then (row_at t.objects) bound
