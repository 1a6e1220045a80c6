-- When what two tables keep is alike, by whose calls stand at the places of their messages.
use Rattle.std.specs.Prelude.{◌≡◌, ℕ, List, length, map, slice_get, Some}
use Rattle.std.specs.Option.{option_map, option_map_or}
use Rattle.ipc_terms.specs.Objects.{of_queue}
use Rattle.ipc_terms.specs.declared.binding.Binding.{Binding}
use Rattle.ipc_terms.specs.declared.ids.Family.{Family}
use Rattle.ipc_terms.specs.declared.ids.Uid.{Uid}
use Rattle.ipc_access.specs.declared.users.User.{User}
use Rattle.ipc_access.specs.Users.{cred_of}
use Rattle.ipc_descr.specs.declared.charges.Charge.{Charge}
use Rattle.ipc_descr.specs.Charges.{limit_of}
use Rattle.ipc_queue.specs.declared.queue.Ticket.{Ticket}
use Rattle.ipc_queue.specs.Contents.{of_priority}
use Rattle.ipc_tables.specs.declared.rows.Body.{Body}
use Rattle.ipc_tables.specs.declared.rows.Body.TheVariants.{Queue as QueueBody, Semaphore as SemaphoreBody}
use Rattle.ipc_tables.specs.declared.rows.ObjectRow.{ObjectRow}
use Rattle.ipc_tables.specs.Objects.{row_at}
use Rattle.ipc_tables.specs.TablesView.{TablesView, directory_kept}
use Rattle.ipc_policy.specs.Decides.History.{History}
use Rattle.ipc_living.specs.Living.{Letter, sender_at, carried_from}

-- a message as it is kept
abbrev pub letter_kept : History → Ticket → Letter
letter_kept h t = record { priority = t.priority; bytes = t.bytes; sender = sender_at h t.place }

-- those of priority p, in order of entry
abbrev pub letters_kept : History → ℕ → List Ticket → List Letter
letters_kept h p tickets = map (letter_kept h) (of_priority p tickets)

-- of each priority the same messages stand in both, in the same order
abbrev pub SameLetters : History → List Ticket → History → List Ticket → Type 0
SameLetters h a h' b = (p : ℕ) → letters_kept h p a ≡ letters_kept h' p b

-- the same stands in both
abbrev pub SameBody : History → Body → History → Body → Type 0
SameBody h (QueueBody a) h' (QueueBody b) = SameLetters h a.tickets h' b.tickets
SameBody h (SemaphoreBody a) h' (SemaphoreBody b) = a.value ≡ b.value
SameBody h a h' b = ⊥

-- two objects are alike
pub record SameRow (h : History) (a : ObjectRow) (h' : History) (b : ObjectRow) : Type 0 where
  pub creators : a.object.creator ≡ b.object.creator
  pub facts_are : a.facts ≡ b.facts
  pub attributes_are : of_queue a.object.kind ≡ of_queue b.object.kind
  pub bodies : SameBody h a.body h' b.body

-- two bindings have one name, and what they are of is alike
pub record SameBinding (h : History) (t : TablesView) (x : Binding) (h' : History) (t' : TablesView) (y : Binding) : Type 0 where
  pub names_are : x.name ≡ y.name
  pub row : ObjectRow
  pub row' : ObjectRow
  pub there : row_at t.objects x.object ≡ Some row
  pub there' : row_at t'.objects y.object ≡ Some row'
  pub rows : SameRow h row h' row'

-- the directories of a family are alike, and so are the bindings of each turn
pub record SameDirectory (h : History) (t : TablesView) (h' : History) (t' : TablesView) (f : Family) : Type 0 where
  pub facts_are : (directory_kept f t).facts ≡ (directory_kept f t').facts
  pub count : length (directory_kept f t).bindings ≡ length (directory_kept f t').bindings
  pub each : (i : ℕ) (x y : Binding) → slice_get (directory_kept f t).bindings i ≡ Some x → slice_get (directory_kept f t').bindings i ≡ Some y → SameBinding h t x h' t' y

-- the limit that a user of other users has from now on, where these charges of the first users are kept; 0 if it is none of them
abbrev pub limit_carried : List User → List Charge → List User → Uid → ℕ
limit_carried users charges others u =
    option_map_or (λ who. carried_from who.limit (option_map (λ first. first.limit) (cred_of users u)) (Some (limit_of charges u.0))) (cred_of others u) 0
