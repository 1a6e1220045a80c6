-- What is left of a history once every session is gone, as by a restart: all but numbers. And when it is left of two
-- histories alike, of which the second may be under another configuration.
use Rattle.std.specs.Prelude.{◌≡◌, ⊤, Bool, true, false, ℕ, ◌==◌, if◌then◌else◌, List, [], ◌∷◌, map, filter, Option, Some, None, option_and_then}
use Rattle.std.specs.Option.{option_map}
use Rattle.std.specs.BTreeMap.{BTreeMap, get}
use Rattle.std.specs.Ordering.{nat_cmp}
use Rattle.ipc_terms.specs.History.{record_at}
use Rattle.ipc_terms.specs.Events.{caller}
use Rattle.ipc_terms.specs.Objects.{as_semaphore}
use Rattle.ipc_terms.specs.declared.call.Attributes.{Attributes}
use Rattle.ipc_terms.specs.declared.binding.Binding.{Binding}
use Rattle.ipc_terms.specs.declared.ids.Family.{Family}
use Rattle.ipc_terms.specs.declared.ids.Family.TheVariants.{Mq, Sem}
use Rattle.ipc_terms.specs.declared.ids.Uid.{Uid}
use Rattle.ipc_terms.specs.declared.record.Record.{Record}
use Rattle.ipc_access.specs.Users.{cred_of}
use Rattle.ipc_policy.specs.declared.config.Config.{Config}
use Rattle.ipc_policy.specs.Decides.History.{History}
use Rattle.ipc_policy.specs.Decides.Sessions.{user, live}
use Rattle.ipc_policy.specs.Decides.Timed.{now}
use Rattle.ipc_policy.specs.Decides.Objects.{object, facts, directory}
use Rattle.ipc_policy.specs.Decides.Queues.{Send, attributes}
use Rattle.ipc_policy.specs.Decides.Bodies.{contents, value}
use Rattle.ipc_policy.specs.Decides.Life.{bindings}
use Rattle.ipc_policy.specs.Decides.Charges.{limit}
use Rattle.ipc_living.specs.declared.senders.Note.{Note}
use Rattle.ipc_living.specs.declared.senders.Senders.{Senders}

-- the user whose session's call stands at a place
unfoldable pub sender_at : History → ℕ → Option Uid
sender_at h place = option_and_then (λ r. user h (caller r.event).0) (record_at place h)

-- a message as it stands in a queue: its priority, its bytes, and whose it is
pub record Letter : Type 0 where
  pub priority : ℕ
  pub bytes : List ℕ
  pub sender : Option Uid

abbrev pub letter_of : History → Send → Letter
letter_of h m = record { priority = m.priority; bytes = m.bytes; sender = sender_at h m.place }

-- the messages of priority p in queue o, in order of entry. Of each priority apart: in which order messages of different
-- priorities entered changes nothing of what comes out
abbrev pub letters : Config → History → ℕ → ℕ → List Letter
letters c h o p = map (letter_of h) (filter (λ m. p == m.priority) (contents c h o))

-- object o of one history is as object o' of the other: of one creator, owner, group and mode; both are queues of the same attributes
-- and messages, or both are semaphores of the same value
pub record Alike (c : Config) (h : History) (o : ℕ) (c' : Config) (h' : History) (o' : ℕ) : Type 0 where
  pub creators : option_map (λ x. x.creator) (object c h o) ≡ option_map (λ x. x.creator) (object c' h' o')
  pub owners : facts c h o ≡ facts c' h' o'
  pub attributes_are : attributes c h o ≡ attributes c' h' o'
  pub messages : (x : Attributes) → attributes c h o ≡ Some x → (p : ℕ) → letters c h o p ≡ letters c' h' o' p
  pub values : (first_value : ℕ) → as_semaphore (object c h o) ≡ Some first_value → value c h o ≡ value c' h' o'

-- these names are bound in the same order, and what they are bound to is alike
abbrev pub AllAlike : Config → History → List Binding → Config → History → List Binding → Type 0
AllAlike c h [] c' h' [] = ⊤
AllAlike c h (b ∷ bs) c' h' (b' ∷ bs') = (b.name ≡ b'.name) × Alike c h b.object c' h' b'.object × AllAlike c h bs c' h' bs'
AllAlike c h bs c' h' bs' = ⊥

-- a limit of a user whom another file gives a new one: what it is now, if that isn't what the first file says, or else the new one
abbrev pub carried_from : ℕ → Option ℕ → Option ℕ → ℕ
carried_from new (Some first) (Some now) = if now == first then new else now
carried_from new first now = new

-- the limit that a user has when the history goes on under another configuration
abbrev pub carried : Config → History → Config → Uid → Option ℕ
carried c h c' u = option_map (λ new. carried_from new.limit (option_map (λ first. first.limit) (cred_of c.users u)) (limit c h u)) (cred_of c'.users u)

-- the same lives in both, each under its configuration, and nobody in the second. A limit that was set stays; any other is that of the
-- second configuration
pub record SameLiving (c : Config) (h : History) (c' : Config) (h' : History) : Type 0 where
  pub queues : AllAlike c h (bindings h Mq) c' h' (bindings h' Mq)
  pub semaphores : AllAlike c h (bindings h Sem) c' h' (bindings h' Sem)
  pub directories : (f : Family) → directory h f ≡ directory h' f
  pub limits : (u : Uid) → carried c h c' u ≡ limit c' h' u
  pub times : now h ≡ now h'
  pub nobody : (s : ℕ) → live h' s ≡ false

-- each note tells whose call stands at its place
abbrev pub AreNotes : BTreeMap ℕ Note → History → Type 0
AreNotes notes h = (place : ℕ) (note : Note) → get nat_cmp notes place ≡ Some note → sender_at h place ≡ Some note.user

abbrev pub AreSenders : Senders → History → Type 0
AreSenders senders h = AreNotes senders.notes h
