-- A session's rights by a description that it holds: they are fixed at the open, they pass on with the description, and they
-- outlive every change of names, owners, groups, modes and directories.
use Rattle.std.specs.Prelude.{◌≡◌, true, false, ℕ, length, Option, Some, None, is_some}
use Rattle.std.specs.Option.{option_map}
use Rattle.ipc_terms.specs.Objects.{family_of}
use Rattle.ipc_terms.specs.declared.ids.Sid.{Sid}
use Rattle.ipc_terms.specs.declared.ids.Desc.{Desc}
use Rattle.ipc_terms.specs.declared.call.Call.{Call}
use Rattle.ipc_terms.specs.declared.call.Call.TheVariants.{MqGive}
use Rattle.ipc_terms.specs.declared.record.Event.{Event}
use Rattle.ipc_terms.specs.declared.record.Event.TheVariants.{Do}
use Rattle.ipc_policy.specs.declared.asking.Described.{Described}
use Rattle.ipc_policy.specs.declared.config.Config.{Config}
use Rattle.ipc_policy.specs.declared.config.Held.{Held}
use Rattle.ipc_policy.specs.declared.config.Registration.{Registration}
use Rattle.ipc_policy.specs.Decides.History.{History, after_accepted}
use Rattle.ipc_policy.specs.Decides.Sessions.{live}
use Rattle.ipc_policy.specs.Decides.Objects.{object}
use Rattle.ipc_policy.specs.Decides.Descriptions.{holds, held_count, is_nonblock, ends_held}
use Rattle.ipc_policy.specs.Decides.Life.{gives_object}
use Rattle.ipc_policy.specs.Decides.Timed.{now}
use Rattle.ipc_policy.specs.Decides.Queues.{attributes}
use Rattle.ipc_policy.specs.Decides.Bodies.{contents, value}
use Rattle.ipc_policy.specs.Decides.Registrations.{registered}
use Rattle.ipc_policy.specs.Decides.Parking.{parked}
use Rattle.ipc_policy.specs.Decides.Rules.{described}
use Rattle.ipc_policy.specs.Decides.Verdict.{verdict}

-- what session s holds by description d stays what it is over every accepted event, but the session's close of it, its give
-- of it, and its hang-up
abbrev pub HeldOutlives : Type 0
HeldOutlives =
    (h : History) (e : Event) (s d : ℕ) (x : Held) →
    holds h s d ≡ Some x → ends_held d x e ≡ false → holds (after_accepted h e) s d ≡ Some x

-- what a session holds its taker holds after an accepted give: the same object, the same access
abbrev pub HeldIsHandedOver : Type 0
HeldIsHandedOver =
    (h : History) (sid taker : Sid) (desc : Desc) (x : Held) →
    holds h sid.0 desc.0 ≡ Some x → holds (after_accepted h (Do sid (MqGive desc taker))) taker.0 desc.0 ≡ Some (record x { session = taker })

-- a description has one holder
abbrev pub EachHasOneHolder : Type 0
EachHasOneHolder = (h : History) (s t d : ℕ) → is_some (holds h s d) ≡ true → is_some (holds h t d) ≡ true → s ≡ t

-- a session that is parked gives nothing away
abbrev pub ParkedGivesNothing : Type 0
ParkedGivesNothing = (c : Config) (h : History) (sid taker : Sid) (desc : Desc) → verdict c h (Do sid (MqGive desc taker)) ≡ None → parked c h sid.0 ≡ None

-- who is registered for the notice of a queue holds the description by which it is registered, and that gives the queue
abbrev pub RegisteredIsHeld : Type 0
RegisteredIsHeld = (c : Config) (h : History) (o : ℕ) (x : Registration) → registered c h o ≡ Some x → gives_object o (holds h x.session.0 x.desc.0) ≡ true

-- object o is alike in both histories: its family, its attributes, whether it has a registration, how many messages it
-- has, and its value
pub record SameObject (c : Config) (h k : History) (o : ℕ) : Type 0 where
  pub family : option_map (λ x. family_of x.kind) (object c h o) ≡ option_map (λ x. family_of x.kind) (object c k o)
  pub attributes : attributes c h o ≡ attributes c k o
  pub registered : is_some (registered c h o) ≡ is_some (registered c k o)
  pub messages : length (contents c h o) ≡ length (contents c k o)
  pub value : value c h o ≡ value c k o

-- the time is the same in both histories, session s is live and parked alike, and holds the same by description d, of an
-- object that is alike; no user, no owner, group or mode, no name and no directory has a part in it
pub record SameByDescription (c : Config) (h k : History) (s d : ℕ) : Type 0 where
  pub live : live h s ≡ live k s
  pub parked : is_some (parked c h s) ≡ is_some (parked c k s)
  pub held : holds h s d ≡ holds k s d
  pub nonblock : is_nonblock h d ≡ is_nonblock k d
  pub object : (x : Held) → holds h s d ≡ Some x → SameObject c h k x.object
  pub time : now h ≡ now k

-- to whom a call gives a description, if it gives one
abbrev pub taker_of : Call → Option Sid
taker_of (MqGive desc taker) = Some taker
taker_of _ = None

-- the taker, where there is one, is live alike in both histories, and holds as many descriptions
abbrev pub SameTaker : History → History → Option Sid → Type 0
SameTaker h k None = Unit {0}
SameTaker h k (Some taker) = (live h taker.0 ≡ live k taker.0) × (held_count h taker.0 ≡ held_count k taker.0)

-- such histories give the same verdict on each call that names the description; on a give, where its taker is alike too
abbrev pub RightsByDescription : Type 0
RightsByDescription =
    (c : Config) (h k : History) (sid : Sid) (call : Call) (named : Described) →
    described call ≡ Some named → SameByDescription c h k sid.0 named.desc.0 → SameTaker h k (taker_of call) →
    verdict c h (Do sid call) ≡ verdict c k (Do sid call)
