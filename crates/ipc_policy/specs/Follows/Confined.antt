-- Where a message that is received comes from, and who may receive it.
use Rattle.std.specs.Prelude.{◌≡◌, Bool, true, false, ℕ, ◌<◌, ◌≤◌, ◌||◌, ◌==◌, List, [], ◌∷◌, length, IsTrue, Option, Some, None, is_none, if◌then◌else◌}
use Rattle.std.specs.List.{list_any}
use Rattle.std.specs.Option.{option_map, option_to_list}
use Rattle.ipc_terms.specs.Timed.{plain}
use Rattle.ipc_terms.specs.declared.ids.Sid.{Sid}
use Rattle.ipc_terms.specs.declared.facts.Facts.{Facts}
use Rattle.ipc_terms.specs.declared.call.Answer.{Answer}
use Rattle.ipc_terms.specs.declared.call.Answer.TheVariants.{Received}
use Rattle.ipc_terms.specs.declared.call.Call.TheVariants.{MqSend, MqReceive, MqGive}
use Rattle.ipc_terms.specs.declared.record.Event.{Event}
use Rattle.ipc_terms.specs.declared.record.Event.TheVariants.{Do}
use Rattle.ipc_access.specs.declared.class.Cred.{Cred}
use Rattle.ipc_access.specs.Class.{granted}
use Rattle.ipc_policy.specs.declared.config.Config.{Config}
use Rattle.ipc_policy.specs.declared.config.Held.{Held}
use Rattle.ipc_policy.specs.Decides.History.{History, after_accepted, record_at, before_at}
use Rattle.ipc_policy.specs.Decides.Sessions.{cred}
use Rattle.ipc_policy.specs.Decides.Names.{Opening, opening, creating}
use Rattle.ipc_policy.specs.Decides.Objects.{facts}
use Rattle.ipc_policy.specs.Decides.Descriptions.{opens, opened, held_as, holds}
use Rattle.ipc_policy.specs.Decides.Queues.{Send, Waiter}
use Rattle.ipc_policy.specs.Decides.Rules.{bits_wanted, reads_only, writes_only}
use Rattle.ipc_policy.specs.Decides.Verdict.{Legal, verdict, answers}
use Rattle.ipc_policy.specs.Follows.Deliveries.{Delivery, delivery, deliveries}

-- the record of the place is of this event, which was accepted
abbrev pub IsAccepted : History → ℕ → Event → Type 0
IsAccepted h place e = record_at place h ≡ Some (record { event = e; rule = None })

-- an event was accepted at the place that is this, or is this with a deadline
pub record IsMade (h : History) (place : ℕ) (e : Event) : Type 0 where
  pub event : Event
  pub recorded : IsAccepted h place event
  pub form : plain event ≡ e

-- this was sent, and accepted
abbrev pub IsSend : History → Send → Type 0
IsSend h m = IsMade h m.place (Do (record { 0 = m.session }) (MqSend (record { 0 = m.desc }) m.priority m.bytes))

-- there are a user and an object, and the object grants what is wanted
abbrev pub grants_to : Option Cred → Option Facts → ℕ → Bool
grants_to (Some who) (Some at) wanted = granted who at.owner at.group at.mode wanted
grants_to _ _ wanted = false

-- a give of a description: its place, and who gave it to whom
pub record Give : Type 0 where
  pub place : ℕ
  pub giver : Sid
  pub taker : Sid

-- at each place behind `from`, up to `until` and there too, a session held this by description d
abbrev pub HeldThroughout : History → ℕ → Held → ℕ → ℕ → Type 0
HeldThroughout h d x from until = (place : ℕ) → from < place → place ≤ until → holds (before_at place h) x.session.0 d ≡ Some x

-- the gives of description d, the newest first, that led from what a session had by it behind place `from` to what a session had
-- by it at place `until`. Without any both are the same, and it held that throughout. Else the newest was accepted in between,
-- its taker held the description from there on, and those before it led to what its giver had up to that give: the same object
-- and access
abbrev pub Lead : History → ℕ → List Give → Held → ℕ → Held → ℕ → Type 0
Lead h d [] first from last until = (first ≡ last) × (from < until) × HeldThroughout h d last from until
Lead h d (g ∷ gs) first from last until =
    IsAccepted h g.place (Do g.giver (MqGive (record { 0 = d }) g.taker))
    × (g.place < until)
    × (last.session ≡ g.taker)
    × HeldThroughout h d last g.place until
    × Lead h d gs first from (record last { session = g.giver }) g.place

-- in a legal history they are all: a give of the description that was accepted in between stands at the place of one of them
abbrev pub EachLeadIsWhole : Type 0
EachLeadIsWhole =
    (c : Config) (h : History) (d : ℕ) (gs : List Give) (first : Held) (from : ℕ) (last : Held) (until place : ℕ) (giver taker : Sid) →
    Legal c h → Lead h d gs first from last until → IsAccepted h place (Do giver (MqGive (record { 0 = d }) taker)) →
    from < place → place < until → list_any (λ g. g.place == place) gs ≡ true

-- an open creates what it gives, or the object grants the caller the access that the open asks for
abbrev pub created_or_granted : Config → History → Opening → ℕ → Bool
created_or_granted c before asked o = creating before asked || grants_to (cred c before asked.session.0) (facts c before o) (bits_wanted asked.access)

-- at the place of an act a session had all that this says by description d: an accepted open gave the description to its
-- session, and accepted gives led from there to the session that acts. Each of these sessions held it from the open or its give
-- to the next give or the act. The open created the object, or the object, by its
-- owner, group and mode of that moment, granted the access that the open asked for
pub record IsGranted (c : Config) (h : History) (d : ℕ) (x : Held) (act : ℕ) : Type 0 where
  pub place : ℕ
  pub event : Event
  pub asked : Opening
  pub first : Held
  pub recorded : IsAccepted h place event
  pub is_open : opening event ≡ Some asked
  pub number : opens (before_at place h) ≡ d
  pub gives : option_map (held_as asked) (opened (before_at place h) asked) ≡ Some first
  pub grants : IsTrue (created_or_granted c (before_at place h) asked first.object)
  pub given : List Give
  pub lead : Lead h d given first place x act

-- this was sent and accepted; its session then held the description, of object o and for writing
pub record IsSendTo (c : Config) (h : History) (o : ℕ) (m : Send) : Type 0 where
  pub made : IsSend h m
  pub writer : Held
  pub held : holds (before_at m.place h) m.session m.desc ≡ Some writer
  pub object : writer.object ≡ o
  pub writable : reads_only writer.access ≡ false
  pub granted : IsGranted c h m.desc writer m.place

-- the record of the place is an accepted receive; from there to the end of the history its session held the description,
-- of object o and for reading
pub record IsReceiveFrom (c : Config) (h : History) (o : ℕ) (w : Waiter) : Type 0 where
  pub length' : ℕ
  pub made : IsMade h w.place (Do (record { 0 = w.session }) (MqReceive (record { 0 = w.desc }) length'))
  pub reader : Held
  pub held : (place : ℕ) → w.place ≤ place → place < length h → holds (before_at place h) w.session w.desc ≡ Some reader
  pub object : reader.object ≡ o
  pub readable : writes_only reader.access ≡ false
  pub granted : IsGranted c h w.desc reader w.place

-- a message that an answer brings, and to whom
pub record Brought : Type 0 where
  pub session : ℕ
  pub priority : ℕ
  pub bytes : List ℕ

-- the messages that answers bring
abbrev pub brought : List (Sid × Answer) → List Brought
brought [] = []
brought ((to, Received priority bytes) ∷ rest) = record { session = to.0; priority = priority; bytes = bytes } ∷ brought rest
brought (other ∷ rest) = brought rest

-- the answer to a delivery brings the message to the session of the receive
abbrev pub brings : Delivery → Brought
brings x = record { session = x.receive.session; priority = x.message.priority; bytes = x.message.bytes }

-- the message that is brought by what an event delivers, where it is accepted
abbrev pub brought_by : Config → History → Event → Option Brought
brought_by c h e = if is_none (verdict c h e) then option_map brings (delivery c e h) else None

-- the answers to an event bring what it delivers, where it is accepted, and no other message
abbrev pub EachAnswerIsDelivered : Type 0
EachAnswerIsDelivered = (c : Config) (h : History) (e : Event) → brought (answers c h e) ≡ option_to_list (brought_by c h e)

-- the message was sent to the object, and the receive was made of it
pub record IsConfined (c : Config) (h : History) (x : Delivery) : Type 0 where
  pub sent : IsSendTo c h x.object x.message
  pub received : IsReceiveFrom c h x.object x.receive

-- so whenever a legal history grows by an event that delivers a message
abbrev pub EachDeliveryIsConfined : Type 0
EachDeliveryIsConfined =
    (c : Config) (h : History) (e : Event) (x : Delivery) → Legal c (after_accepted h e) → delivery c e h ≡ Some x →
    IsConfined c (after_accepted h e) x

-- and no two events deliver the message of one send
abbrev pub EachSendIsDeliveredOnce : Type 0
EachSendIsDeliveredOnce = (c : Config) (h : History) (i : ℕ) → Legal c h → deliveries c h i ≤ 1
