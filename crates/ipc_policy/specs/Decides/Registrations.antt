-- Which session gets the notice of a queue, by which description: a message that comes to the empty queue is told to it,
-- once.
use Rattle.std.specs.Prelude.{Bool, false, ℕ, ◌&&◌, ◌||◌, ◌==◌, not, Option, Some, None, if◌then◌else◌}
use Rattle.ipc_terms.specs.declared.call.Call.TheVariants.{MqNotify}
use Rattle.ipc_terms.specs.declared.record.Event.{Event}
use Rattle.ipc_terms.specs.declared.record.Event.TheVariants.{Do}
use Rattle.ipc_policy.specs.declared.config.Config.{Config}
use Rattle.ipc_policy.specs.declared.config.Held.{Held}
use Rattle.ipc_policy.specs.declared.config.Registration.{Registration}
use Rattle.ipc_policy.specs.Decides.History.{History, unended}
use Rattle.ipc_policy.specs.Decides.Descriptions.{holds, lets_go}
use Rattle.ipc_policy.specs.Decides.Life.{gives_object}
use Rattle.ipc_policy.specs.Decides.Queues.{Act, Sends, Queue, has_none}
use Rattle.ipc_policy.specs.Decides.Bodies.{act, queue}

-- a notify on by a description that gives queue o registers it, by what each session holds
abbrev pub registers : (ℕ → ℕ → Option Held) → ℕ → Event → Option Registration
registers holds o (Do sid (MqNotify desc on)) = if on && gives_object o (holds sid.0 desc.0) then Some (record { session = sid; desc = desc }) else None
registers holds o _ = None

-- a notify off by the description that is registered
abbrev pub turns_off : Registration → Event → Bool
turns_off x (Do sid (MqNotify desc on)) = not on && (sid.0 == x.session.0) && (desc.0 == x.desc.0)
turns_off x _ = false

-- the queue has no message, and no receive is parked on it
abbrev pub is_idle : Queue → Bool
is_idle q = has_none q.contents && has_none q.receivers

-- a send to such a queue fires; a message that a receive lets in does not
abbrev pub fires : Act → Queue → Bool
fires (Sends m) q = is_idle q
fires _ q = false

-- a registration ends when it is turned off, when its session lets the description go, and when it fires
abbrev pub ends_registration : Registration → Event → Act → Queue → Bool
ends_registration x e a q = turns_off x e || lets_go x.session.0 x.desc.0 e || fires a q

-- what an event registers with queue o
abbrev pub begins_registration : ℕ → Event → History → Option Registration
begins_registration o e before = registers (holds before) o e

-- an event ends the registration of queue o
abbrev pub ends_registration_at : Config → ℕ → Registration → Event → History → Bool
ends_registration_at c o x e before = ends_registration x e (act c o e before) (queue c before o)

-- the registration of queue o
unfoldable pub registered : Config → History → ℕ → Option Registration
registered c h o = unended (begins_registration o) (ends_registration_at c o) h
