-- How long names, messages and answers are in a legal history.
use Rattle.std.specs.Prelude.{◌≡◌, true, ℕ, ◌≤◌, List, length, Some, None}
use Rattle.ipc_terms.specs.Lists.{Each}
use Rattle.ipc_terms.specs.Names.{name_limit}
use Rattle.ipc_terms.specs.Sizes.{IsSmall}
use Rattle.ipc_terms.specs.declared.ids.Family.{Family}
use Rattle.ipc_terms.specs.declared.call.Attributes.{Attributes}
use Rattle.ipc_terms.specs.declared.record.Event.{Event}
use Rattle.ipc_policy.specs.declared.config.Config.{Config}
use Rattle.ipc_policy.specs.declared.config.TheConstants.{HARD_MSGSIZE_MAX}
use Rattle.ipc_policy.specs.Decides.History.{History}
use Rattle.ipc_policy.specs.Decides.Names.{is_bound}
use Rattle.ipc_policy.specs.Decides.Queues.{Queue, attributes}
use Rattle.ipc_policy.specs.Decides.Bodies.{queue}
use Rattle.ipc_policy.specs.Follows.Deliveries.{Delivery, delivery}
use Rattle.ipc_policy.specs.Decides.Verdict.{Legal, verdict, answers, outbox}

-- in a legal history a bound name has at most the bytes that its family allows
abbrev pub EachNameIsShort : Type 0
EachNameIsShort = (c : Config) (h : History) (f : Family) (name : List ℕ) → Legal c h → is_bound h f name ≡ true → length name ≤ name_limit f

-- the limits let a message have at most 16,777,216 bytes
abbrev pub LimitsMessages : Config → Type 0
LimitsMessages c = c.limits.msgsize_max ≤ HARD_MSGSIZE_MAX

-- each message of a queue, in it or parked, has at most the queue's message size
pub record HoldsFitting (x : Attributes) (q : Queue) : Type 0 where
  pub inside : Each (λ m. length m.bytes ≤ x.msgsize) q.contents
  pub parked : Each (λ m. length m.bytes ≤ x.msgsize) q.senders

-- so it is of each queue in a legal history
abbrev pub EachMessageFits : Type 0
EachMessageFits = (c : Config) (h : History) (o : ℕ) (x : Attributes) → Legal c h → attributes c h o ≡ Some x → HoldsFitting x (queue c h o)

-- and so has each message that an accepted event hands to a receive
abbrev pub EachDeliveryFits : Type 0
EachDeliveryFits =
    (c : Config) (h : History) (e : Event) (d : Delivery) (x : Attributes) → Legal c h → verdict c h e ≡ None →
    delivery c e h ≡ Some d → attributes c h d.object ≡ Some x → length d.message.bytes ≤ x.msgsize

-- a queue's message size is in range, where the limits are
abbrev pub EachSizeIsInRange : Type 0
EachSizeIsInRange =
    (c : Config) (h : History) (o : ℕ) (x : Attributes) → LimitsMessages c → Legal c h → attributes c h o ≡ Some x →
    x.msgsize ≤ HARD_MSGSIZE_MAX

-- what any event is answered after a legal history is small
abbrev pub EachAnswerIsSmall : Type 0
EachAnswerIsSmall =
    (c : Config) (h : History) (e : Event) → LimitsMessages c → Legal c h → Each (λ p. IsSmall HARD_MSGSIZE_MAX p.1) (answers c h e)

-- and so is all that a session was answered
abbrev pub EachOutboxIsSmall : Type 0
EachOutboxIsSmall =
    (c : Config) (h : History) (s : ℕ) → LimitsMessages c → Legal c h → Each (IsSmall HARD_MSGSIZE_MAX) (outbox c h s)
