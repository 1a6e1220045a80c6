-- Which rules speak of calls that few rules speak of.
use Rattle.std.specs.Prelude.{find, List, [], ◌∷◌, Option}
use Rattle.ipc_terms.specs.Rules.{every_rule}
use Rattle.ipc_terms.specs.declared.call.Call.{Call}
use Rattle.ipc_terms.specs.declared.call.Call.TheVariants.{Umask, MqClose, MqSend, MqReceive, MqGetattr, MqSetattr, SemClose, SemPost, SemWait, SemTryWait, SemGetvalue, MqTimedSend, MqTimedReceive, SemTimedWait}
use Rattle.ipc_terms.specs.declared.record.Event.{Event}
use Rattle.ipc_terms.specs.declared.rule.Rule.{Rule}
use Rattle.ipc_terms.specs.declared.rule.Rule.TheVariants.{NoSession, InCall, BadDescr, NotForWrite, NotForRead, PrioRange, MessageLong, BufferShort, WouldBlock, Overflow, TimedOut}
use Rattle.ipc_policy.specs.declared.config.Config.{Config}
use Rattle.ipc_policy.specs.Decides.History.{History}
use Rattle.ipc_policy.specs.Decides.Rules.{forbids}

-- the first of these rules that forbids the event
abbrev pub first_of : List Rule → Config → History → Event → Option Rule
first_of rules c h e = find (λ rule. forbids rule c h e) rules

-- those of a send or a receive
abbrev pub of_messages : List Rule
of_messages = NoSession ∷ InCall ∷ BadDescr ∷ NotForWrite ∷ NotForRead ∷ PrioRange ∷ MessageLong ∷ BufferShort ∷ WouldBlock ∷ TimedOut ∷ []

-- those of a post or a wait
abbrev pub of_values : List Rule
of_values = NoSession ∷ InCall ∷ BadDescr ∷ WouldBlock ∷ Overflow ∷ TimedOut ∷ []

-- those of a call that asks or sets something of a description alone, or of its session
abbrev pub of_descriptions : List Rule
of_descriptions = NoSession ∷ InCall ∷ BadDescr ∷ []

-- those that speak of the call
abbrev pub spoken : Call → List Rule
spoken (MqSend desc priority bytes) = of_messages
spoken (MqReceive desc size) = of_messages
spoken (MqTimedSend desc priority deadline bytes) = of_messages
spoken (MqTimedReceive desc size deadline) = of_messages
spoken (SemPost desc) = of_values
spoken (SemWait desc) = of_values
spoken (SemTryWait desc) = of_values
spoken (SemTimedWait desc deadline) = of_values
spoken (Umask mask) = of_descriptions
spoken (MqClose desc) = of_descriptions
spoken (MqGetattr desc) = of_descriptions
spoken (MqSetattr desc nonblock) = of_descriptions
spoken (SemClose desc) = of_descriptions
spoken (SemGetvalue desc) = of_descriptions
spoken _ = every_rule
