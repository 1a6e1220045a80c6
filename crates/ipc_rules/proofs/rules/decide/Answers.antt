use Rattle.std.proofs.Common.{sym, ◌∙◌}
use Rattle.ipc_rules.specs.Spoken.{of_messages, of_values, of_descriptions}
use Rattle.ipc_rules.proofs.SpokenLemmas.{first_is, speak_of_messages, speak_of_values, speak_of_descriptions}
use Rattle.ipc_rules.proofs.rules.decide.Goals as goal

pub returns-in-Umask : goal.returns-in-Umask
returns-in-Umask c = c.of_descriptions.ensures ∙ first_is _ _ c.in-Do.sid c.in-Do.call _ of_descriptions (sym c.event.ensures ∙ c.in-Do.is) (speak_of_descriptions c.in-Do.call c.in-Umask.is)

pub returns-in-SemPost : goal.returns-in-SemPost
returns-in-SemPost c = c.of_values.ensures ∙ first_is _ _ c.in-Do.sid c.in-Do.call _ of_values (sym c.event.ensures ∙ c.in-Do.is) (speak_of_values c.in-Do.call c.in-SemPost.is)

pub returns-in-MqSend : goal.returns-in-MqSend
returns-in-MqSend c = c.of_messages.ensures ∙ first_is _ _ c.in-Do.sid c.in-Do.call _ of_messages (sym c.event.ensures ∙ c.in-Do.is) (speak_of_messages c.in-Do.call c.in-MqSend.is)
