-- What is seen of a core: its configuration, the history of all events with their verdicts, what each session
-- was answered and has not taken yet, by the sessions' numbers, and the place of the oldest record that is still had.
use Rattle.std.specs.Prelude.{ℕ, List}
use Rattle.ipc_terms.specs.declared.call.Answer.{Answer}
use Rattle.ipc_policy.specs.declared.config.Config.{Config}
use Rattle.ipc_policy.specs.Decides.History.{History}

pub record CoreView : Type 0 where
  pub config : Config
  pub history : History
  pub untaken : List (List Answer)
  pub first : ℕ
