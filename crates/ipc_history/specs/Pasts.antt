-- What is seen of a past: the configuration, the history of all records that were stepped, and what trail their first ones retell. And which
-- heads go with it.
use Rattle.std.specs.Prelude.{◌≡◌, ◌≢◌, ⊤, List, [], length, None, Some}
use Rattle.ipc_terms.specs.declared.record.Record.{Record}
use Rattle.ipc_access.specs.declared.users.User.{User}
use Rattle.ipc_policy.specs.declared.config.Config.{Config}
use Rattle.ipc_policy.specs.declared.config.Limits.{Limits}
use Rattle.ipc_policy.specs.Decides.History.{History}
use Rattle.ipc_policy.specs.Decides.Verdict.{verdict}
use Rattle.ipc_state.specs.Ranges.{first_bad}
use Rattle.ipc_log.specs.declared.head.Head.{Head}
use Rattle.ipc_log.specs.declared.retelling.Retelling.{Retelling}
use Rattle.ipc_history.specs.declared.fault.HistoryFault.{HistoryFault}
use Rattle.ipc_history.specs.declared.fault.HistoryFault.TheVariants as fault
use Rattle.ipc_history.specs.Users.{users_sum}

pub record PastView : Type 0 where
  pub config : Config
  pub history : History
  pub retelling : Retelling

abbrev pub limits_of : Head → Limits
limits_of head = record { msg_max = head.msg_max; msgsize_max = head.msgsize_max; queues_max = head.queues_max }

abbrev pub config_of : List User → Head → Config
config_of users head = record { users = users; limits = limits_of head }

-- nothing happened yet behind the head of a first file
abbrev pub before_all : List User → Head → PastView
before_all users head = record { config = config_of users head; history = []; retelling = head.retelling }

-- the head of a first file, by these users
pub record IsFirst (users : List User) (head : Head) : Type 0 where
  pub users_are : head.users ≡ users_sum users
  pub place : head.first ≡ 0
  pub in_range : first_bad (limits_of head) ≡ None

-- what is wrong with the head of a first file
abbrev pub IsNoFirst : List User → Head → HistoryFault → Type 0
IsNoFirst users head fault.OtherUsers = head.users ≢ users_sum users
IsNoFirst users head (fault.OtherPlace first) = (first ≡ head.first) × (first ≢ 0)
IsNoFirst users head (fault.BadConfig field) = first_bad (limits_of head) ≡ Some field
IsNoFirst users head fault.NoMemory = ⊤
IsNoFirst users head other = ⊥

-- the head of a file that goes on where this past ends
pub record GoesOn (past : PastView) (head : Head) : Type 0 where
  pub users_are : head.users ≡ users_sum past.config.users
  pub limits_are : limits_of head ≡ past.config.limits
  pub retelling_is : head.retelling ≡ past.retelling
  pub place : head.first ≡ length past.history

-- what is wrong with the head of such a file
abbrev pub GoesNotOn : PastView → Head → HistoryFault → Type 0
GoesNotOn past head fault.OtherUsers = head.users ≢ users_sum past.config.users
GoesNotOn past head fault.OtherLimits = limits_of head ≢ past.config.limits
GoesNotOn past head fault.OtherRetelling = head.retelling ≢ past.retelling
GoesNotOn past head (fault.OtherPlace first) = (first ≡ head.first) × (first ≢ length past.history)
GoesNotOn past head other = ⊥

-- why a record isn't stepped behind a history: its rule is not the verdict on its event, or memory ran out
abbrev pub IsNotStepped : Config → History → Record → HistoryFault → Type 0
IsNotStepped c h r (fault.Differs place) = (place ≡ length h) × (r.rule ≢ verdict c h r.event)
IsNotStepped c h r fault.NoMemory = ⊤
IsNotStepped c h r other = ⊥
