-- A file that is replayed: its head, its records, and how far they go.
use Rattle.std.specs.Prelude.{◌≡◌, ◌⊎◌, ℕ, List, ◌++◌, length, Result, Ok, Err}
use Rattle.ipc_terms.specs.declared.record.Record.{Record}
use Rattle.ipc_access.specs.declared.users.User.{User}
use Rattle.ipc_log.specs.declared.head.Head.{Head}
use Rattle.ipc_history.specs.declared.fault.HistoryFault.{HistoryFault}
use Rattle.ipc_history.specs.Files.{IsHead, IsNoHead, Stand, Ends}
use Rattle.ipc_history.specs.Pasts.{PastView, before_all, IsFirst, IsNoFirst, GoesOn, GoesNotOn}

-- Records stand in front of the bytes, each at its place behind those of the past, and were stepped one by one; and then they
-- end, or the fault is there.
pub record Continues (past longer : PastView) (result : Result Unit HistoryFault) (bytes left : List ℕ) : Type 0 where
  pub config_is : longer.config ≡ past.config
  pub retelling_is : longer.retelling ≡ past.retelling
  pub read : List Record
  pub history_is : longer.history ≡ read ++ past.history
  pub rest : List ℕ
  pub stand : Stand (length past.history) read bytes rest
  pub ends : Ends longer.config longer.history result rest left

-- what the bytes of a first file are
pub record IsFile (users : List User) (past : PastView) (bytes left : List ℕ) : Type 0 where
  pub head : Head
  pub behind : List ℕ
  pub head_is : IsHead head bytes behind
  pub first : IsFirst users head
  pub records : Continues (before_all users head) past (Ok tt) behind left

-- where a first file is at fault: there is no head, or not that of a first file by these users, or its records end by the fault
abbrev pub IsFileFault : List User → HistoryFault → List ℕ → List ℕ → Type 0
IsFileFault users fault bytes left =
    IsNoHead fault bytes
    ⊎ ((head : Head) × (behind : List ℕ) × IsHead head bytes behind
    × (IsNoFirst users head fault
    ⊎ ((longer : PastView) × Continues (before_all users head) longer (Err fault) behind left)))

-- what the bytes of a file are that goes on where a past ends
pub record IsNextFile (past longer : PastView) (bytes left : List ℕ) : Type 0 where
  pub head : Head
  pub behind : List ℕ
  pub head_is : IsHead head bytes behind
  pub next : GoesOn past head
  pub records : Continues past longer (Ok tt) behind left

-- where such a file is at fault
abbrev pub IsNextFileFault : PastView → PastView → HistoryFault → List ℕ → List ℕ → Type 0
IsNextFileFault past longer fault bytes left =
    ((longer ≡ past) × IsNoHead fault bytes)
    ⊎ ((head : Head) × (behind : List ℕ) × IsHead head bytes behind
    × (((longer ≡ past) × GoesNotOn past head fault) ⊎ Continues past longer (Err fault) behind left))
