-- How two maps follow the list of started sessions, so that no question goes through it.
use Rattle.std.specs.Prelude.{◌≡◌, ◌==◌, ℕ, List, String, position}
use Rattle.std.specs.Ordering.{nat_cmp}
use Rattle.std.specs.BTreeMap.{BTreeMap, get, get_by_text}
use Rattle.ipc_terms.specs.declared.ids.Sid.{Sid}
use Rattle.ipc_script.specs.declared.labels.Started.{Started}
use Rattle.ipc_script.specs.Labels.{newest_of}

-- one map has the session that each label started last, the other where each session first stands in the list
pub record Follow {Y : Type 0} (newest : BTreeMap (String Y) Sid) (places : BTreeMap ℕ ℕ) (started : List Started) : Type 0 where
  pub labels : (label : List ℕ) → get_by_text newest label ≡ newest_of started label
  pub sessions : (sid : ℕ) → get nat_cmp places sid ≡ position (λ s. s.sid.0 == sid) started
