-- What is told by the description that an event names.
use Rattle.std.specs.Prelude.{ℕ, List, [], Option, Some, None}
use Rattle.ipc_terms.specs.declared.ids.Sid.{Sid}
use Rattle.ipc_terms.specs.declared.ids.Desc.{Desc}
use Rattle.ipc_terms.specs.declared.call.Answer.{Answer}
use Rattle.ipc_policy.specs.declared.asking.Described.{Described}

-- what is told of the description, where one is named
abbrev pub told_by : (ℕ → List (Sid × Answer)) → Option Described → List (Sid × Answer)
told_by told None = []
told_by told (Some x) = told x.desc.0
