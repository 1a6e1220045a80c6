-- Why a record isn't stepped behind this history.
use Rattle.std.specs.Prelude.{◌≡◌, ◌≢◌, length}
use Rattle.ipc_terms.specs.declared.record.Record.{Record}
use Rattle.ipc_policy.specs.declared.config.Config.{Config}
use Rattle.ipc_policy.specs.Decides.History.{History}
use Rattle.ipc_policy.specs.Decides.Verdict.{verdict}
use Rattle.ipc_replay.specs.declared.fault.ReplayFault.{ReplayFault}
use Rattle.ipc_replay.specs.declared.fault.ReplayFault.TheVariants.{BadConfig, Differs, NoMemory}

-- its rule is another than the verdict on its event, and its place is told; or a growth was refused
abbrev pub IsFaultOf : Config → History → Record → ReplayFault → Type 0
IsFaultOf c h r (Differs place) = (place ≡ length h) × (r.rule ≢ verdict c h r.event)
IsFaultOf c h r NoMemory = Unit {0}
IsFaultOf c h r (BadConfig field) = ⊥
