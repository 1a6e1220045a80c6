use Rattle.std.proofs.Common.{◌-◌, ◌≡◌, ◌≤◌}
use denote.Text.{Utf8}
use denote.Shadow.{shadow}
use Rattle.ipc_metrics.specs.Processes.{behind_spaces}
use Rattle.ipc_metrics.proofs.process.text_behind.Given as goal

-- the rest is the text behind the spaces that were passed
abbrev pub invariant-loop-passed : goal.invariant-loop-passed
invariant-loop-passed l = shadow (Utf8 l.rest) × (l.rest ≡ behind_spaces l.passed l.text) × (l.passed ≤ l.spaces)

abbrev pub decreases-loop-passed : goal.decreases-loop-passed
decreases-loop-passed l = l.spaces - l.passed
