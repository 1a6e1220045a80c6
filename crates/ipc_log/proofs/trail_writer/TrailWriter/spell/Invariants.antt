use Rattle.std.proofs.Common.{◌≤◌, ◌-◌, length, drop}
use Rattle.ipc_log.specs.Writing.{Spells}
use Rattle.ipc_log.proofs.trail_writer.TrailWriter.spell.Given as goal

-- the records so far stand behind what was left
abbrev pub invariant-loop-self : goal.invariant-loop-self
invariant-loop-self l = record {
  spells : Spells l.trail.history l.fn.self (record { left = drop l.self-inside.written l.self-inside.text.items; spelled = l.self-inside.spelled });
  within : l.self-inside.written ≤ length l.self-inside.text.items;
  kept : l.trail.first ≤ l.self-inside.spelled;
}

abbrev pub decreases-loop-self : goal.decreases-loop-self
decreases-loop-self l = l.recorded - l.self-inside.spelled
