use Rattle.std.specs.Prelude.{◌++◌}
use Rattle.ipc_script.specs.Running.{AreWritten}
use Rattle.ipc_script.specs.Told.{to_session}
use Rattle.ipc_script.proofs.PrintLemmas.{prints_then, step_prints, written_more}
use Rattle.ipc_script.proofs.script.Script.step.Goals as goal

pub returns-in_ok-write_answers-in-Given-2-clause-prints : goal.returns-in_ok-write_answers-in-Given-2-clause-prints
returns-in_ok-write_answers-in-Given-2-clause-prints g c =
    let label = c.args.label.now in
    let first = to_session c.in-Given.first.sid c.in-Given.first.answers.items in
    let second = to_session c.in-Given.second.sid c.in-Given.second.answers.items in
    step_prints g.W.Write.contents label c.args.event (first ++ second) c.step.new.self c.args.self.now c.write_answers-in-Given.new.self
    (rw c.in-Given.is at c.in_ok-sid.ensures.answers) c.in_ok-sid.ensures.recorded c.step.ensures.config
    (prints_then g.W.Write.contents (AreWritten label first) (AreWritten label second) (AreWritten label (first ++ second))
    (record c.args.self.now { core = c.step.new.self }) c.write_answers.new.self c.write_answers-in-Given.new.self (written_more label first second)
    (rw c.deref.ensures.value at c.in_ok-write_answers-in-Given.ensures.prints)
    (rw c.deref-in-Given.ensures.value at c.in_ok-write_answers-in-Given-2.ensures.prints))
