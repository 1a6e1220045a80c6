use Rattle.ipc_script.proofs.PrintLemmas.{written_one}
use Rattle.ipc_script.proofs.script.Script.write_answer.Goals as goal

pub returns-clause-prints : goal.returns-clause-prints
returns-clause-prints g c = written_one g.W.Write.contents c.args.label.now c.args.sid c.args.answer.now
    c.args.self.now c.keep_start.new.self c.lay_answer.new.self c.put.new.self
    c.in_ok-keep_start.ensures.started c.in_ok-keep_start.ensures.kept
    c.in_ok-lay_answer.ensures.line c.in_ok-lay_answer.ensures.kept c.in_ok-put.ensures.put c.in_ok-put.ensures.kept
