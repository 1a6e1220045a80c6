use Rattle.std.proofs.Common.{sym, ◌∙◌, refl}
use Rattle.ipc_client.specs.Dialogues.{incoming_of, link}
use Rattle.ipc_client.proofs.CommandLemmas.{greeted}
use Rattle.ipc_client.proofs.session.Session.start.Goals as goal

pub returns-then-is_start : goal.returns-then-is_start
returns-then-is_start g c =
    greeted c.args.key.now c.in_ok-frame.frame.items c.deref.result.now c.in_ok-answer.answer _ (link g.R.Read.remaining g.W.Write.contents c.args.self.now c.args.writer.now) (link g.R.Read.remaining g.W.Write.contents c.answer_to.new.self c.answer_to.new.writer) (incoming_of g.R.Read.remaining c.answer_to.new.self)
    c.in_ok-frame.ensures c.deref.ensures.value c.in_ok-answer.ensures.sent c.in_ok-answer.ensures.answered refl c.if-is_start.ensures

pub returns : goal.returns
returns g c =
    greeted c.args.key.now c.in_ok-frame.frame.items c.deref.result.now c.in_ok-answer.answer _ (link g.R.Read.remaining g.W.Write.contents c.args.self.now c.args.writer.now) (link g.R.Read.remaining g.W.Write.contents c.answer_to.new.self c.answer_to.new.writer) (incoming_of g.R.Read.remaining c.write_answer.new.self)
    c.in_ok-frame.ensures c.deref.ensures.value c.in_ok-answer.ensures.sent c.in_ok-answer.ensures.answered c.write_answer.ensures c.if-is_start.ensures
