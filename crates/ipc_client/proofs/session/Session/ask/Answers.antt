use Rattle.ipc_client.specs.Dialogues.{link}
use Rattle.ipc_client.proofs.CommandLemmas.{asked}
use Rattle.ipc_client.proofs.session.Session.ask.Goals as goal

pub returns-in_ok-answer_to-in-Ok : goal.returns-in_ok-answer_to-in-Ok
returns-in_ok-answer_to-in-Ok g c =
    asked c.in-Ok.frame c.args.frame c.deref.result.now c.in_ok-answer_to-in-Ok.field-0 (link g.R.Read.remaining g.W.Write.contents c.args.self.now c.args.writer.now) (link g.R.Read.remaining g.W.Write.contents c.answer_to.new.self c.answer_to.new.writer)
    c.in-Ok.is c.deref.ensures.value c.in_ok-answer_to-in-Ok.ensures.sent c.in_ok-answer_to-in-Ok.ensures.answered
