use Rattle.std.proofs.Common.{◌∙◌, sym, subst}
use Rattle.ipc_client.specs.Connections.{Incoming, Reads, incoming}
use Rattle.ipc_client.specs.Dialogues.{AreNotices, incoming_of}
use Rattle.ipc_client.proofs.EndLemmas.{answered, no_notice, one_notice_more}
use Rattle.ipc_client.proofs.session.Session.answer_to.Goals as goal

pub loop-init : goal.loop-init
loop-init g c = no_notice (incoming_of g.R.Read.remaining c.args.self.now)

pub returns-then-not-is_notice : goal.returns-then-not-is_notice
returns-then-not-is_notice g c =
    let asked : Incoming = incoming_of g.R.Read.remaining c.args.self.now in
    let before : Incoming = incoming g.R.Read.remaining c.loop.self.connection in
    let after : Incoming = incoming g.R.Read.remaining c.next_answer.new.self in
    record {
      answered = answered asked before after c.in_ok-answer.answer c.loop.invariant c.in_ok-answer.ensures.next (sym c.is_notice.ensures ∙ c.if-not-is_notice.true);
      sent = c.in_ok-send.ensures.sent;
    }

pub loop-preserved : goal.loop-preserved
loop-preserved g c =
    let asked : Incoming = incoming_of g.R.Read.remaining c.args.self.now in
    let before : Incoming = incoming g.R.Read.remaining c.loop.self.connection in
    let after : Incoming = incoming g.R.Read.remaining c.next_answer.new.self in
    subst (Reads AreNotices asked) (sym c.write_answer.ensures) (one_notice_more asked before after c.in_ok-answer.answer c.loop.invariant c.in_ok-answer.ensures.next (sym c.is_notice.ensures ∙ c.if-not-is_notice.false))
