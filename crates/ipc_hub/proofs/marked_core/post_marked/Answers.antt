use Rattle.ipc_hub.proofs.MarkedLemmas.{answered_marked, gains_two}
use Rattle.ipc_hub.proofs.marked_core.post_marked.Goals as goal

pub returns-clause-marks : goal.returns-clause-marks
returns-clause-marks c = answered_marked c.args.core.now c.post.new.self c.args.marks.now c.mark_session.new.self c.mark_session-2.new.self c.args.event c.in_ok-posted.posted.caller c.in_ok-posted.posted.other c.keeps_the_last.ensures c.in_ok-posted.ensures.ok c.in_ok-posted.ensures.sessions c.mark_session.ensures c.mark_session-2.ensures

pub returns-clause-few : goal.returns-clause-few
returns-clause-few c = gains_two c.args.core.now c.post.new.self c.args.event c.in_ok-posted.posted.caller c.in_ok-posted.posted.other c.keeps_the_last.ensures c.in_ok-posted.ensures.ok c.in_ok-posted.ensures.sessions
