use Rattle.std.proofs.Common.{Some, false, true, ap, ◌∙◌}
use Rattle.ipc_client.specs.Dialogues.{link}
use Rattle.ipc_client.proofs.ListLemmas.{last_page, no_page, one_page_more}
use Rattle.ipc_client.proofs.session.Session.list_family.Goals as goal

pub loop-init : goal.loop-init
loop-init g c = no_page c.args.family (link g.R.Read.remaining g.W.Write.contents c.args.self.now c.args.writer.now)

pub loop-preserved : goal.loop-preserved
loop-preserved g c =
    one_page_more c.args.family c.loop.start c.in-Some.count c.in-Some-checked_add.behind c.in_ok-count.field-0
    (link g.R.Read.remaining g.W.Write.contents c.args.self.now c.args.writer.now) (link g.R.Read.remaining g.W.Write.contents c.loop.self c.loop.writer) (link g.R.Read.remaining g.W.Write.contents c.list_page.new.self c.list_page.new.writer)
    c.in-Some.is c.if-count-eq0.false c.in-Some-checked_add.ensures.1 c.loop.invariant c.in_ok-count.ensures

pub returns-in_default : goal.returns-in_default
returns-in_default g c =
    last_page c.args.family c.loop.start c.in_ok-count.field-0 false
    (link g.R.Read.remaining g.W.Write.contents c.args.self.now c.args.writer.now) (link g.R.Read.remaining g.W.Write.contents c.loop.self c.loop.writer) (link g.R.Read.remaining g.W.Write.contents c.list_page.new.self c.list_page.new.writer)
    c.in_default.is c.loop.invariant c.in_ok-count.ensures

pub returns-then-count-eq0 : goal.returns-then-count-eq0
returns-then-count-eq0 g c =
    last_page c.args.family c.loop.start c.in_ok-count.field-0 true
    (link g.R.Read.remaining g.W.Write.contents c.args.self.now c.args.writer.now) (link g.R.Read.remaining g.W.Write.contents c.loop.self c.loop.writer) (link g.R.Read.remaining g.W.Write.contents c.list_page.new.self c.list_page.new.writer)
    (c.in-Some.is ∙ ap Some c.if-count-eq0.true) c.loop.invariant c.in_ok-count.ensures
