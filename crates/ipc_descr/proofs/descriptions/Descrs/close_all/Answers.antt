use Rattle.std.proofs.Common.{◌∙◌, sym, ap}
use Rattle.ipc_descr.specs.Descriptions.{without_session}
use Rattle.ipc_descr.proofs.RowsLemmas.{session_less, none_left, shorter}
use Rattle.ipc_descr.proofs.descriptions.Descrs.close_all.Goals as goal

pub loop-desc-smaller : goal.loop-desc-smaller
loop-desc-smaller c = rw c.close.ensures.rest (shorter c.loop-desc.self.rows c.args.sid.0 c.in-Some.desc (sym c.in-Some.is ∙ c.first.ensures))

pub loop-desc-preserved : goal.loop-desc-preserved
loop-desc-preserved c = rw c.close.ensures.rest (record {
  others = session_less c.loop-desc.self.rows c.args.sid.0 c.in-Some.desc.0 ∙ c.loop-desc.invariant.others;
  opened = c.loop-desc.invariant.opened;
})

pub returns : goal.returns
returns c =
    let rows = sym (none_left c.loop-desc.self.rows c.args.sid.0 (sym c.in_default.is ∙ c.first.ensures)) ∙ c.loop-desc.invariant.others in
    ap (λ rows. record { rows = rows; opened = c.loop-desc.self.opened }) rows
    ∙ ap (λ opened. record { rows = without_session c.args.self.now.rows c.args.sid.0; opened = opened }) c.loop-desc.invariant.opened
