use Rattle.std.proofs.Common.{◌≡◌, None, ◌∙◌, sym, ap, find}
use Rattle.std.specs.Option.{option_map}
use Rattle.ipc_descr.specs.Descriptions.{is_of, without_session}
use Rattle.ipc_descr.proofs.RowsLemmas.{session_less, shorter}
use Rattle.ipc_tables.specs.contracts.tables.Tables.{the_view}
use Rattle.ipc_tables.specs.TablesView.{TablesView, parked_on_at}
use Rattle.ipc_tables.specs.Standing.{rows_in}
use Rattle.ipc_tables.specs.Steps.{after_withdrawal}
use Rattle.ipc_tables.proofs.CallTables.{withdrawn_unparked}
use Rattle.ipc_tables.proofs.CoveredCharges.{withdrawal_covered}
use Rattle.ipc_tables.proofs.HangingUp.{closed_to, begun, closed_more, closed_covered, all_closed}
use Rattle.ipc_tables.proofs.Touching.{own_held}
use Rattle.ipc_tables.proofs.Releasing.{none_held}
use Rattle.ipc_tables.proofs.tables.Tables.end_session.Goals as goal

pub end-requires : goal.end-requires
end-requires c = ap (λ (t : TablesView). parked_on_at t.sessions c.args.sid.0) (c.self.view_is ∙ c.withdraw.ensures) ∙ withdrawn_unparked c.args.self.now c.args.sid

pub loop-desc-init : goal.loop-desc-init
loop-desc-init c =
    let inside = c.self.inside in
    let was : the_view inside ≡ after_withdrawal c.args.self.now c.args.sid = c.self.view_is ∙ c.withdraw.ensures in
    record {
      tables = begun (the_view inside) c.args.sid.0 _ c.self.invariant.kept (none_held inside.descriptions.rows (rows_in inside.objects) (own_held None inside.descriptions.rows (rows_in inside.objects) c.self.invariant.own)) c.end.ensures ∙ ap (λ (t : TablesView). closed_to t c.args.sid.0 inside.descriptions.rows) was;
      others = ap (λ (t : TablesView). without_session t.descriptions.rows c.args.sid.0) was;
    }

pub close-requires : goal.close-requires
close-requires c = closed_covered (after_withdrawal c.args.self.now c.args.sid) c.loop-desc.self c.args.sid.0 (withdrawal_covered c.args.self.now c.args.sid c.requires) c.loop-desc.invariant.tables

pub loop-desc-smaller : goal.loop-desc-smaller
loop-desc-smaller c =
    let first = sym c.in-Some.is ∙ c.first.ensures ∙ ap (λ (t : TablesView). option_map (λ row. row.desc) (find (is_of c.args.sid.0) t.descriptions.rows)) c.self-in-loop-desc.view_is in
    rw c.close.ensures (shorter c.loop-desc.self.descriptions.rows c.args.sid.0 c.in-Some.desc first)

pub loop-desc-preserved : goal.loop-desc-preserved
loop-desc-preserved c =
    let start = after_withdrawal c.args.self.now c.args.sid in
    record {
      tables = c.close.ensures ∙ closed_more start c.loop-desc.self c.args.sid.0 c.in-Some.desc.0 c.loop-desc.invariant.tables ∙ ap (λ (t : TablesView). closed_to start c.args.sid.0 t.descriptions.rows) (sym c.close.ensures);
      others = ap (λ (t : TablesView). without_session t.descriptions.rows c.args.sid.0) c.close.ensures ∙ session_less c.loop-desc.self.descriptions.rows c.args.sid.0 c.in-Some.desc.0 ∙ c.loop-desc.invariant.others;
    }

pub returns : goal.returns
returns c =
    let none = sym c.in_default.is ∙ c.first.ensures ∙ ap (λ (t : TablesView). option_map (λ row. row.desc) (find (is_of c.args.sid.0) t.descriptions.rows)) c.self-in-loop-desc.view_is in
    all_closed (after_withdrawal c.args.self.now c.args.sid) c.loop-desc.self c.args.sid.0 c.loop-desc.invariant.tables c.loop-desc.invariant.others none
