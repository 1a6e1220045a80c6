use Rattle.std.proofs.Common.{None, refl, sym, ap, ◌∙◌}
use Rattle.std.specs.Prelude.{option_and_then}
use Rattle.std.specs.Option.{option_copied_mut}
use Rattle.ipc_tables.specs.declared.rows.Session.{Session}
use Rattle.ipc_terms.specs.Lists.{changed, changed_first}
use Rattle.ipc_tables.specs.declared.tables.Tables.TheInside.{Inside}
use Rattle.ipc_tables.specs.contracts.tables.Tables.{the_view}
use Rattle.ipc_tables.specs.Objects.{is_number, with_withdrawal}
use Rattle.ipc_tables.specs.Standing.{rows_in}
use Rattle.ipc_tables.specs.Steps.{with_parked}
use Rattle.ipc_tables.proofs.CallTables.{after_withdrawal_is}
use Rattle.ipc_tables.proofs.RowChanges.{row_absent, row_written, sets_row, sets_body}
use Rattle.ipc_tables.proofs.TableChanges.{IsWritten, seen_parked, written, written_stands}
use Rattle.ipc_tables.proofs.StandingLemmas.{withdrawn_kind, keeps_withdrawal}
use Rattle.ipc_tables.proofs.tables.Tables.withdraw.Goals as goal
use Rattle.ipc_tables.proofs.tables.Tables.withdraw.Goals.{Joined-get_mut, in-Some-get_mut, in_default-get_mut}

withdrawn_rows : (c : Joined-get_mut) → IsWritten c.self.inside c.match-get_mut.self-inside (changed_first (is_number c.in-Some-parked_on.object) (with_withdrawal c.args.sid) (rows_in c.self.inside.objects))
withdrawn_rows c =
    let o = c.in-Some-parked_on.object in
    let inside = c.self.inside in
    elim c.match-get_mut.branch [
      | in-Some-get_mut w ↦ (
          let row = w.in-Some-get_mut.row.now in
          let set = sets_row o w.in-Some-get_mut.row (record row { body = w.withdraw.new.self }) c.get_mut.result _ _ c.get_mut.ensures.value w.in-Some-get_mut.is (c.get_mut.follows.holds (record row { body = w.withdraw.new.self })) in
          written inside _ _ _ w.self-inside-is (row_written o (with_withdrawal c.args.sid) row inside.objects _ c.self.invariant.counted refl (withdrawn_kind c.args.sid row.body) (sets_body o row w.withdraw.new.self _ inside.objects.rows _ set w.withdraw.ensures)))
      | in_default-get_mut w ↦ written inside _ _ _ w.self-inside-is (row_absent o (with_withdrawal c.args.sid) inside.objects _ c.self.invariant.counted (sym c.get_mut.ensures.value ∙ ap option_copied_mut w.in_default-get_mut.is) c.get_mut.follows.holds-at-none)
    ]

pub invariant_of-self : goal.invariant_of-self
invariant_of-self c = written_stands c.self.inside _ c.in-Some-parked_on.object (with_withdrawal c.args.sid) (keeps_withdrawal c.self.inside.descriptions.rows c.in-Some-parked_on.object c.args.sid) (withdrawn_rows (goal.at.invariant_of-self c).Joined-get_mut) c.self.invariant

pub returns : goal.returns
returns c =
    let inside = c.self.inside in
    let is = withdrawn_rows (goal.at.returns c).Joined-get_mut in
    let parked = sym c.get.ensures.parked ∙ ap (option_and_then (λ (row : Session). row.parked_on)) c.in-Some.is ∙ c.in-Some-parked_on.is in
    rw (← c.self.view_is) (seen_parked inside _ c.set_parked.new.self _ is ∙ after_withdrawal_is (the_view inside) c.args.sid c.in-Some-parked_on.object _ _ parked (c.set_parked.ensures ∙ ap (λ (x : Inside). changed (with_parked None) x.sessions c.args.sid.0) is.rest) refl)
