use Rattle.std.proofs.Common.{Some, refl, sym, ap, ◌∙◌, arith, length, option_map}
use Rattle.std.specs.Option.{option_copied_mut}
use Rattle.ipc_terms.proofs.Lists.{count_changed}
use Rattle.ipc_tables.specs.Objects.{with_held}
use Rattle.ipc_tables.specs.Standing.{rows_in, rows_of}
use Rattle.ipc_tables.proofs.Numbering.{set_changed, unchanged}
use Rattle.ipc_tables.proofs.StandingLemmas.{Sets, counted_still}
use Rattle.ipc_tables.proofs.RowChanges.{sets_row, slots_same}
use Rattle.ipc_tables.proofs.Narrowing.{released}
use Rattle.ipc_tables.proofs.Releasing.{one_held, none_held}
use Rattle.ipc_tables.proofs.objects.Objects.release.Goals as goal
use Rattle.ipc_tables.proofs.objects.Objects.release.Goals.{After-self-in-Some-get_mut-1}

-- the row of the object that was touched
set : (c : After-self-in-Some-get_mut-1) → Sets c.in-Some.object c.in-Some-get_mut.row.now (with_held c.args.descriptions.now.rows c.in-Some-get_mut.row.now) c.args.self.now.rows (c.get_mut.follows.lender c.release_row.new.row)
set c = rw (← c.release_row.ensures) (sets_row c.in-Some.object c.in-Some-get_mut.row c.release_row.new.row c.get_mut.result _ _ c.get_mut.ensures.value c.in-Some-get_mut.is (c.get_mut.follows.holds c.release_row.new.row))

pub returns-in-Some-get_mut-clause-counted : goal.returns-in-Some-get_mut-clause-counted
returns-in-Some-get_mut-clause-counted c = counted_still c.in-Some.object c.in-Some-get_mut.row.now (with_held c.args.descriptions.now.rows c.in-Some-get_mut.row.now) c.args.self.now _ (released c.args.descriptions.now.rows c.in-Some-get_mut.row.now).number (released c.args.descriptions.now.rows c.in-Some-get_mut.row.now).kind (set c) refl c.requires.counted

pub returns-in-Some-get_mut-clause-rows : goal.returns-in-Some-get_mut-clause-rows
returns-in-Some-get_mut-clause-rows c =
    let held = with_held c.args.descriptions.now.rows in
    ap rows_of ((set c).sets ∙ set_changed held c.in-Some-get_mut.row.now c.args.self.now.rows c.in-Some.object (set c).there) ∙ one_held c.in-Some.object 0 c.in-Some.object c.args.descriptions.now.rows c.args.self.now.rows c.requires.counted.numbered (omega arith) (rw c.in-Some.is at c.requires.others)

pub returns-in-Some-get_mut-clause-created : goal.returns-in-Some-get_mut-clause-created
returns-in-Some-get_mut-clause-created c = ap length (set c).sets ∙ count_changed (λ slot. Some (with_held c.args.descriptions.now.rows c.in-Some-get_mut.row.now)) c.args.self.now.rows c.in-Some.object

pub returns-in_default-get_mut-clause-counted : goal.returns-in_default-get_mut-clause-counted
returns-in_default-get_mut-clause-counted c = (slots_same c.args.self.now _ c.requires.counted c.get_mut.follows.holds-at-none).counted

pub returns-in_default-get_mut-clause-rows : goal.returns-in_default-get_mut-clause-rows
returns-in_default-get_mut-clause-rows c =
    let none = sym c.get_mut.ensures.value ∙ ap option_copied_mut c.in_default-get_mut.is in
    ap rows_of (c.get_mut.follows.holds-at-none ∙ sym (unchanged (option_map (with_held c.args.descriptions.now.rows)) c.args.self.now.rows c.in-Some.object refl none)) ∙ one_held c.in-Some.object 0 c.in-Some.object c.args.descriptions.now.rows c.args.self.now.rows c.requires.counted.numbered (omega arith) (rw c.in-Some.is at c.requires.others)

pub returns-in_default-get_mut-clause-created : goal.returns-in_default-get_mut-clause-created
returns-in_default-get_mut-clause-created c = ap length c.get_mut.follows.holds-at-none

pub returns-in_default-clause-rows : goal.returns-in_default-clause-rows
returns-in_default-clause-rows c = none_held c.args.descriptions.now.rows (rows_in c.args.self.now) (rw c.in_default.is at c.requires.others)
