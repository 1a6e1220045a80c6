use Rattle.std.proofs.Common.{◌≡◌, ◌∙◌, ℕ, Bool, true, false, List, map, Option, Some, None, vec_capacity, sym, ap, subst}
use Rattle.std.specs.Option.{option_copied_mut}
use Rattle.ipc_containers.specs.Slots.{at}
use Rattle.ipc_hub.specs.Marking.{is_set, flag_in, AreListed, MarksView}
use Rattle.ipc_hub.proofs.MarkLemmas.{was_listed}
use Rattle.ipc_hub.proofs.FlagLemmas.{kept_flag, set_is_kept, named_marks, written_view}
use Rattle.ipc_hub.proofs.marks.Marks.next.Goals as goal
use Rattle.ipc_hub.proofs.marks.Marks.next.Goals.{After-get_mut}

-- whom the list names has a flag, which is set
on : (c : After-get_mut) → at c.self.inside.flags c.in_ok-connection.connection ≡ Some true
on c = set_is_kept c.self.inside.flags c.in_ok-connection.connection (was_listed _ c.pop.new.self.items c.in_ok-connection.connection (subst (λ (js : List ℕ). AreListed (map flag_in c.self.inside.flags) js) c.in_ok-connection.ensures.items c.self.invariant.listed))

pub unreachable-requires : goal.unreachable-requires
unreachable-requires c = differ (sym c.get_mut.ensures.value ∙ ap option_copied_mut c.in_default.is) (on (goal.at.unreachable-requires c).After-get_mut) where
  differ : {w : Option Bool} → w ≡ None → w ≡ Some true → ⊥
  differ none some = absurd (let wrong : ◌≡◌ {A = Option Bool} None (Some true) = sym none ∙ some in cc)

pub invariant_of-self-2 : goal.invariant_of-self-2
invariant_of-self-2 c =
    let here = (goal.at.invariant_of-self-2 c).After-get_mut in
    named_marks c.self.inside.flags _ c.in_ok-connection.connection c.self.inside.count true c.self.inside.list.items _ (vec_capacity c.self.inside.list) _ c.self.invariant (on here) c.in_ok-connection.ensures.items (rw c.in-Some.is at (c.get_mut.follows.holds false)) c.in_ok-connection.ensures.capacity

pub returns-clause-some : goal.returns-clause-some
returns-clause-some c =
    let here = (goal.at.returns-clause-some c).After-get_mut in (
      ap (λ (m : MarksView). is_set m.marked c.in_ok-connection.connection) (sym c.self.view_is) ∙ (kept_flag c.self.inside.flags c.in_ok-connection.connection true (on here)).0,
      written_view (record { before = c.self.inside.before; list = c.self.inside.owners }) c.self.inside.flags _ c.in_ok-connection.connection true false c.args.self.now c.self.view_is (on here) (rw c.in-Some.is at (c.get_mut.follows.holds false)),
    )
