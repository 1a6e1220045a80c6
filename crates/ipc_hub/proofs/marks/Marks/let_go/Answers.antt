use Rattle.std.proofs.Common.{◌≡◌, ◌≤◌, ◌∙◌, true, false, Some, vec_capacity, sym, ap, arith}
use Rattle.std.specs.Option.{option_copied}
use Rattle.ipc_containers.specs.Slots.{at}
use Rattle.ipc_hub.specs.Marking.{is_set, MarksView}
use Rattle.ipc_hub.proofs.FlagLemmas.{kept_flag, no_flag, fewer_set, emptied_marks, LetsGo, lets_go}
use Rattle.ipc_hub.proofs.marks.Marks.let_go.Goals as goal
use Rattle.ipc_hub.proofs.marks.Marks.let_go.Goals.{After-take, After-give_room_back}

off : (c : After-take) → at c.self.inside.flags c.args.connection ≡ Some false
off c = sym c.get.ensures ∙ ap option_copied c.in-Some.is ∙ ap Some c.if-not-has_mark.true

some : (c : After-take) → 1 ≤ c.self.inside.count
some c = let fewer = fewer_set c.self.inside.flags c.args.connection (off c) in let counted = c.self.invariant.counted in omega arith

goes : (c : After-give_room_back) → LetsGo c.args.self.now c.args.connection c.give_room_back.new.self
goes c = let here = (goal.at.After-give_room_back c).After-take in lets_go (record { before = c.self.inside.before; list = c.self.inside.owners }) c.self.inside.flags c.take.new.self c.args.connection c.args.self.now c.give_room_back.new.self c.self.view_is c.give_room_back.ensures (off here) c.take.ensures.rest

pub overflow_sub-self : goal.overflow_sub-self
overflow_sub-self c = some (goal.at.overflow_sub-self c).After-take

pub invariant_of-self : goal.invariant_of-self
invariant_of-self c =
    let here = (goal.at.invariant_of-self c).After-take in
    let le = some here in
    emptied_marks c.self.inside.flags c.take.new.self c.args.connection c.self.inside.count _ c.self.inside.list.items (vec_capacity c.self.inside.list) c.self.invariant (off here) c.take.ensures.rest (omega arith)

pub returns-then-not-has_mark-clause-same : goal.returns-then-not-has_mark-clause-same
returns-then-not-has_mark-clause-same c = (goes (goal.at.returns-then-not-has_mark-clause-same c).After-give_room_back).same

pub returns-then-not-has_mark-clause-count : goal.returns-then-not-has_mark-clause-count
returns-then-not-has_mark-clause-count c = (goes (goal.at.returns-then-not-has_mark-clause-count c).After-give_room_back).count

pub returns-then-not-has_mark-clause-others : goal.returns-then-not-has_mark-clause-others
returns-then-not-has_mark-clause-others c = (goes (goal.at.returns-then-not-has_mark-clause-others c).After-give_room_back).others

pub returns-then-not-has_mark-clause-gone : goal.returns-then-not-has_mark-clause-gone
returns-then-not-has_mark-clause-gone c = λ none. (goes (goal.at.returns-then-not-has_mark-clause-gone c).After-give_room_back).gone

pub returns-else-not-has_mark-clause-gone : goal.returns-else-not-has_mark-clause-gone
returns-else-not-has_mark-clause-gone c = λ none.
    let kept = sym c.get.ensures ∙ ap option_copied c.in-Some.is ∙ ap Some c.if-not-has_mark.false in
    let on : is_set c.args.self.now.marked c.args.connection ≡ true = ap (λ (m : MarksView). is_set m.marked c.args.connection) (sym c.self.view_is) ∙ (kept_flag c.self.inside.flags c.args.connection true kept).0 in
    absurd (let wrong : true ≡ false = sym on ∙ none in cc)

pub returns-in_default-clause-gone : goal.returns-in_default-clause-gone
returns-in_default-clause-gone c = λ none. ap (λ (m : MarksView). is_set m.flagged c.args.connection) (sym c.self.view_is) ∙ (no_flag c.self.inside.flags c.args.connection (sym c.get.ensures ∙ ap option_copied c.in_default.is)).1
