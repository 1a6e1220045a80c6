use Rattle.std.proofs.Common.{◌≡◌, ◌<◌, ◌∙◌, Bool, true, false, length, Some, vec_capacity, refl, sym, ap, subst, arith}
use Rattle.std.proofs.lemmas.Grind.{common_steps}
use Rattle.std.specs.Option.{option_copied_mut}
use Rattle.ipc_terms.specs.Lists.{changed}
use Rattle.ipc_containers.specs.Slots.{at}
use Rattle.ipc_hub.specs.Marking.{is_set, MarksView}
use Rattle.ipc_hub.proofs.FlagLemmas.{kept_flag, kept_within, fewer_set, marked_marks, written_view}
use Rattle.ipc_hub.proofs.KeptLemmas.{same_written}
use Rattle.ipc_hub.proofs.marks.Marks.mark.Goals as goal
use Rattle.ipc_hub.proofs.marks.Marks.mark.Goals.{In-Some}

kept : (c : In-Some) → at c.self.inside.flags c.args.connection ≡ Some c.in-Some.is_marked.now
kept c = sym c.get_mut.ensures.value ∙ ap option_copied_mut c.in-Some.is

within : (c : In-Some) → c.args.connection < length c.args.self.now.marked
within c = subst (λ (m : MarksView). c.args.connection < length m.marked) c.self.view_is (kept_within c.self.inside.flags c.args.connection c.in-Some.is_marked.now (kept c))

flagged : (c : In-Some) → is_set c.args.self.now.flagged c.args.connection ≡ true
flagged c = ap (λ (m : MarksView). is_set m.flagged c.args.connection) (sym c.self.view_is) ∙ (kept_flag c.self.inside.flags c.args.connection c.in-Some.is_marked.now (kept c)).1

differ : (b : Bool) → b ≡ true → b ≡ false → ⊥
differ b on off = absurd (let wrong : true ≡ false = sym on ∙ off in cc)

pub push_reserved-requires : goal.push_reserved-requires
push_reserved-requires c =
    let off : at c.self.inside.flags c.args.connection ≡ Some false = kept (goal.at.push_reserved-requires c).In-Some ∙ ap Some c.if-not-is_marked.true in
    let fewer = fewer_set c.self.inside.flags c.args.connection off in
    let listed = c.self.invariant.listed.count in
    let counted = c.self.invariant.counted in
    let fits = c.self.invariant.fits in
    grind (arith, common_steps)

-- what stands is as it was written
wrote : (c : In-Some) (b : Bool) → c.get_mut.follows.lender b ≡ changed (λ o. Some b) c.self.inside.flags c.args.connection
wrote c b = rw c.in-Some.is at (c.get_mut.follows.holds b)

back : (c : In-Some) → c.get_mut.follows.lender c.in-Some.is_marked.now ≡ c.self.inside.flags
back c = wrote c c.in-Some.is_marked.now ∙ same_written c.self.inside.flags c.args.connection c.in-Some.is_marked.now c.in-Some.is_marked.now (kept c) refl

pub invariant_of-self-then-not-is_marked : goal.invariant_of-self-then-not-is_marked
invariant_of-self-then-not-is_marked c =
    let here = (goal.at.invariant_of-self-then-not-is_marked c).In-Some in
    marked_marks c.self.inside.flags _ c.args.connection c.self.inside.count c.self.inside.list.items _ (vec_capacity c.self.inside.list) _ c.self.invariant (kept here ∙ ap Some c.if-not-is_marked.true) (wrote here true) c.push_reserved.ensures.items c.push_reserved.ensures.capacity

pub invariant_of-self-else-not-is_marked : goal.invariant_of-self-else-not-is_marked
invariant_of-self-else-not-is_marked c = rw (back (goal.at.invariant_of-self-else-not-is_marked c).In-Some) c.self.invariant

pub returns-then-not-is_marked-clause-kept : goal.returns-then-not-is_marked-clause-kept
returns-then-not-is_marked-clause-kept c = λ may.
    let here = (goal.at.returns-then-not-is_marked-clause-kept c).In-Some in
    written_view (record { before = c.self.inside.before; list = c.self.inside.owners }) c.self.inside.flags _ c.args.connection c.in-Some.is_marked.now true c.args.self.now c.self.view_is (kept here) (wrote here true)

pub returns-then-not-is_marked-clause-none : goal.returns-then-not-is_marked-clause-none
returns-then-not-is_marked-clause-none c = λ none. absurd (differ _ (flagged (goal.at.returns-then-not-is_marked-clause-none c).In-Some) none)

pub returns-then-not-is_marked-clause-within : goal.returns-then-not-is_marked-clause-within
returns-then-not-is_marked-clause-within c = λ may. within (goal.at.returns-then-not-is_marked-clause-within c).In-Some

pub returns-else-not-is_marked-clause-kept : goal.returns-else-not-is_marked-clause-kept
returns-else-not-is_marked-clause-kept c = λ may.
    let here = (goal.at.returns-else-not-is_marked-clause-kept c).In-Some in
    written_view (record { before = c.self.inside.before; list = c.self.inside.owners }) c.self.inside.flags _ c.args.connection c.in-Some.is_marked.now true c.args.self.now c.self.view_is (kept here) (wrote here c.in-Some.is_marked.now ∙ ap (λ (b : Bool). changed (λ o. Some b) c.self.inside.flags c.args.connection) c.if-not-is_marked.false)

pub returns-else-not-is_marked-clause-none : goal.returns-else-not-is_marked-clause-none
returns-else-not-is_marked-clause-none c = λ none. absurd (differ _ (flagged (goal.at.returns-else-not-is_marked-clause-none c).In-Some) none)

pub returns-else-not-is_marked-clause-within : goal.returns-else-not-is_marked-clause-within
returns-else-not-is_marked-clause-within c = λ may. within (goal.at.returns-else-not-is_marked-clause-within c).In-Some
