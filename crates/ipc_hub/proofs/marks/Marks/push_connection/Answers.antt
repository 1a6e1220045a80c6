use Rattle.std.proofs.Common.{◌≡◌, ◌+◌, ◌≤◌, arith, vec_capacity}
use Rattle.std.proofs.lemmas.Grind.{common_steps}
use Rattle.ipc_hub.proofs.FlagLemmas.{set_are_kept, pushed_marks}
use Rattle.ipc_hub.proofs.marks.Marks.push_connection.Goals as goal

pub overflow_sub-count : goal.overflow_sub-count
overflow_sub-count c =
    let listed = c.self.invariant.listed.count in
    let counted = c.self.invariant.counted in
    let le = set_are_kept c.self.inside.flags in
    grind (arith, common_steps)

pub invariant_of-self-2 : goal.invariant_of-self-2
invariant_of-self-2 c =
    let listed = c.self.invariant.listed.count in
    let counted = c.self.invariant.counted in
    let le = set_are_kept c.self.inside.flags in
    let more : c.in-Some.count ≡ c.self.inside.count + 1 = grind (arith, common_steps) in
    let fits : c.in-Some.count ≤ vec_capacity c.reserve.new.self = grind (arith, common_steps) in
    pushed_marks c.self.inside.flags c.push.new.self c.self.inside.count c.in-Some.count c.self.inside.list.items c.reserve.new.self.items (vec_capacity c.self.inside.list) _ c.self.invariant c.in_ok-push.ensures.ok more c.in_ok-reserve.ensures.items fits
