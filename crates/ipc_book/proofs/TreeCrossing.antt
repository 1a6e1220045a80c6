-- The deadlines may go to another thread. Their tree refers to itself, so of it this is proved value by value, by how many calls a
-- value has.
use Rattle.std.proofs.Common.{◌≡◌, ℕ, zero, suc, ◌+◌, ◌<◌, ◌≤◌, max, List, Box, length, sym, subst, arith}
use mir.Val.{Val}
use base.Fml.{Fml}
use base.Stored.{gnil}
use base.Shift.{Keyless}
use denote.RattleType.{RattleType}
use denote.Memory.{part_of}
use denote.HolePlaces.{one_value}
use denote.Model.Cut.{first_of, rest_of}
use denote.Param.Send.{IsSend, SendAt, LiveAt, struct_send_at, enum_send_at, sendable}
use denote.Struct.Declared as structs
use denote.Enum.Declared as enums
use denote.Struct.Field.{u64-field}
use Rattle.std.specs.contracts.alloc.Global as heap
use Rattle.std.proofs.alloc.Global.TheSendSync as global
use Rattle.std.below.std_heap.specs.contracts.GlobalAllocator.TheImpl.{ghosts}
use Rattle.std.below.std_heap.proofs.GlobalAllocator.TheSendSync as globals
use Rattle.std.specs.declared.alloc.Global.{Global}
use Rattle.std.specs.contracts.boxed.Box as boxed
use Rattle.std.proofs.boxed.Box.TheSendSync as boxes
use Rattle.std.proofs.option.Option.TheSendSync as option
use Rattle.std.proofs.collections.BTreeMap.TheSendSync as map
use Rattle.ipc_containers.specs.declared.tree.Tree.{Tree}
use Rattle.ipc_containers.specs.declared.tree.Tree.TheDeep.{deep-Node}
use Rattle.ipc_containers.specs.declared.tree.Tree.TheInside.{Inside}
use Rattle.ipc_containers.specs.declared.tree.Node.{Node}
use Rattle.ipc_containers.specs.declared.tree.Node.TheVariants.{Leaf, Fork}
use Rattle.ipc_containers.specs.contracts.tree.Tree as tree
use Rattle.ipc_containers.specs.contracts.tree.Tree.TheInside as tree_inside
use Rattle.ipc_containers.specs.contracts.tree.Node as node
use Rattle.ipc_containers.specs.contracts.timed.Timed as timed
use Rattle.ipc_containers.proofs.timed.Timed.TheSendSync as timed_sent
use Rattle.ipc_containers.proofs.tree.Tree.TheLaws.TheTie.{own_is-Tree}
use Rattle.ipc_containers.proofs.tree.Tree.TheLaws.TheFalls.{size_decreases}
use Rattle.ipc_containers.specs.contracts.deadlines.Deadlines as deadlines
use Rattle.ipc_containers.specs.contracts.deadlines.Deadlines.TheInside as deadlines_inside
use Rattle.ipc_containers.specs.contracts.timed_calls.TimedCalls as timed_calls
use Rattle.ipc_containers.specs.contracts.timed_calls.TimedCalls.TheInside as timed_calls_inside

-- ---- one value

at_one : (R : RattleType) → IsSend R → (x : R.Denot) → SendAt R x
at_one R s x = (s.owned x, λ k. s.leaving k x)

abbrev Sent : Tree → Type 0
Sent d = (vs : List Val) → Keyless ((tree.the_row).own_val d vs)

-- a box of a tree, by that tree alone
boxed_sent : (b : Box Tree Global) → Sent b.value → SendAt (boxed.the_row tree.the_row heap.the_row ghosts) b
unfolding part_of
boxed_sent b k =
    let R = tree.the_row in
    let one : RattleType = one_value R R.mir (R.own_val b.value) (R.shr_at b.value) gnil in
    let s = boxes.the_send one heap.the_row ghosts (record { owned = λ x vs. k vs; leaving = λ kept x w. tt }) global.the_send globals.the_frees in
    at_one (boxed.the_row one heap.the_row ghosts) s (record { ptr = b.ptr; alloc = b.alloc; value = tt })

number : IsSend (u64-field).row
number = search sendable

node_sent : (n : ℕ) → ((d : Tree) → length d < n → Sent d) → (x : Node) → deep-Node x ≤ n → LiveAt SendAt (enums.variants node.the_type) ((node.the_type).to x)
node_sent n k (Leaf call) le = (at_one (timed.the_field).row timed_sent.the_field_send ((timed.the_field).into call), tt)
node_sent n k (Fork left middle least right) le =
    let l : length left.value + 1 ≤ n = first_of (length left.value + 1) (max (length right.value + 1) 0) n le in
    let r : length right.value + 1 ≤ n = first_of (length right.value + 1) 0 n (rest_of (length left.value + 1) (max (length right.value + 1) 0) n le) in
    ((boxed_sent left (k left.value (omega arith)), (at_one (u64-field).row number middle, (at_one (u64-field).row number least, (boxed_sent right (k right.value (omega arith)), tt)))))

inside_sent : (n : ℕ) → ((d : Tree) → length d < n → Sent d) → (x : Inside) → deep-Node x.node ≤ n → SendAt (structs.row tree_inside.the_type) x
inside_sent n k x le =
    let S = structs.shape tree_inside.the_type in
    struct_send_at S ((tree_inside.the_type).to x) (enum_send_at (enums.shape node.the_type) ((node.the_type).to x.node) (node_sent n k x.node le), tt)

-- ---- all values

fits : (d : Tree) (x : Inside) → tree.the_view x ≡ d → tree.the_invariant x → deep-Node x.node ≤ length d
fits d x is h = subst (λ (e : Tree). deep-Node x.node ≤ length e) is (first_of (deep-Node x.node) 0 (length (tree.the_view x)) (size_decreases x h))

tree_sent : (n : ℕ) (d : Tree) → length d < n → Sent d
tree_sent zero d lt vs = absurd (omega arith)
tree_sent (suc n) d lt vs =
    subst (λ (own : List Val → Fml). Keyless (own vs)) (sym (own_is-Tree d)) (λ x. ((inside_sent (length d) (λ c below. tree_sent n c (omega arith)) x.0 (fits d x.0 x.1.0 x.1.1)).0 vs, tt))

tree_send : IsSend tree.the_row
tree_send = record { owned = λ d. tree_sent (suc (length d)) d (omega arith); leaving = λ k x w. tt }

-- ---- what holds the tree

deadlines_inside_send : IsSend deadlines_inside.the_row
deadlines_inside_send = search (sendable, tree_send, option.the_field_send) depth 20

deadlines_send : IsSend deadlines.the_row
deadlines_send = search (sendable, deadlines_inside_send) depth 20

timed_calls_inside_send : IsSend timed_calls_inside.the_row
timed_calls_inside_send = search (sendable, deadlines_send, map.the_send, global.the_send, globals.the_frees) depth 20

pub timed_calls_send : IsSend timed_calls.the_row
timed_calls_send = search (sendable, timed_calls_inside_send) depth 20
