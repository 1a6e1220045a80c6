-- Ports for which something is done.
use Rattle.std.proofs.Common.{◌≡◌, ◌≢◌, ◌⊎◌, inl, inr, ℕ, zero, suc, ◌+◌, ◌<◌, Bool, true, false, ◌&&◌, eqb, cond, List, [], ◌∷◌, set, slice_get, Option, Some, None, refl, sym, ap, subst, ◌∙◌, arith}
use Rattle.std.specs.Prelude.{unwrap_or}
use Rattle.ipc_hub.specs.Marking.{is_set}
use Rattle.std.specs.Option.{option_map}
use Rattle.ipc_hub.specs.Hub.{Connection, Hub, Names, untaken_at, fault_of_take}
use Rattle.ipc_hub.specs.declared.fed.HubFault.{HubFault}
use Rattle.ipc_loop.specs.Moves.{Moved}
use Rattle.ipc_loop.specs.Ports.{Port, new_port, port_at, open_at, with_port}
use Rattle.ipc_loop.specs.Standing.{IsSettled}
use Rattle.ipc_loop.specs.Serving.{Serves, ServesPort, KeepsMarks, KeepsPortMarks, Answers, IsAnswered, has_no_more, is_done}
use Rattle.ipc_loop.proofs.ServingLemmas.{serves_both, serves_so, closed_serves}
use Rattle.ipc_loop.proofs.OwingLemmas.{keeps_so, both_keep, closed_keeps}
use Rattle.ipc_loop.proofs.PortLemmas.{Slots, get_set, slot_set, slot_here, slot_now, set_twice}

abbrev pub Moves : Type 0
Moves = Option (List Moved)

-- the port, which is another since, is settled: as it was before
pub settled_since : (k : ℕ) (h h' : Hub) (m m' : Moves) (p' : Port) (xs ys zs : Slots) → ys ≡ set xs k (Some p') → IsSettled h m ys k p' h' m' zs → IsSettled h m xs k p' h' m' zs
settled_since k h h' m m' p' xs ys zs acted (inl put) = inl (put.0, put.1, put.2 ∙ ap (λ (ws : Slots). set ws k (Some p')) acted ∙ set_twice xs k (Some p') (Some p'), put.3)
settled_since k h h' m m' p' xs ys zs acted (inr gone) = inr (gone.0, gone.1, gone.2 ∙ ap (λ (ws : Slots). set ws k None) acted ∙ set_twice xs k (Some p') None)

-- what is done for a port, up to its settling
pub settled_serves : (k : ℕ) (h h' h'' : Hub) (m m' m'' : Moves) (p p' : Port) (xs ys : Slots) → slice_get xs k ≡ Some (Some p) → ServesPort k h m p h' m' p' → IsSettled h' m' xs k p' h'' m'' ys
    → Serves h m (port_at xs) h'' m'' (port_at ys)
settled_serves k h h' h'' m m' m'' p p' xs ys there serves (inl put) =
    subst (λ (x : Hub). Serves h m (port_at xs) x m'' (port_at ys)) (sym put.0)
    (subst (λ (w : Moves). Serves h m (port_at xs) h' w (port_at ys)) (sym put.1)
    (serves_so h h' m m' (with_port (port_at xs) k (Some p)) (port_at xs) (with_port (port_at xs) k (Some p')) (port_at ys) (λ i. slot_here (Some new_port) xs k (Some p) i there) (λ i. ap (λ (zs : Slots). port_at zs i) put.2 ∙ slot_set (Some new_port) xs k (Some p) (Some p') i there) (serves (port_at xs))))
settled_serves k h h' h'' m m' m'' p p' xs ys there serves (inr gone) =
    serves_both h h' h'' m m' m'' (port_at xs) (with_port (port_at xs) k (Some p')) (port_at ys)
    (serves_so h h' m m' (with_port (port_at xs) k (Some p)) (port_at xs) (with_port (port_at xs) k (Some p')) (with_port (port_at xs) k (Some p')) (λ i. slot_here (Some new_port) xs k (Some p) i there) (λ i. refl) (serves (port_at xs)))
    (serves_so h' h'' m' m'' (with_port (port_at xs) k (Some p')) (with_port (port_at xs) k (Some p')) (with_port (port_at xs) k None) (port_at ys) (λ i. refl) (λ i. ap (λ (zs : Slots). port_at zs i) gone.2 ∙ slot_set (Some new_port) xs k (Some p) None i there) (closed_serves k h' h'' m' m'' (port_at xs) p' gone.0 gone.1))

pub settled_keeps : (k : ℕ) (h h' h'' : Hub) (m' m'' : Moves) (p p' : Port) (xs ys : Slots) → slice_get xs k ≡ Some (Some p) → KeepsPortMarks k h p h' p' → IsSettled h' m' xs k p' h'' m'' ys → KeepsMarks h (open_at xs) h'' (open_at ys)
settled_keeps k h h' h'' m' m'' p p' xs ys there keeps (inl put) =
    subst (λ (x : Hub). KeepsMarks h (open_at xs) x (open_at ys)) (sym put.0)
    (keeps_so h h' (with_port (open_at xs) k (Some p)) (open_at xs) (with_port (open_at xs) k (Some p')) (open_at ys) (λ i. slot_here None xs k (Some p) i there) (λ i. ap (λ (zs : Slots). open_at zs i) put.2 ∙ slot_set None xs k (Some p) (Some p') i there) (keeps (open_at xs)))
settled_keeps k h h' h'' m' m'' p p' xs ys there keeps (inr gone) =
    both_keep h h' h'' (open_at xs) (with_port (open_at xs) k (Some p')) (open_at ys)
    (keeps_so h h' (with_port (open_at xs) k (Some p)) (open_at xs) (with_port (open_at xs) k (Some p')) (with_port (open_at xs) k (Some p')) (λ i. slot_here None xs k (Some p) i there) (λ i. refl) (keeps (open_at xs)))
    (keeps_so h' h'' (with_port (open_at xs) k (Some p')) (with_port (open_at xs) k (Some p')) (with_port (open_at xs) k None) (open_at ys) (λ i. refl) (λ i. ap (λ (zs : Slots). open_at zs i) gone.2 ∙ slot_set None xs k (Some p) None i there) (closed_keeps k h' h'' (open_at xs) p' gone.0))

-- what is known of the hub's connection once its port is settled
pub settled_there : (h : Hub) (k : ℕ) (fault : HubFault) (p : Port) → is_done h k p ≡ true → fault_of_take (slice_get h.connections k) ≡ Some fault → ⊥
settled_there h k fault p done none = at (slice_get h.connections k) done none where
  at : (s : Option Connection) → (unwrap_or (option_map (λ (x : Connection). x.is_over) s) false && has_no_more (untaken_at h k) p.left) ≡ true → fault_of_take s ≡ Some fault → ⊥
  at None d n = absurd cc
  at (Some x) d n = absurd cc

pub open_there : (xs : Slots) (k : ℕ) (port : Port) → open_at xs k ≡ Some port → slice_get xs k ≡ Some (Some port)
open_there xs k port e = at (slice_get xs k) e where
  at : (s : Option (Option Port)) → unwrap_or s None ≡ Some port → s ≡ Some (Some port)
  at None f = absurd cc
  at (Some x) f = ap (λ (y : Option Port). Some y) f

-- ---- connections that were answered

-- port k, which was sent what it was answered, is settled
pub sent_answered : (k : ℕ) (h h' h'' : Hub) (m' m'' : Moves) (p p' : Port) (xs ys : Slots) → slice_get xs k ≡ Some (Some p) → Answers k h h' p' → IsSettled h' m' xs k p' h'' m'' ys → IsAnswered h'' (open_at ys) k
sent_answered k h h' h'' m' m'' p p' xs ys there a (inl put) port e =
    let now : Some p' ≡ Some port = sym (ap (λ (zs : Slots). open_at zs k) put.2 ∙ ap (λ (s : Option (Option Port)). unwrap_or s None) (slot_now xs k (Some p) (Some p') there)) ∙ e in
    let same : p' ≡ port = cc in
    subst (λ (x : Hub). (untaken_at x k ≡ []) ⊎ (port.left ≢ Some [])) (sym put.0) (subst (λ (q : Port). (untaken_at h' k ≡ []) ⊎ (q.left ≢ Some [])) same a.answered)
sent_answered k h h' h'' m' m'' p p' xs ys there a (inr gone) port e =
    let now : None ≡ Some port = sym (ap (λ (zs : Slots). open_at zs k) gone.2 ∙ ap (λ (s : Option (Option Port)). unwrap_or s None) (slot_now xs k (Some p) None there)) ∙ e in
    absurd cc

flag_there : (flags : List Bool) (k : ℕ) → is_set flags k ≡ true → slice_get flags k ≡ Some true
flag_there flags k e = at (slice_get flags k) e where
  at : (s : Option Bool) → unwrap_or s false ≡ true → s ≡ Some true
  at None f = absurd cc
  at (Some b) f = ap (λ (x : Bool). Some x) f

pub marked_elsewhere : (flags : List Bool) (k i : ℕ) → is_set flags k ≡ true → eqb k i ≡ false → is_set (set flags k false) i ≡ is_set flags i
marked_elsewhere flags k i on other = ap (λ (s : Option Bool). unwrap_or s false) (get_set flags k true false i (flag_there flags k on) ∙ ap (λ (b : Bool). cond b (Some false) (slice_get flags i)) other)

-- how many flags are set
abbrev pub how_many : List Bool → ℕ
how_many [] = 0
how_many (b ∷ flags) = cond b (how_many flags + 1) (how_many flags)

one_fewer : (flags : List Bool) (k : ℕ) → slice_get flags k ≡ Some true → how_many (set flags k false) + 1 ≡ how_many flags
one_fewer [] k e = absurd cc
one_fewer (b ∷ flags) zero e = let on : b ≡ true = cc in rw on refl
one_fewer (true ∷ flags) (suc k) e = ap (λ (n : ℕ). n + 1) (one_fewer flags k e)
one_fewer (false ∷ flags) (suc k) e = one_fewer flags k e

-- fewer are marked once one was named
pub named_fewer : (k : ℕ) (h n : Hub) → Names h k n → how_many n.marked < how_many h.marked
named_fewer k h n names =
    let less : how_many (set h.marked k false) + 1 ≡ how_many h.marked = one_fewer h.marked k (flag_there h.marked k names.was) in
    let now : how_many n.marked ≡ how_many (set h.marked k false) = ap (λ (x : Hub). how_many x.marked) names.now in
    omega arith

-- a link that has no port is owed nothing
pub none_answered : (k : ℕ) (h : Hub) (xs : Slots) → ((port : Port) → slice_get xs k ≡ Some (Some port) → ⊥) → IsAnswered h (open_at xs) k
none_answered k h xs none port e = absurd (none port (open_there xs k port e))
