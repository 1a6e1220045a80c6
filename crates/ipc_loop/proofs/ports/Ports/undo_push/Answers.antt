use Rattle.std.proofs.Common.{◌≡◌, ◌∙◌, ◌-◌, ◌++◌, ◌∷◌, [], ◌<◌, ℕ, zero, suc, ◌≤◌, List, Bool, Some, length, take, slice_get, refl, sym, ap, subst, arith}
use Rattle.ipc_loop.specs.Ports.{new_port}
use Rattle.ipc_loop.specs.Standing.{Ports, AreKept, is_queued_in, port_in, seen, flags}
use Rattle.ipc_loop.proofs.PortLemmas.{Slots}
use Rattle.ipc_loop.proofs.PlaceLemmas.{Places, but_last, map_take, as_many, flagged}
use Rattle.ipc_loop.proofs.KeepingLemmas.{kept_undo, within_slots}
use Rattle.ipc_loop.proofs.ports.Ports.undo_push.Goals as goal

-- what is left, as the lists without their last
undone : (xs : Places) (t n : List ℕ) (o tm nm : ℕ) → slice_get (seen xs) (length (seen xs) - 1) ≡ Some (Some new_port) → AreKept (seen xs) (flags xs) t n o tm nm → 1 ≤ o × AreKept (take (length xs - 1) (seen xs)) (take (length xs - 1) (flags xs)) t n (o - 1) tm nm
undone xs t n o tm nm last a =
    let few = as_many port_in xs in
    let fits = flagged xs in
    let some : length xs - 1 < length (seen xs) = (let within = within_slots (seen xs) (length (seen xs) - 1) (Some new_port) last in omega arith) in
    let ports = but_last (seen xs) (length xs - 1) (Some new_port) (omega arith) (ap (λ (m : ℕ). slice_get (seen xs) (m - 1)) (sym few) ∙ last) in
    let flag = last_flag (flags xs) (length xs - 1) (omega arith) in
    let queued = but_last (flags xs) (length xs - 1) flag.0 (omega arith) flag.1 in
    kept_undo (take (length xs - 1) (seen xs)) new_port (take (length xs - 1) (flags xs)) flag.0 t n o tm nm (subst (λ (zs : Slots). AreKept zs (take (length xs - 1) (flags xs) ++ flag.0 ∷ []) t n o tm nm) ports (subst (λ (fs : List Bool). AreKept (seen xs) fs t n o tm nm) queued a)) where
      last_flag : (fs : List Bool) (m : ℕ) → m < length fs → (b : Bool) × (slice_get fs m ≡ Some b)
      last_flag [] m l = absurd (omega arith)
      last_flag (f ∷ fs) zero l = (f, refl)
      last_flag (f ∷ fs) (suc m) l = last_flag fs m (omega arith)

pub overflow_sub-self : goal.overflow_sub-self
overflow_sub-self c = (undone c.self.inside.all _ _ _ _ _ (ap (λ (p : Ports). slice_get p.all (length p.all - 1)) c.self.view_is ∙ c.requires) c.self.invariant).0

pub invariant_of-self : goal.invariant_of-self
invariant_of-self c =
    let all = c.self.inside.all in
    let kept = (undone all _ _ _ _ _ (ap (λ (p : Ports). slice_get p.all (length p.all - 1)) c.self.view_is ∙ c.requires) c.self.invariant).1 in
    rw (c.undo_push.ensures, map_take port_in (length all - 1) all, map_take is_queued_in (length all - 1) all) kept

pub returns-clause-all : goal.returns-clause-all
returns-clause-all c =
    let all = c.self.inside.all in
    ap seen c.undo_push.ensures ∙ map_take port_in (length all - 1) all ∙ ap (λ (m : ℕ). take (m - 1) (seen all)) (sym (as_many port_in all)) ∙ ap (λ (p : Ports). take (length p.all - 1) p.all) c.self.view_is
