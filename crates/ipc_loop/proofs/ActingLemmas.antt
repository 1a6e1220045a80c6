-- A place in which something was done for the port.
use Rattle.std.proofs.Common.{◌≡◌, ℕ, Bool, false, List, ◌∷◌, [], ◌++◌, set, slice_get, Option, Some, None, sym, ap, subst, ◌∙◌}
use Rattle.ipc_containers.specs.Slots.{at}
use Rattle.ipc_hub.specs.Hub.{Hub}
use Rattle.ipc_loop.specs.Moves.{Moved}
use Rattle.ipc_loop.specs.Ports.{Port}
use Rattle.ipc_loop.specs.Standing.{AreKept, AreKeptBut, IsSettled, seen, flags}
use Rattle.ipc_loop.specs.declared.ports.Place.{Place}
use Rattle.ipc_loop.proofs.PortLemmas.{Slots, slot_now}
use Rattle.ipc_loop.proofs.PlaceLemmas.{Places, Rewritten, port_there, no_port, no_flag, new_port_seen, new_flags, same_flags, unset_here}
use Rattle.ipc_loop.proofs.KeepingLemmas.{but_acted, but_turned, kept_turn}
use Rattle.ipc_loop.proofs.TurnLemmas.{settled_since}

abbrev pub Moves : Type 0
Moves = Option (List Moved)

-- its port is settled: as it was before, and as the ports see it
pub acted_settled : (xs ys : Places) (k : ℕ) (place left : Place) (h h' : Hub) (m m' : Moves) (was zs : Slots) → seen xs ≡ was → Rewritten xs k place left ys → ((port : Port) → slice_get (seen ys) k ≡ Some (Some port) → IsSettled h m (seen ys) k port h' m' zs) → IsSettled h m was k left.port h' m' zs
acted_settled xs ys k place left h h' m m' was zs same r settled =
    let now = new_port_seen xs ys k place left r in
    subst (λ (ws : Slots). IsSettled h m ws k left.port h' m' zs) same
    (settled_since k h h' m m' left.port (seen xs) (seen ys) zs now
    (settled left.port (ap (λ (ws : Slots). slice_get ws k) now ∙ slot_now (seen xs) k (Some place.port) (Some left.port) (port_there xs k place r.0))))

-- what always holds, but for the port: its flag is as it was
pub acted_kept : (xs ys : Places) (k : ℕ) (place left : Place) (t n : List ℕ) (o tm nm : ℕ) → Rewritten xs k place left ys → left.is_queued ≡ place.is_queued → AreKept (seen xs) (flags xs) t n o tm nm → AreKeptBut k (seen ys) (flags ys) t n o tm nm
acted_kept xs ys k place left t n o tm nm r same a =
    subst (λ (zs : Slots). AreKeptBut k zs (flags ys) t n o tm nm) (sym (new_port_seen xs ys k place left r))
    (subst (λ (fs : List Bool). AreKeptBut k (set (seen xs) k (Some left.port)) fs t n o tm nm) (sym (same_flags xs ys k place left r same))
    (but_acted (seen xs) (flags xs) t n k place.port left.port o tm nm (port_there xs k place r.0) a))

-- it has its turn, and isn't queued any more
pub turned_kept : (xs ys : Places) (k : ℕ) (place left : Place) (ts t n : List ℕ) (o tm tm' nm : ℕ) → Rewritten xs k place left ys → left.is_queued ≡ false → ts ≡ t ++ k ∷ [] → tm' ≡ tm → AreKept (seen xs) (flags xs) ts n o tm nm → AreKeptBut k (seen ys) (flags ys) t n o tm' nm
turned_kept xs ys k place left ts t n o tm tm' nm r off first room a =
    rw (new_port_seen xs ys k place left r, new_flags xs ys k place left r, off, room)
    (but_turned (seen xs) (flags xs) t n k place.port left.port o tm nm (port_there xs k place r.0) (unset_here xs k place r.0) (subst (λ (us : List ℕ). AreKept (seen xs) (flags xs) us n o tm nm) first a))

-- it has its turn, and its place is gone
pub gone_kept : (xs : Places) (k : ℕ) (t n : List ℕ) (o tm nm : ℕ) → at xs k ≡ None → AreKept (seen xs) (flags xs) (t ++ k ∷ []) n o tm nm → AreKept (seen xs) (flags xs) t n o tm nm
gone_kept xs k t n o tm nm none a = kept_turn (seen xs) (flags xs) t n k o tm nm (no_flag xs k none) a

-- as the ports see it
pub none_seen : (xs : Places) (zs : Slots) (k : ℕ) → seen xs ≡ zs → at xs k ≡ None → (port : Port) → slice_get zs k ≡ Some (Some port) → ⊥
none_seen xs zs k same none port e = no_port xs k port none (ap (λ (ws : Slots). slice_get ws k) same ∙ e)

pub port_seen : (xs : Places) (zs : Slots) (k : ℕ) (place : Place) → seen xs ≡ zs → at xs k ≡ Some place → slice_get zs k ≡ Some (Some place.port)
port_seen xs zs k place same e = ap (λ (ws : Slots). slice_get ws k) (sym same) ∙ port_there xs k place e
