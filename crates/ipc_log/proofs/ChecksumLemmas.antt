-- Dividing a text byte by byte, as a loop does.
use Rattle.std.proofs.Common.{◌≡◌, ℕ, ◌+◌, ◌<◌, ◌≤◌, List, length, get_or, drop, drop-cons, add-one, refl, sym, ap, ◌∙◌}
use Rattle.std.proofs.Math.ListN.{drop_of_length-le}
use Rattle.ipc_log.specs.Checksum.{by_byte, by_bytes}

pub goes_on : (c : ℕ) (w : List ℕ) (i d total : ℕ) → i < length w → by_bytes c (drop i w) ≡ total → by_bytes (by_byte c (get_or w i d)) (drop (i + 1) w) ≡ total
unfolding by_bytes
goes_on c w i d total lt so_far =
    let one : by_bytes c (drop i w) ≡ by_bytes (by_byte c (get_or w i d)) (drop (i + 1) w) = rw (add-one, drop-cons w i d) refl in
    sym one ∙ so_far

pub is_done : (c : ℕ) (w : List ℕ) (i total : ℕ) → length w ≤ i → by_bytes c (drop i w) ≡ total → c ≡ total
unfolding by_bytes
is_done c w i total le so_far =
    let none : by_bytes c (drop i w) ≡ c = ap (by_bytes c) (drop_of_length-le w le) in
    sym none ∙ so_far
