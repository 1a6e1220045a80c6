-- What accepting links brings.
use Rattle.std.proofs.Common.{◌≡◌, ℕ, zero, suc, ◌+◌, ◌-◌, ◌≤◌, List, [], ◌∷◌, ◌++◌, length, Option, Some, refl, sym, ap, subst, ◌∙◌, arith}
use Rattle.ipc_hub.specs.Hub.{Hub}
use Rattle.std.specs.declared.io.ErrorKind.{ErrorKind}
use Rattle.ipc_loop.specs.Moves.{Moved, LinkOpened, NobodyCame, GoOn}
use Rattle.ipc_loop.specs.Ports.{new_port, port_at, Continues}
use Rattle.ipc_loop.specs.Serving.{ServesOpening, Serves, ServesAndOpens, numbers_from}
use Rattle.ipc_loop.proofs.PortLemmas.{Slots, pushed_port}
use Rattle.ipc_loop.proofs.ServingLemmas.{serves_both, opening_both, opening_so, nobody_serves, link_opened}
use Rattle.ipc_loop.proofs.OpeningLemmas.{one_longer}

abbrev pub Moves : Type 0
Moves = Option (List Moved)

numbers_both : (n a b m c : ℕ) → m ≡ n + a → c ≡ a + b → numbers_from n a ++ numbers_from m b ≡ numbers_from n c
numbers_both n zero b m c e f = let same : m ≡ n = omega arith in let all : b ≡ c = omega arith in ap (λ (k : ℕ). numbers_from k b) same ∙ ap (λ (k : ℕ). numbers_from n k) all
numbers_both n (suc a) b m zero e f = absurd (omega arith)
numbers_both n (suc a) b m (suc c) e f = ap (λ (t : List ℕ). n ∷ t) (numbers_both (n + 1) a b m c (omega arith) (omega arith))

numbers_join : (n m k : ℕ) → n ≤ m → m ≤ k → numbers_from n (m - n) ++ numbers_from m (k - m) ≡ numbers_from n (k - n)
numbers_join n m k e f = numbers_both n (m - n) (k - m) m (k - n) (omega arith) (omega arith)

-- one after the other
pub opens_both : (h₀ h₁ h₂ : Hub) (m₀ m₁ m₂ : Moves) (xs ys zs : Slots) → Continues xs ys → Continues ys zs → ServesAndOpens h₀ m₀ xs h₁ m₁ ys → ServesAndOpens h₁ m₁ ys h₂ m₂ zs → ServesAndOpens h₀ m₀ xs h₂ m₂ zs
opens_both h₀ h₁ h₂ m₀ m₁ m₂ xs ys zs c d a b =
    subst (λ (ns : List ℕ). ServesOpening ns h₀ m₀ (port_at xs) h₂ m₂ (port_at zs)) (numbers_join (length xs) (length ys) (length zs) c.count d.count)
    (opening_both (numbers_from (length xs) (length ys - length xs)) (numbers_from (length ys) (length zs - length ys)) h₀ h₁ h₂ m₀ m₁ m₂ (port_at xs) (port_at ys) (port_at zs) a b)

-- none is opened
pub opens_none : (h h' : Hub) (m m' : Moves) (xs ys : Slots) → length ys ≡ length xs → Serves h m (port_at xs) h' m' (port_at ys) → ServesAndOpens h m xs h' m' ys
opens_none h h' m m' xs ys same s =
    let none : 0 ≡ length ys - length xs = omega arith in
    subst (λ (n : ℕ). ServesOpening (numbers_from (length xs) n) h m (port_at xs) h' m' (port_at ys)) none s

-- the hub was made ready for the next link, but nobody was asked for
pub unasked_serves : (h h' : Hub) (m : Moves) (xs ys : Slots) → ys ≡ xs → Serves h m (port_at xs) h' m (port_at xs) → ServesAndOpens h m xs h' m ys
unasked_serves h h' m xs ys same s = subst (λ (zs : Slots). ServesAndOpens h m xs h' m zs) (sym same) (opens_none h h' m m xs xs refl s)

-- or nobody came
pub refused_serves : (h h' : Hub) (m m' : Moves) (xs ys : Slots) (kind : ErrorKind) → ys ≡ xs → GoOn m m' (NobodyCame kind ∷ []) → Serves h m (port_at xs) h' m (port_at xs) → ServesAndOpens h m xs h' m' ys
refused_serves h h' m m' xs ys kind same went s =
    subst (λ (zs : Slots). ServesAndOpens h m xs h' m' zs) (sym same)
    (opens_none h h' m m' xs xs refl (serves_both h h' h' m m m' (port_at xs) (port_at xs) (port_at xs) s (nobody_serves h' m m' (port_at xs) kind went)))

-- the next link was accepted
pub accepted_serves : (h h' : Hub) (m m' : Moves) (xs ys : Slots) → ys ≡ xs ++ Some new_port ∷ [] → GoOn m m' (LinkOpened (length xs) ∷ []) → Serves h m (port_at xs) h' m (port_at xs) → ServesAndOpens h m xs h' m' ys
accepted_serves h h' m m' xs ys more went s =
    let one : 1 ≡ length (xs ++ Some new_port ∷ []) - length xs = omega (arith, one_longer xs (Some new_port)) in
    subst (λ (zs : Slots). ServesAndOpens h m xs h' m' zs) (sym more)
    (subst (λ (n : ℕ). ServesOpening (numbers_from (length xs) n) h m (port_at xs) h' m' (port_at (xs ++ Some new_port ∷ []))) one
    (opening_so (length xs ∷ []) h h' m m' (port_at xs) (port_at xs) (port_at xs) (port_at (xs ++ Some new_port ∷ [])) (λ i. refl) (λ i. pushed_port xs i)
    (opening_both [] (length xs ∷ []) h h' h' m m m' (port_at xs) (port_at xs) (port_at xs) s (link_opened (length xs) h' m m' (port_at xs) went))))
