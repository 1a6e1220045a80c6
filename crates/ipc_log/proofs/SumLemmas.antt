-- Bytes are read again by their sum, and are awaited as long as they and it aren't whole.
use Rattle.std.proofs.Common.{◌≡◌, ℕ, ◌+◌, ◌<◌, ◌≤◌, Bool, true, false, cond, ltb, List, ◌++◌, length, take, drop, Option, Some, None, Result, Ok, Err, refl, sym, ap, ◌∙◌, append_assoc, arith}
use Rattle.std.specs.Cmp.Lexicographic.{bytes_decides}
use Rattle.std.proofs.lemmas.Bool.{le-ltb, lt-ltb, ltb-false}
use Rattle.std.proofs.lemmas.List.{take_at, drop_at, take-append-drop, drop-drop, length-append}
use Rattle.ipc_log.specs.declared.fault.TrailFault.{TrailFault}
use Rattle.ipc_log.specs.declared.fault.TrailFault.TheVariants.{BadSum}
use Rattle.ipc_log.specs.Summed.{sum_of, summed, same_bytes, summed_at}

pub same_self : (w : List ℕ) → same_bytes w w ≡ true
same_self w = (bytes_decides w w).1 refl

-- where a sum of four bytes stands behind them
behind_sum : (n : ℕ) (x s r : List ℕ) → length x ≡ n → length s ≡ 4 → same_bytes s (sum_of x) ≡ true → summed_at n (x ++ (s ++ r)) ≡ Ok (Some x)
unfolding summed_at
behind_sum n x s r len four same =
    let long : ltb (length (x ++ (s ++ r))) (n + 4) ≡ false = le-ltb _ _ (omega (arith, length-append x (s ++ r), length-append s r)) in
    rw (long, take_at x (s ++ r) n len, drop_at x (s ++ r) n len, take_at s r 4 four, same) refl

pub sum_len : (w : List ℕ) → length (sum_of w) ≡ 4
sum_len w = refl

pub summed_again : (n : ℕ) (x r : List ℕ) → length x ≡ n → summed_at n (summed x ++ r) ≡ Ok (Some x)
summed_again n x r len = ap (summed_at n) (append_assoc x (sum_of x) r) ∙ behind_sum n x (sum_of x) r len (sum_len x) (same_self (sum_of x))

pub summed_short : (n : ℕ) (w : List ℕ) → length w < n + 4 → summed_at n w ≡ Ok None
unfolding summed_at
summed_short n w lt = rw (lt-ltb _ _ lt) refl

-- ---- what is found had its sum

pub record IsSummed (n : ℕ) (w x : List ℕ) : Type 0 where
  pub long : n + 4 ≤ length w
  pub text_is : x ≡ take n w
  pub parts : w ≡ summed x ++ drop (n + 4) w

abbrev tested : Bool → Bool → List ℕ → Result (Option (List ℕ)) TrailFault
tested short same x = cond short (Ok None) (cond same (Ok (Some x)) (Err BadSum))

tested_some : (short same : Bool) (x y : List ℕ) → tested short same x ≡ Ok (Some y) → (short ≡ false) × (same ≡ true) × (x ≡ y)
tested_some true same x y e = absurd cc
tested_some false false x y e = absurd cc
tested_some false true x y e = (refl, refl, cc)

pub summed_found : (n : ℕ) (w x : List ℕ) → summed_at n w ≡ Ok (Some x) → IsSummed n w x
unfolding summed_at
summed_found n w x e =
    let text : List ℕ = take n w in
    let rest : List ℕ = drop n w in
    let t = tested_some (ltb (length w) (n + 4)) (same_bytes (take 4 rest) (sum_of text)) text x e in
    let sum : take 4 rest ≡ sum_of text = (bytes_decides (take 4 rest) (sum_of text)).0 t.1 in
    let behind : drop 4 rest ≡ drop (n + 4) w = drop-drop 4 n w in
    let tail : rest ≡ sum_of text ++ drop (n + 4) w = sym (take-append-drop 4 rest) ∙ ap (λ (z : List ℕ). z ++ drop 4 rest) sum ∙ ap (λ (z : List ℕ). sum_of text ++ z) behind in
    let whole : w ≡ summed text ++ drop (n + 4) w = sym (take-append-drop n w) ∙ ap (λ (z : List ℕ). text ++ z) tail ∙ sym (append_assoc text (sum_of text) (drop (n + 4) w)) in
    record {
      long = ltb-false _ _ t.0;
      text_is = sym t.2;
      parts = whole ∙ ap (λ (z : List ℕ). summed z ++ drop (n + 4) w) t.2;
    }
