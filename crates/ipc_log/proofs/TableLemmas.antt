-- Eight steps at once: what they make of a remainder is what they make of its lowest byte, and the other bytes moved down.
use Rattle.std.proofs.Common.{◌≡◌, ℕ, zero, suc, ◌+◌, ◌*◌, ◌/◌, ◌%◌, ◌<◌, Bool, true, false, cond, eqb, refl, sym, ap, ◌∙◌, arith}
use Rattle.std.specs.Int.RustNames.{bit_xor}
use Rattle.std.specs.Int.Bits.{xor_assoc, xor_zero_l, xor_zero_r}
use Rattle.std.proofs.lemmas.Nat.{xor_comm, xor_shr, xor_mod, xor_block}
use Rattle.ipc_log.specs.Checksum.{polynomial, shifted, shifted_by}

-- what is taken away for the bit that falls out
abbrev taken : ℕ → ℕ
taken bit = cond (eqb bit 1) polynomial 0

taken_by : (b : Bool) (half : ℕ) → cond b (bit_xor half polynomial) half ≡ bit_xor half (cond b polynomial 0)
taken_by true half = refl
taken_by false half = sym (xor_zero_r half)

shifted_is : (c : ℕ) → shifted c ≡ bit_xor (c / 2) (taken (c % 2))
unfolding shifted
shifted_is c = taken_by (eqb (c % 2) 1) (c / 2)

taken_apart : (r s : ℕ) → r < 2 → s < 2 → taken (bit_xor r s) ≡ bit_xor (taken r) (taken s)
taken_apart zero zero p q = refl
taken_apart zero (suc zero) p q = refl
taken_apart (suc zero) zero p q = refl
taken_apart (suc zero) (suc zero) p q = refl
taken_apart zero (suc (suc s)) p q = absurd (omega arith)
taken_apart (suc zero) (suc (suc s)) p q = absurd (omega arith)
taken_apart (suc (suc r)) s p q = absurd (omega arith)

regroup : (x p y q : ℕ) → bit_xor (bit_xor x p) (bit_xor y q) ≡ bit_xor (bit_xor x y) (bit_xor p q)
regroup x p y q =
    xor_assoc x p (bit_xor y q)
    ∙ ap (bit_xor x) (sym (xor_assoc p y q) ∙ ap (λ (z : ℕ). bit_xor z q) (xor_comm p y) ∙ xor_assoc y p q)
    ∙ sym (xor_assoc x y (bit_xor p q))

-- a step of two numbers, and of each
shifted_apart : (a b : ℕ) → shifted (bit_xor a b) ≡ bit_xor (shifted a) (shifted b)
shifted_apart a b =
    let halves : bit_xor a b / 2 ≡ bit_xor (a / 2) (b / 2) = xor_shr a b 1 in
    let bits : bit_xor a b % 2 ≡ bit_xor (a % 2) (b % 2) = xor_mod a b 1 in
    let takes : taken (bit_xor a b % 2) ≡ bit_xor (taken (a % 2)) (taken (b % 2)) = ap taken bits ∙ taken_apart (a % 2) (b % 2) (omega arith) (omega arith) in
    shifted_is (bit_xor a b)
    ∙ ap (λ (z : ℕ). bit_xor z (taken (bit_xor a b % 2))) halves
    ∙ ap (bit_xor (bit_xor (a / 2) (b / 2))) takes
    ∙ sym (regroup (a / 2) (taken (a % 2)) (b / 2) (taken (b % 2)))
    ∙ ap (λ (z : ℕ). bit_xor z (bit_xor (b / 2) (taken (b % 2)))) (sym (shifted_is a))
    ∙ ap (bit_xor (shifted a)) (sym (shifted_is b))

pub steps_apart : (n a b : ℕ) → shifted_by n (bit_xor a b) ≡ bit_xor (shifted_by n a) (shifted_by n b)
unfolding shifted_by
steps_apart zero a b = refl
steps_apart (suc n) a b = ap (shifted_by n) (shifted_apart a b) ∙ steps_apart n (shifted a) (shifted b)

-- bits that are 0 fall out, and nothing else happens
step_down : (c : ℕ) → shifted (c * 2) ≡ c
unfolding shifted
step_down c =
    let bit : c * 2 % 2 ≡ 0 = omega arith in
    let half : c * 2 / 2 ≡ c = omega arith in
    rw (bit, half) refl

pub steps_down : (a : ℕ) → shifted_by 8 (a * 256) ≡ a
unfolding shifted_by
steps_down a =
    let down : (n : ℕ) (c : ℕ) → shifted_by (suc n) (c * 2) ≡ shifted_by n c = λ n c. ap (shifted_by n) (step_down c) in
    let twice : a * 256 ≡ a * 2 * 2 * 2 * 2 * 2 * 2 * 2 * 2 = omega arith in
    ap (shifted_by 8) twice ∙ down 7 (a * 2 * 2 * 2 * 2 * 2 * 2 * 2) ∙ down 6 (a * 2 * 2 * 2 * 2 * 2 * 2) ∙ down 5 (a * 2 * 2 * 2 * 2 * 2) ∙ down 4 (a * 2 * 2 * 2 * 2) ∙ down 3 (a * 2 * 2 * 2) ∙ down 2 (a * 2 * 2) ∙ down 1 (a * 2) ∙ down 0 a

-- a number is its lowest byte and the others
pub bytes_apart : (x : ℕ) → x ≡ bit_xor (x / 256 * 256) (x % 256)
bytes_apart x =
    let parts : bit_xor (x / 256 * 256 + 0) (0 * 256 + x % 256) ≡ bit_xor (x / 256) 0 * 256 + bit_xor 0 (x % 256) = xor_block 8 (x / 256) 0 0 (x % 256) (omega arith) (omega arith) in
    let high : x / 256 * 256 + 0 ≡ x / 256 * 256 = omega arith in
    let low : 0 * 256 + x % 256 ≡ x % 256 = omega arith in
    let whole : bit_xor (x / 256) 0 * 256 + bit_xor 0 (x % 256) ≡ x = rw (xor_zero_r (x / 256), xor_zero_l (x % 256)) (omega arith) in
    sym (ap (λ (z : ℕ). bit_xor z (x % 256)) (sym high) ∙ ap (bit_xor (x / 256 * 256 + 0)) (sym low) ∙ parts ∙ whole)

-- eight steps at once
pub eight_steps : (x : ℕ) → shifted_by 8 x ≡ bit_xor (x / 256) (shifted_by 8 (x % 256))
eight_steps x =
    let high : ℕ = x / 256 in
    let low : ℕ = x % 256 in
    ap (shifted_by 8) (bytes_apart x) ∙ steps_apart 8 (high * 256) low ∙ ap (λ (z : ℕ). bit_xor z (shifted_by 8 low)) (steps_down high)
