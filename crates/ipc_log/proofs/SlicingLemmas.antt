-- Bytes at once: each byte of a remainder and of a text is divided by itself, and what they leave is added.
use Rattle.std.proofs.Common.{◌≡◌, ℕ, zero, suc, ◌+◌, ◌*◌, ◌/◌, ◌%◌, ◌^◌, ◌<◌, List, [], ◌∷◌, length, take, drop, refl, sym, ap, ◌∙◌, arith}
use Rattle.std.specs.Prelude.{slice_index}
use Rattle.std.specs.Int.{w32, to_le_bytes}
use Rattle.std.specs.Int.RustNames.{bit_xor}
use Rattle.std.specs.Int.Bits.{xor_assoc, xor_zero_l}
use Rattle.std.proofs.lemmas.Nat.{xor_comm}
use Rattle.ipc_log.specs.Checksum.{shifted, shifted_by, by_byte, by_bytes}
use Rattle.ipc_log.proofs.TableLemmas.{steps_apart, steps_down, bytes_apart}

steps_more : (m n c : ℕ) → shifted_by (m + n) c ≡ shifted_by n (shifted_by m c)
unfolding shifted_by
steps_more zero n c =
    let none : 0 + n ≡ n = omega arith in
    ap (λ (s : ℕ). shifted_by s c) none
steps_more (suc m) n c =
    let one : suc m + n ≡ suc (m + n) = omega arith in
    ap (λ (s : ℕ). shifted_by s c) one ∙ steps_more m n (shifted c)

-- a byte's steps, and those of so many bytes behind it
byte_more : (n c : ℕ) → shifted_by (8 * n) (shifted_by 8 c) ≡ shifted_by (8 * (n + 1)) c
byte_more n c =
    let steps : 8 + 8 * n ≡ 8 * (n + 1) = omega arith in
    sym (steps_more 8 (8 * n) c) ∙ ap (λ (s : ℕ). shifted_by s c) steps

-- what is added to a remainder is divided by itself
apart : (w : List ℕ) (x y : ℕ) → by_bytes (bit_xor x y) w ≡ bit_xor (by_bytes x w) (shifted_by (8 * length w) y)
unfolding shifted_by by_byte by_bytes
apart [] x y = refl
apart (b ∷ w) x y =
    let added : bit_xor (bit_xor x y) b ≡ bit_xor (bit_xor x b) y = xor_assoc x y b ∙ ap (bit_xor x) (xor_comm y b) ∙ sym (xor_assoc x b y) in
    let one : by_byte (bit_xor x y) b ≡ bit_xor (by_byte x b) (shifted_by 8 y) = ap (shifted_by 8) added ∙ steps_apart 8 (bit_xor x b) y in
    let length_is : length w + 1 ≡ suc (length w) = omega arith in
    ap (λ (c : ℕ). by_bytes c w) one
    ∙ apart w (by_byte x b) (shifted_by 8 y)
    ∙ ap (bit_xor (by_bytes (by_byte x b) w)) (byte_more (length w) y ∙ ap (λ (n : ℕ). shifted_by (8 * n) y) length_is)

-- the first byte, with the remainder's lowest, and all others
first_apart : (c b : ℕ) (w : List ℕ) → by_bytes c (b ∷ w) ≡ bit_xor (by_bytes (c / 256) w) (shifted_by (8 * (length w + 1)) (bit_xor (c % 256) b))
unfolding by_byte by_bytes
first_apart c b w =
    let high : ℕ = c / 256 in
    let low : ℕ = bit_xor (c % 256) b in
    let parts : bit_xor c b ≡ bit_xor (high * 256) low = ap (λ (z : ℕ). bit_xor z b) (bytes_apart c) ∙ xor_assoc (high * 256) (c % 256) b in
    let one : by_byte c b ≡ bit_xor high (shifted_by 8 low) = ap (shifted_by 8) parts ∙ steps_apart 8 (high * 256) low ∙ ap (λ (z : ℕ). bit_xor z (shifted_by 8 low)) (steps_down high) in
    ap (λ (z : ℕ). by_bytes z w) one ∙ apart w high (shifted_by 8 low) ∙ ap (bit_xor (by_bytes high w)) (byte_more (length w) low)

-- each byte by itself
slices : ℕ → List ℕ → ℕ
slices c [] = c
slices c (b ∷ w) = bit_xor (slices (c / 256) w) (shifted_by (8 * (length w + 1)) (bit_xor (c % 256) b))

by_slices : (w : List ℕ) (c : ℕ) → by_bytes c w ≡ slices c w
unfolding slices by_bytes
by_slices [] c = refl
by_slices (b ∷ w) c = first_apart c b w ∙ ap (λ (z : ℕ). bit_xor z (shifted_by (8 * (length w + 1)) (bit_xor (c % 256) b))) (by_slices w (c / 256))

-- what eight look-ups add up to
abbrev pub eight_parts : List ℕ → List ℕ → ℕ
eight_parts cs bs =
    let four : ℕ = bit_xor (bit_xor (bit_xor (shifted_by 8 (slice_index bs 7)) (shifted_by 16 (slice_index bs 6))) (shifted_by 24 (slice_index bs 5))) (shifted_by 32 (slice_index bs 4)) in
    bit_xor (bit_xor (bit_xor (bit_xor four (shifted_by 40 (bit_xor (slice_index cs 3) (slice_index bs 3)))) (shifted_by 48 (bit_xor (slice_index cs 2) (slice_index bs 2)))) (shifted_by 56 (bit_xor (slice_index cs 1) (slice_index bs 1)))) (shifted_by 64 (bit_xor (slice_index cs 0) (slice_index bs 0)))

-- so eight bytes are divided, the first four with those of the remainder
pub eight_apart : (w : List ℕ) (c : ℕ) → length w ≡ 8 → c < 2 ^ 32 → by_bytes c w ≡ eight_parts (to_le_bytes w32 c) w
unfolding slices
eight_apart (b0 ∷ b1 ∷ b2 ∷ b3 ∷ b4 ∷ b5 ∷ b6 ∷ b7 ∷ []) c long fits =
    let two : c / 256 / 256 % 256 ≡ c / 256 ^ 2 % 256 = omega arith in
    let three : c / 256 / 256 / 256 % 256 ≡ c / 256 ^ 3 % 256 = omega arith in
    let gone : c / 256 / 256 / 256 / 256 ≡ 0 = omega arith in
    by_slices (b0 ∷ b1 ∷ b2 ∷ b3 ∷ b4 ∷ b5 ∷ b6 ∷ b7 ∷ []) c
    ∙ rw (gone, two, three, xor_zero_l b4, xor_zero_l b5, xor_zero_l b6, xor_zero_l b7, xor_zero_l (shifted_by 8 b7)) refl
eight_apart [] c long fits = absurd (omega (arith, long))
eight_apart (b0 ∷ []) c long fits = absurd (omega (arith, long))
eight_apart (b0 ∷ b1 ∷ []) c long fits = absurd (omega (arith, long))
eight_apart (b0 ∷ b1 ∷ b2 ∷ []) c long fits = absurd (omega (arith, long))
eight_apart (b0 ∷ b1 ∷ b2 ∷ b3 ∷ []) c long fits = absurd (omega (arith, long))
eight_apart (b0 ∷ b1 ∷ b2 ∷ b3 ∷ b4 ∷ []) c long fits = absurd (omega (arith, long))
eight_apart (b0 ∷ b1 ∷ b2 ∷ b3 ∷ b4 ∷ b5 ∷ []) c long fits = absurd (omega (arith, long))
eight_apart (b0 ∷ b1 ∷ b2 ∷ b3 ∷ b4 ∷ b5 ∷ b6 ∷ []) c long fits = absurd (omega (arith, long))
eight_apart (b0 ∷ b1 ∷ b2 ∷ b3 ∷ b4 ∷ b5 ∷ b6 ∷ b7 ∷ b8 ∷ w) c long fits = absurd (omega (arith, long))

pub in_two : (n c : ℕ) (w : List ℕ) → by_bytes (by_bytes c (take n w)) (drop n w) ≡ by_bytes c w
unfolding by_bytes
in_two zero c w = refl
in_two (suc n) c [] = refl
in_two (suc n) c (b ∷ w) = in_two n (by_byte c b) w
