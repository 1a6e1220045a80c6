-- CRC-32C: the remainder of a text over Castagnoli's polynomial, bit by bit, with the lowest bit first.
use Rattle.std.specs.Prelude.{ℕ, zero, suc, ◌/◌, ◌%◌, ◌==◌, List, [], ◌∷◌, if◌then◌else◌}
use Rattle.std.specs.Int.RustNames.{bit_xor}

-- 0x1EDC6F41 without its highest power, its bits turned round: 0x82F63B78
abbrev pub polynomial : ℕ
polynomial = 2197175160

-- 32 bits that are 1
abbrev pub ones : ℕ
ones = 4294967295

-- One bit is divided: the lowest falls out, and where it was 1 the polynomial is taken away.
unfoldable pub shifted : ℕ → ℕ
shifted c = if c % 2 == 1 then bit_xor (c / 2) polynomial else c / 2

-- so many bits
unfoldable pub shifted_by : ℕ → ℕ → ℕ
shifted_by zero c = c
shifted_by (suc n) c = shifted_by n (shifted c)

-- a byte more, and all bytes
unfoldable pub by_byte : ℕ → ℕ → ℕ
by_byte c b = shifted_by 8 (bit_xor c b)

unfoldable pub by_bytes : ℕ → List ℕ → ℕ
by_bytes c [] = c
by_bytes c (b ∷ w) = by_bytes (by_byte c b) w

-- the remainder is begun and ended with all bits turned
unfoldable pub crc32c : List ℕ → ℕ
crc32c w = bit_xor (by_bytes ones w) ones
