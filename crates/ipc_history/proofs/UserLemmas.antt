-- Parts that are put one behind the other.
use Rattle.std.proofs.Common.{◌≡◌, ℕ, List, ◌++◌, refl, append_assoc}

pub five_parts : (old a b c d e first second third fourth fifth : List ℕ) → first ≡ old ++ a → second ≡ first ++ b → third ≡ second ++ c → fourth ≡ third ++ d
    → fifth ≡ fourth ++ e → fifth ≡ old ++ (a ++ (b ++ (c ++ (d ++ e))))
five_parts old a b c d e first second third fourth fifth one two three four five =
    rw (
      five,
      four,
      three,
      two,
      one,
      append_assoc old a b,
      append_assoc old (a ++ b) c,
      append_assoc a b c,
      append_assoc old (a ++ (b ++ c)) d,
      append_assoc a (b ++ c) d,
      append_assoc b c d,
      append_assoc old (a ++ (b ++ (c ++ d))) e,
      append_assoc a (b ++ (c ++ d)) e,
      append_assoc b (c ++ d) e,
      append_assoc c d e,
    ) refl
