-- What is read of the texts of /proc.
use Rattle.std.specs.Prelude.{◌≡◌, ◌≢◌, ℕ, zero, suc, ◌+◌, ◌<◌, ◌==◌, List, ◌∷◌, ◌++◌, length, slice_index}
use Rattle.std.specs.List.{after_first, before_first}
use Rattle.std.specs.Str.Parse.{IsNumeral, digits_value, without_leading_plus}

-- the text behind so many spaces
abbrev pub behind_spaces : ℕ → List ℕ → List ℕ
behind_spaces zero text = text
behind_spaces (suc spaces) text = after_first (λ byte. byte == 32) (behind_spaces spaces text)

-- the word behind so many spaces
abbrev pub word_behind : ℕ → List ℕ → List ℕ
word_behind spaces text = before_first (λ byte. byte == 32) (behind_spaces spaces text)

-- the word writes the number
abbrev pub IsNumber : List ℕ → ℕ → Type 0
IsNumber word number = IsNumeral 10 (without_leading_plus word) × (number ≡ digits_value 10 (without_leading_plus word))

-- a `)` stands before these bytes, and none in them
abbrev pub IsBehindBracket : List ℕ → List ℕ → Type 0
IsBehindBracket text behind =
    (front : List ℕ) × (text ≡ front ++ 41 ∷ behind) × ((i : ℕ) → i < length behind → slice_index behind i ≢ 41)

-- the sum of fields 14 and 15, where field 2 ends with the last `)`
abbrev pub AreTicks : List ℕ → ℕ → Type 0
AreTicks stat ticks =
    (behind : List ℕ) × (user : ℕ) × (system : ℕ) × IsBehindBracket stat behind
    × IsNumber (word_behind 12 behind) user × IsNumber (word_behind 13 behind) system × (ticks ≡ user + system)
