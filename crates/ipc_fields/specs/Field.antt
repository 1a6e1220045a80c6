-- How fields are spelled and read.
use Rattle.std.specs.Prelude.{ℕ, zero, suc, ◌^◌, List, [], ◌∷◌, ◌++◌, length, take, drop, Option, Some, None, Result, Ok, Err, Bool, true, false, nat_lt, ◌==◌, ◌&&◌, if◌then◌else◌}
use Rattle.std.specs.Int.{Width, w16, w32, w64, byte_len, to_be_bytes, from_be_bytes}
use Rattle.ipc_fields.specs.declared.fault.WireFault.{WireFault}
use Rattle.ipc_fields.specs.declared.fault.WireFault.TheVariants.{BadField, Trailing}

infixl 10 ◌>>=◌
abbrev pub ◌>>=◌ : {A B : Type 0} → Result A WireFault → (A → Result B WireFault) → Result B WireFault
(Ok x) >>= f = f x
(Err e) >>= f = Err e

-- one text and then another, if there are both
infixr 6 ◌⊕◌
abbrev pub ◌⊕◌ : Option (List ℕ) → Option (List ℕ) → Option (List ℕ)
None ⊕ t = None
(Some s) ⊕ None = None
(Some s) ⊕ (Some t) = Some (s ++ t)

-- A kind of field. spell: the bytes of a value, or none where a length is too great. is_plain: the
-- value is within its type and has no bit that means nothing. read: the value in front, and the rest.
pub record Field (A : Type 0) : Type 0 where
  pub spell : A → Option (List ℕ)
  pub is_plain : A → Bool
  pub read : List ℕ → Result (A × List ℕ) WireFault

-- What fills a body after its opcode.
pub record Body (A : Type 0) : Type 0 where
  pub spell : A → Option (List ℕ)
  pub is_plain : A → Bool
  pub read : List ℕ → Result A WireFault

-- ---- kinds of field

-- the first bytes of a known number, and the rest
abbrev pub split : ℕ → List ℕ → Result (List ℕ × List ℕ) WireFault
split n w = if nat_lt (length w) n then Err BadField else Ok (take n w, drop n w)

-- a number of so many bytes, the highest first
abbrev pub number : Width → ℕ → Field ℕ
number width limit = record {
  spell = λ n. Some (to_be_bytes width n);
  is_plain = λ n. nat_lt n limit;
  read = λ w. split (byte_len width) w >>= λ x. Ok (from_be_bytes width x.0, x.1);
}

abbrev pub u16 : Field ℕ
u16 = number w16 (2 ^ 16)

abbrev pub u32 : Field ℕ
u32 = number w32 (2 ^ 32)

abbrev pub u64 : Field ℕ
u64 = number w64 (2 ^ 64)

-- two bytes of length, and so many bytes
unfoldable pub text : Field (List ℕ)
text = record {
  spell = λ t. if nat_lt (length t) (2 ^ 16) then Some (to_be_bytes w16 (length t) ++ t) else None;
  is_plain = λ t. true;
  read = λ w. u16.read w >>= λ n. split n.0 n.1;
}

-- one byte
abbrev pub byte_at : List ℕ → Result (ℕ × List ℕ) WireFault
byte_at [] = Err BadField
byte_at (b ∷ w) = Ok (b, w)

abbrev pub byte : Field ℕ
byte = record { spell = λ b. Some (b ∷ []); is_plain = λ b. nat_lt b 256; read = byte_at }

abbrev pub decoded : {A : Type 0} → Option A → List ℕ → Result (A × List ℕ) WireFault
decoded None w = Err BadField
decoded (Some x) w = Ok (x, w)

-- a value that another stands for, as an access by a byte
abbrev pub coded : {A B : Type 0} → (B → A) → (B → Bool) → (A → Option B) → Field A → Field B
coded code is_plain value f = record {
  spell = λ y. f.spell (code y);
  is_plain = is_plain;
  read = λ w. f.read w >>= λ x. decoded (value x.0) x.1;
}

-- a value that is another's parts put together
abbrev pub seen : {A B : Type 0} → (A → B) → (B → A) → Field A → Field B
seen to from f = coded from (λ y. f.is_plain (from y)) (λ x. Some (to x)) f

-- a byte 0 or 1
abbrev pub bool_code : Bool → ℕ
bool_code b = if b then 1 else 0

abbrev pub bool_of : ℕ → Option Bool
bool_of n = if n == 0 then Some false else if n == 1 then Some true else None

unfoldable pub boolean : Field Bool
boolean = coded bool_code (λ b. true) bool_of byte

-- a byte 0, or a byte 1 and a value
abbrev pub optional_spelled : {A : Type 0} → Field A → Option A → Option (List ℕ)
optional_spelled f None = Some (0 ∷ [])
optional_spelled f (Some x) = Some (1 ∷ []) ⊕ f.spell x

abbrev pub optional_plain : {A : Type 0} → Field A → Option A → Bool
optional_plain f None = true
optional_plain f (Some x) = f.is_plain x

abbrev pub optional_at : {A : Type 0} → Field A → List ℕ → Result (Option A × List ℕ) WireFault
optional_at f [] = Err BadField
optional_at f (zero ∷ w) = Ok (None, w)
optional_at f (suc zero ∷ w) = f.read w >>= λ x. Ok (Some x.0, x.1)
optional_at f (suc (suc b) ∷ w) = Err BadField

abbrev pub optional : {A : Type 0} → Field A → Field (Option A)
optional f = record { spell = optional_spelled f; is_plain = optional_plain f; read = optional_at f }

-- one field and then another
infixr 5 ◌⊗◌
abbrev pub ◌⊗◌ : {A B : Type 0} → Field A → Field B → Field (A × B)
f ⊗ g = record {
  spell = λ x. f.spell x.0 ⊕ g.spell x.1;
  is_plain = λ x. f.is_plain x.0 && g.is_plain x.1;
  read = λ w. f.read w >>= λ a. g.read a.1 >>= λ b. Ok ((a.0, b.0), b.1);
}

-- two bytes of count, and so many values
abbrev pub all_spelled : {A : Type 0} → Field A → List A → Option (List ℕ)
all_spelled f [] = Some []
all_spelled f (x ∷ xs) = f.spell x ⊕ all_spelled f xs

abbrev pub all_plain : {A : Type 0} → Field A → List A → Bool
all_plain f [] = true
all_plain f (x ∷ xs) = f.is_plain x && all_plain f xs

unfoldable pub so_many : {A : Type 0} → Field A → ℕ → List ℕ → Result (List A × List ℕ) WireFault
so_many f zero w = Ok ([], w)
so_many f (suc n) w = f.read w >>= λ x. so_many f n x.1 >>= λ xs. Ok (x.0 ∷ xs.0, xs.1)

unfoldable pub counted : {A : Type 0} → Field A → Field (List A)
counted f = record {
  spell = λ xs. if nat_lt (length xs) (2 ^ 16) then Some (to_be_bytes w16 (length xs)) ⊕ all_spelled f xs else None;
  is_plain = all_plain f;
  read = λ w. u16.read w >>= λ n. so_many f n.0 n.1;
}

-- ---- kinds of body

abbrev pub ended : List ℕ → Result (Unit {0}) WireFault
ended [] = Ok tt
ended (b ∷ w) = Err Trailing

-- a value that nothing follows
abbrev pub alone : {A : Type 0} → A → List ℕ → Result A WireFault
alone x w = ended w >>= λ u. Ok x

-- no field
abbrev pub nothing : Body (Unit {0})
nothing = record { spell = λ x. Some []; is_plain = λ x. true; read = ended }

-- a field and no more
abbrev pub only : {A : Type 0} → Field A → Body A
only f = record {
  spell = f.spell;
  is_plain = f.is_plain;
  read = λ w. f.read w >>= λ x. alone x.0 x.1;
}

-- a field, and all bytes up to the end
abbrev pub then_rest : {A : Type 0} → Field A → Body (A × List ℕ)
then_rest f = record {
  spell = λ x. f.spell x.0 ⊕ Some x.1;
  is_plain = λ x. f.is_plain x.0;
  read = f.read;
}
