-- The grammar of a line of the user file: name:key:uid:gid:groups:limit.
use Rattle.std.specs.Prelude.{Bool, ℕ, ◌&&◌, ◌||◌, ◌==◌, not, nat_le, nat_lt, List, [], ◌∷◌, length, Option, Some, None, if◌then◌else◌, slice_index}
use Rattle.std.specs.Option.{option_map}
use Rattle.std.specs.List.{list_all, slice_split}
use Rattle.std.specs.Char.{is_ascii_lowercase, is_ascii_digit, is_ascii_alphanumeric}
use Rattle.std.specs.Str.Parse.{digits_value}
use Rattle.ipc_terms.specs.declared.ids.Gid.{Gid}
use Rattle.ipc_terms.specs.declared.limits.TheConstants.{LIMIT_MAX}
use Rattle.ipc_access.specs.declared.class.Cred.{Cred}
use Rattle.ipc_access.specs.declared.users.User.{User}

-- a lower-case letter, a digit, an underscore (95) or a hyphen (45)
abbrev pub is_name_byte : ℕ → Bool
is_name_byte byte = ((is_ascii_lowercase byte || is_ascii_digit byte) || (byte == 95)) || (byte == 45)

-- 1 to 32 of them
abbrev pub is_name : List ℕ → Bool
is_name text = (nat_lt 0 (length text) && nat_le (length text) 32) && list_all is_name_byte text

-- 1 to 64 letters and digits
abbrev pub is_key : List ℕ → Bool
is_key text = (nat_lt 0 (length text) && nat_le (length text) 64) && list_all is_ascii_alphanumeric text

-- digits, of which the first is 0 (48) only where it stands alone
abbrev pub is_number : List ℕ → Bool
is_number text = (nat_lt 0 (length text) && list_all is_ascii_digit text)
    && ((length text == 1) || not (slice_index text 0 == 48))

-- the number that the text spells, if it is at most so large
abbrev pub number_up_to : ℕ → List ℕ → Option ℕ
number_up_to most text =
    if is_number text && nat_le (digits_value 10 text) most then Some (digits_value 10 text) else None

-- a user ID or a group ID
abbrev pub id_of : List ℕ → Option ℕ
id_of text = number_up_to 4294967295 text

abbrev pub gid_of : List ℕ → Option Gid
gid_of text = option_map (λ id. record { 0 = id }) (id_of text)

-- of two readings the second, which may use what the first gave; nothing where either gives nothing
infixl 10 ◌>>=◌
abbrev pub ◌>>=◌ : {X Y : Type 0} → Option X → (X → Option Y) → Option Y
None >>= next = None
(Some x) >>= next = next x

-- what each of the texts spells, if each spells something
abbrev pub each_of : {X : Type 0} → (List ℕ → Option X) → List (List ℕ) → Option (List X)
each_of spells [] = Some []
each_of spells (text ∷ texts) = do
  first ← spells text
  others ← each_of spells texts
  Some (first ∷ others)

-- nothing, or 1 to 64 group IDs parted by commas (44)
abbrev pub groups_of : List ℕ → Option (List Gid)
groups_of [] = Some []
groups_of (byte ∷ bytes) =
    if nat_le (length (slice_split (λ b. b == 44) (byte ∷ bytes))) 64
    then each_of gid_of (slice_split (λ b. b == 44) (byte ∷ bytes))
    else None

-- nothing, for 819,200 bytes, or their number
abbrev pub limit_of : List ℕ → Option ℕ
limit_of [] = Some 819200
limit_of (byte ∷ bytes) = number_up_to LIMIT_MAX (byte ∷ bytes)

-- the credentials that the last four fields spell
abbrev pub credentials_of : List ℕ → List ℕ → List ℕ → List ℕ → Option Cred
credentials_of uid_text gid_text groups_text limit_text = do
  uid ← id_of uid_text
  gid ← id_of gid_text
  groups ← groups_of groups_text
  limit ← limit_of limit_text
  Some (record { uid = record { 0 = uid }; gid = record { 0 = gid }; groups = groups; limit = limit })

-- the user that six fields spell
abbrev pub user_of_fields : List (List ℕ) → Option User
user_of_fields (name ∷ key ∷ uid ∷ gid ∷ groups ∷ limit ∷ []) =
    if is_name name && is_key key
    then option_map (λ cred. record { name = name; key = key; cred = cred }) (credentials_of uid gid groups limit)
    else None
user_of_fields _ = None

-- the one user that a line spells, or none: its fields are parted by colons (58)
unfoldable pub user_of : List ℕ → Option User
user_of line = user_of_fields (slice_split (λ b. b == 58) line)
