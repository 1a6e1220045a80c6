-- Names are strings of bytes, compared byte by byte. What has the form of a name, and how long it may be.
use Rattle.std.specs.Prelude.{Bool, true, false, ℕ, ◌&&◌, ◌||◌, ◌==◌, not, List, [], ◌∷◌, length, nat_lt, codes}
use Rattle.std.specs.List.{list_any}
use Rattle.std.specs.Str.{bytes_eq}
use Rattle.ipc_terms.specs.declared.ids.Family.{Family}
use Rattle.ipc_terms.specs.declared.ids.Family.TheVariants.{Mq, Sem}

-- whether both are the same family
abbrev pub same_family : Family → Family → Bool
same_family Mq Mq = true
same_family Sem Sem = true
same_family _ _ = false

-- whether both are the same bytes
abbrev pub same_name : List ℕ → List ℕ → Bool
same_name a b = bytes_eq a b

-- a slash and then one or more bytes, none of them a slash or zero, and neither /. nor /..
abbrev pub has_name_form : List ℕ → Bool
has_name_form [] = false
has_name_form (first ∷ rest) =
    (first == 47) && nat_lt 0 (length rest) && not (list_any (λ b. (b == 47) || (b == 0)) rest)
    && not (same_name rest (codes ".")) && not (same_name rest (codes ".."))

-- the most bytes that a name of the family may have, the slash counted
abbrev pub name_limit : Family → ℕ
name_limit Mq = 256
name_limit Sem = 252

-- the name has more bytes in all than its family's limit
abbrev pub is_long_name : Family → List ℕ → Bool
is_long_name family name = nat_lt (name_limit family) (length name)
