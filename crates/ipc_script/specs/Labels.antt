-- What a table of started sessions, the oldest first, says of labels.
use Rattle.std.specs.Prelude.{Bool, ℕ, ◌-◌, ◌^◌, ◌==◌, ◌&&◌, ◌||◌, nat_le, List, reverse, length, Option, find, unwrap_or}
use Rattle.std.specs.List.{list_all}
use Rattle.std.specs.Option.{option_map}
use Rattle.std.specs.Str.{bytes_eq}
use Rattle.ipc_terms.specs.declared.ids.Sid.{Sid}
use Rattle.ipc_script.specs.declared.labels.Started.{Started}

-- a lower-case ASCII letter or a digit
abbrev pub is_label_byte : ℕ → Bool
is_label_byte b = (nat_le 97 b && nat_le b 122) || (nat_le 48 b && nat_le b 57)

-- 1 to 16 lower-case ASCII letters or digits
abbrev pub label_form : List ℕ → Bool
label_form word = nat_le 1 (length word) && nat_le (length word) 16 && list_all is_label_byte word

-- the session that a label started last
abbrev pub newest_of : List Started → List ℕ → Option Sid
newest_of started label = option_map (λ s. s.sid) (find (λ s. bytes_eq s.label label) (reverse started))

-- the session that acts for a label: the one that it started last, live or not, and nobody where it never started one
abbrev pub acting_for : List Started → List ℕ → Sid
acting_for started label = unwrap_or (newest_of started label) (record { 0 = 2 ^ 64 - 1 })

-- the label that started a session
abbrev pub starter_of : List Started → Sid → Option (List ℕ)
starter_of started sid = option_map (λ s. s.label) (find (λ s. s.sid.0 == sid.0) started)

-- the label under which an answer to a session is printed: the one that started it, and where none did
-- the step's own
abbrev pub label_for : List Started → List ℕ → Sid → List ℕ
label_for started own sid = unwrap_or (starter_of started sid) own
