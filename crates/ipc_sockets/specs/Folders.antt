-- Names of files in a folder with a lock.
use Rattle.std.specs.Prelude.{ℕ, Bool, List, length, nat_lt, not, codes, ◌==◌, ◌&&◌, ◌||◌}
use Rattle.std.specs.List.{list_any}
use Rattle.std.specs.Str.{bytes_eq}

-- the folder itself, the one above it, and its lock
abbrev pub is_taken : List ℕ → Bool
is_taken name = bytes_eq name (codes ".lock") || bytes_eq name (codes ".") || bytes_eq name (codes "..")

-- a slash, byte 47, leads to another folder
abbrev pub is_file_name : List ℕ → Bool
is_file_name name = not (is_taken name) && nat_lt 0 (length name) && not (list_any (λ byte. byte == 47) name)
