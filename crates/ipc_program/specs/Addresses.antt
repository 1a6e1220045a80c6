-- Addresses of files, and the modes of these.
use Rattle.std.specs.Prelude.{◌+◌, ◌-◌, ◌*◌, ◌==◌, ◌&&◌, ℕ, Bool, false, nat_eq, nat_lt, not, List, length, slice_index, Option, Some, None, codes, is_some, if◌then◌else◌}
use Rattle.std.specs.List.{list_all, starts_with}
use Rattle.std.specs.Option.{option_map_or}
use Rattle.std.specs.Path.{rsplit_once}
use Rattle.ipc_words.specs.Numbers.{decimal_within, is_octal_digit}

-- the path of a file stands behind `unix:`
abbrev pub is_unix : List ℕ → Bool
is_unix address = starts_with nat_eq address (codes "unix:")

-- the path of a folder with a socket for each user stands behind `unix-users:`
abbrev pub is_unix_users : List ℕ → Bool
is_unix_users address = starts_with nat_eq address (codes "unix-users:")

-- a host is any text but the empty one, and a port a number of 16 bits
abbrev pub are_host_and_port : List ℕ × List ℕ → Bool
are_host_and_port (host, port) = not (length host == 0) && is_some (decimal_within 65535 port)

-- they stand round the last colon
abbrev pub is_host_and_port : List ℕ → Bool
is_host_and_port address = option_map_or are_host_and_port (rsplit_once 58 address) false

-- the address of one listener: a file's, which has a path, or HOST:PORT
abbrev pub is_endpoint : List ℕ → Bool
is_endpoint address =
    if is_unix address then nat_lt 5 (length address) else not (is_unix_users address) && is_host_and_port address

-- the permission bits that a word writes, as 0600: a zero and three octal digits
abbrev pub mode_of_word : List ℕ → Option ℕ
mode_of_word word =
    if (length word == 4) && (slice_index word 0 == 48) && list_all is_octal_digit word
    then Some ((slice_index word 1 - 48) * 64 + (slice_index word 2 - 48) * 8 + (slice_index word 3 - 48))
    else None
