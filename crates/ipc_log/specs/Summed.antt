-- Bytes with their sum behind them.
use Rattle.std.specs.Prelude.{ℕ, ◌+◌, Bool, List, ◌++◌, length, take, drop, Option, Some, None, Result, Ok, Err, nat_lt, nat_eq, if◌then◌else◌}
use Rattle.std.specs.Cmp.Lexicographic.{pointwise}
use Rattle.std.specs.Int.{w32, to_be_bytes}
use Rattle.ipc_log.specs.declared.fault.TrailFault.{TrailFault}
use Rattle.ipc_log.specs.declared.fault.TrailFault.TheVariants.{BadSum}
use Rattle.ipc_log.specs.Checksum.{crc32c}

-- their sum, in four bytes
abbrev pub sum_of : List ℕ → List ℕ
sum_of w = to_be_bytes w32 (crc32c w)

abbrev pub summed : List ℕ → List ℕ
summed w = w ++ sum_of w

abbrev pub same_bytes : List ℕ → List ℕ → Bool
same_bytes v w = pointwise nat_eq v w

-- the first n bytes, where the four behind them are their sum; none as long as they and their sum aren't whole
unfoldable pub summed_at : ℕ → List ℕ → Result (Option (List ℕ)) TrailFault
summed_at n w =
    if nat_lt (length w) (n + 4) then Ok None
    else if same_bytes (take 4 (drop n w)) (sum_of (take n w)) then Ok (Some (take n w))
    else Err BadSum
