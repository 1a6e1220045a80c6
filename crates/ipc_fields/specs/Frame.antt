-- Frames: a length, and a body.
use Rattle.std.specs.Prelude.{ℕ, List, ◌++◌, length, take, drop, Option, Some, None, Result, Ok, Err, nat_lt, nat_le, ◌==◌, if◌then◌else◌}
use Rattle.std.specs.Int.{w32, to_be_bytes, from_be_bytes}
use Rattle.ipc_fields.specs.declared.fault.WireFault.{WireFault}
use Rattle.ipc_fields.specs.declared.fault.WireFault.TheVariants.{TooLong, Empty}
use Rattle.ipc_fields.specs.Field.{◌>>=◌}

-- the longest body
abbrev pub max_body : ℕ
max_body = 16777300

-- a body behind its length
abbrev pub frame : List ℕ → List ℕ
frame body = to_be_bytes w32 (length body) ++ body

unfoldable pub framed : Option (List ℕ) → Option (List ℕ)
framed None = None
framed (Some body) = if nat_le (length body) max_body then Some (frame body) else None

-- the first n bytes and the rest, if they are there
abbrev pub body_of : ℕ → List ℕ → Result (Option (List ℕ × List ℕ)) WireFault
body_of n w =
    if n == 0 then Err Empty
    else if nat_lt max_body n then Err TooLong
    else if nat_lt (length w) n then Ok None
    else Ok (Some (take n w, drop n w))

-- The body in front and the rest, none as long as it isn't whole, or what is wrong with its length.
unfoldable pub body_at : List ℕ → Result (Option (List ℕ × List ℕ)) WireFault
body_at w = if nat_lt (length w) 4 then Ok None else body_of (from_be_bytes w32 (take 4 w)) (drop 4 w)

abbrev pub read_body : {A : Type 0} → (List ℕ → Result A WireFault) → Option (List ℕ × List ℕ) → Result (Option (A × List ℕ)) WireFault
read_body read None = Ok None
read_body read (Some x) = read x.0 >>= λ y. Ok (Some (y, x.1))

-- A whole frame's value and the rest, none where no frame is whole yet, or the fault in front.
abbrev pub front_by : {A : Type 0} → (List ℕ → Result A WireFault) → List ℕ → Result (Option (A × List ℕ)) WireFault
front_by read w = body_at w >>= read_body read
