use Rattle.std.proofs.Common.{◌≡◌, ◌++◌, drop}
use Rattle.std.specs.String.{string_bytes}
use Rattle.hex.specs.Hex.{encode_lower}
use Rattle.ipc_words.proofs.printing.put_pairs.Given as goal

-- the line so far and the pairs that are left are the whole line
abbrev pub invariant-loop-byte : goal.invariant-loop-byte
invariant-loop-byte l = string_bytes l.line ++ encode_lower (drop l.byte-index l.bytes) ≡ string_bytes l.initial.line ++ encode_lower l.bytes
