use Rattle.std.proofs.Common.{◌≡◌, length, drop}
use Rattle.ipc_log.specs.Checksum.{ones, by_bytes}
use Rattle.ipc_log.proofs.checksum.crc32c.Given as goal

-- dividing on from here gives what dividing all gives
abbrev pub invariant-loop-eight : goal.invariant-loop-eight
invariant-loop-eight l = by_bytes l.crc l.rest ≡ by_bytes ones l.fn.bytes

abbrev pub decreases-loop-eight : goal.decreases-loop-eight
decreases-loop-eight l = length l.rest

abbrev pub invariant-loop-byte : goal.invariant-loop-byte
invariant-loop-byte l = by_bytes l.crc (drop l.byte-index l.byte-items) ≡ by_bytes ones l.fn.bytes
