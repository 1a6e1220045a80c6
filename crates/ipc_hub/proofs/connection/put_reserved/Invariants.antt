use Rattle.std.proofs.Common.{◌≡◌, ◌+◌, ◌++◌, length, take, vec_capacity}
use Rattle.ipc_hub.proofs.connection.put_reserved.Given as goal

abbrev pub invariant-loop-byte : goal.invariant-loop-byte
invariant-loop-byte l = (l.bytes.items ≡ l.fn.bytes.items ++ take l.byte-index l.more) × (length l.bytes.items ≡ length l.fn.bytes.items + l.byte-index) × (vec_capacity l.bytes ≡ vec_capacity l.fn.bytes)
