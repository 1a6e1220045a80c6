use Rattle.std.proofs.Common.{ap, ◌∙◌}
use Rattle.std.specs.Int.RustNames.{bit_xor}
use Rattle.ipc_log.specs.Checksum.{ones, crc32c}
use Rattle.ipc_log.proofs.ChecksumLemmas.{goes_on, is_done}
use Rattle.ipc_log.proofs.SlicingLemmas.{in_two}
use Rattle.ipc_log.proofs.checksum.crc32c.Goals as goal

pub loop-eight-preserved : goal.loop-eight-preserved
loop-eight-preserved c =
    rw (c.by_eight-crc.ensures, c.in-Some.ensures.cases.0, c.in-Some.ensures.cases.1) (in_two 8 c.loop-eight.crc c.loop-eight.rest.now ∙ c.loop-eight.invariant)

pub loop-byte-preserved : goal.loop-byte-preserved
loop-byte-preserved c = rw c.by_byte-crc.ensures (goes_on c.loop-byte.crc _ c.loop-byte.byte-index _ _ c.loop-byte-test.true c.loop-byte.invariant)

pub returns : goal.returns
unfolding crc32c
returns c = ap (λ crc. bit_xor crc ones) (is_done c.loop-byte.crc _ c.loop-byte.byte-index _ c.loop-byte-test.false c.loop-byte.invariant)
