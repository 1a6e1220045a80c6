use Rattle.std.proofs.Common.{sym, ap, ◌∙◌, arith, rules}
use Rattle.ipc_log.proofs.SlicingLemmas.{eight_parts, eight_apart}
use Rattle.ipc_log.proofs.checksum.by_eight.Goals as goal

pub returns : goal.returns
returns c =
    rw (c.remainder_of.ensures, c.remainder_of-2.ensures, c.remainder_of-3.ensures, c.remainder_of-4.ensures, c.remainder_of-5.ensures, c.remainder_of-6.ensures, c.remainder_of-7.ensures, c.remainder_of-8.ensures)
    (ap (λ cs. eight_parts cs c.args.bytes.now) c.to_le_bytes.ensures ∙ sym (eight_apart c.args.bytes.now c.args.crc (search rules) (omega arith)))
