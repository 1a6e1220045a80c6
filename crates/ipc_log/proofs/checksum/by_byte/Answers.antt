use Rattle.std.proofs.Common.{ap, sym, ◌∙◌, ◌/◌}
use Rattle.std.specs.Int.RustNames.{bit_xor}
use Rattle.ipc_log.specs.Checksum.{shifted_by, by_byte}
use Rattle.ipc_log.proofs.TableLemmas.{eight_steps}
use Rattle.ipc_log.proofs.checksum.by_byte.Goals as goal

pub returns : goal.returns
unfolding by_byte
returns c =
    let mixed = bit_xor c.args.crc c.from.result in
    ap (bit_xor (mixed / 256)) c.remainder_of.ensures ∙ sym (eight_steps mixed) ∙ ap (λ b. shifted_by 8 (bit_xor c.args.crc b)) c.from.ensures
