use Rattle.std.proofs.Common.{Some}
use Rattle.ipc_fields.specs.Field.{◌⊗◌, u32, u64}
use Rattle.ipc_fields.specs.Terms.{desc_field}
use Rattle.ipc_fields.proofs.Many.{puts_on}
use Rattle.ipc_wire.proofs.request_writing.put_timed_send.Goals as goal

pub returns-clause-puts : goal.returns-clause-puts
returns-clause-puts c =
    let timed = (desc_field ⊗ u32 ⊗ u64).spell (c.args.desc, (c.args.priority, c.args.deadline)) in
    puts_on c.args.out.now.items c.put_timed.new.out.items c.put_bytes.new.out.items c.put_bytes.result timed (Some c.args.bytes.now) c.in_ok-put_timed.ensures.puts
    (rw c.as_slice.ensures at c.put_bytes.ensures.puts)
