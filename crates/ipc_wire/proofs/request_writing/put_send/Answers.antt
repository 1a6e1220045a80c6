use Rattle.std.proofs.Common.{Some, Ok}
use Rattle.ipc_fields.specs.Field.{◌⊕◌, u32, u64}
use Rattle.ipc_fields.proofs.Many.{puts_on}
use Rattle.ipc_wire.proofs.request_writing.put_send.Goals as goal

pub returns-clause-puts : goal.returns-clause-puts
returns-clause-puts c =
    let desc = u64.spell c.args.desc.0 in
    let priority = u32.spell c.args.priority in
    let rest = Some c.args.bytes.now in
    puts_on c.args.out.now.items c.put_u32.new.out.items c.put_bytes.new.out.items c.put_bytes.result (desc ⊕ priority) rest (puts_on {X = Unit {0}} c.args.out.now.items c.put_u64.new.out.items c.put_u32.new.out.items (Ok tt) desc priority c.in_ok-put_u64.ensures.puts c.in_ok-put_u32.ensures.puts)
    (rw c.as_slice.ensures at c.put_bytes.ensures.puts)
