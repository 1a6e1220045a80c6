use Rattle.ipc_fields.specs.Field.{◌⊕◌, u32, u64}
use Rattle.ipc_fields.proofs.Many.{puts_on}
use Rattle.ipc_wire.proofs.request_writing.put_timed.Goals as goal

pub returns-clause-puts : goal.returns-clause-puts
returns-clause-puts c =
    let desc = u64.spell c.args.desc.0 in
    let number = u32.spell c.args.number in
    let deadline = u64.spell c.args.deadline in
    puts_on c.args.out.now.items c.put_u64.new.out.items c.put_u64-2.new.out.items c.put_u64-2.result desc (number ⊕ deadline) c.in_ok-put_u64.ensures.puts
    (puts_on c.put_u64.new.out.items c.put_u32.new.out.items c.put_u64-2.new.out.items c.put_u64-2.result number deadline c.in_ok-put_u32.ensures.puts
    c.put_u64-2.ensures.puts)
