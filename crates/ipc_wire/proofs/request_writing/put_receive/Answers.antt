use Rattle.ipc_fields.specs.Field.{u32, u64}
use Rattle.ipc_fields.proofs.Many.{puts_on}
use Rattle.ipc_wire.proofs.request_writing.put_receive.Goals as goal

pub returns-clause-puts : goal.returns-clause-puts
returns-clause-puts c = puts_on c.args.out.now.items c.put_u64.new.out.items c.put_u32.new.out.items c.put_u32.result (u64.spell c.args.desc.0) (u32.spell c.args.length) c.in_ok-put_u64.ensures.puts c.put_u32.ensures.puts
