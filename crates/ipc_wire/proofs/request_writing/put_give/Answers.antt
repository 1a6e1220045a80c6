use Rattle.ipc_fields.specs.Field.{u64}
use Rattle.ipc_fields.proofs.Many.{puts_on}
use Rattle.ipc_wire.proofs.request_writing.put_give.Goals as goal

pub returns-clause-puts : goal.returns-clause-puts
returns-clause-puts c = puts_on c.args.out.now.items c.put_u64.new.out.items c.put_u64-2.new.out.items c.put_u64-2.result (u64.spell c.args.desc.0) (u64.spell c.args.taker.0) c.in_ok-put_u64.ensures.puts c.put_u64-2.ensures.puts
