use Rattle.ipc_fields.specs.Field.{u16, u64}
use Rattle.ipc_fields.proofs.Many.{puts_on}
use Rattle.ipc_wire.proofs.request_writing.put_audit.Goals as goal

pub returns-clause-puts : goal.returns-clause-puts
returns-clause-puts c = puts_on c.args.out.now.items c.put_u64.new.out.items c.put_u16.new.out.items c.put_u16.result (u64.spell c.args.start) (u16.spell c.args.count) c.in_ok-put_u64.ensures.puts c.put_u16.ensures.puts
