use Rattle.ipc_wire.specs.declared.request.Request.TheVariants as request
use Rattle.ipc_log.specs.Fields.{call_field}
use Rattle.ipc_log.proofs.WritingLemmas.{puts_of, begins_of}
use Rattle.ipc_log.proofs.record_writing.put_call.Goals as goal

pub returns-clause-puts : goal.returns-clause-puts
unfolding call_field
returns-clause-puts c = rw (← c.in_ok-copied.ensures) (puts_of c.args.out.now.items c.put_request.new.out.items c.put_request.result _ c.put_request.ensures.put c.put_request.ensures.too_long)

pub returns-clause-begins : goal.returns-clause-begins
returns-clause-begins c = begins_of c.args.out.now.items c.put_request.new.out.items c.put_request.result _ c.put_request.ensures.put c.put_request.ensures.err
