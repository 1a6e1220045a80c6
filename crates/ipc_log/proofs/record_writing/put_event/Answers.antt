use Rattle.std.proofs.Common.{[], ◌∷◌, Some}
use Rattle.ipc_fields.specs.Field.{◌⊕◌, u64}
use Rattle.ipc_fields.proofs.Many.{puts_on}
use Rattle.ipc_log.specs.Fields.{call_field, event_field}
use Rattle.ipc_log.proofs.record_writing.put_event.Goals as goal

pub returns-in_ok-put_u64-in-Do-clause-puts : goal.returns-in_ok-put_u64-in-Do-clause-puts
unfolding event_field
returns-in_ok-put_u64-in-Do-clause-puts c =
    let sid = u64.spell c.in-Do.sid.0 in
    let call = call_field.spell c.in-Do.call in
    rw c.in-Do.is (puts_on c.args.out.now.items c.put_u8-in-Do.new.out.items c.put_call.new.out.items c.put_call.result (Some (2 ∷ [])) (sid ⊕ call) c.in_ok-put_u8-in-Do.ensures.puts
    (puts_on c.put_u8-in-Do.new.out.items c.put_u64.new.out.items c.put_call.new.out.items c.put_call.result sid call c.in_ok-put_u64-in-Do.ensures.puts c.put_call.ensures.puts))
