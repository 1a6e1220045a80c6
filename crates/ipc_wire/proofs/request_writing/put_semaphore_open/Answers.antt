use Rattle.ipc_fields.specs.Field.{◌⊕◌, u32, text}
use Rattle.ipc_fields.specs.Terms.{flags_field, mode_field}
use Rattle.ipc_wire.specs.Requests.{semaphore_flags, semaphore_open_field}
use Rattle.ipc_fields.proofs.Many.{puts_on}
use Rattle.ipc_wire.proofs.request_writing.put_semaphore_open.Goals as goal

pub returns-clause-puts : goal.returns-clause-puts
unfolding semaphore_open_field
returns-clause-puts c =
    let name = text.spell c.args.asked.now.name in
    let flags = (flags_field semaphore_flags).spell c.args.asked.now.flags in
    let mode = mode_field.spell c.args.asked.now.mode in
    let value = u32.spell c.args.asked.now.value in
    puts_on c.args.out.now.items c.put_text.new.out.items c.put_u32.new.out.items c.put_u32.result name (flags ⊕ (mode ⊕ value)) (rw c.as_slice.ensures at c.in_ok-put_text.ensures.puts)
    (puts_on c.put_text.new.out.items c.put_flags.new.out.items c.put_u32.new.out.items c.put_u32.result flags (mode ⊕ value) c.in_ok-put_flags.ensures.puts
    (puts_on c.put_flags.new.out.items c.put_u16.new.out.items c.put_u32.new.out.items c.put_u32.result mode value c.in_ok-put_u16.ensures.puts
    c.put_u32.ensures.puts))
