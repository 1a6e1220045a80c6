use Rattle.ipc_fields.specs.Field.{◌⊕◌, text, optional}
use Rattle.ipc_fields.specs.Terms.{access_field, flags_field, mode_field, attributes_field}
use Rattle.ipc_wire.specs.Requests.{queue_flags, queue_open_field}
use Rattle.ipc_fields.proofs.Many.{puts_on}
use Rattle.ipc_wire.proofs.request_writing.put_queue_open.Goals as goal

pub returns-clause-puts : goal.returns-clause-puts
unfolding queue_open_field
returns-clause-puts c =
    let name = text.spell c.args.asked.now.name in
    let access = access_field.spell c.args.asked.now.access in
    let flags = (flags_field queue_flags).spell c.args.asked.now.flags in
    let mode = mode_field.spell c.args.asked.now.mode in
    let attributes = (optional attributes_field).spell c.args.asked.now.attributes in
    puts_on c.args.out.now.items c.put_text.new.out.items c.put_optional_attributes.new.out.items c.put_optional_attributes.result name (access ⊕ (flags ⊕ (mode ⊕ attributes))) (rw c.as_slice.ensures at c.in_ok-put_text.ensures.puts)
    (puts_on c.put_text.new.out.items c.put_access.new.out.items c.put_optional_attributes.new.out.items c.put_optional_attributes.result access (flags ⊕ (mode ⊕ attributes)) c.in_ok-put_access.ensures.puts
    (puts_on c.put_access.new.out.items c.put_flags.new.out.items c.put_optional_attributes.new.out.items c.put_optional_attributes.result flags (mode ⊕ attributes) c.in_ok-put_flags.ensures.puts
    (puts_on c.put_flags.new.out.items c.put_u16.new.out.items c.put_optional_attributes.new.out.items c.put_optional_attributes.result mode attributes c.in_ok-put_u16.ensures.puts
    c.put_optional_attributes.ensures.puts)))
