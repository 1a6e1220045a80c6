use Rattle.ipc_fields.specs.Field.{◌⊕◌, u32, u64}
use Rattle.ipc_fields.proofs.Beginning.{begins_on}
use Rattle.ipc_fields.proofs.Many.{puts_on}
use Rattle.ipc_log.specs.Fields.{head_field, retelling_field}
use Rattle.ipc_log.proofs.head.put_fields.Goals as goal

pub returns-clause-puts : goal.returns-clause-puts
unfolding head_field
returns-clause-puts c =
    let first = u64.spell c.args.head.now.first in
    let msg_max = u32.spell c.args.head.now.msg_max in
    let msgsize_max = u32.spell c.args.head.now.msgsize_max in
    let queues_max = u32.spell c.args.head.now.queues_max in
    let users = u64.spell c.args.head.now.users in
    let retelling = retelling_field.spell c.args.head.now.retelling in
    let result = c.put_retelling.result in
    let new = c.put_retelling.new.out.items in
    puts_on c.args.out.now.items c.put_u64.new.out.items new result first (msg_max ⊕ (msgsize_max ⊕ (queues_max ⊕ (users ⊕ retelling)))) c.in_ok-put_u64.ensures.puts
    (puts_on c.put_u64.new.out.items c.put_u32.new.out.items new result msg_max (msgsize_max ⊕ (queues_max ⊕ (users ⊕ retelling))) c.in_ok-put_u32.ensures.puts
    (puts_on c.put_u32.new.out.items c.put_u32-2.new.out.items new result msgsize_max (queues_max ⊕ (users ⊕ retelling)) c.in_ok-put_u32-2.ensures.puts
    (puts_on c.put_u32-2.new.out.items c.put_u32-3.new.out.items new result queues_max (users ⊕ retelling) c.in_ok-put_u32-3.ensures.puts
    (puts_on c.put_u32-3.new.out.items c.put_u64-2.new.out.items new result users retelling c.in_ok-put_u64-2.ensures.puts
    c.put_retelling.ensures.puts))))

pub returns-clause-begins : goal.returns-clause-begins
returns-clause-begins c =
    begins_on c.put_u64.ensures.begins (begins_on c.put_u32.ensures.begins (begins_on c.put_u32-2.ensures.begins
    (begins_on c.put_u32-3.ensures.begins (begins_on c.put_u64-2.ensures.begins c.put_retelling.ensures.begins))))
