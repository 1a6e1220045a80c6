use Rattle.ipc_fields.specs.Field.{◌⊕◌, u64}
use Rattle.ipc_fields.proofs.Many.{puts_on}
use Rattle.ipc_log.specs.Fields.{digest_field, retelling_field}
use Rattle.ipc_log.proofs.retelling.put_retelling.Goals as goal

pub returns-clause-puts : goal.returns-clause-puts
unfolding retelling_field
returns-clause-puts c =
    let generation = u64.spell c.args.retelling.generation in
    let records = u64.spell c.args.retelling.records in
    let old_records = u64.spell c.args.retelling.old_records in
    let digest = digest_field.spell c.args.retelling.old_digest in
    let result = c.put_digest.result in
    let new = c.put_digest.new.out.items in
    puts_on c.args.out.now.items c.put_u64.new.out.items new result generation (records ⊕ (old_records ⊕ digest)) c.in_ok-put_u64.ensures.puts
    (puts_on c.put_u64.new.out.items c.put_u64-2.new.out.items new result records (old_records ⊕ digest) c.in_ok-put_u64-2.ensures.puts
    (puts_on c.put_u64-2.new.out.items c.put_u64-3.new.out.items new result old_records digest c.in_ok-put_u64-3.ensures.puts
    c.put_digest.ensures.puts))
