use Rattle.ipc_fields.specs.Field.{◌⊕◌, u64}
use Rattle.ipc_fields.proofs.Many.{puts_on}
use Rattle.ipc_log.specs.Fields.{digest_field}
use Rattle.ipc_log.proofs.retelling.put_digest.Goals as goal

pub returns-clause-puts : goal.returns-clause-puts
unfolding digest_field
returns-clause-puts c =
    let first = u64.spell c.args.digest.0 in
    let second = u64.spell c.args.digest.1 in
    let third = u64.spell c.args.digest.2 in
    let fourth = u64.spell c.args.digest.3 in
    let result = c.put_u64-4.result in
    let new = c.put_u64-4.new.out.items in
    puts_on c.args.out.now.items c.put_u64.new.out.items new result first (second ⊕ (third ⊕ fourth)) c.in_ok-put_u64.ensures.puts
    (puts_on c.put_u64.new.out.items c.put_u64-2.new.out.items new result second (third ⊕ fourth) c.in_ok-put_u64-2.ensures.puts
    (puts_on c.put_u64-2.new.out.items c.put_u64-3.new.out.items new result third fourth c.in_ok-put_u64-3.ensures.puts
    c.put_u64-4.ensures.puts))
