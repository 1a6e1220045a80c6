use Rattle.ipc_fields.specs.Field.{◌⊕◌, u16, u32}
use Rattle.ipc_fields.proofs.Many.{puts_on}
use Rattle.ipc_wire.specs.Answers.{facts_field}
use Rattle.ipc_wire.proofs.answer_writing.put_facts.Goals as goal

pub returns-clause-puts : goal.returns-clause-puts
unfolding facts_field
returns-clause-puts c =
    let owner = u32.spell c.args.facts.now.owner.0 in
    let group = u32.spell c.args.facts.now.group.0 in
    let mode = u16.spell c.args.facts.now.mode.0 in
    puts_on c.args.out.now.items c.put_u32.new.out.items c.put_u16.new.out.items c.put_u16.result owner (group ⊕ mode) c.in_ok-put_u32.ensures.puts
    (puts_on c.put_u32.new.out.items c.put_u32-2.new.out.items c.put_u16.new.out.items c.put_u16.result group mode c.in_ok-put_u32-2.ensures.puts c.put_u16.ensures.puts)
