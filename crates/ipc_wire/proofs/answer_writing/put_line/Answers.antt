use Rattle.ipc_fields.specs.Field.{◌⊕◌, byte, u16, u64, text}
use Rattle.ipc_wire.specs.Answers.{line_field}
use Rattle.ipc_fields.proofs.Many.{puts_on}
use Rattle.ipc_wire.proofs.answer_writing.put_line.Goals as goal

pub returns-clause-puts : goal.returns-clause-puts
unfolding line_field
returns-clause-puts c =
    let place = u64.spell c.args.line.now.place in
    let sid = u64.spell c.args.line.now.sid.0 in
    let op = byte.spell c.args.line.now.op in
    let rule = u16.spell c.args.line.now.rule in
    let name = text.spell c.args.line.now.name in
    puts_on c.args.out.now.items c.put_u64.new.out.items c.put_text.new.out.items c.put_text.result place (sid ⊕ (op ⊕ (rule ⊕ name))) c.in_ok-put_u64.ensures.puts
    (puts_on c.put_u64.new.out.items c.put_u64-2.new.out.items c.put_text.new.out.items c.put_text.result sid (op ⊕ (rule ⊕ name)) c.in_ok-put_u64-2.ensures.puts
    (puts_on c.put_u64-2.new.out.items c.put_u8.new.out.items c.put_text.new.out.items c.put_text.result op (rule ⊕ name) c.in_ok-put_u8.ensures.puts
    (puts_on c.put_u8.new.out.items c.put_u16.new.out.items c.put_text.new.out.items c.put_text.result rule name c.in_ok-put_u16.ensures.puts
    (rw c.as_slice.ensures at c.put_text.ensures.puts))))
