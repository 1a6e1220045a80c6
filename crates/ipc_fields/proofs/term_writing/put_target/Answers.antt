use Rattle.std.proofs.Common.{[], ◌∷◌, Some}
use Rattle.ipc_fields.specs.Field.{◌⊕◌, text}
use Rattle.ipc_fields.specs.Terms.{family_field, target_field}
use Rattle.ipc_fields.proofs.Many.{puts_on}
use Rattle.ipc_fields.proofs.term_writing.put_target.Goals as goal

pub returns-in_ok-put_u8-in-Name-clause-puts : goal.returns-in_ok-put_u8-in-Name-clause-puts
unfolding target_field
returns-in_ok-put_u8-in-Name-clause-puts c =
    let name = text.spell c.in-Name.name in
    rw c.in-Name.is (puts_on c.args.out.now.items c.put_family-in-Name.new.out.items c.put_text.new.out.items c.put_text.result (family_field.spell c.in-Name.family) (Some (1 ∷ []) ⊕ name) c.in_ok-put_family-in-Name.ensures.puts
    (puts_on c.put_family-in-Name.new.out.items c.put_u8-in-Name.new.out.items c.put_text.new.out.items c.put_text.result (Some (1 ∷ [])) name c.in_ok-put_u8-in-Name.ensures.puts (rw c.as_slice.ensures at c.put_text.ensures.puts)))
