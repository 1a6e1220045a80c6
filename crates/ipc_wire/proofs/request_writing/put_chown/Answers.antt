use Rattle.ipc_fields.specs.Field.{◌⊕◌, optional}
use Rattle.ipc_fields.specs.Terms.{uid_field, gid_field, target_field}
use Rattle.ipc_fields.proofs.Many.{puts_on}
use Rattle.ipc_wire.proofs.request_writing.put_chown.Goals as goal

pub returns-clause-puts : goal.returns-clause-puts
returns-clause-puts c =
    let owner = (optional uid_field).spell c.args.owner in
    let group = (optional gid_field).spell c.args.group in
    let target = target_field.spell c.args.target.now in
    puts_on c.args.out.now.items c.put_optional_uid.new.out.items c.put_target.new.out.items c.put_target.result owner (group ⊕ target) c.in_ok-put_optional_uid.ensures.puts
    (puts_on c.put_optional_uid.new.out.items c.put_optional_gid.new.out.items c.put_target.new.out.items c.put_target.result group target c.in_ok-put_optional_gid.ensures.puts
    c.put_target.ensures.puts)
