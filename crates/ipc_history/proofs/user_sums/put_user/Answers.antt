use Rattle.std.proofs.Common.{rules}
use Rattle.std.specs.Prelude.{length, flat_map}
use Rattle.std.specs.Int.{w32, w64, to_be_bytes}
use Rattle.ipc_history.specs.Users.{spelled_group, spelled_user}
use Rattle.ipc_history.proofs.UserLemmas.{five_parts}
use Rattle.ipc_history.proofs.user_sums.put_user.Goals as goal

pub returns : goal.returns
unfolding spelled_user
returns c =
    let cred = c.args.user.now.cred in
    five_parts c.args.bytes.now.items (to_be_bytes w32 cred.uid.0) (to_be_bytes w32 cred.gid.0) (to_be_bytes w64 cred.limit)
    (to_be_bytes w64 (length cred.groups)) (flat_map spelled_group cred.groups)
    c.put_number.new.bytes.items c.put_number-2.new.bytes.items c.put_long.new.bytes.items c.put_long-2.new.bytes.items c.put_groups.new.bytes.items
    (search rules) (search rules) (search rules) (search rules) (search rules)
