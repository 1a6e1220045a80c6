use Rattle.std.proofs.Common.{refl}
use Rattle.ipc_state.proofs.changing.bits_of.Goals as goal

pub returns-in-Dir : goal.returns-in-Dir
returns-in-Dir c = rw (c.in-Dir.is) refl

pub returns-in-Name : goal.returns-in-Name
returns-in-Name c = rw (c.in-Name.is) refl
