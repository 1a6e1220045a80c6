use Rattle.std.proofs.Common.{◌≡◌, take}
use Rattle.ipc_names.proofs.listing.names_of.Given as goal

abbrev pub invariant-loop-key : goal.invariant-loop-key
invariant-loop-key l = l.names.items ≡ take l.key-index l.keys
