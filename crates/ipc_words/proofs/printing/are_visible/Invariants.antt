use Rattle.std.proofs.Common.{◌≡◌, ◌&&◌, drop}
use Rattle.std.specs.List.{list_all}
use Rattle.ipc_words.specs.Printing.{is_visible}
use Rattle.ipc_words.proofs.printing.are_visible.Given as goal

-- all so far and all that are left are all of the bytes
abbrev pub invariant-loop-byte : goal.invariant-loop-byte
invariant-loop-byte l = (l.are_all && list_all is_visible (drop l.byte-index l.bytes)) ≡ list_all is_visible l.bytes
