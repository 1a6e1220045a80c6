use Rattle.std.proofs.Common.{◌≡◌, drop}
use Rattle.ipc_access.specs.UserLine.{gid_of, each_of}
use Rattle.ipc_access.proofs.LineLemmas.{behind, with_front}
use Rattle.ipc_access.proofs.line.each_group.Given as goal

abbrev pub invariant-loop-text : goal.invariant-loop-text
invariant-loop-text l =
    with_front l.groups.items (each_of gid_of (behind (drop l.text-index l.texts))) ≡ each_of gid_of (behind l.texts)
