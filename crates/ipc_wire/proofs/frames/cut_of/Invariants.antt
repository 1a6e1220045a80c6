use Rattle.std.proofs.Common.{◌≡◌, length}
use Rattle.ipc_wire.specs.Streams.{cut, after}
use Rattle.ipc_wire.proofs.frames.cut_of.Given as goal

-- the requests so far and the cut of the rest are the cut of all
abbrev pub invariant-frames : goal.invariant-frames
invariant-frames l = after l.requests.items (cut l.first l.rest) ≡ cut l.fn.first l.bytes

abbrev pub decreases-frames : goal.decreases-frames
decreases-frames l = length l.rest
