use Rattle.std.proofs.Common.{length}
use Rattle.ipc_hub.specs.Stepping.{StepsFront, IsEnd, Goes}
use Rattle.ipc_hub.proofs.stepping.step_frames.Given as goal

-- what is left is cut into the requests that were not stepped, and stands at the end
abbrev pub invariant-frames : goal.invariant-frames
invariant-frames l = record { frames : StepsFront l.fn.core.core l.fn.session l.fn.bytes l.core.core l.session l.rest; rest : IsEnd l.rest l.fn.bytes; goes : Goes l.own l.most l.fn.core l.fn.session l.core l.session }

abbrev pub decreases-frames : goal.decreases-frames
decreases-frames l = length l.rest
