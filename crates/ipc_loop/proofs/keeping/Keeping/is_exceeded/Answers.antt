use Rattle.std.proofs.Common.{◌<◌, ◌∙◌, sym, subst, arith}
use Rattle.std.proofs.lemmas.Bool.{ltb-true}
use Rattle.ipc_loop.specs.Keeping.{Fits}
use Rattle.ipc_trail.specs.Sizes.{kept_bytes}
use Rattle.ipc_loop.proofs.SizeLemmas.{later_fits}
use Rattle.ipc_loop.proofs.keeping.Keeping.is_exceeded.Goals.{in-Some-bytes, in-None-bytes}
use Rattle.ipc_loop.proofs.keeping.Keeping.is_exceeded.Goals as goal

pub returns-else-too_many : goal.returns-else-too_many
returns-else-too_many c = λ e place fits. elim c.match-self-2.branch [
  | in-Some-bytes w ↦
      (let few = w.record_bytes.ensures in
      let over : w.in-Some-bytes.most < w.record_bytes.result = ltb-true w.in-Some-bytes.most w.record_bytes.result (sym w.too_large-is ∙ e) in
      later_fits c.args.hub.now.core.first place w.in-Some-bytes.most c.args.hub.now.core.history (omega arith) (subst (λ b. Fits b (kept_bytes place c.args.hub.now.core.history)) w.in-Some-bytes.is fits.1))
  | in-None-bytes w ↦ (let never = sym w.too_large-is ∙ e in absurd cc)
]
