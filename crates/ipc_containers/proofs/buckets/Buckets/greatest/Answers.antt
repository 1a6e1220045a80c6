use Rattle.std.proofs.Common.{sym}
use Rattle.ipc_containers.proofs.Holding.{first_of_last, none_at_all, none_beside, no_items}
use Rattle.ipc_containers.proofs.buckets.Buckets.greatest.Goals as goal

pub returns-in_err-key : goal.returns-in_err-key
returns-in_err-key g c = λ items holds. rw c.from_residual.ensures (none_at_all c.args.self.now items holds c.in_err-key.ensures.variant.1)

pub returns-in_err-item : goal.returns-in_err-item
returns-in_err-item g c = λ items holds. rw c.from_residual-in_err-item.ensures (λ key. none_beside c.args.self.now items c.in_ok-key.key.now key c.in_ok-key.bucket.now holds c.in_ok-key.ensures.value (no_items c.in_ok-key.bucket.now (sym c.in_err-item.ensures)))

pub returns : goal.returns
returns g c = λ items holds. first_of_last c.args.self.now items _ _ c.in_ok-key.bucket.now holds c.in_ok-key.ensures.value c.in_ok-key.ensures.greatest (sym c.in_ok-item.ensures)
