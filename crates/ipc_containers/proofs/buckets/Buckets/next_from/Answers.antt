use Rattle.ipc_containers.proofs.NextKeys.{next_key, no_key_beside, no_key}
use Rattle.ipc_containers.proofs.buckets.Buckets.next_from.Goals as goal

pub returns-then-is_empty : goal.returns-then-is_empty
returns-then-is_empty g c = λ items holds. no_key_beside c.args.self.now items c.args.key c.in-Some.next.now c.in-Some.bucket.now _ _ holds (c.range.ensures.in_range tt) c.in-Some.ensures.steps (c.is_empty.ensures.0 c.if-is_empty.true)

pub returns-in-Some : goal.returns-in-Some
returns-in-Some g c = λ items holds. next_key c.args.self.now items c.args.key c.in-Some.next.now c.in-Some.bucket.now _ _ holds (c.range.ensures.in_range tt) c.in-Some.ensures.steps (λ none. absurd (let there = c.is_empty.ensures.1 none in let no = c.if-is_empty.false in cc))

pub returns : goal.returns
returns g c = λ items holds. no_key c.args.self.now items c.args.key _ holds (c.range.ensures.in_range tt) c.in_default.ensures.steps.0
