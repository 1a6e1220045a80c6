use Rattle.std.proofs.Common.{rules, tests}
use Rattle.ipc_fields.specs.Frame.{body_at}
use Rattle.ipc_fields.proofs.framing.body_of.Goals as goal

pub returns-then-len-gt-MAX_BODY : goal.returns-then-len-gt-MAX_BODY
unfolding body_at
returns-then-len-gt-MAX_BODY c = search (tests, rules)

pub returns-then-rest-len : goal.returns-then-rest-len
unfolding body_at
returns-then-rest-len c = search (tests, rules)

pub returns : goal.returns
unfolding body_at
returns c = search (tests, rules)
