use Rattle.std.proofs.Common.{rules}
use Rattle.ipc_words.specs.Hyphens.{breaks_hyphen_rule}
use Rattle.ipc_words.proofs.hyphens.is_refused.Goals as goal

pub returns-then-not-starts_with : goal.returns-then-not-starts_with
unfolding breaks_hyphen_rule
returns-then-not-starts_with c = search rules
