use Rattle.std.proofs.Common.{refl}
use Rattle.std.proofs.lemmas.List.{get_or-replicate}
use Rattle.ipc_history.proofs.CountLemmas.{none_counted}
use Rattle.ipc_history.proofs.counts.Counts.new.Goals as goal

pub returns : goal.returns
returns c = none_counted _ refl refl refl refl (λ code within. get_or-replicate 34 code 0 0 within)
