use Rattle.std.proofs.Common.{◌≡◌, ℕ, Bool, true, false, List, Result, Err}
use Rattle.std.specs.Bool.{OnFalse, OnTrue}
use Rattle.ipc_terms.specs.declared.call.Call.{Call}
use Rattle.ipc_words.specs.Calls.{Means}
use Rattle.ipc_words.specs.declared.faults.WordFault.{WordFault}
use Rattle.ipc_words.specs.declared.faults.WordFault.TheVariants.{Usage}
use Rattle.ipc_client.specs.Frames.{MeansUnlessHyphen}
use Rattle.ipc_client.proofs.frame.asked.Goals as goal

both : (breaks : Bool) (words : List (List ℕ)) (result : Result Call WordFault) → OnTrue breaks (result ≡ Err Usage) → OnFalse breaks (Means words result) → MeansUnlessHyphen breaks words result
both true words result usage means = usage
both false words result usage means = means

pub returns : goal.returns
returns c = both _ _ _ c.call_of_words.ensures.hyphen c.call_of_words.ensures.meaning
