-- A writer whose block is empty has all that was put.
use Rattle.std.proofs.Common.{◌≡◌, ◌∙◌, ℕ, List, [], Option, None, Some, Result, Ok, Err, append-nil, sym}
use Rattle.std.specs.Prelude.{OnOk}
use Rattle.std.specs.Io.KnownBytes.{Keeps, append_known}

kept_alone : (before known : Option (List ℕ)) (block : List ℕ) → block ≡ [] → Keeps before (append_known known block) → Keeps before known
kept_alone None known block empty kept = tt
kept_alone (Some bytes) None block empty kept = kept
kept_alone (Some bytes) (Some held) block empty kept = sym (append-nil held) ∙ (rw empty at kept)

pub kept_where_flushed : {T E : Type 0} (flushed : Result T E) (before known : Option (List ℕ)) (block : List ℕ)
    → OnOk flushed (block ≡ []) → Keeps before (append_known known block) → OnOk flushed (Keeps before known)
kept_where_flushed (Ok done) before known block empty kept = kept_alone before known block empty kept
kept_where_flushed (Err fault) before known block empty kept = tt
