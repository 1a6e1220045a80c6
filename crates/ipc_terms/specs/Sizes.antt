-- How long the parts of an answer are at most.
use Rattle.std.specs.Prelude.{ℕ, ◌≤◌, length}
use Rattle.ipc_terms.specs.Lists.{Each}
use Rattle.ipc_terms.specs.declared.call.Answer.{Answer}
use Rattle.ipc_terms.specs.declared.call.Answer.TheVariants.{Received, Names, Records}

-- a message has so many bytes at most; a page has at most 1,000 entries, and a name in it at most 256 bytes
abbrev pub IsSmall : ℕ → Answer → Type 0
IsSmall most (Received priority bytes) = length bytes ≤ most
IsSmall most (Names names) = (length names ≤ 1000) × Each (λ name. length name ≤ 256) names
IsSmall most (Records lines) = (length lines ≤ 1000) × Each (λ line. length line.name ≤ 256) lines
IsSmall most _ = Unit {0}
