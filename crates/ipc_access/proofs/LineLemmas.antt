-- The groups of a line, read one after another.
use Rattle.std.proofs.Common.{ℕ, List, ◌++◌, map, Bor}
use Rattle.std.specs.Prelude.{Option}
use Rattle.std.specs.Option.{option_map}
use Rattle.ipc_terms.specs.declared.ids.Gid.{Gid}

-- what stands behind each reference
abbrev pub behind : List (Bor (List ℕ)) → List (List ℕ)
behind texts = map (λ text. text.now) texts

-- the groups that were read, and then those that the other texts spell
abbrev pub with_front : List Gid → Option (List Gid) → Option (List Gid)
with_front front others = option_map (λ ids. front ++ ids) others
