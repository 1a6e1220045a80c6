-- The items of one key, of which the first stands by itself.
use Rattle.std.specs.Prelude.{◌≡◌, List, [], ◌∷◌, Option, Some, None}

-- the first item, and the others behind it
abbrev pub items_of : {T : Type 0} → Option T → List T → List T
items_of None others = others
items_of (Some first) others = first ∷ others

-- where there is no first item there are no others
abbrev pub OthersFollow : {T : Type 0} → Option T → List T → Type 0
OthersFollow first others = first ≡ None → others ≡ []
