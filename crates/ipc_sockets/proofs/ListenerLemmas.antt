-- What is noted of a listener changes nothing of what its connections begin with.
use Rattle.std.proofs.Common.{◌≡◌, ◌∙◌, ℕ, List, get_or, set, map, ap}
use Rattle.std.proofs.Math.Seq.{map-set_same}
use Rattle.ipc_sockets.specs.declared.listeners.Place.{Place}

pub same_greetings : (places : List Place) (i : ℕ) (place new : Place) → place ≡ get_or places i place → new.greeting ≡ place.greeting → map (λ (p : Place). p.greeting) (set places i new) ≡ map (λ (p : Place). p.greeting) places
same_greetings places i place new found same = map-set_same (λ (p : Place). p.greeting) places i new place (same ∙ ap (λ (p : Place). p.greeting) found)
