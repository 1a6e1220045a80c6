-- What the calls of a hub bring, one after another.
use Rattle.std.proofs.Common.{◌≡◌, ℕ, List, [], ◌∷◌, ◌++◌, sym, ap, subst, ◌∙◌, append_assoc}
use Rattle.std.proofs.lemmas.List.{append-nil}
use Rattle.ipc_hub.specs.Hub.{Hub}
use Rattle.ipc_hub.specs.Laws.{Call, Makes, MakesAll}

pub nothing_more : (P : Hub → List ℕ → Type 0) (hub : Hub) (bytes : List ℕ) → P hub bytes → P hub (bytes ++ [])
nothing_more P hub bytes h = subst (λ (all : List ℕ). P hub all) (sym (append-nil bytes)) h

-- what holds of a hub and of the bytes so far holds after all calls, if it holds after each
pub along_calls : (P : Hub → List ℕ → Type 0) (brings : Call → List ℕ) (all : List Call → List ℕ) → [] ≡ all [] → ((call : Call) (calls : List Call) → all (call ∷ calls) ≡ brings call ++ all calls)
    → ((call : Call) (old new : Hub) (bytes : List ℕ) → Makes call old new → P old bytes → P new (bytes ++ brings call))
    → (calls : List Call) (old new : Hub) (bytes : List ℕ) → MakesAll calls old new → P old bytes → P new (bytes ++ all calls)
along_calls P brings all none parts each [] old new bytes made h =
    subst (λ (z : Hub). P z (bytes ++ all [])) (sym made) (subst (λ (more : List ℕ). P old (bytes ++ more)) none (nothing_more P old bytes h))
along_calls P brings all none parts each (call ∷ calls) old new bytes made h =
    let whole : (bytes ++ brings call) ++ all calls ≡ bytes ++ all (call ∷ calls) = append_assoc bytes (brings call) (all calls) ∙ ap (λ (more : List ℕ). bytes ++ more) (sym (parts call calls)) in
    subst (λ (z : List ℕ). P new z) whole (along_calls P brings all none parts each calls made.0 new (bytes ++ brings call) made.1.1 (each call old made.0 bytes made.1.0 h))
