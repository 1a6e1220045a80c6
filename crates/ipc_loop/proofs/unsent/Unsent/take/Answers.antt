use Rattle.std.proofs.Common.{List, ℕ, ◌++◌, drop, ap, ◌∙◌}
use Rattle.std.proofs.lemmas.List.{drop-append-le}
use Rattle.ipc_loop.proofs.unsent.Unsent.take.Goals as goal

pub returns-clause-ok : goal.returns-clause-ok
returns-clause-ok c = (c.in-Ok.ensures.ok.0, ap (λ (xs : List ℕ). drop c.self.inside.sent xs) c.in-Ok.ensures.ok.1 ∙ drop-append-le c.self.inside.sent _ c.in-Ok.ensures.ok.0 c.self.invariant ∙ ap (λ (xs : List ℕ). xs ++ c.in-Ok.ensures.ok.0) c.self.view_is, c.in-Ok.ensures.ok.2)
