use Rattle.std.proofs.Common.{◌≡◌, true, false, refl, sym, ap, ◌∙◌}
use Rattle.ipc_loop.specs.Ports.{Port}
use Rattle.ipc_loop.proofs.MoveLemmas.{go_nowhere, adds_nothing}
use Rattle.ipc_loop.proofs.PortionLemmas.{same_portion}
use Rattle.ipc_loop.proofs.ServingLemmas.{stays_serve, feeds_serve}
use Rattle.ipc_loop.proofs.OfferingLemmas.{no_reads}
use Rattle.ipc_loop.proofs.UndoneLemmas.{same_undone}
use Rattle.ipc_loop.proofs.port.Port.start.Goals as goal

pub returns-then-self-clause-serves : goal.returns-then-self-clause-serves
returns-then-self-clause-serves g c = feeds_serve _ _ _ _ _ _ _ _ c.requires (adds_nothing _ _ _ (go_nowhere _)) refl refl c.feed.ensures.fed

pub returns-else-self-2-clause-serves : goal.returns-else-self-2-clause-serves
returns-else-self-2-clause-serves g c = stays_serve _ _ _ _ _ _ (go_nowhere _) refl refl

pub returns-else-self-2-clause-steps : goal.returns-else-self-2-clause-steps
returns-else-self-2-clause-steps g c = same_portion _ _ _ _ _ refl

pub returns-then-self-clause-asks : goal.returns-then-self-clause-asks
returns-then-self-clause-asks g c = no_reads _ _ _ (λ left heard is few readable stepped. let wrong : true ≡ false = sym c.if-self.true ∙ ap (λ (p : Port). p.is_full) c.self.view_is ∙ stepped in absurd cc)

pub returns-else-self-2-clause-asks : goal.returns-else-self-2-clause-asks
returns-else-self-2-clause-asks g c = no_reads _ _ _ (λ left heard is few readable stepped. let wrong : false ≡ true = sym c.if-self-2.false ∙ ap (λ (p : Port). p.may_read) c.self.view_is ∙ readable in absurd cc)

pub returns-else-self-2-clause-undone : goal.returns-else-self-2-clause-undone
returns-else-self-2-clause-undone g c = same_undone c.args.number c.args.hub.now
