use Rattle.std.proofs.Common.{[], ◌∷◌, subst}
use Rattle.ipc_terms.specs.declared.record.Event.TheVariants.{Tick}
use Rattle.ipc_policy.specs.Decides.Verdict.{Legal}
use Rattle.ipc_core.specs.CoreView.{CoreView}
use Rattle.ipc_core.specs.Outboxes.{BoxesAgree}
use Rattle.ipc_hub.specs.Gone.{all_of}
use Rattle.ipc_hub.proofs.KeptLemmas.{ticked_away}
use Rattle.ipc_hub.proofs.Ticking.{tick_is}
use Rattle.ipc_hub.proofs.HubMarks.{stays_marks, ticked_stands}
use Rattle.ipc_hub.proofs.hub.Hub.tick.Goals as goal

pub invariant_of-self-2 : goal.invariant_of-self-2
invariant_of-self-2 c = (
  ticked_stands c.self.inside.core c.post.new.self (all_of c.self.inside.connections c.self.inside.gone.value) c.args.moment c.self.invariant.0 c.in_ok-post.ensures.ok c.in_ok-post.ensures.marks,
  ticked_away (Tick c.args.moment ∷ []) c.self.inside.core.core c.post.new.self.core c.self.inside.connections c.self.inside.gone.value c.in_ok-post.ensures.ok c.self.invariant.1,
)

pub returns-clause-ok : goal.returns-clause-ok
returns-clause-ok c =
    let legal = subst (λ (a : CoreView). Legal a.config a.history) c.core.ensures c.is_legal.ensures.legal in
    let last = subst (λ (a : CoreView). BoxesAgree a.config a.history a.untaken) c.core-2.ensures c.keeps_the_last.ensures in
    tick_is c.args.self.now c.self.inside.core.core c.post.new.self.core (all_of c.self.inside.connections c.self.inside.gone.value) c.self.inside.core.marked c.post.new.self.marked c.args.moment c.self.view_is legal last c.in_ok-post.ensures.ok (stays_marks c.self.inside.core c.post.new.self (all_of c.self.inside.connections c.self.inside.gone.value) c.self.invariant.0 c.in_ok-post.ensures.marks)
