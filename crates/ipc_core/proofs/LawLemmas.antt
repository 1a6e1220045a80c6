-- What is answered is kept until it is taken.
use Rattle.std.proofs.Common.{ℕ, List, [], ◌∷◌, ◌++◌, sym, ap, ◌∙◌, append_assoc}
use Rattle.std.proofs.lemmas.List.{append-nil}
use Rattle.ipc_terms.specs.declared.call.Answer.{Answer}
use Rattle.ipc_terms.specs.declared.record.Event.{Event}
use Rattle.ipc_policy.specs.Decides.Verdict.{outbox}
use Rattle.ipc_policy.proofs.Outcomes.Outboxes.{outbox_after}
use Rattle.ipc_core.specs.Boxes.{box_at}
use Rattle.ipc_core.specs.Laws.{EachIsAdded, Gains, AllIsKept}
use Rattle.ipc_core.specs.Outboxes.{BoxesAgree, added, after_step, after_steps}
use Rattle.ipc_core.specs.CoreView.{CoreView}
use Rattle.ipc_core.proofs.BoxSteps.{untaken_at, boxes_after}

pub each_is_added : EachIsAdded
each_is_added c h e boxes s agree = untaken_at c h e boxes s agree.count

-- one event
pub gains_one : (e : Event) (a : CoreView) (s : ℕ) → BoxesAgree a.config a.history a.untaken → Gains a (after_step e a) s
gains_one e a s agree = record {
  more = added a.config a.history e s;
  outbox_is = outbox_after a.config a.history e s;
  untaken_is = untaken_at a.config a.history e a.untaken s agree.count;
}

pub gains_both : (a b d : CoreView) (s : ℕ) → Gains a b s → Gains b d s → Gains a d s
gains_both a b d s p q = record {
  more = p.more ++ q.more;
  outbox_is = q.outbox_is ∙ ap (λ (xs : List Answer). xs ++ q.more) p.outbox_is ∙ append_assoc (outbox a.config a.history s) p.more q.more;
  untaken_is = q.untaken_is ∙ ap (λ (xs : List Answer). xs ++ q.more) p.untaken_is ∙ append_assoc (box_at a.untaken s) p.more q.more;
}

-- a list of events
pub all_is_kept : AllIsKept
all_is_kept [] a s agree = record { more = []; outbox_is = sym (append-nil (outbox a.config a.history s)); untaken_is = sym (append-nil (box_at a.untaken s)) }
all_is_kept (e ∷ es) a s agree = gains_both a (after_step e a) (after_steps es (after_step e a)) s (gains_one e a s agree) (all_is_kept es (after_step e a) s (boxes_after a.config a.history e a.untaken agree))
