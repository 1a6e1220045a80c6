-- A tick tells the session whose call it ends, and touches no session's life.
use Rattle.std.proofs.Common.{◌≡◌, ℕ, Bool, true, false, eqb, cond, List, [], ◌∷◌, ◌++◌, Option, Some, None, refl, sym, ap, subst, ◌∙◌, arith}
use Rattle.std.proofs.lemmas.Bool.{eqb-true}
use Rattle.ipc_terms.specs.declared.rule.Rule.{Rule}
use Rattle.ipc_terms.specs.declared.call.Answer.{Answer}
use Rattle.ipc_terms.specs.declared.record.Event.TheVariants.{Tick}
use Rattle.ipc_policy.specs.declared.config.Config.{Config}
use Rattle.ipc_policy.specs.Decides.History.{History}
use Rattle.ipc_policy.specs.Decides.Sessions.{live}
use Rattle.ipc_policy.specs.Decides.Bodies.{due}
use Rattle.ipc_policy.specs.Decides.Verdict.{Legal, verdict, answers, for_session, tick_answers, after_event}
use Rattle.ipc_policy.proofs.Histories.Grown.{grows}
use Rattle.ipc_policy.proofs.Histories.Refused.{same_values}
use Rattle.ipc_policy.proofs.Blocked.Earliest.{due_live}
use Rattle.ipc_policy.proofs.Outcomes.Answering.{ticks_answered}
use Rattle.ipc_core.specs.CoreView.{CoreView}
use Rattle.ipc_core.specs.Boxes.{box_at}
use Rattle.ipc_core.specs.Outboxes.{BoxesAgree, added, after_step}
use Rattle.ipc_core.proofs.LawLemmas.{each_is_added}
use Rattle.ipc_hub.specs.Hub.{Connection, Hub, Marks, Ticks}
use Rattle.ipc_hub.specs.Sessions.{EachHasItsOwn}
use Rattle.ipc_hub.proofs.SessionSteps.{hellos_later, live_later}

-- ---- what it answers

live_after_tick : (c : Config) (h : History) (moment s : ℕ) → live (after_event c h (Tick moment)) s ≡ live h s
live_after_tick c h moment s = at (verdict c h (Tick moment)) where
  at : (rule : Option Rule) → live (record { event = Tick moment; rule = rule } ∷ h) s ≡ live h s
  at None = (grows c h (Tick moment)).live_or_not s
  at (Some rule) = (same_values c h (Tick moment) rule).live s

none_either : (b : Bool) → ◌≡◌ {A = List Answer} (cond b [] []) []
none_either true = refl
none_either false = refl

-- only a session that is live is told
told_live : (h : History) (s : ℕ) (w : Option ℕ) → ((t : ℕ) → w ≡ Some t → live h t ≡ true) → cond (live h s) (for_session s (tick_answers w)) [] ≡ for_session s (tick_answers w)
told_live h s None on = none_either (live h s)
told_live h s (Some t) on = at (eqb t s) refl where
  at : (own : Bool) → eqb t s ≡ own → cond (live h s) (for_session s (tick_answers (Some t))) [] ≡ for_session s (tick_answers (Some t))
  at true e = let lives : live h s ≡ true = subst (λ (n : ℕ). live h n ≡ true) (eqb-true t s e) (on t refl) in rw lives refl
  at false e = rw e (none_either (live h s))

tick_added : (c : Config) (h : History) (moment s : ℕ) → Legal c h → added c h (Tick moment) s ≡ for_session s (tick_answers (due c h moment))
tick_added c h moment s legal =
    ap (λ b. cond b (for_session s (answers c h (Tick moment))) []) (live_after_tick c h moment s)
    ∙ ap (λ told. cond (live h s) (for_session s told) []) (ticks_answered c h moment).answered
    ∙ told_live h s (due c h moment) (λ t e. due_live c h moment t legal e)

-- ---- what a hub is after it

pub tick_is : (old : Hub) (a b : CoreView) (xs : List Connection) (p q : List Bool) (moment : ℕ) → record { core = a; connections = xs; marked = p } ≡ old → Legal a.config a.history → BoxesAgree a.config a.history a.untaken → b ≡ after_step (Tick moment) a → Marks (record { core = a; connections = xs; marked = p }) (record { core = b; connections = xs; marked = q }) → Ticks old moment (record { core = b; connections = xs; marked = q })
tick_is old a b xs p q moment is legal agree now marks = subst (λ (o : Hub). Ticks o moment (record { core = b; connections = xs; marked = q })) is (record {
  core = now;
  trail = ap (λ (z : CoreView). z.history) now ∙ ap (λ (rule : Option Rule). record { event = Tick moment; rule = rule } ∷ a.history) (ticks_answered a.config a.history moment).accepted;
  answered = λ s. ap (λ (z : CoreView). box_at z.untaken s) now ∙ each_is_added a.config a.history (Tick moment) a.untaken s agree ∙ ap (λ (more : List Answer). box_at a.untaken s ++ more) (tick_added a.config a.history moment s legal);
  connections = refl;
  marks = marks;
})

-- each session stays its connection's
pub ticked_sessions : (a b : CoreView) (xs : List Connection) (moment : ℕ) → b ≡ after_step (Tick moment) a → EachHasItsOwn a xs → EachHasItsOwn b xs
ticked_sessions a b xs moment now all = subst (λ (z : CoreView). EachHasItsOwn z xs) (sym now) (record {
  own = λ i x sid e k. (let old = all.own i x sid e k in let lt = old.started in let le = hellos_later (Tick moment ∷ []) a in record { started = omega arith; live_is = live_later (Tick moment ∷ []) a sid.0 lt (refl, tt) ∙ old.live_is });
  apart = all.apart;
  refused = all.refused;
})
