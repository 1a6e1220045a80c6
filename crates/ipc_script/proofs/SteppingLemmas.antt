-- What a step leaves in outboxes of which all was taken before.
use Rattle.std.proofs.Common.{◌≡◌, ◌∙◌, ℕ, Bool, true, false, eqb, List, [], ◌∷◌, ◌++◌, cond, Option, Some, None, refl, sym, ap, subst}
use Rattle.std.specs.Prelude.{map, unwrap_or}
use Rattle.std.specs.Option.{option_to_list}
use Rattle.std.proofs.lemmas.Bool.{eqb-true, eqb-false}
use Rattle.ipc_terms.specs.Lists.{changed}
use Rattle.ipc_terms.specs.declared.rule.Rule.{Rule}
use Rattle.ipc_terms.specs.declared.ids.Sid.{Sid}
use Rattle.ipc_terms.specs.declared.call.Answer.{Answer}
use Rattle.ipc_terms.specs.declared.call.Answer.TheVariants.{Refused}
use Rattle.ipc_terms.specs.declared.record.Event.{Event}
use Rattle.ipc_policy.specs.declared.config.Config.{Config}
use Rattle.ipc_policy.specs.Decides.History.{History}
use Rattle.ipc_policy.specs.Decides.Sessions.{live}
use Rattle.ipc_policy.specs.Decides.Verdict.{Legal, verdict, answers, after_event, caller, for_session}
use Rattle.ipc_core.specs.Boxes.{box_at, taken}
use Rattle.ipc_core.specs.CoreView.{CoreView}
use Rattle.ipc_core.specs.Outboxes.{BoxesAgree, added, after_step, session_at, untaken_after}
use Rattle.ipc_core.proofs.BoxSteps.{taken_elsewhere, taken_here, untaken_at}
use Rattle.ipc_script.specs.Told.{AllTaken, to_session}
use Rattle.ipc_script.proofs.LivingLemmas.{answered_live, by_verdict}
use Rattle.ipc_script.proofs.ToldLemmas.{all_told, both_are_all, for_more, nobody_else}

-- nothing is untaken at the start
pub none_untaken : AllTaken []
none_untaken s = refl

-- what each session has once another's was taken
box_without : (boxes : List (List Answer)) (a s : ℕ) → box_at (changed taken boxes a) s ≡ cond (eqb a s) [] (box_at boxes s)
box_without boxes a s = at (eqb a s) refl where
  at : (b : Bool) → eqb a s ≡ b → box_at (changed taken boxes a) s ≡ cond b [] (box_at boxes s)
  at true e = ap (box_at (changed taken boxes a)) (sym (eqb-true _ _ e)) ∙ taken_here boxes a
  at false e = taken_elsewhere boxes a s (λ k. eqb-false _ _ e (sym k))

-- each session has what it is told, where nothing was untaken
box_told : (c : Config) (h : History) (e : Event) (boxes : List (List Answer)) (s : ℕ) → BoxesAgree c h boxes → AllTaken boxes
    → box_at (untaken_after c h e boxes) s ≡ added c h e s
box_told c h e boxes s agree none = untaken_at c h e boxes s agree.count ∙ ap (λ box. box ++ added c h e s) (none s)

-- a refusal is told to nobody else
pub refusal_taken : (c : Config) (h : History) (e : Event) (boxes : List (List Answer)) (rule : Rule) → BoxesAgree c h boxes → AllTaken boxes → verdict c h e ≡ Some rule
    → AllTaken (changed taken (untaken_after c h e boxes) (caller e).0)
refusal_taken c h e boxes rule agree none is s = box_without (untaken_after c h e boxes) (caller e).0 s ∙ at (eqb (caller e).0 s) refl where
  not_told : eqb (caller e).0 s ≡ false → for_session s (answers c h e) ≡ []
  not_told k = ap (for_session s) (by_verdict c h e (Some rule) is) ∙ for_more s (caller e, Refused rule) [] ∙ rw k refl

  nothing : (b : Bool) (told : List Answer) → told ≡ [] → cond b told [] ≡ []
  nothing true told k = k
  nothing false told k = refl

  at : (b : Bool) → eqb (caller e).0 s ≡ b → cond b [] (box_at (untaken_after c h e boxes) s) ≡ []
  at true k = refl
  at false k = box_told c h e boxes s agree none ∙ nothing (live (after_event c h e) s) _ (not_told k)

-- of an accepted event each session has all that it is answered
pub box_answers : (c : Config) (h : History) (e : Event) (boxes : List (List Answer)) (s : ℕ) → Legal c h → BoxesAgree c h boxes → AllTaken boxes → verdict c h e ≡ None
    → box_at (untaken_after c h e boxes) s ≡ for_session s (answers c h e)
box_answers c h e boxes s legal agree none is =
    box_told c h e boxes s agree none ∙ all_told (after_event c h e) s (answers c h e) (answered_live c h e legal is)

-- what is told of a refusal, and that it is taken from the session that the event names
pub after_refusal : (a after last : CoreView) (e : Event) (found : Option Rule) (rule : Rule) (named : Sid)
    → BoxesAgree a.config a.history a.untaken → AllTaken a.untaken
    → found ≡ verdict a.config a.history e → found ≡ Some rule → named ≡ caller e → after ≡ after_step e a
    → last ≡ record after { untaken = changed taken after.untaken named.0 }
    → AllTaken last.untaken × ((named, Refused rule) ∷ [] ≡ answers a.config a.history e)
after_refusal a after last e found rule named agree none is refused name stepped cleared =
    let verdict_is : verdict a.config a.history e ≡ Some rule = sym is ∙ refused in
    let boxes : last.untaken ≡ changed taken (untaken_after a.config a.history e a.untaken) (caller e).0 =
    ap (λ (k : CoreView). k.untaken) cleared
    ∙ ap (λ (k : CoreView). changed taken k.untaken named.0) stepped
    ∙ ap (λ (n : Sid). changed taken (untaken_after a.config a.history e a.untaken) n.0) name in (
      subst AllTaken (sym boxes) (refusal_taken a.config a.history e a.untaken rule agree none verdict_is),
      ap (λ (n : Sid). (n, Refused rule) ∷ []) name ∙ sym (by_verdict a.config a.history e (Some rule) verdict_is),
    )

-- what is told of an accepted event, and that it is taken from the first session and the second
pub after_answers : (nobody : Sid) (a after once last : CoreView) (e : Event) (found : Option Rule) (first second : Option Sid) (caller other : Sid) (mine theirs : List Answer)
    → Legal a.config a.history → BoxesAgree a.config a.history a.untaken → AllTaken a.untaken
    → found ≡ verdict a.config a.history e → found ≡ None
    → first ≡ session_at 0 (answers a.config a.history e) → second ≡ session_at 1 (answers a.config a.history e)
    → option_to_list first ++ option_to_list second ≡ map (λ p. p.0) (answers a.config a.history e)
    → after ≡ after_step e a → caller ≡ unwrap_or first nobody → other ≡ unwrap_or second nobody
    → mine ≡ box_at after.untaken caller.0 → once ≡ record after { untaken = changed taken after.untaken caller.0 }
    → theirs ≡ box_at once.untaken other.0 → last ≡ record once { untaken = changed taken once.untaken other.0 }
    → AllTaken last.untaken × (to_session caller mine ++ to_session other theirs ≡ answers a.config a.history e)
after_answers nobody a after once last e found first second caller other mine theirs legal agree none is accepted first_is second_is whole stepped caller_is other_is mine_is once_is theirs_is last_is =
    let told = answers a.config a.history e in
    let boxes = untaken_after a.config a.history e a.untaken in
    let box : (s : ℕ) → box_at boxes s ≡ for_session s told = λ s. box_answers a.config a.history e a.untaken s legal agree none (sym is ∙ accepted) in
    let after_is : after.untaken ≡ boxes = ap (λ (k : CoreView). k.untaken) stepped in
    let left : once.untaken ≡ changed taken boxes caller.0 = ap (λ (k : CoreView). k.untaken) once_is ∙ ap (λ l. changed taken l caller.0) after_is in
    let left' : last.untaken ≡ changed taken (changed taken boxes caller.0) other.0 = ap (λ (k : CoreView). k.untaken) last_is ∙ ap (λ l. changed taken l other.0) left in
    let mine' : mine ≡ for_session caller.0 told = mine_is ∙ ap (λ l. box_at l caller.0) after_is ∙ box caller.0 in
    let theirs' : theirs ≡ cond (eqb caller.0 other.0) [] (for_session other.0 told) =
    theirs_is ∙ ap (λ l. box_at l other.0) left ∙ box_without boxes caller.0 other.0 ∙ ap (cond (eqb caller.0 other.0) []) (box other.0) in
    let all = both_are_all nobody told first second first_is second_is whole in
    let nothing = nobody_else nobody told first second first_is second_is whole in (
      subst AllTaken (sym left')
          (λ s. box_without (changed taken boxes caller.0) other.0 s
          ∙ ap (cond (eqb other.0 s) []) (box_without boxes caller.0 s ∙ ap (cond (eqb caller.0 s) []) (box s))
          ∙ rw (caller_is, other_is) (nothing s)),
      ap (λ l. to_session caller l ++ to_session other theirs) mine'
          ∙ ap (λ l. to_session caller (for_session caller.0 told) ++ to_session other l) theirs'
          ∙ rw (caller_is, other_is) all,
    )
