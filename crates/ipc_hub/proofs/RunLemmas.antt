-- Whatever calls a hub makes, what a connection gave and what it has left are the outbox of its session.
use Rattle.std.proofs.Common.{◌≡◌, ℕ, Bool, true, false, eqb, cond, List, [], ◌∷◌, ◌++◌, take, slice_get, Option, Some, None, refl, sym, ap, subst, ◌∙◌, append_assoc, arith}
use Rattle.std.specs.Prelude.{IsSome, is_none}
use Rattle.std.proofs.lemmas.Bool.{eq-eqb, ne_eqb}
use Rattle.std.proofs.lemmas.List.{append-nil}
use Rattle.ipc_terms.specs.declared.ids.Sid.{Sid}
use Rattle.ipc_terms.specs.declared.call.Answer.{Answer}
use Rattle.ipc_terms.specs.declared.record.Event.{Event}
use Rattle.ipc_terms.specs.declared.record.Event.TheVariants.{Tick}
use Rattle.ipc_policy.specs.declared.config.Config.{Config}
use Rattle.ipc_policy.specs.Decides.Sessions.{hellos}
use Rattle.ipc_policy.specs.Decides.Verdict.{Legal, outbox}
use Rattle.ipc_policy.proofs.Outcomes.Outboxes.{outbox_unbegun}
use Rattle.ipc_state.specs.Ranges.{first_bad}
use Rattle.ipc_core.specs.Boxes.{box_at}
use Rattle.ipc_core.specs.Outboxes.{after_step, after_steps, BoxesAgree}
use Rattle.ipc_core.specs.CoreView.{CoreView}
use Rattle.ipc_core.proofs.BoxSteps.{boxes_after, boxes_new, boxes_taken, taken_here, taken_elsewhere}
use Rattle.ipc_core.proofs.BoxTables.{box_past}
use Rattle.ipc_fields.specs.Field.{◌⊕◌}
use Rattle.ipc_fields.proofs.Joins.{join_assoc}
use Rattle.ipc_wire.specs.Streams.{Cut, cut, spell_answer}
use Rattle.ipc_hub.specs.declared.fed.Fed.{Fed}
use Rattle.ipc_hub.specs.declared.fed.Fed.TheVariants.{Done, Short, Full, Over}
use Rattle.ipc_hub.specs.declared.fed.End.TheVariants.{Wire, BadKey}
use Rattle.ipc_hub.specs.Hub.{Connection, Hub, new_hub, with_connection, untaken_of, untaken, spell_answers, events_of, hang_up_of, IsOutcome, core_after_take, ChangesOnly, Feeds, HangsUp, Takes, Names, Ticks, Forgets}
use Rattle.ipc_hub.specs.Sessions.{EachHasItsOwn}
use Rattle.ipc_hub.specs.Laws.{Call, Opened, TookPiece, HungUp, Gave, Named, Ticked, Forgot, Makes, output_of, GivesOutbox, EachOutputIsTheOutbox}
use Rattle.ipc_core.proofs.LawLemmas.{all_is_kept}
use Rattle.ipc_hub.proofs.StepLemmas.{config_kept}
use Rattle.ipc_hub.proofs.SessionLemmas.{ChangesSessions, Which, Own, Other, AfterOpening, Fresh, Stood, which_now, after_opening, none_before, fresh_has_none, get_set, none_kept, hangs_up, fed_changes, changed_all, opened_all, none_at_all}
use Rattle.ipc_hub.proofs.CallLists.{nothing_more, along_calls}
use Rattle.ipc_hub.proofs.Ticking.{ticked_sessions}
use Rattle.ipc_hub.proofs.HubLemmas.{open_at, forgot_sessions, takes_changes, same_history, untaken_spelled}

-- ---- the answers that a session took

-- the last of its outbox is untaken, and the spellings of what stands in front were given
record HasGiven (a : CoreView) (sid : Sid) (given : List ℕ) : Type 0 where
  front : List Answer
  whole : outbox a.config a.history sid.0 ≡ front ++ box_at a.untaken sid.0
  spelled : spell_answers front ≡ Some given

spell_both : (xs ys : List Answer) → spell_answers (xs ++ ys) ≡ (spell_answers xs ⊕ spell_answers ys)
spell_both [] ys = none_first (spell_answers ys) where
  none_first : (t : Option (List ℕ)) → t ≡ (Some [] ⊕ t)
  none_first None = refl
  none_first (Some bytes) = refl
spell_both (x ∷ xs) ys = ap (λ (t : Option (List ℕ)). spell_answer x ⊕ t) (spell_both xs ys) ∙ sym (join_assoc (spell_answer x) (spell_answers xs) (spell_answers ys))

spelled_both : (xs ys : List Answer) (s t : List ℕ) → spell_answers xs ≡ Some s → spell_answers ys ≡ Some t → spell_answers (xs ++ ys) ≡ Some (s ++ t)
spelled_both xs ys s t e k = spell_both xs ys ∙ ap (λ (w : Option (List ℕ)). w ⊕ spell_answers ys) e ∙ ap (λ (w : Option (List ℕ)). Some s ⊕ w) k

-- events that are stepped
given_stepped : (es : List Event) (a b : CoreView) (sid : Sid) (given : List ℕ) → BoxesAgree a.config a.history a.untaken → b ≡ after_steps es a → HasGiven a sid given → HasGiven b sid given
given_stepped es a b sid given agree now h = subst (λ (z : CoreView). HasGiven z sid given) (sym now) (record {
  front = h.front;
  whole = (let k = all_is_kept es a sid.0 agree in k.outbox_is ∙ ap (λ (xs : List Answer). xs ++ k.more) h.whole ∙ append_assoc h.front (box_at a.untaken sid.0) k.more ∙ ap (λ (xs : List Answer). h.front ++ xs) (sym k.untaken_is));
  spelled = h.spelled;
})

given_started : (es : List Event) (a b : CoreView) (sid : Sid) → BoxesAgree a.config a.history a.untaken → b ≡ after_steps es a → sid.0 ≡ hellos a.history → HasGiven b sid []
given_started es a b sid agree now new = given_stepped es a b sid [] agree now (record {
  front = [];
  whole = outbox_unbegun a.config a.history sid.0 (let k = new in omega arith) ∙ sym (box_past a.untaken sid.0 (let k = new in let n = agree.count in omega arith));
  spelled = refl;
})

-- answers that are taken
given_own : (a : CoreView) (sid : Sid) (given bytes : List ℕ) → spell_answers (box_at a.untaken sid.0) ≡ Some bytes → HasGiven a sid given → HasGiven (core_after_take a (Some sid)) sid (given ++ bytes)
given_own a sid given bytes e h = record {
  front = h.front ++ box_at a.untaken sid.0;
  whole = h.whole ∙ sym (ap (λ (xs : List Answer). (h.front ++ box_at a.untaken sid.0) ++ xs) (taken_here a.untaken sid.0) ∙ append-nil (h.front ++ box_at a.untaken sid.0));
  spelled = spelled_both h.front (box_at a.untaken sid.0) given bytes h.spelled e;
}

given_other : (a : CoreView) (s : Option Sid) (sid : Sid) (given : List ℕ) → ((own : Sid) → s ≡ Some own → own.0 ≡ sid.0 → ⊥) → HasGiven a sid given → HasGiven (core_after_take a s) sid given
given_other a None sid given ne h = h
given_other a (Some own) sid given ne h = record {
  front = h.front;
  whole = h.whole ∙ ap (λ (xs : List Answer). h.front ++ xs) (sym (taken_elsewhere a.untaken own.0 sid.0 (λ q. ne own refl (sym q))));
  spelled = h.spelled;
}

-- ---- what a call at a connection does to what was given

record ChangesOutput (a : CoreView) (x : Connection) (b : CoreView) (y : Connection) (out : List ℕ) : Type 0 where
  others : (sid : Sid) (given : List ℕ) → ((own : Sid) → x.session ≡ Some own → own.0 ≡ sid.0 → ⊥) → HasGiven a sid given → HasGiven b sid given
  silent : y.session ≡ None → y.is_over ≡ false → (x.session ≡ None) × (x.is_over ≡ false) × (out ≡ [])
  same : (sid : Sid) (given : List ℕ) → x.session ≡ Some sid → HasGiven a sid given → HasGiven b sid (given ++ out)
  starts : (sid : Sid) → x.session ≡ None → y.session ≡ Some sid → (x.is_over ≡ false) × (out ≡ []) × HasGiven b sid []

pub no_session : (s t : Option Sid) → ((sid : Sid) → s ≡ Some sid → t ≡ Some sid) → t ≡ None → s ≡ None
no_session None t stays none = refl
no_session (Some sid) t stays none = absurd (let wrong : ◌≡◌ {A = Option Sid} None (Some sid) = sym none ∙ stays sid refl in cc)

stepped_output : (es : List Event) (a b : CoreView) (x y : Connection) → BoxesAgree a.config a.history a.untaken → x.is_over ≡ false → b ≡ after_steps es a → ChangesSessions a x b y → ChangesOutput a x b y []
stepped_output es a b x y agree on now m = record {
  others = λ sid given ne h. given_stepped es a b sid given agree now h;
  silent = λ none still. (no_session x.session y.session m.stays none, on, refl);
  same = λ sid given is h. subst (λ (bytes : List ℕ). HasGiven b sid bytes) (sym (append-nil given)) (given_stepped es a b sid given agree now h);
  starts = λ sid none is. (on, refl, given_started es a b sid agree now (m.starts none sid is));
}

taken_output : (a b : CoreView) (x y : Connection) (bytes : List ℕ) → (x.has_refusal ≡ true → (x.session ≡ None) × (x.is_over ≡ true)) → b ≡ core_after_take a x.session → y ≡ record x { has_refusal = false } → spell_answers (untaken a x) ≡ Some bytes → ChangesOutput a x b y bytes
taken_output a b x y bytes refused now is spelled = record {
  others = λ sid given ne h. subst (λ (z : CoreView). HasGiven z sid given) (sym now) (given_other a x.session sid given ne h);
  silent = λ none on. at_silent (sym session ∙ none) (sym over ∙ on) x.has_refusal refl;
  same = λ sid given own h. at_same sid given own h x.has_refusal refl;
  starts = λ sid none own. absurd (let wrong : ◌≡◌ {A = Option Sid} None (Some sid) = sym none ∙ sym session ∙ own in cc);
} where
  session : y.session ≡ x.session
  session = ap (λ (z : Connection). z.session) is

  over : y.is_over ≡ x.is_over
  over = ap (λ (z : Connection). z.is_over) is

  some_is : (s t : List ℕ) → Some s ≡ Some t → t ≡ s
  some_is s t e = cc

  untaken_is : (r : Bool) → x.has_refusal ≡ r → r ≡ false → untaken a x ≡ untaken_of a x.session
  untaken_is true e k = absurd cc
  untaken_is false e k = rw e refl

  at_silent : x.session ≡ None → x.is_over ≡ false → (r : Bool) → x.has_refusal ≡ r → (x.session ≡ None) × (x.is_over ≡ false) × (bytes ≡ [])
  at_silent none on true e = absurd (let wrong : true ≡ false = sym (refused e).1 ∙ on in cc)
  at_silent none on false e = (none, on, some_is [] bytes (sym (ap spell_answers (untaken_is false e refl ∙ ap (untaken_of a) none)) ∙ spelled))

  at_same : (sid : Sid) (given : List ℕ) → x.session ≡ Some sid → HasGiven a sid given → (r : Bool) → x.has_refusal ≡ r → HasGiven b sid (given ++ bytes)
  at_same sid given own h true e = absurd (let wrong : ◌≡◌ {A = Option Sid} None (Some sid) = sym (refused e).0 ∙ own in cc)
  at_same sid given own h false e =
      let box : spell_answers (box_at a.untaken sid.0) ≡ Some bytes = sym (ap spell_answers (untaken_is false e refl ∙ ap (untaken_of a) own)) ∙ spelled in
      subst (λ (z : CoreView). HasGiven z sid (given ++ bytes)) (sym (now ∙ ap (core_after_take a) own)) (given_own a sid given bytes box h)

-- ---- hubs along their calls

pub record IsWell (hub : Hub) : Type 0 where
  pub legal : Legal hub.core.config hub.core.history
  pub agree : BoxesAgree hub.core.config hub.core.history hub.core.untaken
  pub sessions : EachHasItsOwn hub.core hub.connections
  pub in_range : first_bad hub.core.config.limits ≡ None

record IsAccounted (hub : Hub) (i : ℕ) (given : List ℕ) : Type 0 where
  absent : slice_get hub.connections i ≡ None → given ≡ []
  silent : (x : Connection) → slice_get hub.connections i ≡ Some x → x.session ≡ None → x.is_over ≡ false → given ≡ []
  spoken : (x : Connection) (sid : Sid) → slice_get hub.connections i ≡ Some x → x.session ≡ Some sid → HasGiven hub.core sid given

agree_stepped : (es : List Event) (a : CoreView) → BoxesAgree a.config a.history a.untaken → BoxesAgree (after_steps es a).config (after_steps es a).history (after_steps es a).untaken
agree_stepped [] a agree = agree
agree_stepped (e ∷ es) a agree = agree_stepped es (after_step e a) (boxes_after a.config a.history e a.untaken agree)

legal_stepped : (es : List Event) (a : CoreView) → Legal a.config a.history → Legal (after_steps es a).config (after_steps es a).history
legal_stepped [] a legal = legal
legal_stepped (e ∷ es) a legal = legal_stepped es (after_step e a) (refl, legal)

-- a hub whose core stepped these, and in which each session is still its connection's
stays_well : (old new : Hub) (es : List Event) → IsWell old → new.core ≡ after_steps es old.core → EachHasItsOwn new.core new.connections → IsWell new
stays_well old new es w now sessions = record {
  legal = subst (λ (z : CoreView). Legal z.config z.history) (sym now) (legal_stepped es old.core w.legal);
  agree = subst (λ (z : CoreView). BoxesAgree z.config z.history z.untaken) (sym now) (agree_stepped es old.core w.agree);
  sessions = sessions;
  in_range = ap (λ (c : Config). first_bad c.limits) (ap (λ (z : CoreView). z.config) now ∙ config_kept es old.core) ∙ w.in_range;
}

stepped_well : (old new : Hub) (i : ℕ) (x y : Connection) (es : List Event) → IsWell old → ChangesOnly old new i x y → new.core ≡ after_steps es old.core → ChangesSessions old.core x new.core y → IsWell new
stepped_well old new i x y es w only now m = stays_well old new es w now (subst (λ (zs : List Connection). EachHasItsOwn new.core zs) (sym only.others) (changed_all old.core new.core old.connections i x y w.sessions only.was m))

taken_well : (old new : Hub) (i : ℕ) (x y : Connection) → IsWell old → ChangesOnly old new i x y → (s : Option Sid) → new.core ≡ core_after_take old.core s → ChangesSessions old.core x new.core y → IsWell new
taken_well old new i x y w only s now m = record {
  legal = subst (λ (z : CoreView). Legal z.config z.history) (sym now) (legal_at s);
  agree = subst (λ (z : CoreView). BoxesAgree z.config z.history z.untaken) (sym now) (agree_at s);
  sessions = subst (λ (zs : List Connection). EachHasItsOwn new.core zs) (sym only.others) (changed_all old.core new.core old.connections i x y w.sessions only.was m);
  in_range = subst (λ (z : CoreView). first_bad z.config.limits ≡ None) (sym now) (range_at s);
} where
  legal_at : (s : Option Sid) → Legal (core_after_take old.core s).config (core_after_take old.core s).history
  legal_at None = w.legal
  legal_at (Some sid) = w.legal

  agree_at : (s : Option Sid) → BoxesAgree (core_after_take old.core s).config (core_after_take old.core s).history (core_after_take old.core s).untaken
  agree_at None = w.agree
  agree_at (Some sid) = boxes_taken old.core.config old.core.history old.core.untaken sid.0 w.agree

  range_at : (s : Option Sid) → first_bad (core_after_take old.core s).config.limits ≡ None
  range_at None = w.in_range
  range_at (Some sid) = w.in_range

-- a call at connection j
changed_accounted : (old new : Hub) (j : ℕ) (x y : Connection) (out : List ℕ) (i : ℕ) (given : List ℕ) → IsWell old → ChangesOnly old new j x y → ChangesSessions old.core x new.core y → ChangesOutput old.core x new.core y out → IsAccounted old i given → IsAccounted new i (given ++ cond (eqb j i) out [])
changed_accounted old new j x y out i given w only m o h = record {
  absent = λ e. at_absent (eqb j i) refl (sym (at_set i) ∙ e);
  silent = λ z e none on. at_silent z none on (which_now old new j x y i z only e);
  spoken = λ z sid e own. at_spoken z sid own (which_now old new j x y i z only e);
} where
  at_set : (k : ℕ) → slice_get new.connections k ≡ cond (eqb j k) (Some y) (slice_get old.connections k)
  at_set k = ap (λ (zs : List Connection). slice_get zs k) only.others ∙ get_set old.connections j x y k only.was

  own_out : j ≡ i → cond (eqb j i) out [] ≡ out
  own_out e = let k : eqb j i ≡ true = eq-eqb j i e in rw k refl

  other_out : (j ≡ i → ⊥) → cond (eqb j i) out [] ≡ []
  other_out ne = let k : eqb j i ≡ false = ne_eqb j i ne in rw k refl

  at_absent : (b : Bool) → eqb j i ≡ b → cond b (Some y) (slice_get old.connections i) ≡ None → (given ++ cond (eqb j i) out []) ≡ []
  at_absent true k e = absurd cc
  at_absent false k e = ap (λ b. given ++ cond b out []) k ∙ append-nil given ∙ h.absent e

  was_at : j ≡ i → slice_get old.connections i ≡ Some x
  was_at e = subst (λ (n : ℕ). slice_get old.connections n ≡ Some x) e only.was

  at_silent : (z : Connection) → z.session ≡ None → z.is_over ≡ false → Which old.connections j y i z → (given ++ cond (eqb j i) out []) ≡ []
  at_silent z none on (Own e is) =
      let k = o.silent (ap (λ (v : Connection). v.session) is ∙ none) (ap (λ (v : Connection). v.is_over) is ∙ on) in
      ap (λ (bytes : List ℕ). given ++ bytes) (own_out e ∙ k.2) ∙ append-nil given ∙ h.silent x (was_at e) k.0 k.1
  at_silent z none on (Other ne e) = ap (λ (bytes : List ℕ). given ++ bytes) (other_out ne) ∙ append-nil given ∙ h.silent z e none on

  some_is : (s t : Sid) → Some s ≡ Some t → s ≡ t
  some_is s t e = cc

  -- the connection had no session before, or this one
  at_own : (sid : Sid) → j ≡ i → y.session ≡ Some sid → (s : Option Sid) → x.session ≡ s → HasGiven new.core sid (given ++ out)
  at_own sid e own None none =
      let k = o.starts sid none own in
      let nothing : given ++ out ≡ [] = ap (λ (bytes : List ℕ). given ++ bytes) k.1 ∙ append-nil given ∙ h.silent x (was_at e) none k.0 in
      subst (λ (bytes : List ℕ). HasGiven new.core sid bytes) (sym nothing) k.2
  at_own sid e own (Some was) is =
      let same : was ≡ sid = some_is _ _ (sym (m.stays was is) ∙ own) in
      let is' : x.session ≡ Some sid = is ∙ ap Some same in
      o.same sid given is' (h.spoken x sid (was_at e) is')

  same_sid : (s t : Sid) → s.0 ≡ t.0 → s ≡ t
  same_sid s t q = ap (λ (n : ℕ). record { 0 = n }) q

  at_spoken : (z : Connection) (sid : Sid) → z.session ≡ Some sid → Which old.connections j y i z → HasGiven new.core sid (given ++ cond (eqb j i) out [])
  at_spoken z sid own (Own e is) = subst (λ (bytes : List ℕ). HasGiven new.core sid (given ++ bytes)) (sym (own_out e)) (at_own sid e (ap (λ (v : Connection). v.session) is ∙ own) x.session refl)
  at_spoken z sid own (Other ne e) = subst (λ (bytes : List ℕ). HasGiven new.core sid bytes) (sym (ap (λ (bytes : List ℕ). given ++ bytes) (other_out ne) ∙ append-nil given)) (o.others sid given (λ other is same. ne (w.sessions.apart j i x z sid only.was e (is ∙ ap Some (same_sid other sid same)) own)) (h.spoken z sid e own))

-- a connection that is opened
opened_accounted : (old new : Hub) (i : ℕ) (given : List ℕ) → new ≡ with_connection old → IsAccounted old i given → IsAccounted new i given
opened_accounted old new i given is h = subst (λ (z : Hub). IsAccounted z i given) (sym is) (record {
  absent = λ e. h.absent (none_before old.connections i e);
  silent = λ x e none on. at_silent x none on (after_opening old.connections i x e);
  spoken = λ x sid e own. at_spoken x sid own (after_opening old.connections i x e);
}) where
  at_silent : (x : Connection) → x.session ≡ None → x.is_over ≡ false → AfterOpening old.connections i x → given ≡ []
  at_silent x none on (Fresh past is') = h.absent past
  at_silent x none on (Stood e) = h.silent x e none on

  at_spoken : (x : Connection) (sid : Sid) → x.session ≡ Some sid → AfterOpening old.connections i x → HasGiven old.core sid given
  at_spoken x sid own (Fresh past is') = absurd (fresh_has_none x sid is' own)
  at_spoken x sid own (Stood e) = h.spoken x sid e own

pub opened_well : (old new : Hub) → new ≡ with_connection old → IsWell old → IsWell new
opened_well old new is w = subst IsWell (sym is) (record { legal = w.legal; agree = w.agree; sessions = opened_all old.core old.connections w.sessions; in_range = w.in_range })

-- a connection that is named
pub named_well : (old new : Hub) (j : ℕ) → Names old j new → IsWell old → IsWell new
named_well old new j f w = subst IsWell (sym f.now) (record { legal = w.legal; agree = w.agree; sessions = w.sessions; in_range = w.in_range })

named_accounted : (old new : Hub) (j i : ℕ) (given : List ℕ) → Names old j new → IsAccounted old i given → IsAccounted new i given
named_accounted old new j i given f h = subst (λ (z : Hub). IsAccounted z i given) (sym f.now) (record { absent = h.absent; silent = h.silent; spoken = h.spoken })

-- a tick
pub ticked_well : (old new : Hub) (moment : ℕ) → Ticks old moment new → IsWell old → IsWell new
ticked_well old new moment t w = stays_well old new (Tick moment ∷ []) w t.core (subst (λ (zs : List Connection). EachHasItsOwn new.core zs) (sym t.connections) (ticked_sessions old.core new.core old.connections moment t.core w.sessions))

ticked_accounted : (old new : Hub) (moment i : ℕ) (given : List ℕ) → Ticks old moment new → IsWell old → IsAccounted old i given → IsAccounted new i given
ticked_accounted old new moment i given t w h = record {
  absent = λ e. h.absent (there ∙ e);
  silent = λ x e none on. h.silent x (there ∙ e) none on;
  spoken = λ x sid e own. given_stepped (Tick moment ∷ []) old.core new.core sid given w.agree t.core (h.spoken x sid (there ∙ e) own);
} where
  there : slice_get old.connections i ≡ slice_get new.connections i
  there = ap (λ (zs : List Connection). slice_get zs i) (sym t.connections)

-- records that are forgotten
pub forgot_well : (old new : Hub) → Forgets old new → IsWell old → IsWell new
forgot_well old new f w = subst IsWell (sym f.now) (record { legal = w.legal; agree = w.agree; sessions = forgot_sessions old.core new.core.first old.connections w.sessions; in_range = w.in_range })

forgot_accounted : (old new : Hub) (i : ℕ) (given : List ℕ) → Forgets old new → IsAccounted old i given → IsAccounted new i given
forgot_accounted old new i given f h = subst (λ (z : Hub). IsAccounted z i given) (sym f.now) (record {
  absent = h.absent;
  silent = h.silent;
  spoken = λ x sid e own. (let k = h.spoken x sid e own in record { front = k.front; whole = k.whole; spelled = k.spelled });
})

-- ---- each call

pub steps_append : (es ds : List Event) (a : CoreView) → after_steps (es ++ ds) a ≡ after_steps ds (after_steps es a)
steps_append [] ds a = refl
steps_append (e ∷ es) ds a = steps_append es ds (after_step e a)

-- what a feed does to the core are events
outcome_events : (fed : Fed) (a b : CoreView) (x y : Connection) (c : Cut) → IsOutcome fed a x c b y → (es : List Event) × (b ≡ after_steps es a)
outcome_events Done a b x y c h = (events_of a x.session c.requests, h.steps.core)
outcome_events Short a b x y c h = (events_of a x.session h.done, h.steps.core)
outcome_events Full a b x y c h = (events_of a x.session h.done, h.steps.core)
outcome_events (Over (Wire fault)) a b x y c h = (events_of a x.session c.requests ++ hang_up_of y.session, h.hung_up ∙ ap (after_steps (hang_up_of y.session)) h.steps.core ∙ sym (steps_append (events_of a x.session c.requests) (hang_up_of y.session) a))
outcome_events (Over BadKey) a b x y c h = (take 1 (events_of a x.session c.requests), h.core)

-- the hub is well and the output accounted for
record IsKept (hub : Hub) (i : ℕ) (given : List ℕ) : Type 0 where
  well : IsWell hub
  accounted : IsAccounted hub i given

stepped_kept : (old new : Hub) (j : ℕ) (x y : Connection) (es : List Event) (i : ℕ) (given : List ℕ) → ChangesOnly old new j x y → x.is_over ≡ false → new.core ≡ after_steps es old.core → ChangesSessions old.core x new.core y → IsKept old i given → IsKept new i given
stepped_kept old new j x y es i given only on now m k = record {
  well = stepped_well old new j x y es k.well only now m;
  accounted = subst (λ (bytes : List ℕ). IsAccounted new i bytes) (nothing (eqb j i)) (changed_accounted old new j x y [] i given k.well only m (stepped_output es old.core new.core x y k.well.agree on now m) k.accounted);
} where
  nothing : (b : Bool) → (given ++ cond b [] []) ≡ given
  nothing true = append-nil given
  nothing false = append-nil given

pub fed_change : (old new : Hub) (j : ℕ) (piece : List ℕ) (fed : Fed) → IsWell old → (f : Feeds old j piece fed new) → ChangesSessions old.core f.before new.core f.later
fed_change old new j piece fed w f = fed_changes fed old.core new.core f.before f.later (f.before.kept ++ piece) (open_at old.core old.connections j f.before w.sessions f.changes.was f.open_before) f.outcome

pub hung_up_change : (old new : Hub) (j : ℕ) → IsWell old → (f : HangsUp old j new) → ChangesSessions old.core f.before new.core (record f.before { kept = []; is_over = true })
hung_up_change old new j w f = hangs_up old.core old.core new.core f.before f.before.session [] (open_at old.core old.connections j f.before w.sessions f.changes.was f.open_before) (none_kept old.core f.before.session) f.core

pub taken_change : (old new : Hub) (j : ℕ) (bytes : List ℕ) → IsWell old → (f : Takes old j bytes new) → ChangesSessions old.core f.before new.core (record f.before { has_refusal = false })
taken_change old new j bytes w f = takes_changes old.core new.core f.before (λ sid e. w.sessions.own j f.before sid f.changes.was e) (ap (λ (z : CoreView). z.history) f.core ∙ same_history old.core f.before.session)

pub fed_well : (old new : Hub) (j : ℕ) (piece : List ℕ) (fed : Fed) → IsWell old → Feeds old j piece fed new → IsWell new
fed_well old new j piece fed w f =
    let e = outcome_events fed old.core new.core f.before f.later (cut (is_none f.before.session) (f.before.kept ++ piece)) f.outcome in
    stepped_well old new j f.before f.later e.0 w f.changes e.1 (fed_change old new j piece fed w f)

pub hung_up_well : (old new : Hub) (j : ℕ) → IsWell old → HangsUp old j new → IsWell new
hung_up_well old new j w f = stepped_well old new j f.before (record f.before { kept = []; is_over = true }) (hang_up_of f.before.session) w f.changes f.core (hung_up_change old new j w f)

pub take_well : (old new : Hub) (j : ℕ) (bytes : List ℕ) → IsWell old → Takes old j bytes new → IsWell new
take_well old new j bytes w f = taken_well old new j f.before (record f.before { has_refusal = false }) w f.changes f.before.session f.core (taken_change old new j bytes w f)

pub new_well : (c : Config) → first_bad c.limits ≡ None → IsWell (new_hub c)
new_well c range = record { legal = tt; agree = boxes_new c; sessions = none_at_all (new_hub c).core; in_range = range }

fed_kept : (old new : Hub) (j : ℕ) (piece : List ℕ) (fed : Fed) (i : ℕ) (given : List ℕ) → Feeds old j piece fed new → IsKept old i given → IsKept new i given
fed_kept old new j piece fed i given f k =
    let e = outcome_events fed old.core new.core f.before f.later (cut (is_none f.before.session) (f.before.kept ++ piece)) f.outcome in
    stepped_kept old new j f.before f.later e.0 i given f.changes f.open_before e.1 (fed_change old new j piece fed k.well f) k

hung_up_kept : (old new : Hub) (j i : ℕ) (given : List ℕ) → HangsUp old j new → IsKept old i given → IsKept new i given
hung_up_kept old new j i given f k = stepped_kept old new j f.before (record f.before { kept = []; is_over = true }) (hang_up_of f.before.session) i given f.changes f.open_before f.core (hung_up_change old new j k.well f) k

taken_kept : (old new : Hub) (j : ℕ) (bytes : List ℕ) (i : ℕ) (given : List ℕ) → Takes old j bytes new → IsKept old i given → IsKept new i (given ++ cond (eqb j i) bytes [])
taken_kept old new j bytes i given f k =
    let y : Connection = record f.before { has_refusal = false } in
    let m = taken_change old new j bytes k.well f in
    let o = taken_output old.core new.core f.before y bytes (k.well.sessions.refused j f.before f.changes.was) f.core refl f.given in
    record {
      well = take_well old new j bytes k.well f;
      accounted = changed_accounted old new j f.before y bytes i given k.well f.changes m o k.accounted;
    }

-- what one call gives, and what is given then
abbrev pub given_by : ℕ → Call → List ℕ
given_by i (Gave j bytes) = cond (eqb j i) bytes []
given_by i call = []

pub output_is : (i : ℕ) (call : Call) (calls : List Call) → output_of i (call ∷ calls) ≡ given_by i call ++ output_of i calls
output_is i Opened calls = refl
output_is i (TookPiece j piece fed) calls = refl
output_is i (HungUp j) calls = refl
output_is i (Named j) calls = refl
output_is i (Ticked moment) calls = refl
output_is i Forgot calls = refl
output_is i (Gave j bytes) calls = at (eqb j i) where
  at : (b : Bool) → cond b (bytes ++ output_of i calls) (output_of i calls) ≡ cond b bytes [] ++ output_of i calls
  at true = refl
  at false = refl

call_kept : (i : ℕ) (call : Call) (old new : Hub) (given : List ℕ) → Makes call old new → IsKept old i given → IsKept new i (given ++ given_by i call)
call_kept i Opened old new given made k = nothing_more (λ (z : Hub) (bytes : List ℕ). IsKept z i bytes) new given (record { well = opened_well old new made k.well; accounted = opened_accounted old new i given made k.accounted })
call_kept i (TookPiece j piece fed) old new given made k = nothing_more (λ (z : Hub) (bytes : List ℕ). IsKept z i bytes) new given (fed_kept old new j piece fed i given made k)
call_kept i (HungUp j) old new given made k = nothing_more (λ (z : Hub) (bytes : List ℕ). IsKept z i bytes) new given (hung_up_kept old new j i given made k)
call_kept i (Named j) old new given made k = nothing_more (λ (z : Hub) (bytes : List ℕ). IsKept z i bytes) new given (record { well = named_well old new j made k.well; accounted = named_accounted old new j i given made k.accounted })
call_kept i (Ticked moment) old new given made k = nothing_more (λ (z : Hub) (bytes : List ℕ). IsKept z i bytes) new given (record { well = ticked_well old new moment made k.well; accounted = ticked_accounted old new moment i given made k.well k.accounted })
call_kept i Forgot old new given made k = nothing_more (λ (z : Hub) (bytes : List ℕ). IsKept z i bytes) new given (record { well = forgot_well old new made k.well; accounted = forgot_accounted old new i given made k.accounted })
call_kept i (Gave j bytes) old new given made k = taken_kept old new j bytes i given made k

new_kept : (c : Config) (i : ℕ) → first_bad c.limits ≡ None → IsKept (new_hub c) i []
new_kept c i range = record {
  well = new_well c range;
  accounted = record { absent = λ e. refl; silent = λ x e none on. refl; spoken = λ x sid e own. absurd cc };
}

-- ---- at the end

outbox_given : (hub : Hub) (i : ℕ) (x : Connection) (sid : Sid) (given : List ℕ) → IsKept hub i given → slice_get hub.connections i ≡ Some x → x.session ≡ Some sid → GivesOutbox hub x sid given
outbox_given hub i x sid given k there own =
    let h = k.accounted.spoken x sid there own in
    let left = spelling (spell_answers (untaken hub.core x)) (untaken_spelled hub.core x k.well.in_range k.well.legal k.well.agree) in
    record {
      left = left.0;
      left_is = left.1;
      whole = ap spell_answers h.whole ∙ spelled_both h.front (box_at hub.core.untaken sid.0) given left.0 h.spelled (ap spell_answers (sym (box_is x.has_refusal refl)) ∙ left.1);
    }
  where
    spelling : (t : Option (List ℕ)) → IsSome t → (bytes : List ℕ) × (t ≡ Some bytes)
    spelling None e = absurd (let wrong : false ≡ true = e in cc)
    spelling (Some bytes) e = (bytes, refl)

    box_is : (r : Bool) → x.has_refusal ≡ r → untaken hub.core x ≡ box_at hub.core.untaken sid.0
    box_is true e = absurd (let wrong : ◌≡◌ {A = Option Sid} None (Some sid) = sym (k.well.sessions.refused i x there e).0 ∙ own in cc)
    box_is false e = rw e (ap (untaken_of hub.core) own)

pub each_output : EachOutputIsTheOutbox
each_output c calls hub i x sid range made there own = outbox_given hub i x sid (output_of i calls) (along_calls (λ (z : Hub) (bytes : List ℕ). IsKept z i bytes) (given_by i) (output_of i) refl (output_is i) (call_kept i) calls (new_hub c) hub [] made (new_kept c i range)) there own
