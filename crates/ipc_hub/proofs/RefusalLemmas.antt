-- Whatever calls a hub makes, a connection without a session gave nothing, or its refusal once.
use Rattle.std.proofs.Common.{◌≡◌, ℕ, Bool, true, false, eqb, cond, List, [], ◌∷◌, ◌++◌, slice_get, Option, Some, None, refl, sym, ap, subst, ◌∙◌}
use Rattle.std.specs.Prelude.{IsSome}
use Rattle.std.proofs.lemmas.Bool.{eq-eqb, ne_eqb}
use Rattle.std.proofs.lemmas.List.{append-nil}
use Rattle.ipc_terms.specs.declared.call.Answer.TheVariants.{Refused}
use Rattle.ipc_terms.specs.declared.rule.Rule.TheVariants.{BadKey}
use Rattle.ipc_policy.specs.declared.config.Config.{Config}
use Rattle.ipc_state.specs.Ranges.{first_bad}
use Rattle.ipc_hub.specs.declared.fed.Fed.{Fed}
use Rattle.ipc_hub.specs.Hub.{Connection, Hub, new_hub, with_connection, untaken_of, untaken, spell_answers, ChangesOnly, Feeds, HangsUp, Takes, Names, Ticks, Forgets}
use Rattle.ipc_hub.specs.Laws.{Call, Opened, TookPiece, HungUp, Gave, Named, Ticked, Forgot, Makes, output_of, GivesOneRefusal, EachStrangerIsRefused}
use Rattle.ipc_hub.proofs.SessionLemmas.{Which, Own, Other, AfterOpening, Fresh, Stood, which_now, after_opening, none_before, get_set}
use Rattle.ipc_hub.proofs.HubLemmas.{untaken_spelled}
use Rattle.ipc_hub.proofs.CallLists.{nothing_more, along_calls}
use Rattle.ipc_hub.proofs.RunLemmas.{IsWell, no_session, opened_well, named_well, ticked_well, forgot_well, fed_well, hung_up_well, take_well, new_well, fed_change, given_by, output_is}

-- a connection without a session was told nothing, or its refusal, with which it is over
data IsTold (x : Connection) (given : List ℕ) : Type 0 where
  Nothing : given ≡ [] → IsTold x given
  Once : x.is_over ≡ true → x.has_refusal ≡ false → spell_answers (Refused BadKey ∷ []) ≡ Some given → IsTold x given

record AreTold (hub : Hub) (i : ℕ) (given : List ℕ) : Type 0 where
  well : IsWell hub
  absent : slice_get hub.connections i ≡ None → given ≡ []
  told : (x : Connection) → slice_get hub.connections i ≡ Some x → x.session ≡ None → IsTold x given

-- who is not over was told nothing
told_nothing : (x : Connection) (given : List ℕ) → x.is_over ≡ false → IsTold x given → given ≡ []
told_nothing x given on (Nothing e) = e
told_nothing x given on (Once over none sp) = absurd (let wrong : true ≡ false = sym over ∙ on in cc)

there_now : (old new : Hub) (j : ℕ) (x y : Connection) (i : ℕ) → ChangesOnly old new j x y → slice_get new.connections i ≡ None → slice_get old.connections i ≡ None
there_now old new j x y i only e = at (eqb j i) (sym (ap (λ (zs : List Connection). slice_get zs i) only.others ∙ get_set old.connections j x y i only.was) ∙ e) where
  at : (b : Bool) → cond b (Some y) (slice_get old.connections i) ≡ None → slice_get old.connections i ≡ None
  at true f = absurd cc
  at false f = f

was_at : (old : Hub) (j i : ℕ) (x : Connection) → slice_get old.connections j ≡ Some x → j ≡ i → slice_get old.connections i ≡ Some x
was_at old j i x was e = subst (λ (n : ℕ). slice_get old.connections n ≡ Some x) e was

-- a call at connection j that gives nothing
silent_told : (old new : Hub) (j : ℕ) (x y : Connection) (i : ℕ) (given : List ℕ) → IsWell new → ChangesOnly old new j x y → x.is_over ≡ false → (y.session ≡ None → x.session ≡ None) → AreTold old i given → AreTold new i given
silent_told old new j x y i given well only on back h = record {
  well = well;
  absent = λ e. h.absent (there_now old new j x y i only e);
  told = λ z e none. told_at z none (which_now old new j x y i z only e);
} where
  told_at : (z : Connection) → z.session ≡ None → Which old.connections j y i z → IsTold z given
  told_at z none (Own e is) = Nothing (told_nothing x given on (h.told x (was_at old j i x only.was e) (back (ap (λ (v : Connection). v.session) is ∙ none))))
  told_at z none (Other ne e) = h.told z e none

-- connection j gave what it had not taken
taken_told : (old new : Hub) (j : ℕ) (bytes : List ℕ) (i : ℕ) (given : List ℕ) → Takes old j bytes new → AreTold old i given → AreTold new i (given ++ cond (eqb j i) bytes [])
taken_told old new j bytes i given f h = record {
  well = take_well old new j bytes h.well f;
  absent = λ e. absent_at (eqb j i) refl e;
  told = λ z e none. told_at z none (which_now old new j f.before (record f.before { has_refusal = false }) i z f.changes e);
} where
  own_out : j ≡ i → cond (eqb j i) bytes [] ≡ bytes
  own_out e = let k : eqb j i ≡ true = eq-eqb j i e in rw k refl

  other_out : (j ≡ i → ⊥) → given ++ cond (eqb j i) bytes [] ≡ given
  other_out ne = (let k : eqb j i ≡ false = ne_eqb j i ne in ap (λ b. given ++ cond b bytes []) k) ∙ append-nil given

  absent_at : (b : Bool) → eqb j i ≡ b → slice_get new.connections i ≡ None → given ++ cond (eqb j i) bytes [] ≡ []
  absent_at true k e = absurd (let there = sym (ap (λ (zs : List Connection). slice_get zs i) f.changes.others ∙ get_set old.connections j f.before (record f.before { has_refusal = false }) i f.changes.was ∙ ap (λ b. cond b (Some (record f.before { has_refusal = false })) (slice_get old.connections i)) k) ∙ e in cc)
  absent_at false k e = ap (λ b. given ++ cond b bytes []) k ∙ append-nil given ∙ h.absent (there_now old new j f.before (record f.before { has_refusal = false }) i f.changes e)

  some_is : (s t : List ℕ) → Some s ≡ Some t → t ≡ s
  some_is s t e = cc

  untaken_is : (r : Bool) → f.before.has_refusal ≡ r → untaken old.core f.before ≡ cond r (Refused BadKey ∷ []) (untaken_of old.core f.before.session)
  untaken_is r e = rw e refl

  nothing_left : f.before.session ≡ None → f.before.has_refusal ≡ false → bytes ≡ []
  nothing_left none e = some_is [] bytes (sym (ap spell_answers (untaken_is false e ∙ ap (untaken_of old.core) none)) ∙ f.given)

  told_once : f.before.session ≡ None → IsTold f.before given → (r : Bool) → f.before.has_refusal ≡ r → IsTold (record f.before { has_refusal = false }) (given ++ bytes)
  told_once none (Nothing e) true refusal =
      Once (h.well.sessions.refused j f.before f.changes.was refusal).1 refl
      (sym (ap spell_answers (untaken_is true refusal)) ∙ f.given ∙ ap (λ (t : List ℕ). Some (t ++ bytes)) (sym e))
  told_once none (Nothing e) false refusal = Nothing (ap (λ (t : List ℕ). t ++ bytes) e ∙ nothing_left none refusal)
  told_once none (Once over clear sp) r refusal = Once over refl (sp ∙ ap Some (sym (ap (λ (t : List ℕ). given ++ t) (nothing_left none clear) ∙ append-nil given)))

  told_at : (z : Connection) → z.session ≡ None → Which old.connections j (record f.before { has_refusal = false }) i z → IsTold z (given ++ cond (eqb j i) bytes [])
  told_at z none (Own e is) =
      let none' : f.before.session ≡ None = ap (λ (v : Connection). v.session) is ∙ none in
      subst (λ (t : List ℕ). IsTold z (given ++ t)) (sym (own_out e))
      (subst (λ (v : Connection). IsTold v (given ++ bytes)) is (told_once none' (h.told f.before (was_at old j i f.before f.changes.was e) none') f.before.has_refusal refl))
  told_at z none (Other ne e) = subst (λ (t : List ℕ). IsTold z t) (sym (other_out ne)) (h.told z e none)

opened_told : (old new : Hub) (i : ℕ) (given : List ℕ) → new ≡ with_connection old → AreTold old i given → AreTold new i given
opened_told old new i given is h = subst (λ (z : Hub). AreTold z i given) (sym is) (record {
  well = opened_well old (with_connection old) refl h.well;
  absent = λ e. h.absent (none_before old.connections i e);
  told = λ x e none. told_at x none (after_opening old.connections i x e);
}) where
  told_at : (x : Connection) → x.session ≡ None → AfterOpening old.connections i x → IsTold x given
  told_at x none (Fresh past fresh) = Nothing (h.absent past)
  told_at x none (Stood e) = h.told x e none

named_told : (old new : Hub) (j i : ℕ) (given : List ℕ) → Names old j new → AreTold old i given → AreTold new i given
named_told old new j i given f h = record {
  well = named_well old new j f h.well;
  absent = λ e. h.absent (ap (λ (z : Hub). slice_get z.connections i) (sym f.now) ∙ e);
  told = λ x e none. h.told x (ap (λ (z : Hub). slice_get z.connections i) (sym f.now) ∙ e) none;
}

ticked_told : (old new : Hub) (moment i : ℕ) (given : List ℕ) → Ticks old moment new → AreTold old i given → AreTold new i given
ticked_told old new moment i given t h = record {
  well = ticked_well old new moment t h.well;
  absent = λ e. h.absent (there ∙ e);
  told = λ x e none. h.told x (there ∙ e) none;
} where
  there : slice_get old.connections i ≡ slice_get new.connections i
  there = ap (λ (zs : List Connection). slice_get zs i) (sym t.connections)

forgot_told : (old new : Hub) (i : ℕ) (given : List ℕ) → Forgets old new → AreTold old i given → AreTold new i given
forgot_told old new i given f h = record {
  well = forgot_well old new f h.well;
  absent = λ e. h.absent (ap (λ (z : Hub). slice_get z.connections i) (sym f.now) ∙ e);
  told = λ x e none. h.told x (ap (λ (z : Hub). slice_get z.connections i) (sym f.now) ∙ e) none;
}

fed_told : (old new : Hub) (j : ℕ) (piece : List ℕ) (fed : Fed) (i : ℕ) (given : List ℕ) → Feeds old j piece fed new → AreTold old i given → AreTold new i given
fed_told old new j piece fed i given f h =
    let m = fed_change old new j piece fed h.well f in
    silent_told old new j f.before f.later i given (fed_well old new j piece fed h.well f) f.changes f.open_before (λ none. no_session f.before.session f.later.session m.stays none) h

hung_up_told : (old new : Hub) (j i : ℕ) (given : List ℕ) → HangsUp old j new → AreTold old i given → AreTold new i given
hung_up_told old new j i given f h = silent_told old new j f.before (record f.before { kept = []; is_over = true }) i given (hung_up_well old new j h.well f) f.changes f.open_before (λ none. none) h

call_told : (i : ℕ) (call : Call) (old new : Hub) (given : List ℕ) → Makes call old new → AreTold old i given → AreTold new i (given ++ given_by i call)
call_told i Opened old new given made h = nothing_more (λ (z : Hub) (bytes : List ℕ). AreTold z i bytes) new given (opened_told old new i given made h)
call_told i (TookPiece j piece fed) old new given made h = nothing_more (λ (z : Hub) (bytes : List ℕ). AreTold z i bytes) new given (fed_told old new j piece fed i given made h)
call_told i (HungUp j) old new given made h = nothing_more (λ (z : Hub) (bytes : List ℕ). AreTold z i bytes) new given (hung_up_told old new j i given made h)
call_told i (Named j) old new given made h = nothing_more (λ (z : Hub) (bytes : List ℕ). AreTold z i bytes) new given (named_told old new j i given made h)
call_told i (Ticked moment) old new given made h = nothing_more (λ (z : Hub) (bytes : List ℕ). AreTold z i bytes) new given (ticked_told old new moment i given made h)
call_told i Forgot old new given made h = nothing_more (λ (z : Hub) (bytes : List ℕ). AreTold z i bytes) new given (forgot_told old new i given made h)
call_told i (Gave j bytes) old new given made h = taken_told old new j bytes i given made h

new_told : (c : Config) (i : ℕ) → first_bad c.limits ≡ None → AreTold (new_hub c) i []
new_told c i range = record { well = new_well c range; absent = λ e. refl; told = λ x e none. Nothing refl }

-- the refusal of a hello has a frame
refusal_spelled : (hub : Hub) → IsWell hub → IsSome (spell_answers (Refused BadKey ∷ []))
refusal_spelled hub w = untaken_spelled hub.core (record { kept = []; session = None; has_refusal = true; is_over = true }) w.in_range w.legal w.agree

-- nothing, or all of the refusal, is a beginning of it
one_refusal : (x : Connection) (given : List ℕ) → IsSome (spell_answers (Refused BadKey ∷ [])) → IsTold x given → GivesOneRefusal given
one_refusal x given some (Nothing e) = subst GivesOneRefusal (sym e) (spelled (spell_answers (Refused BadKey ∷ [])) refl some) where
  spelled : (t : Option (List ℕ)) → spell_answers (Refused BadKey ∷ []) ≡ t → IsSome t → GivesOneRefusal []
  spelled (Some bytes) k has = (bytes, k)
  spelled None k has = absurd (let wrong : false ≡ true = has in cc)
one_refusal x given some (Once over none sp) = ([], sp ∙ ap Some (sym (append-nil given)))

pub each_stranger : EachStrangerIsRefused
each_stranger c calls hub i x range made there none =
    let t = along_calls (λ (z : Hub) (bytes : List ℕ). AreTold z i bytes) (given_by i) (output_of i) refl (output_is i) (call_told i) calls (new_hub c) hub [] made (new_told c i range) in
    one_refusal x (output_of i calls) (refusal_spelled hub t.well) (t.told x there none)
