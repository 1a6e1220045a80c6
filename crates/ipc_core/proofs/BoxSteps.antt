-- What a step puts into outboxes is what it adds to each, and each has the last of what was answered.
use Rattle.std.proofs.Common.{◌≡◌, ℕ, zero, suc, ◌+◌, ◌<◌, ◌≤◌, Bool, true, false, not, ◌&&◌, ◌||◌, eqb, cond, List, [], ◌∷◌, ◌++◌, length, slice_get, Option, Some, None, refl, sym, ap, subst, ◌∙◌, append_assoc, arith}
use Rattle.std.specs.Prelude.{unwrap_or, map, filter, nat_lt}
use Rattle.std.specs.Option.{option_or, option_map}
use Rattle.std.proofs.lemmas.Bool.{eqb-true, eq-eqb, ne_eqb, ltb-true, ltb-false}
use Rattle.std.proofs.lemmas.List.{length_push}
use Rattle.ipc_terms.specs.Lists.{changed}
use Rattle.ipc_terms.specs.declared.rule.Rule.{Rule}
use Rattle.ipc_terms.specs.declared.ids.Sid.{Sid}
use Rattle.ipc_terms.specs.declared.call.Answer.{Answer}
use Rattle.ipc_terms.specs.declared.call.Answer.TheVariants.{Started}
use Rattle.ipc_terms.specs.declared.record.Event.{Event}
use Rattle.ipc_terms.specs.declared.record.Event.TheVariants.{Hello, Do, Hangup, Tick}
use Rattle.ipc_core.specs.Boxes.{box_at, of_first, taken}
use Rattle.ipc_policy.specs.declared.config.Config.{Config}
use Rattle.ipc_policy.specs.Decides.History.{History}
use Rattle.ipc_policy.specs.Decides.Sessions.{hellos, live}
use Rattle.ipc_policy.specs.Decides.Verdict.{verdict, answers, answers_at, accepted_answers, for_session, outbox, after_event, after_events}
use Rattle.ipc_policy.specs.Follows.Grow.{live_after}
use Rattle.ipc_policy.proofs.Directories.Living.{append_none}
use Rattle.ipc_policy.proofs.Histories.Grown.{grows}
use Rattle.ipc_policy.proofs.Histories.Refused.{same_values}
use Rattle.ipc_policy.proofs.Histories.Known.{live_below}
use Rattle.ipc_policy.proofs.Outcomes.Outboxes.{outbox_after}
use Rattle.ipc_state.specs.StateView.{StateView}
use Rattle.ipc_core.specs.Outboxes.{with_more, starts, with_box, added, untaken_after, after_step, after_steps, IsSuffix, BoxesAgree, Stand}
use Rattle.ipc_core.specs.CoreView.{CoreView}
use Rattle.ipc_core.proofs.BoxTables.{box_past, box_first, count_first, first_same, first_changed, more_first}
use Rattle.ipc_terms.proofs.Lists.{slice_get_push, slice_past, changed_if, at_changed, count_changed}

for_more : (s : ℕ) (p : Sid × Answer) (ps : List (Sid × Answer)) → for_session s (p ∷ ps) ≡ cond (eqb p.0.0 s) (p.1 ∷ for_session s ps) (for_session s ps)
for_more s p ps = at (eqb p.0.0 s) where
  rest : List (Sid × Answer)
  rest = filter (λ q. eqb q.0.0 s) ps

  at : (b : Bool) → map (λ (q : Sid × Answer). q.1) (cond b (p ∷ rest) rest) ≡ cond b (p.1 ∷ for_session s ps) (for_session s ps)
  at true = refl
  at false = refl

-- what is told to the sessions that are kept
none_kept : (b : Bool) → ◌≡◌ {A = List Answer} (cond b [] []) []
none_kept true = refl
none_kept false = refl

for_kept : (keep : ℕ → Bool) (s : ℕ) (ps : List (Sid × Answer)) → for_session s (filter (λ p. keep p.0.0) ps) ≡ cond (keep s) (for_session s ps) []
for_kept keep s [] = sym (none_kept (keep s))
for_kept keep s (p ∷ ps) = at (keep p.0.0) (eqb p.0.0 s) refl refl (for_kept keep s ps) where
  rest : List (Sid × Answer)
  rest = filter (λ q. keep q.0.0) ps

  at : (b own : Bool) → keep p.0.0 ≡ b → eqb p.0.0 s ≡ own → for_session s rest ≡ cond (keep s) (for_session s ps) [] → for_session s (cond b (p ∷ rest) rest) ≡ cond (keep s) (for_session s (p ∷ ps)) []
  at true true k e so_far =
      let kept : keep s ≡ true = ap keep (sym (eqb-true p.0.0 s e)) ∙ k in
      let before : for_session s rest ≡ for_session s ps = so_far ∙ ap (λ b. cond b (for_session s ps) []) kept in
      for_more s p rest ∙ ap (λ b. cond b (p.1 ∷ for_session s rest) (for_session s rest)) e ∙ ap (λ l. p.1 ∷ l) before
      ∙ sym (for_more s p ps ∙ ap (λ b. cond b (p.1 ∷ for_session s ps) (for_session s ps)) e)
      ∙ sym (ap (λ b. cond b (for_session s (p ∷ ps)) []) kept)
  at true false k e so_far =
      for_more s p rest ∙ ap (λ b. cond b (p.1 ∷ for_session s rest) (for_session s rest)) e ∙ so_far
      ∙ ap (λ l. cond (keep s) l []) (sym (for_more s p ps ∙ ap (λ b. cond b (p.1 ∷ for_session s ps) (for_session s ps)) e))
  at false true k e so_far =
      let dropped : keep s ≡ false = ap keep (sym (eqb-true p.0.0 s e)) ∙ k in
      so_far ∙ rw dropped refl
  at false false k e so_far = so_far ∙ ap (λ l. cond (keep s) l []) (sym (for_more s p ps ∙ ap (λ b. cond b (p.1 ∷ for_session s ps) (for_session s ps)) e))

-- what an event is answered to sessions that are live after it is what it is answered to those that were live, and to the one that starts
started_told : (h : History) (s : ℕ) (p : Sid × Answer) (was : Bool) → p.0.0 ≡ hellos h → cond (eqb (hellos h) s || was) (for_session s (p ∷ [])) [] ≡ for_session s (p ∷ [])
started_told h s p was same = at (eqb p.0.0 s) refl where
  at : (own : Bool) → eqb p.0.0 s ≡ own → cond (eqb (hellos h) s || was) (for_session s (p ∷ [])) [] ≡ for_session s (p ∷ [])
  at true e =
      let here : eqb (hellos h) s ≡ true = ap (λ n. eqb n s) (sym same) ∙ e in
      rw here refl
  at false e =
      let nothing : for_session s (p ∷ []) ≡ [] = for_more s p [] ∙ ap (λ b. cond b (p.1 ∷ []) []) e in
      rw nothing (none_kept (eqb (hellos h) s || was))

accepted_told : (c : Config) (h : History) (e : Event) (s : ℕ) → cond (live_after s e (hellos h) (live h s)) (for_session s (accepted_answers c h e)) [] ≡ cond (starts None e || live h s) (for_session s (accepted_answers c h e)) []
accepted_told c h (Hello found) s = started_told h s (record { 0 = hellos h }, Started (record { 0 = hellos h })) (live h s) refl
accepted_told c h (Do sid call) s = refl
accepted_told c h (Hangup sid) s = none_kept (not (eqb sid.0 s) && live h s) ∙ sym (none_kept (live h s))
accepted_told c h (Tick moment) s = refl

live_told : (c : Config) (h : History) (e : Event) (rule : Option Rule) (s : ℕ) → cond (live (record { event = e; rule = rule } ∷ h) s) (for_session s (answers_at rule c h e)) [] ≡ cond (starts rule e || live h s) (for_session s (answers_at rule c h e)) []
live_told c h e (Some rule) s = ap (λ b. cond b (for_session s (answers_at (Some rule) c h e)) []) ((same_values c h e rule).live s)
live_told c h e None s = ap (λ b. cond b (for_session s (accepted_answers c h e)) []) ((grows c h e).live_or_not s) ∙ accepted_told c h e s

added_is : (c : Config) (h : History) (e : Event) (s : ℕ) → added c h e s ≡ for_session s (filter (λ p. starts (verdict c h e) e || live h p.0.0) (answers c h e))
unfolding answers
added_is c h e s = live_told c h e (verdict c h e) s ∙ sym (for_kept (λ t. starts (verdict c h e) e || live h t) s (answers c h e))

-- each has the last of what its session was answered
count_more : (k : ℕ) (f : ℕ → List Answer) (boxes : List (List Answer)) → length (with_more k f boxes) ≡ length boxes
count_more k f [] = refl
count_more k f (b ∷ bs) = ap suc (count_more (k + 1) f bs)

at_more : (k : ℕ) (f : ℕ → List Answer) (boxes : List (List Answer)) (s : ℕ) → s < length boxes → box_at (with_more k f boxes) s ≡ box_at boxes s ++ f (k + s)
at_more k f [] s lt = absurd (omega arith)
at_more k f (b ∷ bs) zero lt = ap (λ n. b ++ f n) (omega arith)
at_more k f (b ∷ bs) (suc s) lt = at_more (k + 1) f bs s (omega arith) ∙ ap (λ n. box_at bs s ++ f n) (omega arith)

suffix_more : {A : Type 0} (xs ys zs : List A) → IsSuffix xs ys → IsSuffix (xs ++ zs) (ys ++ zs)
suffix_more xs ys zs k = record { front = k.front; whole = ap (λ l. l ++ zs) k.whole ∙ append_assoc k.front xs zs }

suffix_none : {A : Type 0} (ys : List A) → IsSuffix [] ys
suffix_none ys = record { front = ys; whole = sym (append_none ys) }

new_box : (rule : Option Rule) (e : Event) (boxes : List (List Answer)) (s : ℕ) → box_at (with_box (starts rule e) boxes) s ≡ box_at boxes s
new_box rule e boxes s = at (starts rule e) where
  pushed : (b : Bool) (w : Option (List Answer)) → (b ≡ true → w ≡ None) → unwrap_or (option_or (cond b (Some []) None) w) [] ≡ unwrap_or w []
  pushed true w none = sym (ap (λ o. unwrap_or o []) (none refl))
  pushed false w none = refl

  at : (b : Bool) → box_at (cond b (boxes ++ [] ∷ []) boxes) s ≡ box_at boxes s
  at true = ap (λ o. unwrap_or o []) (slice_get_push boxes [] s) ∙ pushed (eqb (length boxes) s) (slice_get boxes s) (λ e. let q : length boxes ≡ s = eqb-true _ _ e in slice_past boxes s (omega arith))
  at false = refl

count_new : (rule : Option Rule) (e : Event) (boxes : List (List Answer)) → length (with_box (starts rule e) boxes) ≡ cond (starts rule e) (length boxes + 1) (length boxes)
count_new rule e boxes = at (starts rule e) where
  at : (b : Bool) → length (cond b (boxes ++ [] ∷ []) boxes) ≡ cond b (length boxes + 1) (length boxes)
  at true = length_push boxes []
  at false = refl

hellos_at : (c : Config) (h : History) (e : Event) (rule : Option Rule) → hellos (record { event = e; rule = rule } ∷ h) ≡ cond (starts rule e) (hellos h + 1) (hellos h)
hellos_at c h e (Some rule) = (same_values c h e rule).hellos
hellos_at c h (Hello found) None = (grows c h (Hello found)).hello_count
hellos_at c h (Do sid call) None = (grows c h (Do sid call)).hello_count
hellos_at c h (Hangup sid) None = (grows c h (Hangup sid)).hello_count
hellos_at c h (Tick moment) None = (grows c h (Tick moment)).hello_count

count_grown : (rule : Option Rule) (e : Event) (boxes : List (List Answer)) → length boxes ≤ length (with_box (starts rule e) boxes)
count_grown rule e boxes = at (starts rule e) where
  at : (b : Bool) → length boxes ≤ length (cond b (boxes ++ [] ∷ []) boxes)
  at true = let k = length_push boxes [] in omega arith
  at false = omega arith

-- there is one for each session after an event too
count_after : (c : Config) (h : History) (e : Event) (boxes : List (List Answer)) → length boxes ≡ hellos h → length (with_box (starts (verdict c h e) e) boxes) ≡ hellos (after_event c h e)
count_after c h e boxes k = count_new (verdict c h e) e boxes ∙ ap (λ n. cond (starts (verdict c h e) e) (n + 1) n) k ∙ sym (hellos_at c h e (verdict c h e))

-- a session that was not started is answered nothing
added_past : (c : Config) (h : History) (e : Event) (s : ℕ) → hellos (after_event c h e) ≤ s → added c h e s ≡ []
added_past c h e s le = at (live (after_event c h e) s) refl where
  at : (b : Bool) → live (after_event c h e) s ≡ b → cond b (for_session s (answers c h e)) [] ≡ []
  at true k = absurd (let below = live_below (after_event c h e) s k in omega arith)
  at false k = refl

-- so each session's untaken answers get what the event adds to them
pub untaken_at : (c : Config) (h : History) (e : Event) (boxes : List (List Answer)) (s : ℕ) → length boxes ≡ hellos h → box_at (untaken_after c h e boxes) s ≡ box_at boxes s ++ added c h e s
unfolding untaken_after
untaken_at c h e boxes s count = at (nat_lt s (length (with_box (starts (verdict c h e) e) boxes))) refl where
  at : (b : Bool) → nat_lt s (length (with_box (starts (verdict c h e) e) boxes)) ≡ b → box_at (with_more 0 (added c h e) (with_box (starts (verdict c h e) e) boxes)) s ≡ box_at boxes s ++ added c h e s
  at true k =
      at_more 0 (added c h e) (with_box (starts (verdict c h e) e) boxes) s (ltb-true _ _ k)
      ∙ ap (λ n. box_at (with_box (starts (verdict c h e) e) boxes) s ++ added c h e n) (omega arith)
      ∙ ap (λ box. box ++ added c h e s) (new_box (verdict c h e) e boxes s)
  at false k =
      let past : length (with_box (starts (verdict c h e) e) boxes) ≤ s = ltb-false _ _ k in
      let size = count_more 0 (added c h e) (with_box (starts (verdict c h e) e) boxes) in
      let grown = count_grown (verdict c h e) e boxes in
      let now = count_after c h e boxes count in
      box_past (with_more 0 (added c h e) (with_box (starts (verdict c h e) e) boxes)) s (omega arith)
      ∙ sym (ap (λ more. box_at boxes s ++ more) (added_past c h e s (omega arith)) ∙ append_none (box_at boxes s) ∙ box_past boxes s (omega arith))

pub boxes_after : (c : Config) (h : History) (e : Event) (boxes : List (List Answer)) → BoxesAgree c h boxes → BoxesAgree c (after_event c h e) (untaken_after c h e boxes)
unfolding untaken_after
boxes_after c h e boxes a = record {
  count = count_more 0 (added c h e) (with_box (starts (verdict c h e) e) boxes) ∙ count_after c h e boxes a.count;
  suffix = λ s.
      subst (λ box. IsSuffix box (outbox c (after_event c h e) s)) (sym (untaken_at c h e boxes s a.count))
      (subst (λ all. IsSuffix (box_at boxes s ++ added c h e s) all) (sym (outbox_after c h e s)) (suffix_more (box_at boxes s) (outbox c h s) (added c h e s) (a.suffix s)));
}

-- what a step leaves untaken, session by session
box_new : (c : Config) (h : History) (e : Event) (rule : Option Rule) (untaken : ℕ → List Answer) → untaken (hellos h) ≡ [] → with_box (starts rule e) (of_first (hellos h) untaken) ≡ of_first (hellos (record { event = e; rule = rule } ∷ h)) untaken
box_new c h e rule untaken none = at (starts rule e) ∙ ap (λ n. of_first n untaken) (sym (hellos_at c h e rule)) where
  at : (b : Bool) → cond b (of_first (hellos h) untaken ++ [] ∷ []) (of_first (hellos h) untaken) ≡ of_first (cond b (hellos h + 1) (hellos h)) untaken
  at true = let one : suc (hellos h) ≡ hellos h + 1 = omega arith in ap (λ box. of_first (hellos h) untaken ++ box ∷ []) (sym none) ∙ ap (λ n. of_first n untaken) one
  at false = refl

first_after : (c : Config) (h : History) (e : Event) (untaken now : ℕ → List Answer) → untaken (hellos h) ≡ [] → ((s : ℕ) → now s ≡ untaken s ++ added c h e s) → of_first (hellos (after_event c h e)) now ≡ untaken_after c h e (of_first (hellos h) untaken)
unfolding untaken_after
first_after c h e untaken now none is =
    first_same (hellos (after_event c h e)) now (λ s. untaken s ++ added c h e s) is
    ∙ sym (more_first (hellos (after_event c h e)) untaken (added c h e))
    ∙ ap (with_more 0 (added c h e)) (sym (box_new c h e (verdict c h e) untaken none))

hellos_grow : (c : Config) (h : History) (e : Event) → hellos h ≤ hellos (after_event c h e)
hellos_grow c h e = subst (λ n. hellos h ≤ n) (sym (hellos_at c h e (verdict c h e))) (at (starts (verdict c h e) e)) where
  at : (b : Bool) → hellos h ≤ cond b (hellos h + 1) (hellos h)
  at true = omega arith
  at false = omega arith

stand_after : (c : Config) (h : History) (e : Event) (untaken now : ℕ → List Answer) → Stand c h untaken → ((s : ℕ) → now s ≡ untaken s ++ added c h e s) → Stand c (after_event c h e) now
stand_after c h e untaken now k is = record {
  unstarted = λ s le. let grown = hellos_grow c h e in is s ∙ ap (λ box. box ++ added c h e s) (k.unstarted s (omega arith)) ∙ added_past c h e s le;
  agree = subst (λ boxes. BoxesAgree c (after_event c h e) boxes) (sym (first_after c h e untaken now (k.unstarted (hellos h) (omega arith)) is)) (boxes_after c h e (of_first (hellos h) untaken) k.agree);
}

-- the same, by what a step does: what is for nobody that is live is dropped, there is room, and the rest is put
pub record Stepped (a : StateView) (e : Event) (untaken now : ℕ → List Answer) : Type 0 where
  pub stand : Stand a.config (after_event a.config a.history e) now
  pub first : of_first (hellos (after_event a.config a.history e)) now ≡ untaken_after a.config a.history e (of_first (hellos a.history) untaken)

pub stepped : (a : StateView) (e : Event) (rule : Option Rule) (kept : List (Sid × Answer)) (untaken room now : ℕ → List Answer) → rule ≡ verdict a.config a.history e → kept ≡ filter (λ p. starts rule e || live a.history p.0.0) (answers a.config a.history e) → ((s : ℕ) → room s ≡ untaken s) → ((s : ℕ) → now s ≡ room s ++ for_session s kept) → Stand a.config a.history untaken → Stepped a e untaken now
stepped a e rule kept untaken room now is cut same put k = record {
  stand = stand_after a.config a.history e untaken now k adds;
  first = first_after a.config a.history e untaken now (k.unstarted (hellos a.history) (omega arith)) adds;
} where
  cut_is : kept ≡ filter (λ p. starts (verdict a.config a.history e) e || live a.history p.0.0) (answers a.config a.history e)
  cut_is = cut ∙ rw is refl

  adds : (s : ℕ) → now s ≡ untaken s ++ added a.config a.history e s
  adds s = put s ∙ ap (λ box. box ++ for_session s kept) (same s) ∙ ap (λ ps. untaken s ++ for_session s ps) cut_is ∙ ap (λ more. untaken s ++ more) (sym (added_is a.config a.history e s))

-- there are none at the start
pub boxes_new : (c : Config) → BoxesAgree c [] []
unfolding hellos outbox
boxes_new c = record { count = refl; suffix = λ s. suffix_none [] }

-- a take leaves its session nothing, and every other what it had
pub taken_here : (boxes : List (List Answer)) (s : ℕ) → box_at (changed taken boxes s) s ≡ []
taken_here boxes s = ap (λ w. unwrap_or w []) (at_changed taken boxes s s ∙ ap (λ b. option_map (changed_if b taken) (slice_get boxes s)) (eq-eqb s s refl)) ∙ at (slice_get boxes s) where
  at : (w : Option (List Answer)) → unwrap_or (option_map taken w) [] ≡ []
  at None = refl
  at (Some box) = refl

pub taken_elsewhere : (boxes : List (List Answer)) (s t : ℕ) → (t ≡ s → ⊥) → box_at (changed taken boxes s) t ≡ box_at boxes t
taken_elsewhere boxes s t other = ap (λ w. unwrap_or w []) (at_changed taken boxes s t ∙ ap (λ b. option_map (changed_if b taken) (slice_get boxes t)) (ne_eqb s t (λ q. other (sym q)))) ∙ at (slice_get boxes t) where
  at : (w : Option (List Answer)) → unwrap_or (option_map (changed_if false taken) w) [] ≡ unwrap_or w []
  at None = refl
  at (Some box) = refl

-- and each has the last of what its session was answered
taken_at : (b : Bool) (w : Option (List Answer)) (ys : List Answer) → IsSuffix (unwrap_or w []) ys → IsSuffix (unwrap_or (option_map (changed_if b taken) w) []) ys
taken_at true None ys k = k
taken_at true (Some box) ys k = suffix_none ys
taken_at false None ys k = k
taken_at false (Some box) ys k = k

pub boxes_taken : (c : Config) (h : History) (boxes : List (List Answer)) (i : ℕ) → BoxesAgree c h boxes → BoxesAgree c h (changed taken boxes i)
boxes_taken c h boxes i a = record {
  count = count_changed taken boxes i ∙ a.count;
  suffix = λ s. subst (λ w. IsSuffix (unwrap_or w []) (outbox c h s)) (sym (at_changed taken boxes i s)) (taken_at (eqb i s) (slice_get boxes s) (outbox c h s) (a.suffix s));
}

pub stand_new : (c : Config) (untaken : ℕ → List Answer) → ((s : ℕ) → untaken s ≡ []) → Stand c [] untaken
unfolding hellos
stand_new c untaken none = record { unstarted = λ s le. none s; agree = boxes_new c }

-- nor where nothing is untaken that was answered before
pub fresh_box : (n : ℕ) (untaken : ℕ → List Answer) (s : ℕ) → ((t : ℕ) → untaken t ≡ []) → box_at (of_first n untaken) s ≡ []
fresh_box n untaken s none = box_first n untaken s (λ t le. none t) ∙ none s

pub stand_fresh : (c : Config) (h : History) (untaken : ℕ → List Answer) → ((s : ℕ) → untaken s ≡ []) → Stand c h untaken
stand_fresh c h untaken none = record {
  unstarted = λ s le. none s;
  agree = record {
    count = count_first (hellos h) untaken;
    suffix = λ s. subst (λ box. IsSuffix box (outbox c h s)) (sym (fresh_box (hellos h) untaken s none)) (suffix_none (outbox c h s));
  };
}

pub state_new : (c : Config) (untaken : ℕ → List Answer) → ◌≡◌ {A = CoreView} (record { config = c; history = []; untaken = of_first (hellos []) untaken; first = 0 }) (record { config = c; history = []; untaken = []; first = 0 })
unfolding hellos
state_new c untaken = refl

pub stand_taken : (c : Config) (h : History) (f g : ℕ → List Answer) (i : ℕ) → ((s : ℕ) → g s ≡ cond (eqb i s) [] (f s)) → Stand c h f → Stand c h g
stand_taken c h f g i is k = record {
  unstarted = λ s le. is s ∙ at (eqb i s) (f s) (k.unstarted s le);
  agree = subst (λ boxes. BoxesAgree c h boxes) (sym (first_changed taken (hellos h) f g i is)) (boxes_taken c h (of_first (hellos h) f) i k.agree);
} where
  at : (b : Bool) (box : List Answer) → box ≡ [] → cond b [] box ≡ []
  at true box none = refl
  at false box none = none

-- one more event at the end of a list
pub steps_more : (es : List Event) (e : Event) (a : CoreView) → after_steps (es ++ e ∷ []) a ≡ after_step e (after_steps es a)
steps_more [] e a = refl
steps_more (d ∷ es) e a = steps_more es e (after_step d a)

pub steps_answers : (es : List Event) (e : Event) (a : CoreView) → answers (after_steps es a).config (after_steps es a).history e ≡ answers a.config (after_events a.config a.history es) e
steps_answers [] e a = refl
steps_answers (d ∷ es) e a = steps_answers es e (after_step d a)
