-- A core steps, and whom it answers is marked.
use Rattle.std.proofs.Common.{◌≡◌, ℕ, ◌+◌, ◌<◌, ◌≤◌, Bool, true, false, eqb, cond, List, [], ◌∷◌, ◌++◌, length, map, set, Option, Some, None, refl, sym, ap, subst, ◌∙◌, arith}
use Rattle.std.specs.List.{filter}
use Rattle.std.specs.Option.{option_to_list}
use Rattle.std.proofs.lemmas.Bool.{eq-eqb, eqb-true, eqb-false}
use Rattle.std.proofs.lemmas.List.{append-nil}
use Rattle.ipc_terms.specs.declared.ids.Sid.{Sid}
use Rattle.ipc_terms.specs.declared.call.Answer.{Answer}
use Rattle.ipc_terms.specs.declared.record.Event.{Event}
use Rattle.ipc_terms.specs.declared.record.Event.TheVariants.{Hangup}
use Rattle.ipc_policy.specs.declared.config.Config.{Config}
use Rattle.ipc_policy.specs.Decides.History.{History}
use Rattle.ipc_policy.specs.Decides.Sessions.{hellos, live}
use Rattle.ipc_policy.specs.Decides.Verdict.{answers, for_session, after_event}
use Rattle.ipc_core.specs.Boxes.{box_at}
use Rattle.ipc_core.specs.Outboxes.{added, after_step, BoxesAgree}
use Rattle.ipc_core.specs.CoreView.{CoreView}
use Rattle.ipc_core.proofs.BoxTables.{box_past}
use Rattle.ipc_core.proofs.LawLemmas.{each_is_added}
use Rattle.ipc_hub.specs.Hub.{untaken_of, HasEnded}
use Rattle.ipc_hub.specs.Marking.{is_set, owner_of, sessions_in, with_owner, without_newest, without_owner, Owners, MarksView, MarksOwners, NoneIs}
use Rattle.ipc_hub.specs.MarkedCore.{MarkedView, IsOwned, Owned, NoMore, EndedStay, Follows, MarksAnswered, GainsAtMostTwo}
use Rattle.ipc_hub.proofs.MarkLemmas.{set_at, set_count, both_marked}
use Rattle.ipc_hub.proofs.OwnerLemmas.{length_both, own_owner, owner_stays, newest_undone, owned_within, others_own}
use Rattle.ipc_hub.proofs.SessionSteps.{hellos_later, hung_up_is_over}
use Rattle.ipc_hub.proofs.GoneLemmas.{ended_steps}

-- ---- whom a step answers

none_told : (s : ℕ) (told : List (Sid × Answer)) → NoneIs s (map (λ p. p.0) told) → for_session s told ≡ []
none_told s [] h = refl
none_told s (p ∷ ps) h = ap (λ b. map (λ (q : Sid × Answer). q.1) (cond b (p ∷ filter (λ (q : Sid × Answer). eqb q.0.0 s) ps) (filter (λ (q : Sid × Answer). eqb q.0.0 s) ps))) h.0 ∙ none_told s ps h.1

few_told : (s : ℕ) (told : List (Sid × Answer)) → length (for_session s told) ≤ length told
few_told s [] = omega arith
few_told s (p ∷ ps) = at (eqb p.0.0 s) (few_told s ps) where
  at : (b : Bool) → length (for_session s ps) ≤ length ps → length (map (λ (q : Sid × Answer). q.1) (cond b (p ∷ filter (λ (q : Sid × Answer). eqb q.0.0 s) ps) (filter (λ (q : Sid × Answer). eqb q.0.0 s) ps))) ≤ length (p ∷ ps)
  at true le = omega arith
  at false le = omega arith

none_either : (b : Bool) → ◌≡◌ {A = List Answer} (cond b [] []) []
none_either true = refl
none_either false = refl

same_box : (a b : CoreView) (e : Event) (s : ℕ) → BoxesAgree a.config a.history a.untaken → b ≡ after_step e a → added a.config a.history e s ≡ [] → box_at b.untaken s ≡ box_at a.untaken s
same_box a b e s agree now none =
    ap (λ (z : CoreView). box_at z.untaken s) now
    ∙ each_is_added a.config a.history e a.untaken s agree
    ∙ ap (λ (more : List Answer). box_at a.untaken s ++ more) none
    ∙ append-nil (box_at a.untaken s)

untold : (c : Config) (h : History) (e : Event) (s : ℕ) → for_session s (answers c h e) ≡ [] → added c h e s ≡ []
untold c h e s none = ap (λ (more : List Answer). cond (live (after_event c h e) s) more []) none ∙ none_either (live (after_event c h e) s)

-- who has ended is told nothing
ended_stay : (a b : CoreView) (e : Event) → BoxesAgree a.config a.history a.untaken → b ≡ after_step e a → EndedStay a b
ended_stay a b e agree now = record {
  ended = λ sid h. subst (λ (z : CoreView). HasEnded z sid) (sym now) (ended_steps (e ∷ []) a sid h);
  silent = λ sid h. same_box a b e sid.0 agree now (ap (λ on. cond on (for_session sid.0 (answers a.config a.history e)) []) (ended_steps (e ∷ []) a sid h).ended);
}

length_firsts : (told : List (Sid × Answer)) → length (map (λ p. p.0) told) ≡ length told
length_firsts [] = refl
length_firsts (p ∷ ps) = let e = length_firsts ps in omega arith

one_at_most : (w : Option Sid) → length (option_to_list w) ≤ 1
one_at_most None = omega arith
one_at_most (Some sid) = omega arith

two_told : (told : List (Sid × Answer)) (v w : Option Sid) → option_to_list v ++ option_to_list w ≡ map (λ p. p.0) told → length told ≤ 2
two_told told v w e =
    let n : length told ≡ length (option_to_list v) + length (option_to_list w) = sym (length_firsts told) ∙ ap (λ (xs : List Sid). length xs) (sym e) ∙ length_both (option_to_list v) (option_to_list w) in
    let le = one_at_most v in
    let le' = one_at_most w in
    omega arith

few_added : (c : Config) (h : History) (e : Event) (s : ℕ) → length (answers c h e) ≤ 2 → length (added c h e s) ≤ 2
few_added c h e s le = at (live (after_event c h e) s) where
  at : (b : Bool) → length (cond b (for_session s (answers c h e)) []) ≤ 2
  at true = let less = few_told s (answers c h e) in omega arith
  at false = omega arith

pub gains_two : (a b : CoreView) (e : Event) (v w : Option Sid) → BoxesAgree a.config a.history a.untaken → b ≡ after_step e a → option_to_list v ++ option_to_list w ≡ map (λ p. p.0) (answers a.config a.history e) → GainsAtMostTwo a b
gains_two a b e v w agree now sids s =
    let n : length (box_at b.untaken s) ≡ length (box_at a.untaken s) + length (added a.config a.history e s) = ap (λ (z : CoreView). length (box_at z.untaken s)) now ∙ ap (λ (xs : List Answer). length xs) (each_is_added a.config a.history e a.untaken s agree) ∙ length_both (box_at a.untaken s) (added a.config a.history e s) in
    let le = few_added a.config a.history e s (two_told (answers a.config a.history e) v w sids) in
    omega arith

pub answered_marked : (a b : CoreView) (m k n : MarksView) (e : Event) (v w : Option Sid) → BoxesAgree a.config a.history a.untaken → b ≡ after_step e a → option_to_list v ++ option_to_list w ≡ map (λ p. p.0) (answers a.config a.history e) → MarksOwners m (option_to_list v) k → MarksOwners k (option_to_list w) n → MarksAnswered a m b n
answered_marked a b m k n e v w agree now sids first second =
    let h = both_marked m k n (option_to_list v) (option_to_list w) first second in
    record {
      same = h.same;
      count = h.count;
      kept = h.kept;
      silent = λ s i own may off. same_box a b e s agree now (untold a.config a.history e s (none_told s (answers a.config a.history e) (subst (λ (xs : List Sid). NoneIs s xs) sids (h.none s i own may off))));
      ended = ended_stay a b e agree now;
    }

-- ---- a core with marks

abbrev pub marked_view : CoreView → MarksView → MarkedView
marked_view a m = record { core = a; owners = m.owners; marked = m.marked; flagged = m.flagged }

pub follows_self : (m : MarkedView) → Follows m m
follows_self m = record { count = refl; flagged = refl; owners = λ s i e. Owned e; kept = λ i on. on; silent = λ s i e may off. refl; ended = record { ended = λ sid h. h; silent = λ sid h. refl } }

still_off : (p : Bool) {q : Bool} → q ≡ p → (q ≡ true → true ≡ false) → q ≡ false
still_off false e f = e
still_off true e f = absurd (let wrong = f e in cc)

pub owned_later : (a b : MarkedView) (s i : ℕ) → Follows a b → IsOwned a s i → IsOwned b s i
owned_later a b s i f (Owned e) = f.owners s i e
owned_later a b s i f (NoMore h) = NoMore (f.ended.ended (record { 0 = s }) h)

owned_silent : (a b : MarkedView) (s i : ℕ) → Follows a b → IsOwned a s i → is_set a.flagged i ≡ true → is_set b.marked i ≡ false → box_at b.core.untaken s ≡ box_at a.core.untaken s
owned_silent a b s i f (Owned e) may off = f.silent s i e may off
owned_silent a b s i f (NoMore h) may off = f.ended.silent (record { 0 = s }) h

pub follows_both : (a b c : MarkedView) → Follows a b → Follows b c → Follows a c
follows_both a b c h k = record {
  count = k.count ∙ h.count;
  flagged = k.flagged ∙ h.flagged;
  owners = λ s i e. owned_later b c s i k (h.owners s i e);
  kept = λ i on. k.kept i (h.kept i on);
  silent = λ s i e may off. owned_silent b c s i k (h.owners s i e) (ap (λ bs. is_set bs i) h.flagged ∙ may) off ∙ h.silent s i e may (still_off (is_set b.marked i) refl (λ on. sym (k.kept i on) ∙ off));
  ended = record {
    ended = λ sid e. k.ended.ended sid (h.ended.ended sid e);
    silent = λ sid e. k.ended.silent sid (h.ended.ended sid e) ∙ h.ended.silent sid e;
  };
}

pub answered_follows : (a b : CoreView) (m n : MarksView) → MarksAnswered a m b n → Follows (marked_view a m) (marked_view b n)
answered_follows a b m n h = record {
  count = h.count;
  flagged = ap (λ (z : MarksView). z.flagged) h.same;
  owners = λ s i e. Owned (ap (λ (z : MarksView). owner_of z.owners s) h.same ∙ e);
  kept = h.kept;
  silent = h.silent;
  ended = h.ended;
}

own_marked : (n : List Bool) (own : ℕ) → own < length n → is_set (set n own true) own ≡ true
own_marked n own lt = set_at n own true own lt ∙ ap (λ b. cond b true (is_set n own)) (eq-eqb own own refl)

-- a hello as it goes: from marks k of core a, as they are seen, to m, where the next session is the connection's, and from these to
-- n, where those who were answered are marked, and now, where the connection is
pub record AtHello (old : MarkedView) (own : ℕ) (a b : CoreView) (k m n now : MarksView) : Type 0 where
  pub seen : marked_view a k ≡ old
  pub pushed : m ≡ record k { owners = with_owner own k.owners }
  pub answered : MarksAnswered a m b n
  pub marked : now ≡ record n { marked = set n.marked own true }
  pub within : own < length n.marked

pub hello_owners : (old : MarkedView) (own : ℕ) (a b : CoreView) (k m n now : MarksView) → AtHello old own a b k m n now → now.owners ≡ with_owner own k.owners
hello_owners old own a b k m n now h = ap (λ (z : MarksView). z.owners) h.marked ∙ ap (λ (z : MarksView). z.owners) h.answered.same ∙ ap (λ (z : MarksView). z.owners) h.pushed

hello_follows : (old : MarkedView) (own : ℕ) (a b : CoreView) (k m n now : MarksView) (owners : Owners) → AtHello old own a b k m n now → ((s i : ℕ) → owner_of k.owners s ≡ Some i → owner_of owners s ≡ Some i) → Follows old (record { core = b; owners = owners; marked = now.marked; flagged = now.flagged })
hello_follows old own a b k m n now owners h keeps = subst (λ (o : MarkedView). Follows o (record { core = b; owners = owners; marked = now.marked; flagged = now.flagged })) h.seen (subst (λ (bs : List Bool). Follows (marked_view a k) (record { core = b; owners = owners; marked = bs; flagged = now.flagged })) (sym (ap (λ (z : MarksView). z.marked) h.marked)) (record {
  count = set_count n.marked own true ∙ h.answered.count ∙ ap (λ (z : MarksView). length z.marked) h.pushed;
  flagged = ap (λ (z : MarksView). z.flagged) h.marked ∙ ap (λ (z : MarksView). z.flagged) h.answered.same ∙ ap (λ (z : MarksView). z.flagged) h.pushed;
  owners = λ s i e. Owned (keeps s i e);
  kept = λ i on. set_at n.marked own true i h.within ∙ still (eqb own i) (is_set n.marked i) (h.answered.kept i (ap (λ (z : MarksView). is_set z.marked i) h.pushed ∙ on));
  silent = λ s i e may off. h.answered.silent s i (ap (λ (z : MarksView). owner_of z.owners s) h.pushed ∙ owner_stays k.owners own s i e) (ap (λ (z : MarksView). is_set z.flagged i) h.pushed ∙ may) (was_off i (eqb own i) (sym (set_at n.marked own true i h.within) ∙ off));
  ended = h.answered.ended;
})) where
  still : (b on : Bool) → on ≡ true → cond b true on ≡ true
  still true on e = refl
  still false on e = e

  was_off : (i : ℕ) (b : Bool) → cond b true (is_set n.marked i) ≡ false → is_set n.marked i ≡ false
  was_off i true e = absurd (let wrong : true ≡ false = e in cc)
  was_off i false e = e

-- of one that is refused: the next session never was
pub hello_undone : (old : MarkedView) (own : ℕ) (a b : CoreView) (k m n now last : MarksView) → AtHello old own a b k m n now → last ≡ record now { owners = without_newest now.owners } → last.owners ≡ k.owners
hello_undone old own a b k m n now last h undone = ap (λ (z : MarksView). z.owners) undone ∙ ap without_newest (hello_owners old own a b k m n now h) ∙ newest_undone k.owners own

pub hello_refused_follows : (old : MarkedView) (own : ℕ) (a b : CoreView) (k m n now last : MarksView) → AtHello old own a b k m n now → last ≡ record now { owners = without_newest now.owners } → Follows old (marked_view b last)
hello_refused_follows old own a b k m n now last h undone = subst (λ (z : MarksView). Follows old (record { core = b; owners = last.owners; marked = z.marked; flagged = z.flagged })) (sym undone) (hello_follows old own a b k m n now last.owners h (λ s i e. ap (λ (o : Owners). owner_of o s) (hello_undone old own a b k m n now last h undone) ∙ e))

-- of one that is accepted
pub hello_accepted_follows : (old : MarkedView) (own : ℕ) (a b : CoreView) (k m n now : MarksView) → AtHello old own a b k m n now → Follows old (marked_view b now)
hello_accepted_follows old own a b k m n now h = hello_follows old own a b k m n now now.owners h (λ s i e. ap (λ (o : Owners). owner_of o s) (hello_owners old own a b k m n now h) ∙ owner_stays k.owners own s i e)

pub hello_marks : (old : MarkedView) (own : ℕ) (a b : CoreView) (k m n now : MarksView) → AtHello old own a b k m n now → is_set now.marked own ≡ true
hello_marks old own a b k m n now h = ap (λ (z : MarksView). is_set z.marked own) h.marked ∙ own_marked n.marked own h.within

pub hello_owner : (old : MarkedView) (own : ℕ) (a b : CoreView) (k m n now : MarksView) (s : ℕ) → AtHello old own a b k m n now → s ≡ sessions_in k.owners → owner_of now.owners s ≡ Some own
hello_owner old own a b k m n now s h is = ap (λ (o : Owners). owner_of o s) (hello_owners old own a b k m n now h) ∙ own_owner k.owners own s is

-- ---- a session is hung up, and its connection goes

pub hung_up_follows : (old : MarkedView) (a b : CoreView) (m n last : MarksView) (sid : Sid) → marked_view a m ≡ old → sessions_in m.owners ≡ hellos a.history → b ≡ after_step (Hangup sid) a → MarksAnswered a m b n → last ≡ record n { owners = without_owner sid.0 n.owners } → Follows old (marked_view b last)
hung_up_follows old a b m n last sid seen count now h gone = subst (λ (o : MarkedView). Follows o (marked_view b last)) seen (subst (λ (z : MarksView). Follows (marked_view a m) (marked_view b z)) (sym gone) (record {
  count = h.count;
  flagged = ap (λ (z : MarksView). z.flagged) h.same;
  owners = λ s i e. owned s i e (eqb sid.0 s) refl;
  kept = h.kept;
  silent = h.silent;
  ended = h.ended;
})) where
  owned : (s i : ℕ) → owner_of m.owners s ≡ Some i → (b' : Bool) → eqb sid.0 s ≡ b' → IsOwned (marked_view b (record n { owners = without_owner sid.0 n.owners })) s i
  owned s i e true k =
      let is : sid.0 ≡ s = eqb-true sid.0 s k in
      let lt = owned_within m.owners s i e in
      let later = hellos_later (Hangup sid ∷ []) a in
      NoMore (subst (λ (z : CoreView). HasEnded z (record { 0 = s })) (sym now) (record { started = omega arith; ended = ap (live (after_step (Hangup sid) a).history) (sym is) ∙ hung_up_is_over a.config a.history sid }))
  owned s i e false k = Owned (others_own n.owners sid.0 s i (eqb-false sid.0 s k) (ap (λ (z : MarksView). owner_of z.owners s) h.same ∙ e))

-- a session that starts has at most two untaken answers
pub few_started : (a b : CoreView) (w : Option Sid) (s : ℕ) → BoxesAgree a.config a.history a.untaken → GainsAtMostTwo a b → w ≡ Some (record { 0 = s }) → s ≡ hellos a.history → length (untaken_of b w) ≤ 2
few_started a b w s agree few own is =
    let none : box_at a.untaken s ≡ [] = box_past a.untaken s (let n = agree.count in let k = is in omega arith) in
    let le = few s in
    let zero' : length (box_at a.untaken s) ≡ 0 = ap (λ (xs : List Answer). length xs) none in
    let same : length (untaken_of b w) ≡ length (box_at b.untaken s) = ap (λ (v : Option Sid). length (untaken_of b v)) own in
    omega arith

pub started_is : (w : Option Sid) (n : ℕ) (sid : Sid) → w ≡ Some (record { 0 = n }) → w ≡ Some sid → sid.0 ≡ n
started_is w n sid e k = number (record { 0 = n }) sid (sym e ∙ k) where
  number : (s t : Sid) → Some s ≡ Some t → t.0 ≡ s.0
  number s t q = cc
