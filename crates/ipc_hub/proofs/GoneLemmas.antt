-- A connection that is over, and has nothing untaken, stays so.
use Rattle.std.proofs.Common.{◌≡◌, ℕ, zero, suc, ◌+◌, ◌<◌, Bool, true, false, not, ◌&&◌, eqb, cond, List, [], ◌∷◌, ◌++◌, length, set, slice_get, take, Option, Some, None, refl, sym, ap, subst, ◌∙◌, arith}
use Rattle.std.specs.Prelude.{unwrap_or}
use Rattle.std.specs.Option.{option_or, option_map}
use Rattle.std.proofs.lemmas.Bool.{eqb-true, eqb-false, eq-eqb, ne_eqb}
use Rattle.std.proofs.lemmas.List.{append-nil}
use Rattle.ipc_terms.proofs.Lists.{slice_get_push}
use Rattle.ipc_terms.specs.declared.ids.Sid.{Sid}
use Rattle.ipc_terms.specs.declared.rule.Rule.{Rule}
use Rattle.ipc_terms.specs.declared.rule.Rule.TheVariants.{BadKey as Refusal}
use Rattle.ipc_terms.specs.declared.call.Answer.{Answer}
use Rattle.ipc_terms.specs.declared.call.Answer.TheVariants.{Refused}
use Rattle.ipc_terms.specs.declared.record.Event.{Event}
use Rattle.ipc_terms.specs.declared.record.Event.TheVariants.{Hello, Do, Hangup, Tick}
use Rattle.ipc_policy.specs.declared.config.Config.{Config}
use Rattle.ipc_policy.specs.Decides.History.{History}
use Rattle.ipc_policy.specs.Decides.Sessions.{hellos, live}
use Rattle.ipc_policy.specs.Follows.Grow.{live_after}
use Rattle.ipc_policy.specs.Decides.Verdict.{verdict, answers, for_session, after_event}
use Rattle.ipc_policy.proofs.Histories.Grown.{grows}
use Rattle.ipc_policy.proofs.Histories.Refused.{same_values}
use Rattle.ipc_core.specs.Boxes.{box_at}
use Rattle.ipc_core.specs.Outboxes.{with_more, starts, with_box, added, untaken_after, after_step, after_steps}
use Rattle.ipc_core.specs.CoreView.{CoreView}
use Rattle.ipc_core.proofs.BoxSteps.{taken_here, taken_elsewhere}
use Rattle.ipc_wire.specs.Streams.{Cut}
use Rattle.ipc_hub.specs.declared.fed.Fed.{Fed}
use Rattle.ipc_hub.specs.declared.fed.Fed.TheVariants.{Done, Short, Full, Over}
use Rattle.ipc_hub.specs.declared.fed.End.TheVariants.{Wire, BadKey}
use Rattle.ipc_hub.specs.Hub.{Connection, Hub, new_connection, with_connection, untaken_of, untaken, is_over_at, HasEnded, IsGone, events_of, hang_up_of, IsOutcome, ChangesOnly, Takes, core_after_take}
use Rattle.ipc_hub.specs.Sessions.{EachHasItsOwn}
use Rattle.ipc_hub.specs.Laws.{Call, Opened, TookPiece, HungUp, Gave, Named, Ticked, Forgot, Makes, WhoIsGoneStaysGone}
use Rattle.ipc_hub.proofs.SessionSteps.{hellos_later}
use Rattle.ipc_hub.proofs.SessionLemmas.{get_set}
use Rattle.ipc_hub.proofs.HubLemmas.{same_history, forgot_untaken}

-- ---- a session that has ended is answered nothing

and_false : (b : Bool) → (b && false) ≡ false
and_false true = refl
and_false false = refl

dead_after : (h : History) (e : Event) (s : ℕ) → s < hellos h → live h s ≡ false → live_after s e (hellos h) (live h s) ≡ false
dead_after h (Hello found) s lt off = let other : eqb (hellos h) s ≡ false = ne_eqb _ _ (λ (q : hellos h ≡ s). omega arith) in rw other off
dead_after h (Do sid call) s lt off = off
dead_after h (Hangup sid) s lt off = rw off (and_false (not (eqb sid.0 s)))
dead_after h (Tick moment) s lt off = off

dead_by : (c : Config) (h : History) (e : Event) (rule : Option Rule) (s : ℕ) → s < hellos h → live h s ≡ false → live (record { event = e; rule = rule } ∷ h) s ≡ false
dead_by c h e (Some rule) s lt off = (same_values c h e rule).live s ∙ off
dead_by c h e None s lt off = (grows c h e).live_or_not s ∙ dead_after h e s lt off

none_more : (k : ℕ) (f : ℕ → List Answer) (boxes : List (List Answer)) (s : ℕ) → box_at boxes s ≡ [] → f (k + s) ≡ [] → box_at (with_more k f boxes) s ≡ []
none_more k f [] s none quiet = refl
none_more k f (box ∷ boxes) zero none quiet = let same : k ≡ k + 0 = omega arith in ap (λ (n : ℕ). box ++ f n) same ∙ ap (λ (more : List Answer). box ++ more) quiet ∙ append-nil box ∙ none
none_more k f (box ∷ boxes) (suc s) none quiet = let same : k + 1 + s ≡ k + suc s = omega arith in none_more (k + 1) f boxes s none (ap f same ∙ quiet)

none_new : (is_new : Bool) (boxes : List (List Answer)) (s : ℕ) → box_at boxes s ≡ [] → box_at (with_box is_new boxes) s ≡ []
none_new false boxes s none = none
none_new true boxes s none = ap (λ (o : Option (List Answer)). unwrap_or o []) (slice_get_push boxes [] s) ∙ at (eqb (length boxes) s) (slice_get boxes s) none where
  at : (b : Bool) (w : Option (List Answer)) → unwrap_or w [] ≡ [] → unwrap_or (option_or (cond b (Some []) None) w) [] ≡ []
  at true w e = refl
  at false w e = e

step_none : (e : Event) (a : CoreView) (s : ℕ) → live (after_event a.config a.history e) s ≡ false → box_at a.untaken s ≡ [] → box_at (after_step e a).untaken s ≡ []
unfolding untaken_after
step_none e a s off none =
    let quiet : added a.config a.history e s ≡ [] = ap (λ (b : Bool). cond b (for_session s (answers a.config a.history e)) []) off in
    let same : 0 + s ≡ s = omega arith in
    none_more 0 (added a.config a.history e) (with_box (starts (verdict a.config a.history e) e) a.untaken) s (none_new (starts (verdict a.config a.history e) e) a.untaken s none) (ap (added a.config a.history e) same ∙ quiet)

-- it has ended, and has nothing untaken
record IsDead (a : CoreView) (s : ℕ) : Type 0 where
  started : s < hellos a.history
  ended : live a.history s ≡ false
  none : box_at a.untaken s ≡ []

dead_step : (e : Event) (a : CoreView) (s : ℕ) → IsDead a s → IsDead (after_step e a) s
dead_step e a s d =
    let off : live (after_event a.config a.history e) s ≡ false = dead_by a.config a.history e (verdict a.config a.history e) s d.started d.ended in
    let later = hellos_later (e ∷ []) a in
    let started = d.started in
    record { started = omega arith; ended = off; none = step_none e a s off d.none }

dead_steps : (es : List Event) (a : CoreView) (s : ℕ) → IsDead a s → IsDead (after_steps es a) s
dead_steps [] a s d = d
dead_steps (e ∷ es) a s d = dead_steps es (after_step e a) s (dead_step e a s d)

pub ended_steps : (es : List Event) (a : CoreView) (sid : Sid) → HasEnded a sid → HasEnded (after_steps es a) sid
ended_steps [] a sid h = h
ended_steps (e ∷ es) a sid h =
    let later = hellos_later (e ∷ []) a in
    let started = h.started in
    ended_steps es (after_step e a) sid (record { started = omega arith; ended = dead_by a.config a.history e (verdict a.config a.history e) sid.0 h.started h.ended })

pub untaken_steps : (es : List Event) (a : CoreView) (x : Connection) → untaken a x ≡ [] → ((sid : Sid) → x.session ≡ Some sid → HasEnded a sid) → untaken (after_steps es a) x ≡ []
untaken_steps es a x none ended = at x.has_refusal x.session refl none where
  at : (b : Bool) (s : Option Sid) → x.session ≡ s → cond b (Refused Refusal ∷ []) (untaken_of a s) ≡ [] → cond b (Refused Refusal ∷ []) (untaken_of (after_steps es a) s) ≡ []
  at true s is e = e
  at false None is e = refl
  at false (Some sid) is e = (dead_steps es a sid.0 (record { started = (ended sid is).started; ended = (ended sid is).ended; none = e })).none

-- ---- each call

-- events are stepped, and the connection is as it was
stays : (es : List Event) (old new : Hub) (i : ℕ) (g : IsGone old i) → new.core ≡ after_steps es old.core → slice_get new.connections i ≡ Some g.connection → IsGone new i
stays es old new i g now there = record {
  connection = g.connection;
  there = there;
  over = g.over;
  nothing = ap (λ (a : CoreView). untaken a g.connection) now ∙ untaken_steps es old.core g.connection g.nothing g.session;
  session = λ sid is. subst (λ (a : CoreView). HasEnded a sid) (sym now) (ended_steps es old.core sid (g.session sid is));
}

steps_both : (xs ys : List Event) (a : CoreView) → after_steps (xs ++ ys) a ≡ after_steps ys (after_steps xs a)
steps_both [] ys a = refl
steps_both (x ∷ xs) ys a = steps_both xs ys (after_step x a)

pub fed_steps : (fed : Fed) (a b : CoreView) (x y : Connection) (c : Cut) → IsOutcome fed a x c b y → (es : List Event) × (b ≡ after_steps es a)
fed_steps Done a b x y c h = (events_of a x.session c.requests, h.steps.core)
fed_steps Short a b x y c h = (events_of a x.session h.done, h.steps.core)
fed_steps Full a b x y c h = (events_of a x.session h.done, h.steps.core)
fed_steps (Over (Wire fault)) a b x y c h = (events_of a x.session c.requests ++ hang_up_of y.session, h.hung_up ∙ ap (after_steps (hang_up_of y.session)) h.steps.core ∙ sym (steps_both (events_of a x.session c.requests) (hang_up_of y.session) a))
fed_steps (Over BadKey) a b x y c h = (take 1 (events_of a x.session c.requests), h.core)

-- a connection that was not over is another
elsewhere : (old new : Hub) (j : ℕ) (x y : Connection) (i : ℕ) (z : Connection) → ChangesOnly old new j x y → x.is_over ≡ false → slice_get old.connections i ≡ Some z → z.is_over ≡ true → slice_get new.connections i ≡ Some z
elsewhere old new j x y i z only open' there over = ap (λ (zs : List Connection). slice_get zs i) only.others ∙ get_set old.connections j x y i only.was ∙ at (eqb j i) refl where
  at : (b : Bool) → eqb j i ≡ b → cond b (Some y) (slice_get old.connections i) ≡ Some z
  at true e =
      let same : Some x ≡ Some z = sym only.was ∙ ap (λ (k : ℕ). slice_get old.connections k) (eqb-true j i e) ∙ there in
      let is : x ≡ z = cc in
      let wrong : false ≡ true = sym open' ∙ ap (λ (v : Connection). v.is_over) is ∙ over in
      absurd cc
  at false e = there

pushed : (xs : List Connection) (i : ℕ) (x z : Connection) → slice_get xs i ≡ Some x → slice_get (xs ++ z ∷ []) i ≡ Some x
pushed [] i x z e = absurd cc
pushed (y ∷ ys) zero x z e = e
pushed (y ∷ ys) (suc i) x z e = pushed ys i x z e

-- what is taken leaves nothing
pub none_left : (a : CoreView) (s : Option Sid) → untaken_of (core_after_take a s) s ≡ []
none_left a None = refl
none_left a (Some sid) = taken_here a.untaken sid.0

none_taken : (a : CoreView) (s t : Option Sid) → untaken_of a t ≡ [] → untaken_of (core_after_take a s) t ≡ []
none_taken a None t none = none
none_taken a (Some sid) None none = refl
none_taken a (Some sid) (Some other) none = at (eqb sid.0 other.0) refl where
  at : (b : Bool) → eqb sid.0 other.0 ≡ b → untaken_of (core_after_take a (Some sid)) (Some other) ≡ []
  at true e = ap (λ (s : ℕ). box_at (core_after_take a (Some sid)).untaken s) (sym (eqb-true sid.0 other.0 e)) ∙ taken_here a.untaken sid.0
  at false e = taken_elsewhere a.untaken sid.0 other.0 (λ (q : other.0 ≡ sid.0). let k : sid.0 ≡ other.0 = sym q in eqb-false _ _ e k) ∙ none

pub ended_taken : (a b : CoreView) (s : Option Sid) (sid : Sid) → b ≡ core_after_take a s → HasEnded a sid → HasEnded b sid
ended_taken a b s sid now h =
    let same : b.history ≡ a.history = ap (λ (z : CoreView). z.history) now ∙ same_history a s in
    record { started = subst (λ (k : History). sid.0 < hellos k) (sym same) h.started; ended = ap (λ (k : History). live k sid.0) same ∙ h.ended }

unrefused : (a : CoreView) (x : Connection) → untaken a x ≡ [] → untaken_of a x.session ≡ []
unrefused a x none = at x.has_refusal none where
  at : (b : Bool) → cond b (Refused Refusal ∷ []) (untaken_of a x.session) ≡ [] → untaken_of a x.session ≡ []
  at true e = absurd cc
  at false e = e

pub still_none : (a : CoreView) (s : Option Sid) (x : Connection) → untaken a x ≡ [] → untaken (core_after_take a s) x ≡ []
still_none a s x none = at x.has_refusal none where
  at : (b : Bool) → cond b (Refused Refusal ∷ []) (untaken_of a x.session) ≡ [] → cond b (Refused Refusal ∷ []) (untaken_of (core_after_take a s) x.session) ≡ []
  at true e = e
  at false e = none_taken a s x.session e

-- the connection itself gives what it has, or another
gave : (old new : Hub) (j i : ℕ) (bytes : List ℕ) → Takes old j bytes new → IsGone old i → IsGone new i
gave old new j i bytes t g = at (eqb j i) refl where
  found : slice_get new.connections i ≡ cond (eqb j i) (Some (record t.before { has_refusal = false })) (slice_get old.connections i)
  found = ap (λ (zs : List Connection). slice_get zs i) t.changes.others ∙ get_set old.connections j t.before (record t.before { has_refusal = false }) i t.changes.was

  at : (b : Bool) → eqb j i ≡ b → IsGone new i
  at true e =
      let same : Some t.before ≡ Some g.connection = sym t.changes.was ∙ ap (λ (k : ℕ). slice_get old.connections k) (eqb-true j i e) ∙ g.there in
      let is : t.before ≡ g.connection = cc in
      record {
        connection = record t.before { has_refusal = false };
        there = found ∙ ap (λ (b : Bool). cond b (Some (record t.before { has_refusal = false })) (slice_get old.connections i)) e;
        over = ap (λ (v : Connection). v.is_over) is ∙ g.over;
        nothing = ap (λ (a : CoreView). untaken_of a t.before.session) t.core ∙ none_left old.core t.before.session;
        session = λ sid k. ended_taken old.core new.core t.before.session sid t.core (g.session sid (sym (ap (λ (v : Connection). v.session) is) ∙ k));
      }
  at false e = record {
    connection = g.connection;
    there = found ∙ ap (λ (b : Bool). cond b (Some (record t.before { has_refusal = false })) (slice_get old.connections i)) e ∙ g.there;
    over = g.over;
    nothing = ap (λ (a : CoreView). untaken a g.connection) t.core ∙ still_none old.core t.before.session g.connection g.nothing;
    session = λ sid k. ended_taken old.core new.core t.before.session sid t.core (g.session sid k);
  }

makes_gone : (call : Call) (old new : Hub) (i : ℕ) → Makes call old new → IsGone old i → IsGone new i
makes_gone Opened old new i made g = subst (λ (h : Hub). IsGone h i) (sym made) (stays [] old (with_connection old) i g refl (pushed old.connections i g.connection new_connection g.there))
makes_gone (TookPiece j piece fed) old new i made g =
    let steps = fed_steps fed old.core new.core made.before made.later _ made.outcome in
    stays steps.0 old new i g steps.1 (elsewhere old new j made.before made.later i g.connection made.changes made.open_before g.there g.over)
makes_gone (HungUp j) old new i made g = stays (hang_up_of made.before.session) old new i g made.core (elsewhere old new j made.before (record made.before { kept = []; is_over = true }) i g.connection made.changes made.open_before g.there g.over)
makes_gone (Gave j bytes) old new i made g = gave old new j i bytes made g
makes_gone (Named j) old new i made g = subst (λ (h : Hub). IsGone h i) (sym made.now) (stays [] old (record old { marked = set old.marked j false }) i g refl g.there)
makes_gone (Ticked moment) old new i made g = stays (Tick moment ∷ []) old new i g made.core (ap (λ (zs : List Connection). slice_get zs i) made.connections ∙ g.there)
makes_gone Forgot old new i made g = subst (λ (h : Hub). IsGone h i) (sym made.now) (record {
  connection = g.connection;
  there = g.there;
  over = g.over;
  nothing = forgot_untaken old.core new.core.first g.connection ∙ g.nothing;
  session = λ sid is. (let ended = g.session sid is in record { started = ended.started; ended = ended.ended });
})

pub stays_gone : WhoIsGoneStaysGone
stays_gone [] old new i made g = subst (λ (h : Hub). IsGone h i) (sym made) g
stays_gone (call ∷ calls) old new i made g = stays_gone calls made.0 new i made.1.1 (makes_gone call old made.0 i made.1.0 g)

-- ---- a connection that is over gives what is left

pub discarded_gone : (old new : Hub) (i : ℕ) (bytes : List ℕ) → EachHasItsOwn old.core old.connections → Takes old i bytes new → is_over_at old i ≡ true → IsGone new i
discarded_gone old new i bytes sound t over = record {
  connection = record t.before { has_refusal = false };
  there = ap (λ (zs : List Connection). slice_get zs i) t.changes.others ∙ get_set old.connections i t.before (record t.before { has_refusal = false }) i t.changes.was ∙ ap (λ (b : Bool). cond b (Some (record t.before { has_refusal = false })) (slice_get old.connections i)) (eq-eqb i i refl);
  over = ended;
  nothing = ap (λ (a : CoreView). untaken_of a t.before.session) t.core ∙ none_left old.core t.before.session;
  session = λ sid k. (let own = sound.own i t.before sid t.changes.was k in ended_taken old.core new.core t.before.session sid t.core (record { started = own.started; ended = own.live_is ∙ ap not ended }));
} where
  ended : t.before.is_over ≡ true
  ended = sym (ap (λ (s : Option Connection). unwrap_or (option_map (λ (x : Connection). x.is_over) s) false) t.changes.was) ∙ over
