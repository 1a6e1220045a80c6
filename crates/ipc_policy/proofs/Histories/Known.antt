-- What holds of every history, or of every legal one.
use Rattle.std.proofs.Common.{◌≡◌, ℕ, ◌+◌, ◌<◌, ◌≤◌, ◌%◌, Bool, true, false, not, ◌&&◌, eqb, List, [], ◌∷◌, ◌++◌, length, cond, Option, Some, None, is_some, is_none, refl, sym, ap, ◌∙◌, arith}
use Rattle.std.specs.Prelude.{unwrap_or, option_and_then}
use Rattle.std.specs.Option.{option_or, option_flatten}
use Rattle.std.proofs.lemmas.Bool.{eqb-true, and_parts}
use Rattle.std.proofs.lemmas.Slice.Eq.{bytes_eq-Decides}
use Rattle.ipc_terms.specs.Flags.{has_create}
use Rattle.ipc_terms.specs.Names.{same_family, same_name}
use Rattle.ipc_terms.specs.declared.rule.Rule.{Rule}
use Rattle.ipc_terms.specs.declared.ids.Uid.{Uid}
use Rattle.ipc_terms.specs.declared.ids.Family.{Family}
use Rattle.ipc_terms.specs.declared.ids.Family.TheVariants.{Mq, Sem}
use Rattle.ipc_terms.specs.declared.call.Call.TheVariants.{Umask, MqOpen, MqUnlink, SemOpen, SemUnlink}
use Rattle.ipc_terms.specs.declared.record.Event.{Event}
use Rattle.ipc_terms.specs.declared.record.Event.TheVariants.{Hello, Do, Hangup, Tick}
use Rattle.ipc_access.specs.Users.{cred_of}
use Rattle.ipc_policy.specs.declared.config.Config.{Config}
use Rattle.ipc_terms.specs.declared.object.Object.{Object}
use Rattle.ipc_policy.specs.Decides.History.{History, newest, unless, unended, how_many}
use Rattle.ipc_policy.specs.Decides.Sessions.{hellos, is_hello, begins, hangs_up, user, live, mask, sets_mask}
use Rattle.ipc_policy.specs.Decides.Names.{queue_opening, semaphore_opening, Opening, opening, asks_name, unlinks, is_bound, leaves_bound, creation, creations, binds, bound, creating}
use Rattle.ipc_policy.specs.Decides.Objects.{makes, object}
use Rattle.ipc_policy.specs.Decides.Descriptions.{opens}
use Rattle.ipc_policy.specs.Decides.Verdict.{verdict, Legal, answers, after_event, after_events, all_answers}
use Rattle.ipc_policy.proofs.Histories.Unforbidden.{hello_known, caller_live}
use Rattle.ipc_policy.proofs.Holdings.Holding.{kept_all, kept_some}

-- no more events of a kind were accepted than there are records
how_many_le-length : (is_one : Event → History → Bool) (h : History) → how_many is_one h ≤ length h
how_many_le-length is_one [] = omega arith
how_many_le-length is_one (r ∷ before) = grind (arith, how_many_le-length is_one before)

pub opens_le-length : (h : History) → opens h ≤ length h
unfolding opens
opens_le-length h = how_many_le-length (λ e before. is_some (opening e)) h

pub creations_le-length : (h : History) → creations h ≤ length h
unfolding creations
creations_le-length h = how_many_le-length (λ e before. is_some (creation e before)) h

-- a name is bound exactly where it is bound to an object
pub same_is : (f g : Family) → same_family f g ≡ true → f ≡ g
same_is Mq Mq e = refl
same_is Sem Sem e = refl
same_is Mq Sem e = absurd cc
same_is Sem Mq e = absurd cc

pub asked_is : (asked : Opening) (f : Family) (name : List ℕ) → asks_name asked f name ≡ true → (asked.family ≡ f) × (asked.name ≡ name)
asked_is asked f name e =
    let parts = and_parts (same_family asked.family f) (same_name asked.name name) e in
    (same_is asked.family f parts.0, (bytes_eq-Decides asked.name name).0 parts.1)

asks_same : (h : History) (asked : Opening) (f : Family) (name : List ℕ) → asks_name asked f name ≡ true → is_bound h asked.family asked.name ≡ is_bound h f name
asks_same h asked f name e =
    let is = asked_is asked f name e in
    let one : asked.family ≡ f = is.0 in
    let two : asked.name ≡ name = is.1 in
    rw (one, two) refl

-- to what an open binds a name
abbrev opened_to : Family → List ℕ → ℕ → Option Opening → Option ℕ
opened_to f name n None = None
opened_to f name n (Some a) = cond (asks_name a f name) (Some n) None

open_iff : (asked : Opening) (f : Family) (name : List ℕ) (n : ℕ) (w : Option Bool) (v : Option ℕ) → unwrap_or w false ≡ is_some v → (b same u : Bool) → asks_name asked f name ≡ same → (same ≡ true → u ≡ unwrap_or w false) → unwrap_or (option_or (cond (b && same) (Some true) None) w) false ≡ is_some (option_or (opened_to f name n (cond (b && not u) (Some asked) None)) (unless (λ x. false) v))
open_iff asked f name n w v known true true true q k = k refl ∙ known ∙ sym (ap is_some (kept_all v))
open_iff asked f name n w v known true true false q k = rw q refl
open_iff asked f name n w v known true false true q k = known ∙ sym (ap is_some (kept_all v))
open_iff asked f name n w v known true false false q k = rw q (known ∙ sym (ap is_some (kept_all v)))
open_iff asked f name n w v known false true u q k = known ∙ sym (ap is_some (kept_all v))
open_iff asked f name n w v known false false u q k = known ∙ sym (ap is_some (kept_all v))

unlinked_iff : (b : Bool) (w : Option Bool) (v : Option ℕ) → unwrap_or w false ≡ is_some v → unwrap_or (option_or (cond b (Some false) None) w) false ≡ is_some (unless (λ x. b) v)
unlinked_iff true w None known = refl
unlinked_iff true w (Some x) known = refl
unlinked_iff false w v known = known ∙ sym (ap is_some (kept_all v))

-- the object to which the name is bound, as it is defined
abbrev bound_so_far : History → Family → List ℕ → Option ℕ
bound_so_far h f name = unended (binds f name) (λ o e before. unlinks f name e) h

iff_more : (h : History) (f : Family) (name : List ℕ) → is_bound h f name ≡ is_some (bound h f name) → (e : Event) (r : Option Rule) → is_bound (record { event = e; rule = r } ∷ h) f name ≡ is_some (bound (record { event = e; rule = r } ∷ h) f name)
unfolding is_bound bound creating
iff_more h f name known e (Some rule) = known
iff_more h f name known (Hello found) None = known ∙ sym (ap is_some (kept_all (bound_so_far h f name)))
iff_more h f name known (Do sid (MqOpen given)) None = open_iff (queue_opening sid given) f name (creations h) (newest (leaves_bound f name) h) (bound_so_far h f name) known (has_create given.flags) (asks_name (queue_opening sid given) f name) (is_bound h Mq given.name) refl (asks_same h (queue_opening sid given) f name)
iff_more h f name known (Do sid (MqUnlink given)) None = unlinked_iff (unlinks f name (Do sid (MqUnlink given))) (newest (leaves_bound f name) h) (bound_so_far h f name) known
iff_more h f name known (Do sid (SemOpen given)) None = open_iff (semaphore_opening sid given) f name (creations h) (newest (leaves_bound f name) h) (bound_so_far h f name) known (has_create given.flags) (asks_name (semaphore_opening sid given) f name) (is_bound h Sem given.name) refl (asks_same h (semaphore_opening sid given) f name)
iff_more h f name known (Do sid (SemUnlink given)) None = unlinked_iff (unlinks f name (Do sid (SemUnlink given))) (newest (leaves_bound f name) h) (bound_so_far h f name) known
iff_more h f name known (Do sid call) None = known ∙ sym (ap is_some (kept_all (bound_so_far h f name)))
iff_more h f name known (Hangup sid) None = known ∙ sym (ap is_some (kept_all (bound_so_far h f name)))
iff_more h f name known (Tick moment) None = known ∙ sym (ap is_some (kept_all (bound_so_far h f name)))

pub bound_iff : (h : History) (f : Family) (name : List ℕ) → is_bound h f name ≡ is_some (bound h f name)
unfolding is_bound bound
bound_iff [] f name = refl
bound_iff (r ∷ h) f name = iff_more h f name (bound_iff h f name) r.event r.rule

-- objects are numbered below the creations
object_at : (c : Config) (h : History) (o : ℕ) (b : Bool) → eqb (creations h) o ≡ b → (make : Opening → Option Object) (w : Option Opening) (v : Option Object) → (is_some v ≡ true → o < creations h) → is_some (option_or (option_and_then make (cond b w None)) v) ≡ true → o < cond (is_some w) (creations h + 1) (creations h)
object_at c h o true e make None v known k = known k
object_at c h o true e make (Some asked) v known k = let at : creations h ≡ o = eqb-true _ _ e in omega arith
object_at c h o false e make None v known k = known k
object_at c h o false e make (Some asked) v known k = let below = known k in omega arith

object_more : (c : Config) (h : History) (o : ℕ) → (is_some (object c h o) ≡ true → o < creations h) → (e : Event) (r : Option Rule) → is_some (object c (record { event = e; rule = r } ∷ h) o) ≡ true → o < creations (record { event = e; rule = r } ∷ h)
unfolding object creations
object_more c h o known e (Some rule) k = known k
object_more c h o known e None k = object_at c h o (eqb (creations h) o) refl _ (creation e h) (newest (makes c o) h) known k

pub object_below : (c : Config) (h : History) (o : ℕ) → is_some (object c h o) ≡ true → o < creations h
unfolding object
object_below c [] o k = absurd cc
object_below c (r ∷ h) o k = object_more c h o (object_below c h o) r.event r.rule k

-- a mask has nine bits
mask_more : (before : History) (s : ℕ) → mask before s < 512 → (e : Event) (o : Option Rule) → mask (record { event = e; rule = o } ∷ before) s < 512
unfolding mask
mask_more before s known e (Some rule) = known
mask_more before s known (Hello found) None = known
mask_more before s known (Do sid (Umask m)) None = set_at (eqb sid.0 s) where
  set_at : (b : Bool) → unwrap_or (option_or (cond b (Some (m.0 % 512)) None) (newest (sets_mask s) before)) 18 < 512
  set_at true = omega arith
  set_at false = known
mask_more before s known (Do sid call) None = known
mask_more before s known (Hangup sid) None = known
mask_more before s known (Tick moment) None = known

pub mask_lt : (h : History) (s : ℕ) → mask h s < 512
unfolding mask
mask_lt [] s = omega arith
mask_lt (r ∷ before) s = mask_more before s (mask_lt before s) r.event r.rule

-- the users of sessions are in the file
user_more : (c : Config) (before : History) (s : ℕ) (uid : Uid) → (user before s ≡ Some uid → is_some (cred_of c.users uid) ≡ true) → (e : Event) (o : Option Rule) → o ≡ verdict c before e → user (record { event = e; rule = o } ∷ before) s ≡ Some uid → is_some (cred_of c.users uid) ≡ true
unfolding user
user_more c before s uid known e (Some rule) legal h = known h
user_more c before s uid known (Hello found) None legal h = begun_at (eqb (hellos before) s) h where
  begun_at : (b : Bool) → option_flatten (option_or (cond b (Some found) None) (newest (begins s) before)) ≡ Some uid → is_some (cred_of c.users uid) ≡ true
  begun_at true k = ap (λ w. is_some (option_and_then (cred_of c.users) w)) (sym k) ∙ hello_known c before found (sym legal)
  begun_at false k = known k
user_more c before s uid known (Do sid call) None legal h = known h
user_more c before s uid known (Hangup sid) None legal h = known h
user_more c before s uid known (Tick moment) None legal h = known h

pub known_user : (c : Config) (h : History) → Legal c h → (s : ℕ) (uid : Uid) → user h s ≡ Some uid → is_some (cred_of c.users uid) ≡ true
unfolding user
known_user c [] legal s uid h = absurd cc
known_user c (r ∷ before) legal s uid h = user_more c before s uid (known_user c before legal.1 s uid) r.event r.rule legal.0 h

-- a session whose hello has not come has not begun
begun_below_more : (before : History) (s : ℕ) → (is_some (newest (begins s) before) ≡ true → s < hellos before) → (e : Event) (o : Option Rule) → is_some (newest (begins s) (record { event = e; rule = o } ∷ before)) ≡ true → s < hellos (record { event = e; rule = o } ∷ before)
unfolding hellos
begun_below_more before s known e (Some rule) h = known h
begun_below_more before s known (Hello found) None h = begun_at (eqb (hellos before) s) refl h where
  begun_at : (b : Bool) → eqb (hellos before) s ≡ b → is_some (option_or (cond b (Some found) None) (newest (begins s) before)) ≡ true → s < how_many is_hello before + 1
  begun_at true e k = let same : hellos before ≡ s = eqb-true _ _ e in let same' : how_many is_hello before ≡ s = same in omega arith
  begun_at false e k = let below : s < how_many is_hello before = known k in omega arith
begun_below_more before s known (Do sid call) None h = known h
begun_below_more before s known (Hangup sid) None h = known h
begun_below_more before s known (Tick moment) None h = known h

begun_below : (h : History) (s : ℕ) → is_some (newest (begins s) h) ≡ true → s < hellos h
begun_below [] s h = absurd cc
begun_below (r ∷ before) s h = begun_below_more before s (begun_below before s) r.event r.rule h

-- what was begun and not ended was begun
begun_at : {A : Type 0} (b : Bool) (w u v : Option A) (p : A → Bool) → (is_some u ≡ true → is_some v ≡ true) → is_some (cond b (option_or w (unless p u)) u) ≡ true → is_some (option_or (cond b w None) v) ≡ true
begun_at true None u v p known k = known (kept_some p u k)
begun_at true (Some x) u v p known k = refl
begun_at false w u v p known k = known k

unended_newest : {A : Type 0} (starts : Event → History → Option A) (ends : A → Event → History → Bool) (h : History) → is_some (unended starts ends h) ≡ true → is_some (newest starts h) ≡ true
unended_newest starts ends [] k = k
unended_newest starts ends (r ∷ h) k = begun_at (is_none r.rule) (starts r.event h) (unended starts ends h) (newest starts h) (λ x. ends x r.event h) (unended_newest starts ends h) k

-- a session is live only once it has begun
pub live_below : (h : History) (s : ℕ) → live h s ≡ true → s < hellos h
unfolding live
live_below h s k = begun_below h s (unended_newest (begins s) (λ who e before. hangs_up s e) h k)

-- in a legal history it has a user
found_some : {A B : Type 0} (f : A → Option B) (w : Option A) → is_some (option_and_then f w) ≡ true → is_some w ≡ true
found_some f None e = e
found_some f (Some x) e = refl

begun_user_more : (c : Config) (before : History) (s : ℕ) → (is_some (newest (begins s) before) ≡ true → is_some (user before s) ≡ true) → (e : Event) (o : Option Rule) → o ≡ verdict c before e → is_some (newest (begins s) (record { event = e; rule = o } ∷ before)) ≡ true → is_some (user (record { event = e; rule = o } ∷ before) s) ≡ true
unfolding user
begun_user_more c before s known e (Some rule) legal h = known h
begun_user_more c before s known (Hello found) None legal h = begun_at (eqb (hellos before) s) h where
  begun_at : (b : Bool) → is_some (option_or (cond b (Some found) None) (newest (begins s) before)) ≡ true → is_some (option_flatten (option_or (cond b (Some found) None) (newest (begins s) before))) ≡ true
  begun_at true k = found_some (cred_of c.users) found (hello_known c before found (sym legal))
  begun_at false k = known k
begun_user_more c before s known (Do sid call) None legal h = known h
begun_user_more c before s known (Hangup sid) None legal h = known h
begun_user_more c before s known (Tick moment) None legal h = known h

begun_user : (c : Config) (h : History) → Legal c h → (s : ℕ) → is_some (newest (begins s) h) ≡ true → is_some (user h s) ≡ true
begun_user c [] legal s h = absurd cc
begun_user c (r ∷ before) legal s h = begun_user_more c before s (begun_user c before legal.1 s) r.event r.rule legal.0 h

pub live_user : (c : Config) (h : History) → Legal c h → (s : ℕ) → live h s ≡ true → is_some (user h s) ≡ true
unfolding live
live_user c h legal s k = begun_user c h legal s (unended_newest (begins s) (λ who e before. hangs_up s e) h k)

-- a session whose hello has not come has its first mask
first_mask_more : (c : Config) (before : History) (s : ℕ) → (hellos before ≤ s → mask before s ≡ 18) → (e : Event) (o : Option Rule) → o ≡ verdict c before e → hellos (record { event = e; rule = o } ∷ before) ≤ s → mask (record { event = e; rule = o } ∷ before) s ≡ 18
unfolding mask hellos
first_mask_more c before s known e (Some rule) legal h = known h
first_mask_more c before s known (Hello found) None legal h = known (let k : how_many is_hello before + 1 ≤ s = h in let k' : how_many is_hello before ≤ s = omega arith in k')
first_mask_more c before s known (Do sid (Umask m)) None legal h = set_at (eqb sid.0 s) refl where
  set_at : (b : Bool) → eqb sid.0 s ≡ b → unwrap_or (option_or (cond b (Some (m.0 % 512)) None) (newest (sets_mask s) before)) 18 ≡ 18
  set_at true e =
      let same : sid.0 ≡ s = eqb-true _ _ e in
      let below : sid.0 < hellos before = live_below before sid.0 (caller_live c before sid (Umask m) (sym legal)) in
      let k : hellos before ≤ s = h in
      absurd (omega arith)
  set_at false e = known h
first_mask_more c before s known (Do sid call) None legal h = known h
first_mask_more c before s known (Hangup sid) None legal h = known h
first_mask_more c before s known (Tick moment) None legal h = known h

pub first_mask : (c : Config) (h : History) → Legal c h → (s : ℕ) → hellos h ≤ s → mask h s ≡ 18
unfolding mask
first_mask c [] legal s h = refl
first_mask c (r ∷ before) legal s h = first_mask_more c before s (first_mask c before legal.1 s) r.event r.rule legal.0 h

-- one more event at the end of a list
pub after_more : (c : Config) (h : History) (es : List Event) (e : Event) → after_events c h (es ++ e ∷ []) ≡ after_event c (after_events c h es) e
after_more c h [] e = refl
after_more c h (d ∷ es) e = after_more c (after_event c h d) es e

pub answers_more : (c : Config) (h : History) (es : List Event) (e : Event) → all_answers c h (es ++ e ∷ []) ≡ all_answers c h es ++ answers c (after_events c h es) e ∷ []
answers_more c h [] e = refl
answers_more c h (d ∷ es) e = ap (λ l. answers c h d ∷ l) (answers_more c (after_event c h d) es e)
