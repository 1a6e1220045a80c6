-- The value of a semaphore is its first value and the posts, without the calls that got what they want.
use Rattle.std.proofs.Common.{◌≡◌, ℕ, ◌+◌, ◌-◌, ◌≤◌, Bool, true, false, not, eqb, [], ◌∷◌, length, cond, Option, Some, None, is_some, refl, sym, ap, subst, ◌∙◌, arith}
use Rattle.std.specs.Prelude.{unwrap_or, option_and_then}
use Rattle.std.specs.Option.{option_or}
use Rattle.std.proofs.lemmas.Bool.{eqb-true, eqb-false}
use Rattle.std.proofs.lemmas.Bool.Decides.{nat_tests}
use Rattle.ipc_terms.specs.Objects.{as_semaphore, value_asked}
use Rattle.ipc_terms.specs.Timed.{plain}
use Rattle.ipc_terms.specs.declared.object.TheConstants.{SEM_VALUE_MAX}
use Rattle.ipc_terms.specs.declared.rule.Rule.{Rule}
use Rattle.ipc_terms.specs.declared.call.Call.TheVariants.{SemPost, SemWait, SemTryWait}
use Rattle.ipc_terms.specs.declared.record.Event.{Event}
use Rattle.ipc_terms.specs.declared.record.Event.TheVariants.{Hello, Do, Hangup, Tick}
use Rattle.ipc_policy.specs.declared.config.Config.{Config}
use Rattle.ipc_policy.specs.declared.config.Held.{Held}
use Rattle.ipc_policy.specs.Decides.History.{History, newest, is_some_and}
use Rattle.ipc_policy.specs.Decides.Objects.{object}
use Rattle.ipc_policy.specs.Decides.Descriptions.{holds}
use Rattle.ipc_policy.specs.Decides.Names.{Opening, creation, creations}
use Rattle.ipc_policy.specs.Decides.Queues.{has_none}
use Rattle.ipc_policy.specs.Decides.Semaphores.{SemaphoreAct, Posts, Waits, Tries, WithdrawsWait, NoSemaphoreAct, wait_withdrawal, plain_semaphore_act, Semaphore, running_after, semaphore_after, with_first, gives_value, is_post, is_pass, given_value}
use Rattle.ipc_policy.specs.Decides.Bodies.{due, semaphore_act, semaphore, posts, passes, value, is_zero, is_greatest}
use Rattle.ipc_policy.specs.Decides.Verdict.{verdict, Legal}
use Rattle.ipc_policy.specs.Follows.Laws.{EachValueIsCounted}
use Rattle.ipc_policy.proofs.Histories.PlainForms.{plain_accepted}
use Rattle.ipc_policy.proofs.Directories.Creating.{not_given, created_before}
use Rattle.ipc_policy.proofs.Queues.ActsOf.{held_semaphore}
use Rattle.ipc_policy.proofs.Blocked.Waits.{act_made}
use Rattle.ipc_policy.proofs.Histories.Unforbidden.{try_above_zero}

-- what an act adds to the value and takes of it
count_step : (a : SemaphoreAct) (q : Semaphore) (got given posted : ℕ) → (a ≡ Tries → eqb q.running 0 ≡ false) → q.running + got ≡ given + posted → running_after a q + cond (is_pass a q) (got + 1) got ≡ given + cond (is_post a) (posted + 1) posted
count_step Posts q got given posted some known = at (has_none q.waiters) where
  at : (b : Bool) → cond b (q.running + 1) q.running + cond (not b) (got + 1) got ≡ given + (posted + 1)
  at true = omega arith
  at false = omega arith
count_step (Waits w) q got given posted some known = at (eqb q.running 0) refl where
  at : (b : Bool) → eqb q.running 0 ≡ b → (q.running - 1) + cond (not b) (got + 1) got ≡ given + posted
  at true e = let none = eqb-true _ _ e in omega arith
  at false e = let other = eqb-false q.running 0 e in grind (arith, nat_tests)
count_step Tries q got given posted some known = let e = some refl in let other = eqb-false q.running 0 e in grind (arith, nat_tests)
count_step (WithdrawsWait s) q got given posted some known = known
count_step NoSemaphoreAct q got given posted some known = known

-- nothing is posted to what was not created, and nobody gets anything of it
pub record Untouched (a : SemaphoreAct) : Type 0 where
  pub no_post : is_post a ≡ false
  pub no_pass : (q : Semaphore) → is_pass a q ≡ false

untouched : (due : ℕ → Option ℕ) (h : History) (o : ℕ) (e : Event) → creations h ≤ o → Untouched (plain_semaphore_act (length h) (holds h) due o e)
untouched due h o (Do sid (SemPost desc)) le = let none = not_given h sid.0 desc.0 o le in record { no_post = rw none refl; no_pass = λ q. rw none refl }
untouched due h o (Do sid (SemWait desc)) le = let none = not_given h sid.0 desc.0 o le in record { no_post = rw none refl; no_pass = λ q. rw none refl }
untouched due h o (Do sid (SemTryWait desc)) le = let none = not_given h sid.0 desc.0 o le in record { no_post = rw none refl; no_pass = λ q. rw none refl }
untouched due h o (Do sid call) le = record { no_post = refl; no_pass = λ q. refl }
untouched due h o (Hello found) le = record { no_post = refl; no_pass = λ q. refl }
untouched due h o (Hangup sid) le = record { no_post = refl; no_pass = λ q. refl }
untouched due h o (Tick moment) le = at (due moment) where
  at : (s : Option ℕ) → Untouched (wait_withdrawal s)
  at None = record { no_post = refl; no_pass = λ q. refl }
  at (Some s) = record { no_post = refl; no_pass = λ q. refl }

none_more : (b : Bool) (n : ℕ) → b ≡ false → n ≡ 0 → cond b (n + 1) n ≡ 0
none_more true n e known = absurd cc
none_more false n e known = known

pub record NoneYet (c : Config) (h : History) (o : ℕ) : Type 0 where
  pub no_posts : posts c h o ≡ 0
  pub no_passes : passes c h o ≡ 0

none_at : (c : Config) (h : History) (o : ℕ) → NoneYet c h o → creations h ≤ o → (e : Event) (r : Option Rule) → NoneYet c (record { event = e; rule = r } ∷ h) o
none_at c h o known le e (Some rule) = record { no_posts = known.no_posts; no_passes = known.no_passes }
none_at c h o known le e None = let still = untouched (due c h) h o (plain e) le in record { no_posts = none_more _ (posts c h o) still.no_post known.no_posts; no_passes = none_more _ (passes c h o) (still.no_pass (semaphore c h o)) known.no_passes }

none_yet : (c : Config) (h : History) (o : ℕ) → creations h ≤ o → NoneYet c h o
none_yet c [] o le = record { no_posts = refl; no_passes = refl }
none_yet c (r ∷ h) o le = let before = created_before h r.event r.rule o le in none_at c h o (none_yet c h o before) before r.event r.rule

-- a first value is given to what was not created before
made_at : (now o : ℕ) (b : Bool) (w : Option Opening) (n : ℕ) → eqb now o ≡ b → option_and_then (λ (asked : Opening). value_asked asked.kind) (cond b w None) ≡ Some n → now ≤ o
made_at now o true w n e k = let same = eqb-true _ _ e in omega arith
made_at now o false w n e k = absurd cc

first_made : (h : History) (o : ℕ) (e : Event) (n : ℕ) → gives_value o e h ≡ Some n → creations h ≤ o
first_made h o e n k = made_at (creations h) o (eqb (creations h) o) (creation e h) n refl k

count_first : (v : Option ℕ) (a : SemaphoreAct) (q : Semaphore) (was : Option ℕ) (got posted : ℕ) → (a ≡ Tries → eqb q.running 0 ≡ false) → q.running + got ≡ unwrap_or was 0 + posted → ((n : ℕ) → v ≡ Some n → (cond (is_pass a q) (got + 1) got ≡ 0) × (cond (is_post a) (posted + 1) posted ≡ 0)) → (with_first v (semaphore_after a q)).running + cond (is_pass a q) (got + 1) got ≡ unwrap_or (option_or v was) 0 + cond (is_post a) (posted + 1) posted
count_first None a q was got posted some known first = count_step a q got (unwrap_or was 0) posted some known
count_first (Some n) a q was got posted some known first = let none = first n refl in omega (arith, none.0, none.1)

-- the value of semaphore o and the calls that got what they want are its first value and the posts
abbrev IsCounted : Config → History → ℕ → Type 0
IsCounted c h o = (semaphore c h o).running + passes c h o ≡ given_value h o + posts c h o

less : (v s w : ℕ) → v + s ≡ w → w - s ≡ v
less v s w e = omega (arith, e)

value_at : (c : Config) (h : History) (o : ℕ) → IsCounted c h o → value c h o ≡ (semaphore c h o).running
unfolding value
value_at c h o known = less (semaphore c h o).running (passes c h o) (given_value h o + posts c h o) known

-- where there is a semaphore, it is at 0 exactly where its value is 0, and has room for no post exactly at the greatest
test_is : (b : Bool) (x : Option ℕ) → is_some x ≡ true → is_some_and (λ first_value. b) x ≡ b
test_is b None e = absurd cc
test_is b (Some n) e = refl

pub zero_at : (c : Config) (h : History) (o : ℕ) → value c h o ≡ (semaphore c h o).running → is_some (as_semaphore (object c h o)) ≡ true → is_zero c h o ≡ eqb (semaphore c h o).running 0
zero_at c h o same e = test_is (eqb (value c h o) 0) (as_semaphore (object c h o)) e ∙ ap (λ n. eqb n 0) same

-- a trywait at 0 is refused
try_has_value : (c : Config) (h : History) (o : ℕ) (e : Event) → ((i : ℕ) → IsCounted c h i) → None ≡ verdict c h e → semaphore_act c o e h ≡ Tries → eqb (semaphore c h o).running 0 ≡ false
try_has_value c h o e known legal k =
    let a = act_made c o e h Tries k in
    let legal' : None ≡ verdict c h (Do a.sid (SemTryWait a.desc)) = rw a.event at (plain_accepted c h e legal) in
    let there = held_semaphore c h a.sid (SemTryWait a.desc) a.desc a.x legal' refl a.held in
    let passes : is_some_and (λ (x : Held). is_zero c h x.object) (holds h a.sid.0 a.desc.0) ≡ false = try_above_zero c h a.sid a.desc (sym legal') in
    let passes' : is_zero c h a.x.object ≡ false = ap (is_some_and (λ (x : Held). is_zero c h x.object)) (sym a.held) ∙ passes in
    subst (λ (n : ℕ). eqb (semaphore c h n).running 0 ≡ false) a.object (sym (zero_at c h a.x.object (value_at c h a.x.object (known a.x.object)) there) ∙ passes')

counted_more : (c : Config) (h : History) (o : ℕ) → ((i : ℕ) → IsCounted c h i) → (e : Event) (r : Option Rule) → r ≡ verdict c h e → IsCounted c (record { event = e; rule = r } ∷ h) o
unfolding semaphore
counted_more c h o known e (Some rule) legal = known o
counted_more c h o known e None legal = count_first (gives_value o e h) (semaphore_act c o e h) (semaphore c h o) (newest (gives_value o) h) (passes c h o) (posts c h o) (try_has_value c h o e known legal) (known o) (λ n k.
    let le = first_made h o e n k in
    let none = none_at c h o (none_yet c h o le) le e None in
    (none.no_passes, none.no_posts))

counted_at : (c : Config) (h : History) (o : ℕ) → Legal c h → IsCounted c h o
unfolding semaphore
counted_at c [] o legal = refl
counted_at c (r ∷ h) o legal = counted_more c h o (λ i. counted_at c h i legal.1) r.event r.rule legal.0

pub value_counted : EachValueIsCounted
value_counted c h o legal = value_at c h o (counted_at c h o legal)

pub is_zero-at : (c : Config) (h : History) (o : ℕ) → Legal c h → is_some (as_semaphore (object c h o)) ≡ true → is_zero c h o ≡ eqb (semaphore c h o).running 0
is_zero-at c h o legal e = zero_at c h o (value_counted c h o legal) e

pub is_greatest-at : (c : Config) (h : History) (o : ℕ) → Legal c h → is_some (as_semaphore (object c h o)) ≡ true → is_greatest c h o ≡ eqb (semaphore c h o).running SEM_VALUE_MAX
is_greatest-at c h o legal e = test_is (eqb (value c h o) SEM_VALUE_MAX) (as_semaphore (object c h o)) e ∙ ap (λ n. eqb n SEM_VALUE_MAX) (value_counted c h o legal)
