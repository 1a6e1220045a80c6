-- In a legal history a semaphore's value is in its range, and a wait is parked on it only while it is 0.
use Rattle.std.proofs.Common.{◌≡◌, ℕ, ◌+◌, ◌-◌, ◌≤◌, Bool, true, false, not, ◌&&◌, eqb, List, [], ◌∷◌, ◌++◌, cond, Option, Some, None, refl, sym, ap, subst, ◌∙◌, arith}
use Rattle.std.specs.Prelude.{find, nat_lt}
use Rattle.std.specs.Option.{option_or, option_map}
use Rattle.std.proofs.lemmas.Bool.{eqb-true, eqb-false}
use Rattle.std.proofs.lemmas.Bool.Decides.{nat_tests}
use Rattle.ipc_terms.specs.declared.object.TheConstants.{SEM_VALUE_MAX}
use Rattle.ipc_terms.specs.declared.rule.Rule.{Rule}
use Rattle.ipc_terms.specs.declared.call.Call.TheVariants.{MqOpen, SemOpen, SemPost}
use Rattle.ipc_terms.specs.declared.record.Event.{Event}
use Rattle.ipc_terms.specs.declared.record.Event.TheVariants.{Hello, Do, Hangup, Tick}
use Rattle.ipc_policy.specs.declared.config.Config.{Config}
use Rattle.ipc_policy.specs.declared.config.Held.{Held}
use Rattle.ipc_policy.specs.Decides.History.{History, is_some_and}
use Rattle.ipc_policy.specs.Decides.Names.{queue_opening, semaphore_opening, is_bound, creations}
use Rattle.ipc_policy.specs.Decides.Descriptions.{holds}
use Rattle.ipc_policy.specs.Decides.Queues.{Waiter, has_none}
use Rattle.ipc_policy.specs.Decides.Semaphores.{SemaphoreAct, Posts, Waits, Tries, WithdrawsWait, NoSemaphoreAct, Semaphore, semaphore_after, with_first}
use Rattle.ipc_policy.specs.Decides.Bodies.{queue, semaphore_act, semaphore, is_greatest}
use Rattle.ipc_policy.specs.Decides.Parking.{ParkedKind}
use Rattle.ipc_policy.specs.Follows.Grow.{first_value, is_new}
use Rattle.ipc_policy.specs.Decides.Verdict.{verdict, Legal}
use Rattle.ipc_policy.specs.Follows.Laws.{IsInRange, EachIsInRange, WaitsAtZero, place_listed}
use Rattle.ipc_policy.proofs.Histories.PlainForms.{plain_accepted}
use Rattle.ipc_policy.proofs.Lists.Lengths.{behind_some, filter_some}
use Rattle.ipc_policy.proofs.Queues.Queueing.{semaphore_grows}
use Rattle.ipc_policy.proofs.Directories.Creating.{not_created_still, still_after}
use Rattle.ipc_policy.proofs.Histories.Unforbidden.{semaphore_open_in_range, post_below_greatest}
use Rattle.ipc_policy.proofs.Queues.ActsOf.{held_semaphore}
use Rattle.ipc_policy.proofs.Blocked.Waits.{act_made}
use Rattle.ipc_policy.proofs.Semaphores.ValueCounts.{value_counted, is_greatest-at}
use Rattle.ipc_policy.proofs.Blocked.CallsListed.{calls_listed}

-- an act that raises no greatest value
range_step : (a : SemaphoreAct) (q : Semaphore) → (a ≡ Posts → q.running + 1 ≤ SEM_VALUE_MAX) → IsInRange q → IsInRange (semaphore_after a q)
range_step Posts q room known = record {
  within = at (has_none q.waiters);
  waiters_wait = λ e. let some : has_none q.waiters ≡ false = behind_some q.waiters e in ap (λ b. cond b (q.running + 1) q.running) some ∙ known.waiters_wait some;
} where
  at : (b : Bool) → cond b (q.running + 1) q.running ≤ SEM_VALUE_MAX
  at true = room refl
  at false = known.within
range_step (Waits w) q room known = record {
  within = let most = known.within in omega arith;
  waiters_wait = at (eqb q.running 0) refl;
} where
  at : (b : Bool) → eqb q.running 0 ≡ b → has_none (cond b (q.waiters ++ w ∷ []) q.waiters) ≡ false → q.running - 1 ≡ 0
  at true e k = let none = eqb-true _ _ e in omega arith
  at false e k = let none = known.waiters_wait k in omega arith
range_step Tries q room known = record {
  within = let most = known.within in omega arith;
  waiters_wait = λ e. let none = known.waiters_wait e in omega arith;
}
range_step (WithdrawsWait s) q room known = record {
  within = known.within;
  waiters_wait = λ e. known.waiters_wait (filter_some (λ w. not (eqb w.session s)) q.waiters e);
}
range_step NoSemaphoreAct q room known = record { within = known.within; waiters_wait = known.waiters_wait }

-- a first value in range, where no wait is parked
range_first : (v : Option ℕ) (q : Semaphore) → IsInRange q → ((n : ℕ) → v ≡ Some n → (n ≤ SEM_VALUE_MAX) × (q.waiters ≡ [])) → IsInRange (with_first v q)
range_first None q known first = known
range_first (Some n) q known first = record {
  within = (first n refl).0;
  waiters_wait = λ e. absurd (let none : has_none q.waiters ≡ true = ap has_none (first n refl).1 in let wrong : true ≡ false = sym none ∙ e in cc);
}

-- a first value out of range is refused, and it is given to what was not created before
asked_in_range : (b d : Bool) (n given o now : ℕ) → eqb now o ≡ d → (b && nat_lt SEM_VALUE_MAX given) ≡ false → cond (b && d) (option_or (Some given) None) None ≡ Some n → (n ≤ SEM_VALUE_MAX) × (now ≤ o)
asked_in_range true true n given o now e fits k =
    let same : given ≡ n = cc in
    let most : given ≤ SEM_VALUE_MAX = grind (arith, nat_tests) in
    let at = eqb-true _ _ e in
    (omega arith, omega arith)
asked_in_range true false n given o now e fits k = absurd cc
asked_in_range false d n given o now e fits k = absurd cc

not_asked : (b : Bool) (n : ℕ) → cond b (option_or None None) None ≡ Some n → ⊥
not_asked true n k = cc
not_asked false n k = cc

first_in_range : (c : Config) (h : History) (o : ℕ) (e : Event) → None ≡ verdict c h e → (n : ℕ) → first_value o e (is_bound h) (creations h) ≡ Some n → (n ≤ SEM_VALUE_MAX) × (creations h ≤ o)
first_in_range c h o (Do sid (SemOpen asked)) legal n k = asked_in_range (is_new (semaphore_opening sid asked) (is_bound h)) (eqb (creations h) o) n asked.value o (creations h) refl (semaphore_open_in_range c h sid asked (sym legal)) k
first_in_range c h o (Do sid (MqOpen asked)) legal n k = absurd (not_asked (is_new (queue_opening sid asked) (is_bound h) && eqb (creations h) o) n k)
first_in_range c h o (Do sid call) legal n k = absurd cc
first_in_range c h o (Hello found) legal n k = absurd cc
first_in_range c h o (Hangup sid) legal n k = absurd cc
first_in_range c h o (Tick moment) legal n k = absurd cc

-- a post at the greatest value is refused
pub post_has_room : (c : Config) (h : History) (o : ℕ) (e : Event) → Legal c h → None ≡ verdict c h e → semaphore_act c o e h ≡ Posts → eqb (semaphore c h o).running SEM_VALUE_MAX ≡ false
post_has_room c h o e before legal k =
    let a = act_made c o e h Posts k in
    let legal' : None ≡ verdict c h (Do a.sid (SemPost a.desc)) = rw a.event at (plain_accepted c h e legal) in
    let there = held_semaphore c h a.sid (SemPost a.desc) a.desc a.x legal' refl a.held in
    let passes : is_some_and (λ (x : Held). is_greatest c h x.object) (holds h a.sid.0 a.desc.0) ≡ false = post_below_greatest c h a.sid a.desc (sym legal') in
    let passes' : is_greatest c h a.x.object ≡ false = ap (is_some_and (λ (x : Held). is_greatest c h x.object)) (sym a.held) ∙ passes in
    subst (λ (n : ℕ). eqb (semaphore c h n).running SEM_VALUE_MAX ≡ false) a.object (sym (is_greatest-at c h a.x.object before there) ∙ passes')

one_more : (n m : ℕ) → n ≤ m → eqb n m ≡ false → n + 1 ≤ m
one_more n m le e = let other = eqb-false n m e in grind (arith, nat_tests)

range_more : (c : Config) (h : History) (o : ℕ) → Legal c h → IsInRange (semaphore c h o) → (e : Event) (r : Option Rule) → r ≡ verdict c h e → IsInRange (semaphore c (record { event = e; rule = r } ∷ h) o)
unfolding semaphore
range_more c h o before known e (Some rule) legal = known
range_more c h o before known e None legal = subst IsInRange (sym now) (range_first (first_value o e (is_bound h) (creations h)) (semaphore_after (semaphore_act c o e h) (semaphore c h o)) stepped (λ n k.
    let first = first_in_range c h o e legal n k in
    (first.0, ap (λ (q : Semaphore). q.waiters) (ap (semaphore_after (semaphore_act c o e h)) (not_created_still c h o first.1) ∙ still_after c h o e first.1)))) where
      now : semaphore c (record { event = e; rule = None } ∷ h) o ≡ with_first (first_value o e (is_bound h) (creations h)) (semaphore_after (semaphore_act c o e h) (semaphore c h o))
      now = semaphore_grows c h e o

      stepped : IsInRange (semaphore_after (semaphore_act c o e h) (semaphore c h o))
      stepped = range_step (semaphore_act c o e h) (semaphore c h o) (λ k. one_more (semaphore c h o).running SEM_VALUE_MAX known.within (post_has_room c h o e before legal k)) known

pub each_in_range : EachIsInRange
unfolding semaphore
each_in_range c [] o legal = record { within = omega arith; waiters_wait = λ e. absurd cc }
each_in_range c (r ∷ h) o legal = range_more c h o legal.1 (each_in_range c h o legal.1) r.event r.rule legal.0

-- a session that is parked in a wait is listed, and so the semaphore has a waiter
found_some : (s i : ℕ) (xs : List Waiter) → option_map (λ (w : Waiter). w.place) (find (λ w. eqb w.session s) xs) ≡ Some i → has_none xs ≡ false
found_some s i [] e = absurd cc
found_some s i (x ∷ xs) e = refl

pub waits_at_zero : WaitsAtZero
waits_at_zero c h legal s p k kind = value_counted c h p.object legal ∙ (each_in_range c h p.object legal).waiters_wait (found_some s p.place (semaphore c h p.object).waiters listed) where
  listed : option_map (λ (w : Waiter). w.place) (find (λ w. eqb w.session s) (semaphore c h p.object).waiters) ≡ Some p.place
  listed = ap (λ (z : ParkedKind). place_listed z s (queue c h p.object) (semaphore c h p.object)) (sym kind) ∙ (calls_listed c h legal).each_parked s p k
