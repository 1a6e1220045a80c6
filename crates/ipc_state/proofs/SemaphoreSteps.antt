-- What a post, a wait, a trywait and a withdrawal make of a semaphore of the policy is what they make of the one that is
-- kept.
use Rattle.std.proofs.Common.{◌≡◌, ℕ, ◌+◌, ◌-◌, Bool, true, false, eqb, cond, List, [], ◌∷◌, ◌++◌, map, refl, ap, arith}
use Rattle.std.proofs.lemmas.Bool.{eqb-true}
use Rattle.std.proofs.lemmas.List.{map_push}
use Rattle.ipc_terms.specs.Events.{is_session}
use Rattle.ipc_terms.specs.declared.ids.Sid.{Sid}
use Rattle.ipc_sem.specs.Counters.{posted_to, posted, waited, tried, withdrawn}
use Rattle.ipc_policy.specs.Decides.Queues.{Waiter, tail, has_none}
use Rattle.ipc_policy.specs.Decides.Semaphores.{Posts, Waits, Tries, WithdrawsWait, Semaphore, semaphore_after}
use Rattle.ipc_policy.proofs.Blocked.ParkedSessions.{Different}
use Rattle.ipc_state.specs.Agrees.{receiver_of, counter_of}
use Rattle.ipc_state.proofs.QueueSteps.{left_is}

posted_at : (n : ℕ) (ws : List Waiter) → counter_of (record { running = cond (has_none ws) (n + 1) n; waiters = tail ws }) ≡ posted_to (record { value = n; waiters = map receiver_of ws }) (map receiver_of ws)
posted_at n [] = refl
posted_at n (w ∷ ws) = refl

pub posted_is : (q : Semaphore) → counter_of (semaphore_after Posts q) ≡ posted (counter_of q)
unfolding posted
posted_is q = posted_at q.running q.waiters

pub waited_is : (w : Waiter) (q : Semaphore) → counter_of (semaphore_after (Waits w) q) ≡ waited (record { 0 = w.session }) (counter_of q)
unfolding waited
waited_is w q = at (eqb q.running 0) refl where
  at : (b : Bool) → eqb q.running 0 ≡ b → counter_of (record { running = q.running - 1; waiters = cond b (q.waiters ++ w ∷ []) q.waiters }) ≡ cond b (record { value = q.running; waiters = map receiver_of q.waiters ++ record { 0 = w.session } ∷ [] }) (record { value = q.running - 1; waiters = map receiver_of q.waiters })
  at true e =
      let none = eqb-true _ _ e in
      let still : q.running - 1 ≡ q.running = omega arith in
      rw still (ap (λ (l : List Sid). record { value = q.running; waiters = l }) (map_push receiver_of q.waiters w))
  at false e = refl

pub tried_is : (q : Semaphore) → counter_of (semaphore_after Tries q) ≡ tried (counter_of q)
unfolding tried
tried_is q = refl

pub cancelled_is : (sid : Sid) (q : Semaphore) → Different (λ w. w.session) q.waiters → counter_of (semaphore_after (WithdrawsWait sid.0) q) ≡ withdrawn sid (counter_of q)
unfolding withdrawn
cancelled_is sid q differ = ap (λ (l : List Sid). record { value = q.running; waiters = l }) (left_is receiver_of (λ (w : Waiter). w.session) sid.0 (is_session sid) (λ w. refl) q.waiters differ)
