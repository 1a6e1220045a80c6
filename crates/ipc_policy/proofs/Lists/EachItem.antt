-- What holds of each item of a list, and of each call that a queue or a semaphore lists after an act.
use Rattle.std.proofs.Common.{◌≡◌, ℕ, ◌+◌, ◌<◌, Bool, true, false, not, ◌||◌, eqb, nat_lt, List, [], ◌∷◌, ◌++◌, cond, Option, Some, None, refl, subst, arith}
use Rattle.std.specs.Option.{option_to_list}
use Rattle.std.specs.Prelude.{filter}
use Rattle.std.proofs.lemmas.Bool.{ne_eqb}
use Rattle.ipc_terms.specs.Lists.{first, Each}
use Rattle.ipc_terms.specs.Priorities.{first_of_greatest}
use Rattle.ipc_policy.specs.Decides.Queues.{Send, Waiter, Act, Sends, Receives, Withdraws, NoAct, Queue, has_none, is_filled, tail, next, others, receivers_after, senders_after, contents_after}
use Rattle.ipc_policy.specs.Decides.Parking.{stands_at}
use Rattle.ipc_policy.specs.Decides.Semaphores.{SemaphoreAct, Posts, Waits, Tries, WithdrawsWait, NoSemaphoreAct, Semaphore, waiters_after}
use Rattle.ipc_policy.specs.Follows.Readings.{Rising, ends_receive, ends_send, ends_wait}

pub each_map : {A : Type 0} (P Q : A → Type 0) (xs : List A) → ((x : A) → P x → Q x) → Each P xs → Each Q xs
each_map P Q [] f h = tt
each_map P Q (x ∷ xs) f h = (f x h.0, each_map P Q xs f h.1)

pub each_append : {A : Type 0} (P : A → Type 0) (xs ys : List A) → Each P xs → Each P ys → Each P (xs ++ ys)
each_append P [] ys h k = k
each_append P (x ∷ xs) ys h k = (h.0, each_append P xs ys h.1 k)

pub each_behind : {A : Type 0} (P : A → Type 0) (xs : List A) → Each P xs → Each P (tail xs)
each_behind P [] h = tt
each_behind P (x ∷ xs) h = h.1

pub each_first : {A : Type 0} (P : A → Type 0) (xs : List A) → Each P xs → (x : A) → first xs ≡ Some x → P x
each_first P [] h x e = absurd cc
each_first P (y ∷ ys) h x e = let same : y ≡ x = cc in subst P same h.0

pub each_listed : {A : Type 0} (P : A → Type 0) (xs : List A) → Each P xs → Each P (option_to_list (first xs))
each_listed P [] h = tt
each_listed P (x ∷ xs) h = (h.0, tt)

pub each_filter : {A : Type 0} (P Q : A → Type 0) (p : A → Bool) (xs : List A) → ((x : A) → p x ≡ true → P x → Q x) → Each P xs → Each Q (filter p xs)
each_filter P Q p [] f h = tt
each_filter P Q p (x ∷ xs) f h = more (p x) refl (each_filter P Q p xs f h.1) where
  more : (b : Bool) → p x ≡ b → Each Q (filter p xs) → Each Q (cond b (x ∷ filter p xs) (filter p xs))
  more true e rest = (f x e h.0, rest)
  more false e rest = rest

-- the first of the greatest priority is one of them
pub each_greatest : {A : Type 0} (P : A → Type 0) (p : A → ℕ) (xs : List A) (y : A) → Each P xs → first_of_greatest p xs ≡ Some y → P y
each_greatest P p [] y all e = absurd cc
each_greatest {A = A} P p (x ∷ xs) y all e = at (first_of_greatest p xs) refl (λ z f. each_greatest P p xs z all.1 f) e where
  chosen : (z : A) → P z → (b : Bool) → cond b (Some z) (Some x) ≡ Some y → P y
  chosen z one true k = let same : z ≡ y = cc in subst P same one
  chosen z one false k = let same : x ≡ y = cc in subst P same all.0

  at : (w : Option A) → first_of_greatest p xs ≡ w → ((z : A) → first_of_greatest p xs ≡ Some z → P z) → first_of_greatest p (x ∷ xs) ≡ Some y → P y
  at None f rest k = let same : x ≡ y = (let l = rw f at k in cc) in subst P same all.0
  at (Some z) f rest k = chosen z (rest z f) (nat_lt (p x) (p z)) (rw f at k)

pub each_others : (P : Send → Type 0) (o : Option Send) (xs : List Send) → Each P xs → Each P (others o xs)
each_others P None xs h = h
each_others P (Some n) xs h = each_filter P P (λ m. not (eqb m.place n.place)) xs (λ m e p. p) h

-- what stands behind the first has another place
each_later : {A : Type 0} (place : A → ℕ) (P Q : A → Type 0) (n lo : ℕ) (xs : List A) (hi : ℕ) → n < lo → Rising place lo xs hi → ((x : A) → P x → eqb n (place x) ≡ false → Q x) → Each P xs → Each Q xs
each_later place P Q n lo [] hi lt r f h = tt
each_later place P Q n lo (x ∷ xs) hi lt r f h = (f x h.0 (ne_eqb _ _ (λ (q : n ≡ place x). absurd (omega (arith, r.0)))), each_later place P Q n (place x + 1) xs hi (omega (arith, r.0)) r.1 f h.1)

each_behind_other : {A : Type 0} (place : A → ℕ) (P Q : A → Type 0) (xs : List A) (lo hi : ℕ) → Rising place lo xs hi → ((x : A) → P x → stands_at place (place x) (first xs) ≡ false → Q x) → Each P xs → Each Q (tail xs)
each_behind_other place P Q [] lo hi r f h = tt
each_behind_other place P Q (x ∷ xs) lo hi r f h = each_later place P Q (place x) (place x + 1) xs hi (omega arith) r.1 f h.1

not_false : (b : Bool) → not b ≡ true → b ≡ false
not_false true e = absurd cc
not_false false e = refl

-- the sends that are parked after an act were parked and not ended, or come with it
pub each_parked_sender : (P Q : Send → Type 0) (maxmsg : ℕ) (a : Act) (q : Queue) (hi : ℕ) → Rising (λ (m : Send). m.place) 0 q.senders hi → ((m : Send) → P m → ends_send m a q ≡ false → Q m) → ((m : Send) → a ≡ Sends m → is_filled maxmsg q.contents ≡ true → Q m) → Each P q.senders → Each Q (senders_after maxmsg a q)
each_parked_sender P Q maxmsg (Receives w) q hi r f g h = each_behind_other (λ (m : Send). m.place) P Q q.senders 0 hi r f h
each_parked_sender P Q maxmsg (Sends m) q hi r f g h = at (is_filled maxmsg q.contents) refl where
  old : Each Q q.senders
  old = each_map P Q q.senders (λ v p. f v p refl) h

  at : (b : Bool) → is_filled maxmsg q.contents ≡ b → Each Q (cond b (q.senders ++ m ∷ []) q.senders)
  at true e = each_append Q q.senders (m ∷ []) old (g m refl e, tt)
  at false e = old
each_parked_sender P Q maxmsg (Withdraws s) q hi r f g h = each_filter P Q (λ m. not (eqb m.session s)) q.senders (λ m e p. f m p (not_false (eqb m.session s) e)) h
each_parked_sender P Q maxmsg NoAct q hi r f g h = each_map P Q q.senders (λ v p. f v p refl) h

-- the receives that are parked after an act were parked and not ended, or come with it
pub each_parked_receiver : (P Q : Waiter → Type 0) (a : Act) (q : Queue) (hi : ℕ) → Rising (λ (w : Waiter). w.place) 0 q.receivers hi → ((w : Waiter) → P w → ends_receive w a q ≡ false → Q w) → ((w : Waiter) → a ≡ Receives w → has_none q.contents ≡ true → Q w) → Each P q.receivers → Each Q (receivers_after a q)
each_parked_receiver P Q (Sends m) q hi r f g h = each_behind_other (λ (w : Waiter). w.place) P Q q.receivers 0 hi r f h
each_parked_receiver P Q (Receives w) q hi r f g h = at (has_none q.contents) refl where
  old : Each Q q.receivers
  old = each_map P Q q.receivers (λ v p. f v p refl) h

  at : (b : Bool) → has_none q.contents ≡ b → Each Q (cond b (q.receivers ++ w ∷ []) q.receivers)
  at true e = each_append Q q.receivers (w ∷ []) old (g w refl e, tt)
  at false e = old
each_parked_receiver P Q (Withdraws s) q hi r f g h = each_filter P Q (λ w. not (eqb w.session s)) q.receivers (λ w e p. f w p (not_false (eqb w.session s) e)) h
each_parked_receiver P Q NoAct q hi r f g h = each_map P Q q.receivers (λ v p. f v p refl) h

-- the waits that are parked after an act were parked and not ended, or come with it
pub each_parked_waiter : (P Q : Waiter → Type 0) (a : SemaphoreAct) (q : Semaphore) (hi : ℕ) → Rising (λ (w : Waiter). w.place) 0 q.waiters hi → ((w : Waiter) → P w → ends_wait w a q ≡ false → Q w) → ((w : Waiter) → a ≡ Waits w → eqb q.running 0 ≡ true → Q w) → Each P q.waiters → Each Q (waiters_after a q)
each_parked_waiter P Q Posts q hi r f g h = each_behind_other (λ (w : Waiter). w.place) P Q q.waiters 0 hi r f h
each_parked_waiter P Q (Waits w) q hi r f g h = at (eqb q.running 0) refl where
  old : Each Q q.waiters
  old = each_map P Q q.waiters (λ v p. f v p refl) h

  at : (b : Bool) → eqb q.running 0 ≡ b → Each Q (cond b (q.waiters ++ w ∷ []) q.waiters)
  at true e = each_append Q q.waiters (w ∷ []) old (g w refl e, tt)
  at false e = old
each_parked_waiter P Q (WithdrawsWait s) q hi r f g h = each_filter P Q (λ w. not (eqb w.session s)) q.waiters (λ w e p. f w p (not_false (eqb w.session s) e)) h
each_parked_waiter P Q Tries q hi r f g h = each_map P Q q.waiters (λ v p. f v p refl) h
each_parked_waiter P Q NoSemaphoreAct q hi r f g h = each_map P Q q.waiters (λ v p. f v p refl) h

-- the sends that are parked after an act were so before, or come with it
pub each_sender : (P : Send → Type 0) (maxmsg : ℕ) (a : Act) (q : Queue) → ((m : Send) → a ≡ Sends m → P m) → Each P q.senders → Each P (senders_after maxmsg a q)
each_sender P maxmsg (Sends m) q g h = at (is_filled maxmsg q.contents) where
  at : (b : Bool) → Each P (cond b (q.senders ++ m ∷ []) q.senders)
  at true = each_append P q.senders (m ∷ []) h (g m refl, tt)
  at false = h
each_sender P maxmsg (Receives w) q g h = each_behind P q.senders h
each_sender P maxmsg (Withdraws s) q g h = each_filter P P (λ m. not (eqb m.session s)) q.senders (λ m e p. p) h
each_sender P maxmsg NoAct q g h = h

-- the messages that are inside after an act were inside or parked before, or come with it
pub each_inside : (P : Send → Type 0) (maxmsg : ℕ) (a : Act) (q : Queue) → ((m : Send) → a ≡ Sends m → P m) → Each P q.senders → Each P q.contents → Each P (contents_after maxmsg a q)
each_inside P maxmsg (Sends m) q g k h = at (is_filled maxmsg q.contents || not (has_none q.receivers)) where
  at : (b : Bool) → Each P (cond b q.contents (q.contents ++ m ∷ []))
  at true = h
  at false = each_append P q.contents (m ∷ []) h (g m refl, tt)
each_inside P maxmsg (Receives w) q g k h = each_append P (others (next q.contents) q.contents) (option_to_list (first q.senders)) (each_others P (next q.contents) q.contents h) (each_listed P q.senders k)
each_inside P maxmsg (Withdraws s) q g k h = h
each_inside P maxmsg NoAct q g k h = h
