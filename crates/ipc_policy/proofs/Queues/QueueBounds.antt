-- In a legal history a queue never has more messages than it may, a receive is parked on it only while it is empty,
-- and a send only while it is full.
use Rattle.std.proofs.Common.{◌≡◌, ℕ, zero, suc, ◌+◌, ◌≤◌, Bool, true, false, not, ◌&&◌, ◌||◌, eqb, [], ◌∷◌, ◌++◌, length, cond, min, Option, Some, None, is_some, refl, sym, ap, subst, ◌∙◌, arith}
use Rattle.std.specs.Option.{option_or, option_map, option_to_list}
use Rattle.std.proofs.lemmas.Bool.{eqb-true, eqb-false, leb-true, leb-false}
use Rattle.std.proofs.lemmas.List.{length-append}
use Rattle.ipc_terms.specs.Lists.{first}
use Rattle.ipc_terms.specs.Objects.{as_queue}
use Rattle.ipc_terms.specs.declared.rule.Rule.{Rule}
use Rattle.ipc_terms.specs.declared.call.Attributes.{Attributes}
use Rattle.ipc_terms.specs.declared.call.Call.TheVariants.{MqOpen, MqReceive, SemOpen}
use Rattle.ipc_terms.specs.declared.record.Event.{Event}
use Rattle.ipc_terms.specs.declared.record.Event.TheVariants.{Hello, Do, Hangup, Tick}
use Rattle.ipc_policy.specs.declared.config.Config.{Config}
use Rattle.ipc_terms.specs.declared.object.Object.{Object}
use Rattle.ipc_policy.specs.Decides.History.{History}
use Rattle.ipc_policy.specs.Decides.Sessions.{cred}
use Rattle.ipc_policy.specs.Decides.Names.{queue_opening, semaphore_opening, is_bound, creations}
use Rattle.ipc_policy.specs.Decides.Objects.{object, made_by}
use Rattle.ipc_policy.specs.Decides.Queues.{Send, Waiter, Act, Sends, Receives, Withdraws, NoAct, Queue, empty_queue, has_none, is_filled, next, others, queue_after, maxmsg_of, attributes, maxmsg}
use Rattle.ipc_policy.specs.Decides.Bodies.{act, queue}
use Rattle.ipc_policy.specs.Follows.Grow.{made_after, is_new}
use Rattle.ipc_policy.specs.Decides.Verdict.{verdict, Legal}
use Rattle.ipc_policy.specs.Follows.Laws.{IsBounded, EachIsBounded}
use Rattle.ipc_policy.proofs.Histories.PlainForms.{plain_accepted}
use Rattle.ipc_policy.proofs.Lists.Counting.{count_at}
use Rattle.ipc_policy.proofs.Queues.Keeping.{sent_once}
use Rattle.ipc_policy.proofs.Lists.Lengths.{none_is_empty, length_some, behind_some, filter_some, first_none, first_one, others_length, others_le}
use Rattle.ipc_policy.proofs.Histories.Grown.{grows}
use Rattle.ipc_policy.proofs.Directories.Creating.{not_created_empty, empty_after}
use Rattle.ipc_policy.proofs.Queues.QueueAttributes.{OfAttributes, OfMade, attributes_hold}
use Rattle.ipc_policy.proofs.Queues.ActsOf.{act_receives, held_queue}
use Rattle.ipc_policy.proofs.Blocked.Waits.{or_left}

pub empty_bounded : (n : ℕ) → IsBounded n empty_queue
empty_bounded n = record { within = omega arith; receivers_wait = λ e. refl; senders_wait = λ e. absurd cc }

-- a send that parks, is taken at once, or enters
bounded_send : (n : ℕ) (m : Send) (q : Queue) → IsBounded n q → IsBounded n (queue_after n (Sends m) q)
bounded_send n m q known = record {
  within = within (is_filled n q.contents) refl (has_none q.receivers);
  receivers_wait = λ e. let some : has_none q.receivers ≡ false = behind_some q.receivers e in ap (λ b. cond (is_filled n q.contents || not b) q.contents (q.contents ++ m ∷ [])) some ∙ untouched (is_filled n q.contents) ∙ known.receivers_wait some;
  senders_wait = full (is_filled n q.contents) refl;
} where
  within : (f : Bool) → is_filled n q.contents ≡ f → (r : Bool) → length (cond (f || not r) q.contents (q.contents ++ m ∷ [])) ≤ n
  within true e r = known.within
  within false e false = known.within
  within false e true = let less = leb-false _ _ e in let more = length-append q.contents (m ∷ []) in omega arith

  untouched : (f : Bool) → cond (f || true) q.contents (q.contents ++ m ∷ []) ≡ q.contents
  untouched true = refl
  untouched false = refl

  full : (f : Bool) → is_filled n q.contents ≡ f → has_none (cond f (q.senders ++ m ∷ []) q.senders) ≡ false → length (cond (f || not (has_none q.receivers)) q.contents (q.contents ++ m ∷ [])) ≡ n
  full true e k = let least = leb-true _ _ e in let most = known.within in omega arith
  full false e k = absurd (let all = known.senders_wait k in let less = leb-false _ _ e in omega arith)

-- a receive that parks, takes, or takes and lets in
bounded_receive : (n : ℕ) (w : Waiter) (q : Queue) → 1 ≤ n → ((i : ℕ) → count_at i q.contents ≤ 1) → IsBounded n q → IsBounded n (queue_after n (Receives w) q)
bounded_receive n w q positive one known = record {
  within = within (has_none q.senders) refl;
  receivers_wait = waiting (has_none q.contents) refl;
  senders_wait = λ e. let some : has_none q.senders ≡ false = behind_some q.senders e in refilled some;
} where
  parts : length (others (next q.contents) q.contents ++ option_to_list (first q.senders)) ≡ length (others (next q.contents) q.contents) + length (option_to_list (first q.senders))
  parts = length-append (others (next q.contents) q.contents) (option_to_list (first q.senders))

  refilled : has_none q.senders ≡ false → length (others (next q.contents) q.contents ++ option_to_list (first q.senders)) ≡ n
  refilled some =
      let all : length q.contents ≡ n = known.senders_wait some in
      let less = others_length q.contents one (length_some q.contents (omega arith)) in
      let more = first_one q.senders some in
      let sum = parts in
      omega arith

  within : (b : Bool) → has_none q.senders ≡ b → length (others (next q.contents) q.contents ++ option_to_list (first q.senders)) ≤ n
  within true e =
      let less = others_le (next q.contents) q.contents in
      let none : length (option_to_list (first q.senders)) ≡ 0 = ap length (first_none q.senders e) in
      let most = known.within in
      let sum = parts in
      omega arith
  within false e = let all = refilled e in omega arith

  no_sender : q.contents ≡ [] → (b : Bool) → has_none q.senders ≡ b → has_none q.senders ≡ true
  no_sender e true k = k
  no_sender e false k = absurd (let all = known.senders_wait k in let none : length q.contents ≡ 0 = ap length e in omega arith)

  waiting : (b : Bool) → has_none q.contents ≡ b → has_none (cond b (q.receivers ++ w ∷ []) q.receivers) ≡ false → others (next q.contents) q.contents ++ option_to_list (first q.senders) ≡ []
  waiting true e k =
      let empty : q.contents ≡ [] = none_is_empty q.contents e in
      ap (λ xs. others (next xs) xs ++ option_to_list (first q.senders)) empty ∙ first_none q.senders (no_sender empty (has_none q.senders) refl)
  waiting false e k = absurd (let empty : has_none q.contents ≡ true = ap has_none (known.receivers_wait k) in let wrong : true ≡ false = sym empty ∙ e in cc)

bounded_withdraw : (n s : ℕ) (q : Queue) → IsBounded n q → IsBounded n (queue_after n (Withdraws s) q)
bounded_withdraw n s q known = record {
  within = known.within;
  receivers_wait = λ e. known.receivers_wait (filter_some (λ w. not (eqb w.session s)) q.receivers e);
  senders_wait = λ e. known.senders_wait (filter_some (λ m. not (eqb m.session s)) q.senders e);
}

bounded_step : (n : ℕ) (a : Act) (q : Queue) → ((w : Waiter) → a ≡ Receives w → 1 ≤ n) → ((i : ℕ) → count_at i q.contents ≤ 1) → IsBounded n q → IsBounded n (queue_after n a q)
bounded_step n (Sends m) q positive one known = bounded_send n m q known
bounded_step n (Receives w) q positive one known = bounded_receive n w q (positive w refl) one known
bounded_step n (Withdraws s) q positive one known = bounded_withdraw n s q known
bounded_step n NoAct q positive one known = record { within = known.within; receivers_wait = known.receivers_wait; senders_wait = known.senders_wait }

-- a queue may have a message
min_positive : (a b : ℕ) → 1 ≤ a → 1 ≤ b → 1 ≤ min a b
min_positive a b le le' = omega arith

positive : (n : ℕ) → eqb n 0 ≡ false → 1 ≤ n
positive n e = let other = eqb-false n 0 e in at n other where
  at : (n : ℕ) → (n ≡ 0 → ⊥) → 1 ≤ n
  at zero no' = absurd (no' refl)
  at (suc n) no' = omega arith

made_room : (c : Config) → 1 ≤ c.limits.msg_max → OfMade c (λ x. 1 ≤ x.maxmsg)
made_room c most who None fits = min_positive 10 c.limits.msg_max (omega arith) most
made_room c most who (Some given) fits = positive given.maxmsg (or_left _ _ (or_left _ _ (or_left _ _ fits)))

-- in a legal history each queue may have a message at least
pub room_positive : (c : Config) (h : History) → 1 ≤ c.limits.msg_max → Legal c h → (o : ℕ) → is_some (attributes c h o) ≡ true → 1 ≤ maxmsg c h o
room_positive c h most legal o there = at (attributes c h o) there (attributes_hold c (λ x. 1 ≤ x.maxmsg) (made_room c most) h legal o) where
  at : (x : Option Attributes) → is_some x ≡ true → OfAttributes (λ y. 1 ≤ y.maxmsg) x → 1 ≤ maxmsg_of x
  at None e known = absurd cc
  at (Some x) e known = known

-- a receive that is accepted is from a queue
receives_room : (c : Config) (h : History) (o : ℕ) (e : Event) → 1 ≤ c.limits.msg_max → Legal c h → None ≡ verdict c h e → (w : Waiter) → act c o e h ≡ Receives w → 1 ≤ maxmsg c h o
receives_room c h o e most before legal w k =
    let a = act_receives c o e h w k in
    let legal' : None ≡ verdict c h (Do a.sid (MqReceive a.desc a.length')) = rw a.event at (plain_accepted c h e legal) in
    let there = held_queue c h a.sid (MqReceive a.desc a.length') a.desc a.x legal' refl a.held in
    subst (λ (n : ℕ). 1 ≤ maxmsg c h n) a.object (room_positive c h most before a.x.object there)

-- a queue keeps how many messages it may have, unless it is created now
same_or_new : (c : Config) (h : History) (o : ℕ) (e : Event) (q : Queue) → IsBounded (maxmsg c h o) q → (creations h ≤ o → q ≡ empty_queue) → IsBounded (maxmsg_of (as_queue (made_after o e (is_bound h) (creations h) (λ asked. option_map (made_by c asked) (cred c h asked.session.0)) (object c h o)))) q
same_or_new c h o (Do sid (MqOpen asked)) q known new = at (is_new (queue_opening sid asked) (is_bound h)) (eqb (creations h) o) refl where
  at : (b d : Bool) → eqb (creations h) o ≡ d → IsBounded (maxmsg_of (as_queue (cond (b && d) (option_or (option_map (made_by c (queue_opening sid asked)) (cred c h sid.0)) (object c h o)) (object c h o)))) q
  at true true e = let same : creations h ≡ o = eqb-true _ _ e in subst (λ (z : Queue). IsBounded (maxmsg_of (as_queue (option_or (option_map (made_by c (queue_opening sid asked)) (cred c h sid.0)) (object c h o)))) z) (sym (new (omega arith))) (empty_bounded _)
  at true false e = known
  at false d e = known
same_or_new c h o (Do sid (SemOpen asked)) q known new = at (is_new (semaphore_opening sid asked) (is_bound h)) (eqb (creations h) o) refl where
  at : (b d : Bool) → eqb (creations h) o ≡ d → IsBounded (maxmsg_of (as_queue (cond (b && d) (option_or (option_map (made_by c (semaphore_opening sid asked)) (cred c h sid.0)) (object c h o)) (object c h o)))) q
  at true true e = let same : creations h ≡ o = eqb-true _ _ e in subst (λ (z : Queue). IsBounded (maxmsg_of (as_queue (option_or (option_map (made_by c (semaphore_opening sid asked)) (cred c h sid.0)) (object c h o)))) z) (sym (new (omega arith))) (empty_bounded _)
  at true false e = known
  at false d e = known
same_or_new c h o (Do sid call) q known new = known
same_or_new c h o (Hello found) q known new = known
same_or_new c h o (Hangup sid) q known new = known
same_or_new c h o (Tick moment) q known new = known

bounded_more : (c : Config) (h : History) (o : ℕ) → 1 ≤ c.limits.msg_max → Legal c h → IsBounded (maxmsg c h o) (queue c h o) → (e : Event) (r : Option Rule) → r ≡ verdict c h e → IsBounded (maxmsg c (record { event = e; rule = r } ∷ h) o) (queue c (record { event = e; rule = r } ∷ h) o)
unfolding object queue
bounded_more c h o most before known e (Some rule) legal = known
bounded_more c h o most before known e None legal = subst (λ (x : Option Object). IsBounded (maxmsg_of (as_queue x)) (queue_after (maxmsg c h o) (act c o e h) (queue c h o))) (sym now) (same_or_new c h o e (queue_after (maxmsg c h o) (act c o e h) (queue c h o)) stepped (λ le. ap (queue_after (maxmsg c h o) (act c o e h)) (not_created_empty c h o le) ∙ empty_after c h o (maxmsg c h o) e le)) where
  now : object c (record { event = e; rule = None } ∷ h) o ≡ made_after o e (is_bound h) (creations h) (λ asked. option_map (made_by c asked) (cred c h asked.session.0)) (object c h o)
  now = (grows c h e).object_of o

  one : (i : ℕ) → count_at i (queue c h o).contents ≤ 1
  one i = let most' = sent_once c h o i in omega arith

  stepped : IsBounded (maxmsg c h o) (queue_after (maxmsg c h o) (act c o e h) (queue c h o))
  stepped = bounded_step (maxmsg c h o) (act c o e h) (queue c h o) (receives_room c h o e most before legal) one known

-- in a legal history each queue is so, where the limits let a queue have a message
pub bounded : (c : Config) (h : History) → 1 ≤ c.limits.msg_max → Legal c h → (o : ℕ) → IsBounded (maxmsg c h o) (queue c h o)
unfolding object queue
bounded c [] most legal o = empty_bounded 0
bounded c (r ∷ h) most legal o = bounded_more c h o most legal.1 (bounded c h most legal.1 o) r.event r.rule legal.0

-- the same as a law
pub each_bounded : EachIsBounded
each_bounded c h o most legal = bounded c h most legal o
