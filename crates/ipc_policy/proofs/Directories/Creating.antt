-- Only objects that were created are bound or held, or have messages, a value or parked calls.
use Rattle.std.proofs.Common.{◌≡◌, ℕ, ◌+◌, ◌<◌, ◌≤◌, Bool, true, false, not, ◌&&◌, eqb, cond, List, [], ◌∷◌, length, Option, Some, None, is_some, refl, sym, ap, subst, ◌∙◌, arith}
use Rattle.std.specs.Prelude.{option_and_then}
use Rattle.std.specs.Option.{option_or, option_map}
use Rattle.std.proofs.lemmas.Bool.{ne_eqb}
use Rattle.ipc_terms.specs.Flags.{has_create}
use Rattle.ipc_terms.specs.Timed.{plain}
use Rattle.ipc_terms.specs.declared.rule.Rule.{Rule}
use Rattle.ipc_terms.specs.declared.ids.Sid.{Sid}
use Rattle.ipc_terms.specs.declared.ids.Desc.{Desc}
use Rattle.ipc_terms.specs.declared.ids.Family.{Family}
use Rattle.ipc_terms.specs.declared.ids.Family.TheVariants.{Mq, Sem}
use Rattle.ipc_terms.specs.declared.call.Call.TheVariants.{MqOpen, MqSend, MqReceive, MqGive, MqUnlink, SemOpen, SemUnlink, SemPost, SemWait, SemTryWait}
use Rattle.ipc_terms.specs.declared.record.Event.{Event}
use Rattle.ipc_terms.specs.declared.record.Event.TheVariants.{Hello, Do, Hangup, Tick}
use Rattle.ipc_policy.specs.declared.config.Config.{Config}
use Rattle.ipc_policy.specs.declared.config.Held.{Held}
use Rattle.ipc_policy.specs.Decides.History.{History}
use Rattle.ipc_policy.specs.Decides.Names.{Opening, queue_opening, semaphore_opening, unlinks, asks_name, is_bound, creations, bound}
use Rattle.ipc_policy.specs.Decides.Descriptions.{opened, held_as, opens, if_of, held, holds, ends_held}
use Rattle.ipc_policy.specs.Decides.Life.{gives_object}
use Rattle.ipc_policy.specs.Decides.Queues.{withdrawal, plain_act, act_by, empty_queue, queue_after, maxmsg}
use Rattle.ipc_policy.specs.Decides.Semaphores.{wait_withdrawal, plain_semaphore_act, semaphore_act_by, semaphore_after, with_first, no_semaphore}
use Rattle.ipc_policy.specs.Decides.Bodies.{due, queue, semaphore}
use Rattle.ipc_policy.specs.Follows.Grow.{is_new, first_value, creations_after, bound_after, held_after}
use Rattle.ipc_policy.proofs.Holdings.Holding.{kept_is, held_grows, held_given, moved}
use Rattle.ipc_policy.proofs.Histories.Growing.{creations_grow, bound_grows}
use Rattle.ipc_policy.proofs.Queues.Queueing.{queue_grows, refused_queue, semaphore_grows, refused_semaphore}
use Rattle.ipc_policy.proofs.Histories.Known.{bound_iff}

-- objects are never fewer
count_at : (n o : ℕ) (b : Bool) → cond b (n + 1) n ≤ o → n ≤ o
count_at n o true le = omega arith
count_at n o false le = le

created_at : (h : History) (e : Event) (o : ℕ) → creations_after e (is_bound h) (creations h) ≤ o → creations h ≤ o
created_at h (Hello found) o le = le
created_at h (Do sid (MqOpen asked)) o le = count_at (creations h) o (is_new (queue_opening sid asked) (is_bound h)) le
created_at h (Do sid (SemOpen asked)) o le = count_at (creations h) o (is_new (semaphore_opening sid asked) (is_bound h)) le
created_at h (Do sid call) o le = le
created_at h (Hangup sid) o le = le
created_at h (Tick moment) o le = le

pub created_before : (h : History) (e : Event) (r : Option Rule) (o : ℕ) → creations (record { event = e; rule = r } ∷ h) ≤ o → creations h ≤ o
unfolding creations
created_before h e (Some rule) o le = le
created_before h e None o le = created_at h e o (rw (← creation_count) le) where
  creation_count : creations (record { event = e; rule = None } ∷ h) ≡ creations_after e (is_bound h) (creations h)
  creation_count = creations_grow h e

-- what a name is bound to was created
bound_open : (n o : ℕ) (b s : Bool) (w : Option ℕ) → (w ≡ Some o → o < n) → cond (b && s) (Some n) w ≡ Some o → o < cond b (n + 1) n
bound_open n o true true w known e = let same : n ≡ o = cc in omega arith
bound_open n o true false w known e = let lt = known e in omega arith
bound_open n o false s w known e = known e

bound_left : (n o : ℕ) (b : Bool) (w : Option ℕ) → (w ≡ Some o → o < n) → cond b None w ≡ Some o → o < n
bound_left n o true w known e = absurd cc
bound_left n o false w known e = known e

bound_at : (h : History) (f : Family) (name : List ℕ) (o : ℕ) → (bound h f name ≡ Some o → o < creations h) → (e : Event) → bound_after f name e (is_bound h) (creations h) (bound h f name) ≡ Some o → o < creations_after e (is_bound h) (creations h)
bound_at h f name o known (Hello found) e = known e
bound_at h f name o known (Do sid (MqOpen asked)) e = bound_open (creations h) o (is_new (queue_opening sid asked) (is_bound h)) (asks_name (queue_opening sid asked) f name) (bound h f name) known e
bound_at h f name o known (Do sid (MqUnlink given)) e = bound_left (creations h) o (unlinks f name (Do sid (MqUnlink given))) (bound h f name) known e
bound_at h f name o known (Do sid (SemOpen asked)) e = bound_open (creations h) o (is_new (semaphore_opening sid asked) (is_bound h)) (asks_name (semaphore_opening sid asked) f name) (bound h f name) known e
bound_at h f name o known (Do sid (SemUnlink given)) e = bound_left (creations h) o (unlinks f name (Do sid (SemUnlink given))) (bound h f name) known e
bound_at h f name o known (Do sid call) e = known e
bound_at h f name o known (Hangup sid) e = known e
bound_at h f name o known (Tick moment) e = known e

bound_more : (h : History) (f : Family) (name : List ℕ) (o : ℕ) → (bound h f name ≡ Some o → o < creations h) → (e : Event) (r : Option Rule) → bound (record { event = e; rule = r } ∷ h) f name ≡ Some o → o < creations (record { event = e; rule = r } ∷ h)
unfolding bound creations
bound_more h f name o known e (Some rule) k = known k
bound_more h f name o known e None k = rw count (bound_at h f name o known e (sym now ∙ k)) where
  count : creations (record { event = e; rule = None } ∷ h) ≡ creations_after e (is_bound h) (creations h)
  count = creations_grow h e

  now : bound (record { event = e; rule = None } ∷ h) f name ≡ bound_after f name e (is_bound h) (creations h) (bound h f name)
  now = bound_grows h e f name

pub bound_below : (h : History) (f : Family) (name : List ℕ) (o : ℕ) → bound h f name ≡ Some o → o < creations h
unfolding bound
bound_below [] f name o e = absurd cc
bound_below (r ∷ h) f name o e = bound_more h f name o (bound_below h f name o) r.event r.rule e

-- what is held was created: an open that gives something finds it, or creates it
opened_below : (n o : ℕ) (create there : Bool) (w : Option ℕ) → there ≡ is_some w → ((i : ℕ) → w ≡ Some i → i < n) → option_or w (cond create (Some n) None) ≡ Some o → o < cond (create && not there) (n + 1) n
opened_below n o true true None t known e = absurd cc
opened_below n o true false None t known e = let same : n ≡ o = cc in omega arith
opened_below n o false there None t known e = absurd cc
opened_below n o true true (Some i) t known e = known o e
opened_below n o true false (Some i) t known e = absurd cc
opened_below n o false there (Some i) t known e = known o e

held_open : (n m : ℕ) (b : Bool) (o : Option ℕ) (w : Option Held) (asked : Opening) (x : Held) → ((z : Held) → w ≡ Some z → z.object < n) → n ≤ m → ((i : ℕ) → o ≡ Some i → i < m) → option_or (cond b (option_map (held_as asked) o) None) w ≡ Some x → x.object < m
held_open n m true None w asked x known le lt e = let less = known x e in omega arith
held_open n m true (Some i) w asked x known le lt e = let same : held_as asked i ≡ x = cc in subst (λ (y : Held). y.object < m) same (lt i refl)
held_open n m false o w asked x known le lt e = let less = known x e in omega arith

count_le : (n : ℕ) (b : Bool) → n ≤ cond b (n + 1) n
count_le n true = omega arith
count_le n false = omega arith

-- a give leaves the object
moved_object : (sid taker : Sid) (desc : Desc) (d n : ℕ) (w : Option Held) (x : Held) → ((y : Held) → w ≡ Some y → y.object < n) → option_map (moved sid desc taker d) w ≡ Some x → x.object < n
moved_object sid taker desc d n None x known e = absurd cc
moved_object sid taker desc d n (Some y) x known e =
    let same : moved sid desc taker d y ≡ x = cc in
    let object : y.object ≡ x.object = sym (unmoved (eqb sid.0 y.session.0 && eqb desc.0 d)) ∙ ap (λ (z : Held). z.object) same in
    let less = known y refl in
    omega arith where
      unmoved : (b : Bool) → (cond b (record y { session = taker }) y).object ≡ y.object
      unmoved true = refl
      unmoved false = refl

held_at : (h : History) (d : ℕ) (x : Held) → ((y : Held) → held h d ≡ Some y → y.object < creations h) → (e : Event) → held_after d e (opens h) (bound h) (creations h) (held h d) ≡ Some x → x.object < creations_after e (is_bound h) (creations h)
held_at h d x known (Hello found) e = known x (kept_is (λ y. ends_held d y (Hello found)) (held h d) x e)
held_at h d x known (Do sid (MqOpen asked)) e =
    let new = is_new (queue_opening sid asked) (is_bound h) in
    held_open (creations h) (cond new (creations h + 1) (creations h)) (eqb (opens h) d) (opened h (queue_opening sid asked)) (held h d) (queue_opening sid asked) x known (count_le (creations h) new)
    (λ i is. opened_below (creations h) i (has_create asked.flags) (is_bound h Mq asked.name) (bound h Mq asked.name) (bound_iff h Mq asked.name) (λ k at. bound_below h Mq asked.name k at) is)
    e
held_at h d x known (Do sid (SemOpen asked)) e =
    let new = is_new (semaphore_opening sid asked) (is_bound h) in
    held_open (creations h) (cond new (creations h + 1) (creations h)) (eqb (opens h) d) (opened h (semaphore_opening sid asked)) (held h d) (semaphore_opening sid asked) x known (count_le (creations h) new)
    (λ i is. opened_below (creations h) i (has_create asked.flags) (is_bound h Sem asked.name) (bound h Sem asked.name) (bound_iff h Sem asked.name) (λ k at. bound_below h Sem asked.name k at) is)
    e
held_at h d x known (Do sid (MqGive desc taker)) e = moved_object sid taker desc d (creations h) (held h d) x known (sym (held_given h sid taker desc d) ∙ held_grows h (Do sid (MqGive desc taker)) d ∙ e)
held_at h d x known (Do sid call) e = known x (kept_is (λ y. ends_held d y (Do sid call)) (held h d) x e)
held_at h d x known (Hangup sid) e = known x (kept_is (λ y. ends_held d y (Hangup sid)) (held h d) x e)
held_at h d x known (Tick moment) e = known x (kept_is (λ y. ends_held d y (Tick moment)) (held h d) x e)

held_more : (h : History) (d : ℕ) (x : Held) → ((y : Held) → held h d ≡ Some y → y.object < creations h) → (e : Event) (r : Option Rule) → held (record { event = e; rule = r } ∷ h) d ≡ Some x → x.object < creations (record { event = e; rule = r } ∷ h)
unfolding held creations
held_more h d x known e (Some rule) k = known x k
held_more h d x known e None k = rw count (held_at h d x known e (sym now ∙ k)) where
  count : creations (record { event = e; rule = None } ∷ h) ≡ creations_after e (is_bound h) (creations h)
  count = creations_grow h e

  now : held (record { event = e; rule = None } ∷ h) d ≡ held_after d e (opens h) (bound h) (creations h) (held h d)
  now = held_grows h e d

pub held_created : (h : History) (d : ℕ) (x : Held) → held h d ≡ Some x → x.object < creations h
unfolding held
held_created [] d x e = absurd cc
held_created (r ∷ h) d x e = held_more h d x (held_created h d) r.event r.rule e

-- nothing stands in an object that was not created
mine_is : (s : ℕ) (w : Option Held) (x : Held) → option_and_then (if_of s) w ≡ Some x → w ≡ Some x
mine_is s None x e = absurd cc
mine_is s (Some y) x e = at (eqb y.session.0 s) e where
  at : (b : Bool) → cond b (Some y) None ≡ Some x → Some y ≡ Some x
  at true k = k
  at false k = absurd cc

pub holds_is_held : (h : History) (s d : ℕ) (x : Held) → holds h s d ≡ Some x → held h d ≡ Some x
unfolding holds
holds_is_held h s d x e = mine_is s (held h d) x e

given_at : (o n : ℕ) (w : Option Held) → n ≤ o → ((x : Held) → w ≡ Some x → x.object < n) → gives_object o w ≡ false
given_at o n None le known = refl
given_at o n (Some x) le known = ne_eqb x.object o (λ (q : x.object ≡ o). absurd (let lt = known x refl in omega arith))

pub not_given : (h : History) (s d o : ℕ) → creations h ≤ o → gives_object o (holds h s d) ≡ false
not_given h s d o le = given_at o (creations h) (holds h s d) le (λ x e. held_created h d x (holds_is_held h s d x e))

plain_empty : (due : ℕ → Option ℕ) (h : History) (o n : ℕ) (e : Event) → creations h ≤ o → queue_after n (plain_act (length h) (holds h) due o e) empty_queue ≡ empty_queue
plain_empty due h o n (Hello found) le = refl
plain_empty due h o n (Do sid (MqSend desc priority bytes)) le = rw (not_given h sid.0 desc.0 o le) refl
plain_empty due h o n (Do sid (MqReceive desc length')) le = rw (not_given h sid.0 desc.0 o le) refl
plain_empty due h o n (Do sid call) le = refl
plain_empty due h o n (Hangup sid) le = refl
plain_empty due h o n (Tick moment) le = at (due moment) where
  at : (s : Option ℕ) → queue_after n (withdrawal s) empty_queue ≡ empty_queue
  at None = refl
  at (Some s) = refl

pub empty_after : (c : Config) (h : History) (o n : ℕ) (e : Event) → creations h ≤ o → queue_after n (act_by (length h) (holds h) (due c h) o e) empty_queue ≡ empty_queue
empty_after c h o n e le = plain_empty (due c h) h o n (plain e) le

empty_more : (c : Config) (h : History) (o : ℕ) → queue c h o ≡ empty_queue → creations h ≤ o → (e : Event) (r : Option Rule) → queue c (record { event = e; rule = r } ∷ h) o ≡ empty_queue
empty_more c h o none le e (Some rule) = refused_queue c h e rule o ∙ none
empty_more c h o none le e None = queue_grows c h e o ∙ ap (queue_after (maxmsg c h o) (act_by (length h) (holds h) (due c h) o e)) none ∙ empty_after c h o (maxmsg c h o) e le

-- no message stands in an object that was not created, and no call is parked on it
pub not_created_empty : (c : Config) (h : History) (o : ℕ) → creations h ≤ o → queue c h o ≡ empty_queue
unfolding queue
not_created_empty c [] o le = refl
not_created_empty c (r ∷ h) o le =
    let before = created_before h r.event r.rule o le in
    empty_more c h o (not_created_empty c h o before) before r.event r.rule

-- and a semaphore that was not created has no value and no parked wait
plain_still : (due : ℕ → Option ℕ) (h : History) (o : ℕ) (e : Event) → creations h ≤ o → semaphore_after (plain_semaphore_act (length h) (holds h) due o e) no_semaphore ≡ no_semaphore
plain_still due h o (Hello found) le = refl
plain_still due h o (Do sid (SemPost desc)) le = rw (not_given h sid.0 desc.0 o le) refl
plain_still due h o (Do sid (SemWait desc)) le = rw (not_given h sid.0 desc.0 o le) refl
plain_still due h o (Do sid (SemTryWait desc)) le = rw (not_given h sid.0 desc.0 o le) refl
plain_still due h o (Do sid call) le = refl
plain_still due h o (Hangup sid) le = refl
plain_still due h o (Tick moment) le = at (due moment) where
  at : (s : Option ℕ) → semaphore_after (wait_withdrawal s) no_semaphore ≡ no_semaphore
  at None = refl
  at (Some s) = refl

pub still_after : (c : Config) (h : History) (o : ℕ) (e : Event) → creations h ≤ o → semaphore_after (semaphore_act_by (length h) (holds h) (due c h) o e) no_semaphore ≡ no_semaphore
still_after c h o e le = plain_still (due c h) h o (plain e) le

-- an event gives its first value to an object that it creates
none_given : (n o : ℕ) (b : Bool) (w : Option ℕ) → cond b (n + 1) n ≤ o → cond (b && eqb n o) (option_or w None) None ≡ None
none_given n o true w le = ap (λ d. cond d (option_or w None) None) (ne_eqb n o (λ (q : n ≡ o). absurd (omega arith)))
none_given n o false w le = refl

pub no_value_yet : (h : History) (e : Event) (o : ℕ) → creations_after e (is_bound h) (creations h) ≤ o → first_value o e (is_bound h) (creations h) ≡ None
no_value_yet h (Hello found) o le = refl
no_value_yet h (Do sid (MqOpen asked)) o le = none_given (creations h) o (is_new (queue_opening sid asked) (is_bound h)) None le
no_value_yet h (Do sid (SemOpen asked)) o le = none_given (creations h) o (is_new (semaphore_opening sid asked) (is_bound h)) (Some asked.value) le
no_value_yet h (Do sid call) o le = refl
no_value_yet h (Hangup sid) o le = refl
no_value_yet h (Tick moment) o le = refl

still_more : (c : Config) (h : History) (o : ℕ) → (creations h ≤ o → semaphore c h o ≡ no_semaphore) → (e : Event) (r : Option Rule) → creations (record { event = e; rule = r } ∷ h) ≤ o → semaphore c (record { event = e; rule = r } ∷ h) o ≡ no_semaphore
unfolding creations
still_more c h o known e (Some rule) le = refused_semaphore c h e rule o ∙ known le
still_more c h o known e None le =
    let before : creations h ≤ o = created_before h e None o le in
    semaphore_grows c h e o
    ∙ ap (λ v. with_first v (semaphore_after (semaphore_act_by (length h) (holds h) (due c h) o e) (semaphore c h o))) (no_value_yet h e o (rw (← creation_count) le))
    ∙ ap (semaphore_after (semaphore_act_by (length h) (holds h) (due c h) o e)) (known before)
    ∙ still_after c h o e before where
      creation_count : creations (record { event = e; rule = None } ∷ h) ≡ creations_after e (is_bound h) (creations h)
      creation_count = creations_grow h e

pub not_created_still : (c : Config) (h : History) (o : ℕ) → creations h ≤ o → semaphore c h o ≡ no_semaphore
unfolding semaphore
not_created_still c [] o le = refl
not_created_still c (r ∷ h) o le = still_more c h o (not_created_still c h o) r.event r.rule le
