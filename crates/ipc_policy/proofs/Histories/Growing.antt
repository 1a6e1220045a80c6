-- What one accepted event does to sessions, names, objects and the counts of opens.
use Rattle.std.proofs.Common.{◌≡◌, ℕ, ◌+◌, Bool, true, false, not, ◌&&◌, ◌||◌, eqb, cond, List, ◌∷◌, Option, Some, None, is_some, refl, ap}
use Rattle.std.specs.Prelude.{unwrap_or, option_and_then, ◌%◌}
use Rattle.std.specs.Option.{option_or, option_flatten}
use Rattle.ipc_terms.specs.declared.ids.Uid.{Uid}
use Rattle.ipc_terms.specs.declared.ids.Family.{Family}
use Rattle.ipc_terms.specs.Flags.{has_create, has_nonblock}
use Rattle.ipc_terms.specs.declared.call.Call.TheVariants.{Umask, MqOpen, MqSetattr, MqUnlink, SemOpen, SemUnlink}
use Rattle.ipc_terms.specs.declared.record.Event.{Event}
use Rattle.ipc_terms.specs.declared.record.Event.TheVariants.{Hello, Do, Hangup, Tick}
use Rattle.ipc_policy.specs.Decides.History.{History, newest, unless, unended}
use Rattle.ipc_policy.specs.Decides.Sessions.{hellos, begins, hangs_up, user, live, mask, sets_mask}
use Rattle.ipc_policy.specs.Decides.Names.{queue_opening, semaphore_opening, Opening, asks_name, unlinks, leaves_bound, is_bound, creating, creations, binds, bound}
use Rattle.ipc_policy.specs.Decides.Objects.{creation_of}
use Rattle.ipc_policy.specs.Decides.Descriptions.{opens, is_nonblock, sets_nonblock}
use Rattle.ipc_policy.specs.Follows.Grow.{hellos_after, user_after, live_after, mask_after, is_bound_after, creations_after, bound_after, made_after, is_new, opens_after, nonblock_after}
use Rattle.ipc_policy.proofs.Holdings.Holding.{kept_all}

pub hello_grows : (h : History) (e : Event) → hellos (record { event = e; rule = None } ∷ h) ≡ hellos_after e (hellos h)
unfolding hellos
hello_grows h (Hello found) = refl
hello_grows h (Do sid call) = refl
hello_grows h (Hangup sid) = refl
hello_grows h (Tick moment) = refl

found_or : (b : Bool) (found : Option Uid) (w : Option (Option Uid)) → option_flatten (option_or (cond b (Some found) None) w) ≡ cond b found (option_flatten w)
found_or true found w = refl
found_or false found w = refl

pub user_grows : (h : History) (e : Event) (s : ℕ) → user (record { event = e; rule = None } ∷ h) s ≡ user_after s e (hellos h) (user h s)
unfolding user
user_grows h (Hello found) s = found_or (eqb (hellos h) s) found (newest (begins s) h)
user_grows h (Do sid call) s = refl
user_grows h (Hangup sid) s = refl
user_grows h (Tick moment) s = refl

begun : (b : Bool) (found : Option Uid) (w : Option (Option Uid)) → is_some (option_or (cond b (Some found) None) (unless (λ x. false) w)) ≡ (b || is_some w)
begun true found w = refl
begun false found w = ap is_some (kept_all w)

ended : (b : Bool) (w : Option (Option Uid)) → is_some (unless (λ x. b) w) ≡ (not b && is_some w)
ended true None = refl
ended true (Some x) = refl
ended false w = ap is_some (kept_all w)

pub live_grows : (h : History) (e : Event) (s : ℕ) → live (record { event = e; rule = None } ∷ h) s ≡ live_after s e (hellos h) (live h s)
unfolding live
live_grows h (Hello found) s = begun (eqb (hellos h) s) found (unended (begins s) (λ who e before. hangs_up s e) h)
live_grows h (Do sid call) s = ap is_some (kept_all (unended (begins s) (λ who e before. hangs_up s e) h))
live_grows h (Hangup sid) s = ended (eqb sid.0 s) (unended (begins s) (λ who e before. hangs_up s e) h)
live_grows h (Tick moment) s = ap is_some (kept_all (unended (begins s) (λ who e before. hangs_up s e) h))

mask_or : (b : Bool) (x n : ℕ) (w : Option ℕ) → unwrap_or (option_or (cond b (Some x) None) w) n ≡ cond b x (unwrap_or w n)
mask_or true x n w = refl
mask_or false x n w = refl

pub mask_grows : (h : History) (e : Event) (s : ℕ) → mask (record { event = e; rule = None } ∷ h) s ≡ mask_after s e (mask h s)
unfolding mask
mask_grows h (Hello found) s = refl
mask_grows h (Do sid (Umask mode)) s = mask_or (eqb sid.0 s) (mode.0 % 512) 18 (newest (sets_mask s) h)
mask_grows h (Do sid call) s = refl
mask_grows h (Hangup sid) s = refl
mask_grows h (Tick moment) s = refl

bound_true : (b : Bool) (w : Option Bool) → unwrap_or (option_or (cond b (Some true) None) w) false ≡ (b || unwrap_or w false)
bound_true true w = refl
bound_true false w = refl

unbound_false : (b : Bool) (w : Option Bool) → unwrap_or (option_or (cond b (Some false) None) w) false ≡ cond b false (unwrap_or w false)
unbound_false true w = refl
unbound_false false w = refl

pub is_bound_grows : (h : History) (e : Event) (f : Family) (name : List ℕ) → is_bound (record { event = e; rule = None } ∷ h) f name ≡ is_bound_after f name e (is_bound h f name)
unfolding is_bound
is_bound_grows h (Hello found) f name = refl
is_bound_grows h (Do sid (MqOpen asked)) f name = bound_true (has_create asked.flags && asks_name (queue_opening sid asked) f name) (newest (leaves_bound f name) h)
is_bound_grows h (Do sid (MqUnlink given)) f name = unbound_false (unlinks f name (Do sid (MqUnlink given))) (newest (leaves_bound f name) h)
is_bound_grows h (Do sid (SemOpen asked)) f name = bound_true (has_create asked.flags && asks_name (semaphore_opening sid asked) f name) (newest (leaves_bound f name) h)
is_bound_grows h (Do sid (SemUnlink given)) f name = unbound_false (unlinks f name (Do sid (SemUnlink given))) (newest (leaves_bound f name) h)
is_bound_grows h (Do sid call) f name = refl
is_bound_grows h (Hangup sid) f name = refl
is_bound_grows h (Tick moment) f name = refl

some_of : {A : Type 0} (b : Bool) (x : A) (n : ℕ) → cond (is_some (cond b (Some x) None)) (n + 1) n ≡ cond b (n + 1) n
some_of true x n = refl
some_of false x n = refl

pub creations_grow : (h : History) (e : Event) → creations (record { event = e; rule = None } ∷ h) ≡ creations_after e (is_bound h) (creations h)
unfolding creations creating
creations_grow h (Hello found) = refl
creations_grow h (Do sid (MqOpen asked)) = some_of _ _ (creations h)
creations_grow h (Do sid (SemOpen asked)) = some_of _ _ (creations h)
creations_grow h (Do sid call) = refl
creations_grow h (Hangup sid) = refl
creations_grow h (Tick moment) = refl

-- the object that a creation binds its name to
abbrev bound_by : Family → List ℕ → ℕ → Option Opening → Option ℕ
bound_by f name n None = None
bound_by f name n (Some asked) = cond (asks_name asked f name) (Some n) None

bound_open : (f : Family) (name : List ℕ) (asked : Opening) (n : ℕ) (w : Option ℕ) (b k : Bool) → option_or (bound_by f name n (cond b (Some asked) None)) (unless (λ x. false) w) ≡ cond (b && asks_name asked f name) (Some n) w
bound_open f name asked n w true k = at (asks_name asked f name) where
  at : (d : Bool) → option_or (cond d (Some n) None) (unless (λ x. false) w) ≡ cond d (Some n) w
  at true = refl
  at false = kept_all w
bound_open f name asked n w false k = kept_all w

kept_unless : (b : Bool) (w : Option ℕ) → unless (λ x. b) w ≡ cond b None w
kept_unless true None = refl
kept_unless true (Some x) = refl
kept_unless false w = kept_all w

-- the object to which the name is bound, as it is defined
abbrev bound_so_far : History → Family → List ℕ → Option ℕ
bound_so_far h f name = unended (binds f name) (λ o e before. unlinks f name e) h

pub bound_grows : (h : History) (e : Event) (f : Family) (name : List ℕ) → bound (record { event = e; rule = None } ∷ h) f name ≡ bound_after f name e (is_bound h) (creations h) (bound h f name)
unfolding bound creating
bound_grows h (Hello found) f name = kept_all (bound_so_far h f name)
bound_grows h (Do sid (MqOpen asked)) f name = bound_open f name (queue_opening sid asked) (creations h) (bound_so_far h f name) (is_new (queue_opening sid asked) (is_bound h)) true
bound_grows h (Do sid (MqUnlink given)) f name = kept_unless (unlinks f name (Do sid (MqUnlink given))) (bound_so_far h f name)
bound_grows h (Do sid (SemOpen asked)) f name = bound_open f name (semaphore_opening sid asked) (creations h) (bound_so_far h f name) (is_new (semaphore_opening sid asked) (is_bound h)) true
bound_grows h (Do sid (SemUnlink given)) f name = kept_unless (unlinks f name (Do sid (SemUnlink given))) (bound_so_far h f name)
bound_grows h (Do sid call) f name = kept_all (bound_so_far h f name)
bound_grows h (Hangup sid) f name = kept_all (bound_so_far h f name)
bound_grows h (Tick moment) f name = kept_all (bound_so_far h f name)

made_open : {A : Type 0} (b d : Bool) (make : Opening → Option A) (asked : Opening) (w : Option A) → option_or (option_and_then make (cond b (cond d (Some asked) None) None)) w ≡ cond (d && b) (option_or (make asked) w) w
made_open true true make asked w = refl
made_open true false make asked w = refl
made_open false true make asked w = refl
made_open false false make asked w = refl

made_none : {A : Type 0} (b : Bool) (make : Opening → Option A) (w : Option A) → option_or (option_and_then make (cond b None None)) w ≡ w
made_none true make w = refl
made_none false make w = refl

pub made_grows : {A : Type 0} (h : History) (e : Event) (o : ℕ) (make : Opening → Option A) (w : Option A) → option_or (option_and_then make (creation_of o e h)) w ≡ made_after o e (is_bound h) (creations h) make w
unfolding creating
made_grows h (Hello found) o make w = made_none (eqb (creations h) o) make w
made_grows h (Do sid (MqOpen asked)) o make w = made_open (eqb (creations h) o) (is_new (queue_opening sid asked) (is_bound h)) make _ w
made_grows h (Do sid (SemOpen asked)) o make w = made_open (eqb (creations h) o) (is_new (semaphore_opening sid asked) (is_bound h)) make _ w
made_grows h (Do sid call) o make w = made_none (eqb (creations h) o) make w
made_grows h (Hangup sid) o make w = made_none (eqb (creations h) o) make w
made_grows h (Tick moment) o make w = made_none (eqb (creations h) o) make w

pub opens_grow : (h : History) (e : Event) → opens (record { event = e; rule = None } ∷ h) ≡ opens_after e (opens h)
unfolding opens
opens_grow h (Hello found) = refl
opens_grow h (Do sid (MqOpen asked)) = refl
opens_grow h (Do sid (SemOpen asked)) = refl
opens_grow h (Do sid call) = refl
opens_grow h (Hangup sid) = refl
opens_grow h (Tick moment) = refl

nonblock_or : (b x d : Bool) (w : Option Bool) → unwrap_or (option_or (cond b (Some x) None) w) d ≡ cond b x (unwrap_or w d)
nonblock_or true x d w = refl
nonblock_or false x d w = refl

pub nonblock_grows : (h : History) (e : Event) (d : ℕ) → is_nonblock (record { event = e; rule = None } ∷ h) d ≡ nonblock_after d e (opens h) (is_nonblock h d)
unfolding is_nonblock
nonblock_grows h (Hello found) d = refl
nonblock_grows h (Do sid (MqOpen asked)) d = nonblock_or (eqb (opens h) d) (has_nonblock asked.flags) false (newest (sets_nonblock d) h)
nonblock_grows h (Do sid (MqSetattr desc nonblock)) d = nonblock_or (eqb desc.0 d) nonblock false (newest (sets_nonblock d) h)
nonblock_grows h (Do sid (SemOpen asked)) d = nonblock_or (eqb (opens h) d) false false (newest (sets_nonblock d) h)
nonblock_grows h (Do sid call) d = refl
nonblock_grows h (Hangup sid) d = refl
nonblock_grows h (Tick moment) d = refl
