-- What a creation, a chmod and a chown make of an object's owner, group and mode.
use Rattle.std.proofs.Common.{◌≡◌, ℕ, Bool, true, false, ◌&&◌, eqb, cond, Option, Some, None, refl, ap, subst, ◌∙◌}
use Rattle.std.specs.Prelude.{unwrap_or, option_and_then}
use Rattle.std.specs.Option.{option_or, option_map}
use Rattle.ipc_terms.specs.declared.ids.Uid.{Uid}
use Rattle.ipc_terms.specs.declared.ids.Gid.{Gid}
use Rattle.ipc_terms.specs.declared.ids.Mode.{Mode}
use Rattle.ipc_terms.specs.declared.ids.Sid.{Sid}
use Rattle.ipc_terms.specs.declared.ids.Family.{Family}
use Rattle.ipc_terms.specs.declared.ids.Target.{Target}
use Rattle.ipc_terms.specs.declared.facts.Facts.{Facts}
use Rattle.ipc_terms.specs.declared.call.Call.{Call}
use Rattle.ipc_terms.specs.declared.call.Call.TheVariants.{MqOpen, SemOpen}
use Rattle.ipc_terms.specs.declared.record.Event.{Event}
use Rattle.ipc_terms.specs.declared.record.Event.TheVariants.{Hello, Do, Hangup, Tick}
use Rattle.ipc_access.specs.declared.class.Cred.{Cred}
use Rattle.ipc_policy.specs.declared.config.Config.{Config}
use Rattle.ipc_policy.specs.Decides.History.{History, after_accepted, newest}
use Rattle.ipc_policy.specs.Decides.Sessions.{cred, mask}
use Rattle.ipc_policy.specs.Decides.Names.{Opening, opening, queue_opening, semaphore_opening, is_bound, creations, bound}
use Rattle.ipc_policy.specs.Decides.Objects.{first_facts, sets_first, sets_owner, sets_group, sets_mode, sets_directory_owner, sets_directory_group, sets_directory_mode, creation_of, owner_given, group_given, mode_given, means_object, means_directory, object_bits, directory_bits, together, owner, group, mode, facts, directory_owner, directory_group, directory_mode, directory}
use Rattle.ipc_policy.specs.Follows.Grow.{is_new, made_after, owner_after, group_after, mode_after, facts_changed, directory_after}
use Rattle.ipc_policy.proofs.Histories.Growing.{made_grows}

-- a part of what the creation sets
part_of : {A : Type 0} (f : Facts → A) (first : Opening → Cred → Facts) (who : Opening → Option Cred) (w : Option Opening) → option_map f (option_and_then (λ asked. option_map (first asked) (who asked)) w) ≡ option_and_then (λ asked. option_map (λ p. f (first asked p)) (who asked)) w
part_of f first who None = refl
part_of {A = A} f first who (Some asked) = at (who asked) where
  at : (p : Option Cred) → option_map f (option_map (first asked) p) ≡ option_map (λ p. f (first asked p)) p
  at None = refl
  at (Some p) = refl

or_or : {A : Type 0} (u w v : Option A) → option_or (option_or u w) v ≡ option_or u (option_or w v)
or_or None w v = refl
or_or (Some x) w v = refl

-- what is given, or else what the creation sets, or else what there was
given_or_made : {A : Type 0} (given : Option A) (f : Facts → A) (c : Config) (h : History) (e : Event) (o : ℕ) (was : Option A) → option_or (option_or given (option_map f (sets_first c o e h))) was ≡ option_or given (made_after o e (is_bound h) (creations h) (λ asked. option_map (λ p. f (first_facts asked (mask h asked.session.0) p)) (cred c h asked.session.0)) was)
given_or_made given f c h e o was =
    or_or given (option_map f (sets_first c o e h)) was
    ∙ ap (option_or given) (ap (λ v. option_or v was) (part_of f (λ asked p. first_facts asked (mask h asked.session.0) p) (λ asked. cred c h asked.session.0) (creation_of o e h)) ∙ made_grows h e o _ was)

pub owner_grows : (c : Config) (h : History) (e : Event) (o : ℕ) → owner c (after_accepted h e) o ≡ owner_after o e (bound h) (is_bound h) (creations h) (cred c h) (owner c h o)
unfolding owner
owner_grows c h e o = given_or_made (owner_given (means_object (bound h) o) e) (λ at. at.owner) c h e o (newest (sets_owner c o) h)

pub group_grows : (c : Config) (h : History) (e : Event) (o : ℕ) → group c (after_accepted h e) o ≡ group_after o e (bound h) (is_bound h) (creations h) (cred c h) (group c h o)
unfolding group
group_grows c h e o = given_or_made (group_given (means_object (bound h) o) e) (λ at. at.group) c h e o (newest (sets_group c o) h)

pub mode_grows : (c : Config) (h : History) (e : Event) (o : ℕ) → mode c (after_accepted h e) o ≡ mode_after o e (bound h) (is_bound h) (creations h) (cred c h) (mask h) (mode c h o)
unfolding mode
mode_grows c h e o = given_or_made (option_map object_bits (mode_given (means_object (bound h) o) e)) (λ at. at.mode) c h e o (newest (sets_mode c o) h)

together_same : (u v : Option Uid) (g j : Option Gid) (m n : Option Mode) → u ≡ v → g ≡ j → m ≡ n → together u g m ≡ together v j n
together_same u v g j m n one two three = rw (one, two, three) refl

pub facts_grow : (c : Config) (h : History) (e : Event) (o : ℕ) → facts c (after_accepted h e) o ≡ together (owner_after o e (bound h) (is_bound h) (creations h) (cred c h) (owner c h o)) (group_after o e (bound h) (is_bound h) (creations h) (cred c h) (group c h o)) (mode_after o e (bound h) (is_bound h) (creations h) (cred c h) (mask h) (mode c h o))
unfolding facts
facts_grow c h e o = together_same _ _ _ _ _ _ (owner_grows c h e o) (group_grows c h e o) (mode_grows c h e o)

-- a directory has what it is given, or else what it had
abbrev held_by : Uid → Gid → Mode → Facts
held_by u g m = record { owner = u; group = g; mode = m }

unwrap_given : {A : Type 0} (given was : Option A) (x : A) → unwrap_or (option_or given was) x ≡ unwrap_or given (unwrap_or was x)
unwrap_given None was x = refl
unwrap_given (Some y) was x = refl

held_same : (u v : Uid) (g j : Gid) (m n : Mode) → u ≡ v → g ≡ j → m ≡ n → held_by u g m ≡ held_by v j n
held_same u v g j m n one two three = rw (one, two, three) refl

pub directory_grows : (h : History) (e : Event) (f : Family) → directory (after_accepted h e) f ≡ directory_after f e (directory h f)
unfolding directory directory_owner directory_group directory_mode
directory_grows h e f =
    held_same _ _ _ _ _ _
    (unwrap_given (sets_directory_owner f e h) (newest (sets_directory_owner f) h) (record { 0 = 0 }))
    (unwrap_given (sets_directory_group f e h) (newest (sets_directory_group f) h) (record { 0 = 0 }))
    (unwrap_given (sets_directory_mode f e h) (newest (sets_directory_mode f) h) (record { 0 = 1023 }))

-- where nothing is given, the creation alone sets the three
all_made : (b : Bool) (asked : Opening) (mask' : ℕ) (w : Option Cred) (u : Option Uid) (g : Option Gid) (m : Option Mode) →
    together (cond b (option_or (option_map (λ (p : Cred). p.uid) w) u) u) (cond b (option_or (option_map (λ (p : Cred). p.gid) w) g) g) (cond b (option_or (option_map (λ (p : Cred). (first_facts asked mask' p).mode) w) m) m)
    ≡ cond b (option_or (option_map (first_facts asked mask') w) (together u g m)) (together u g m)
all_made false asked mask' w u g m = refl
all_made true asked mask' None u g m = refl
all_made true asked mask' (Some p) u g m = refl

none_given : (given_owner : Option Uid) (given_group : Option Gid) (given_mode : Option Mode) (u : Option Uid) (g : Option Gid) (m : Option Mode) → given_owner ≡ None → given_group ≡ None → given_mode ≡ None → together (option_or given_owner u) (option_or given_group g) (option_or (option_map object_bits given_mode) m) ≡ together u g m
none_given None None None u g m one two three = refl
none_given (Some x) y z u g m one two three = absurd cc
none_given None (Some y) z u g m one two three = absurd cc
none_given None None (Some z) u g m one two three = absurd cc

-- an event that gives no owner, no group and no mode
pub record GivesNothing (e : Event) : Type 0 where
  pub owner : (meant : Target → Bool) → owner_given meant e ≡ None
  pub group : (meant : Target → Bool) → group_given meant e ≡ None
  pub mode : (meant : Target → Bool) → mode_given meant e ≡ None

pub opens_give_nothing : (e : Event) (asked : Opening) → opening e ≡ Some asked → GivesNothing e
opens_give_nothing (Hello found) asked is = absurd cc
opens_give_nothing (Do sid (MqOpen given)) asked is = record { owner = λ meant. refl; group = λ meant. refl; mode = λ meant. refl }
opens_give_nothing (Do sid (SemOpen given)) asked is = record { owner = λ meant. refl; group = λ meant. refl; mode = λ meant. refl }
opens_give_nothing (Do sid call) asked is = absurd cc
opens_give_nothing (Hangup sid) asked is = absurd cc
opens_give_nothing (Tick moment) asked is = absurd cc

-- an event that opens nothing leaves what it does not mean
pub facts_left : (c : Config) (h : History) (sid : Sid) (call : Call) → opening (Do sid call) ≡ None → (o : ℕ) → owner_given (means_object (bound h) o) (Do sid call) ≡ None → group_given (means_object (bound h) o) (Do sid call) ≡ None → mode_given (means_object (bound h) o) (Do sid call) ≡ None → facts c (after_accepted h (Do sid call)) o ≡ facts c h o
unfolding facts
facts_left c h sid (MqOpen asked) none o one two three = absurd cc
facts_left c h sid (SemOpen asked) none o one two three = absurd cc
facts_left c h sid call none o one two three = facts_grow c h (Do sid call) o ∙ none_given (owner_given (means_object (bound h) o) (Do sid call)) (group_given (means_object (bound h) o) (Do sid call)) (mode_given (means_object (bound h) o) (Do sid call)) (owner c h o) (group c h o) (mode c h o) one two three

-- it leaves the three to the creation
pub facts_made : (c : Config) (h : History) (e : Event) → GivesNothing e → (o : ℕ) → facts c (after_accepted h e) o ≡ made_after o e (is_bound h) (creations h) (λ asked. option_map (first_facts asked (mask h asked.session.0)) (cred c h asked.session.0)) (facts c h o)
unfolding facts
facts_made c h (Hello found) nothing o = facts_grow c h (Hello found) o
facts_made c h (Do sid (MqOpen asked)) nothing o = facts_grow c h (Do sid (MqOpen asked)) o ∙ all_made (is_new (queue_opening sid asked) (is_bound h) && eqb (creations h) o) (queue_opening sid asked) (mask h sid.0) (cred c h sid.0) (owner c h o) (group c h o) (mode c h o)
facts_made c h (Do sid (SemOpen asked)) nothing o = facts_grow c h (Do sid (SemOpen asked)) o ∙ all_made (is_new (semaphore_opening sid asked) (is_bound h) && eqb (creations h) o) (semaphore_opening sid asked) (mask h sid.0) (cred c h sid.0) (owner c h o) (group c h o) (mode c h o)
facts_made c h (Do sid call) nothing o = facts_left c h sid call refl o (nothing.owner (means_object (bound h) o)) (nothing.group (means_object (bound h) o)) (nothing.mode (means_object (bound h) o))
facts_made c h (Hangup sid) nothing o = facts_grow c h (Hangup sid) o
facts_made c h (Tick moment) nothing o = facts_grow c h (Tick moment) o

-- and leaves the directories
pub directory_left : (h : History) (e : Event) → GivesNothing e → (f : Family) → directory (after_accepted h e) f ≡ directory h f
directory_left h e nothing f =
    directory_grows h e f
    ∙ held_same _ _ _ _ _ _
    (ap (λ w. unwrap_or w (directory h f).owner) (nothing.owner (means_directory f)))
    (ap (λ w. unwrap_or w (directory h f).group) (nothing.group (means_directory f)))
    (ap (λ w. unwrap_or (option_map directory_bits w) (directory h f).mode) (nothing.mode (means_directory f)))

-- an event that opens nothing changes what it means, where that has an owner, a group and a mode
changed_together : (given_owner : Option Uid) (given_group : Option Gid) (given_mode : Option Mode) (u : Option Uid) (g : Option Gid) (m : Option Mode) (at : Facts) → together u g m ≡ Some at →
    together (option_or given_owner u) (option_or given_group g) (option_or given_mode m) ≡ Some (held_by (unwrap_or given_owner at.owner) (unwrap_or given_group at.group) (unwrap_or given_mode at.mode))
changed_together u g m (Some a) (Some b) (Some d) at is = subst (λ (t : Facts). together (option_or u (Some a)) (option_or g (Some b)) (option_or m (Some d)) ≡ Some (held_by (unwrap_or u t.owner) (unwrap_or g t.group) (unwrap_or m t.mode))) same (filled u g m) where
  same : held_by a b d ≡ at
  same = cc

  filled : (u : Option Uid) (g : Option Gid) (m : Option Mode) → together (option_or u (Some a)) (option_or g (Some b)) (option_or m (Some d)) ≡ Some (held_by (unwrap_or u a) (unwrap_or g b) (unwrap_or m d))
  filled None None None = refl
  filled None None (Some z) = refl
  filled None (Some y) None = refl
  filled None (Some y) (Some z) = refl
  filled (Some x) None None = refl
  filled (Some x) None (Some z) = refl
  filled (Some x) (Some y) None = refl
  filled (Some x) (Some y) (Some z) = refl
changed_together u g m None b d at is = absurd cc
changed_together u g m (Some a) None d at is = absurd cc
changed_together u g m (Some a) (Some b) None at is = absurd cc

pub facts_given : (c : Config) (h : History) (e : Event) → opening e ≡ None → (o : ℕ) (at : Facts) → facts c h o ≡ Some at → facts c (after_accepted h e) o ≡ Some (facts_changed (means_object (bound h) o) object_bits e at)
unfolding facts
facts_given c h (Hello found) none o at is = facts_grow c h (Hello found) o ∙ is
facts_given c h (Do sid (MqOpen given)) none o at is = absurd cc
facts_given c h (Do sid (SemOpen given)) none o at is = absurd cc
facts_given c h (Do sid call) none o at is = facts_grow c h (Do sid call) o ∙ changed_together (owner_given (means_object (bound h) o) (Do sid call)) (group_given (means_object (bound h) o) (Do sid call)) (option_map object_bits (mode_given (means_object (bound h) o) (Do sid call))) (owner c h o) (group c h o) (mode c h o) at is
facts_given c h (Hangup sid) none o at is = facts_grow c h (Hangup sid) o ∙ is
facts_given c h (Tick moment) none o at is = facts_grow c h (Tick moment) o ∙ is
