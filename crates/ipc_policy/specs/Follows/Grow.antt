-- What one accepted event does to each value, by the values before it alone.
use Rattle.std.specs.Prelude.{◌≡◌, Bool, false, ℕ, ◌+◌, ◌-◌, ◌%◌, ◌&&◌, ◌||◌, ◌==◌, not, List, [], ◌∷◌, ◌++◌, length, filter, Option, Some, None, is_some, if◌then◌else◌, unwrap_or}
use Rattle.std.specs.Option.{option_or, option_map}
use Rattle.ipc_terms.specs.Flags.{has_create}
use Rattle.ipc_terms.specs.Names.{same_family, same_name}
use Rattle.ipc_terms.specs.Objects.{value_asked}
use Rattle.ipc_terms.specs.Timed.{deadline}
use Rattle.ipc_terms.specs.declared.binding.Binding.{Binding}
use Rattle.ipc_terms.specs.declared.ids.Uid.{Uid}
use Rattle.ipc_terms.specs.declared.ids.Gid.{Gid}
use Rattle.ipc_terms.specs.declared.ids.Mode.{Mode}
use Rattle.ipc_terms.specs.declared.ids.Target.{Target}
use Rattle.ipc_terms.specs.declared.object.Object.{Object}
use Rattle.ipc_terms.specs.declared.ids.Family.{Family}
use Rattle.ipc_terms.specs.declared.call.Call.TheVariants.{Umask, MqClose, MqSetattr, MqGive, SemClose, SetLimit}
use Rattle.ipc_terms.specs.declared.record.Event.{Event}
use Rattle.ipc_terms.specs.declared.record.Event.TheVariants.{Hello, Do, Hangup}
use Rattle.ipc_terms.specs.declared.facts.Facts.{Facts}
use Rattle.ipc_access.specs.declared.class.Cred.{Cred}
use Rattle.ipc_policy.specs.declared.config.Config.{Config}
use Rattle.ipc_policy.specs.declared.config.Held.{Held}
use Rattle.ipc_policy.specs.declared.config.Registration.{Registration}
use Rattle.ipc_policy.specs.Decides.History.{History, after_accepted, unless, any_below, how_many_below, sum_below}
use Rattle.ipc_policy.specs.Decides.Sessions.{hellos, user, live, cred, mask}
use Rattle.ipc_policy.specs.Decides.Names.{Opening, Naming, opening, nonblock_asked, unlinking, unlinks, asks_name, is_bound, creations, bound}
use Rattle.ipc_policy.specs.Decides.Objects.{without_mask, object, owner, group, mode, facts, together, directory, made_by, owner_given, group_given, mode_given, means_object, means_directory, object_bits, directory_bits}
use Rattle.ipc_policy.specs.Decides.Descriptions.{opened_by, held_as, hands_over, opens, held, holds, held_count, is_nonblock, ends_held}
use Rattle.ipc_policy.specs.Decides.Life.{named, bindings, names, alive, gives_object}
use Rattle.ipc_policy.specs.Decides.Timed.{told, now, deadline_at}
pub use Rattle.ipc_policy.specs.Decides.Queues.{act_by}
use Rattle.ipc_policy.specs.Decides.Queues.{queue_after, maxmsg}
pub use Rattle.ipc_policy.specs.Decides.Semaphores.{semaphore_act_by}
use Rattle.ipc_policy.specs.Decides.Semaphores.{SemaphoreAct, Semaphore, semaphore_after, with_first, is_post, is_pass, given_value}
use Rattle.ipc_policy.specs.Decides.Bodies.{due, act, semaphore_act, queue, semaphore, posts, passes, value}
use Rattle.ipc_policy.specs.Decides.Registrations.{registers, ends_registration, registered}
use Rattle.ipc_policy.specs.Decides.Parking.{Seen, seen, Parked, parks_by, is_posted, ends_call, parked}
use Rattle.ipc_policy.specs.Decides.Charges.{is_queue_alive, charge, charge_of, charged, queues_alive, limit}
use Rattle.ipc_policy.specs.Decides.Verdict.{answers, for_session, outbox}

abbrev pub hellos_after : Event → ℕ → ℕ
hellos_after (Hello found) hellos = hellos + 1
hellos_after _ hellos = hellos

abbrev pub user_after : ℕ → Event → ℕ → Option Uid → Option Uid
user_after s (Hello found) hellos was = if hellos == s then found else was
user_after s _ hellos was = was

abbrev pub live_after : ℕ → Event → ℕ → Bool → Bool
live_after s (Hello found) hellos was = (hellos == s) || was
live_after s (Hangup sid) hellos was = not (sid.0 == s) && was
live_after s _ hellos was = was

abbrev pub mask_after : ℕ → Event → ℕ → ℕ
mask_after s (Do sid (Umask mask)) was = if sid.0 == s then mask.0 % 512 else was
mask_after s _ was = was

-- an open with CREAT of a name that was unbound
abbrev pub is_new : Opening → (Family → List ℕ → Bool) → Bool
is_new asked is_bound = has_create asked.flags && not (is_bound asked.family asked.name)

abbrev pub is_bound_after : Family → List ℕ → Event → Bool → Bool
is_bound_after f name e was = by_open (opening e) where
  by_open : Option Opening → Bool
  by_open None = if unlinks f name e then false else was
  by_open (Some asked) = (has_create asked.flags && asks_name asked f name) || was

abbrev pub creations_after : Event → (Family → List ℕ → Bool) → ℕ → ℕ
creations_after e is_bound was = by_open (opening e) where
  by_open : Option Opening → ℕ
  by_open None = was
  by_open (Some asked) = if is_new asked is_bound then was + 1 else was

abbrev pub bound_after : Family → List ℕ → Event → (Family → List ℕ → Bool) → ℕ → Option ℕ → Option ℕ
bound_after f name e is_bound creations was = by_open (opening e) where
  by_open : Option Opening → Option ℕ
  by_open None = if unlinks f name e then None else was
  by_open (Some asked) = if is_new asked is_bound && asks_name asked f name then Some creations else was

-- what the open that creates object o gives it, else what it had
abbrev pub made_after : {A : Type 0} → ℕ → Event → (Family → List ℕ → Bool) → ℕ → (Opening → Option A) → Option A → Option A
made_after {A = A} o e is_bound creations make was = by_open (opening e) where
  by_open : Option Opening → Option A
  by_open None = was
  by_open (Some asked) = if is_new asked is_bound && (creations == o) then option_or (make asked) was else was

-- what a chown gives where it means object o, else what the open that creates it gives, else what it had
abbrev pub owner_after : ℕ → Event → (Family → List ℕ → Option ℕ) → (Family → List ℕ → Bool) → ℕ → (ℕ → Option Cred) → Option Uid → Option Uid
owner_after o e bound is_bound creations cred was =
    option_or (owner_given (means_object bound o) e) (made_after o e is_bound creations (λ asked. option_map (λ who. who.uid) (cred asked.session.0)) was)

abbrev pub group_after : ℕ → Event → (Family → List ℕ → Option ℕ) → (Family → List ℕ → Bool) → ℕ → (ℕ → Option Cred) → Option Gid → Option Gid
group_after o e bound is_bound creations cred was =
    option_or (group_given (means_object bound o) e) (made_after o e is_bound creations (λ asked. option_map (λ who. who.gid) (cred asked.session.0)) was)

-- and so the mode, by a chmod
abbrev pub mode_after : ℕ → Event → (Family → List ℕ → Option ℕ) → (Family → List ℕ → Bool) → ℕ → (ℕ → Option Cred) → (ℕ → ℕ) → Option Mode → Option Mode
mode_after o e bound is_bound creations cred mask was =
    option_or (option_map object_bits (mode_given (means_object bound o) e)) (made_after o e is_bound creations (λ asked. option_map (λ who. without_mask asked.mode (mask asked.session.0)) (cred asked.session.0)) was)

-- what a chmod or a chown makes of what it means; anything else it leaves
abbrev pub facts_changed : (Target → Bool) → (Mode → Mode) → Event → Facts → Facts
facts_changed meant bits e was = record { owner = unwrap_or (owner_given meant e) was.owner; group = unwrap_or (group_given meant e) was.group; mode = unwrap_or (option_map bits (mode_given meant e)) was.mode }

abbrev pub directory_after : Family → Event → Facts → Facts
directory_after f e was = facts_changed (means_directory f) directory_bits e was

abbrev pub opens_after : Event → ℕ → ℕ
opens_after e was = by_open (opening e) where
  by_open : Option Opening → ℕ
  by_open None = was
  by_open (Some asked) = was + 1

abbrev pub held_after : ℕ → Event → ℕ → (Family → List ℕ → Option ℕ) → ℕ → Option Held → Option Held
held_after d e opens bound creations was = by_open (opening e) where
  by_open : Option Opening → Option Held
  by_open None = option_or (hands_over d e was) (unless (λ x. ends_held d x e) was)
  by_open (Some asked) = option_or (if opens == d then option_map (held_as asked) (opened_by bound creations asked) else None) was

-- who gives one has one less, and then who takes it one more
abbrev pub count_moved : Bool → Bool → ℕ → ℕ
count_moved gives takes was = if takes then (if gives then was - 1 else was) + 1 else (if gives then was - 1 else was)

-- a close of what is held leaves one less, a hang-up none, and a give of what is held moves one
abbrev pub held_count_left : ℕ → Event → (ℕ → ℕ → Option Held) → ℕ → ℕ
held_count_left s (Do sid (MqClose desc)) holds was = if (sid.0 == s) && is_some (holds s desc.0) then was - 1 else was
held_count_left s (Do sid (SemClose desc)) holds was = if (sid.0 == s) && is_some (holds s desc.0) then was - 1 else was
held_count_left s (Do sid (MqGive desc taker)) holds was = if is_some (holds sid.0 desc.0) then count_moved (sid.0 == s) (taker.0 == s) was else was
held_count_left s (Hangup sid) holds was = if sid.0 == s then 0 else was
held_count_left s _ holds was = was

abbrev pub held_count_after : ℕ → Event → (Family → List ℕ → Option ℕ) → ℕ → (ℕ → ℕ → Option Held) → ℕ → ℕ
held_count_after s e bound creations holds was = by_open (opening e) where
  by_open : Option Opening → ℕ
  by_open None = held_count_left s e holds was
  by_open (Some asked) = if (asked.session.0 == s) && is_some (opened_by bound creations asked) then was + 1 else was

abbrev pub nonblock_after : ℕ → Event → ℕ → Bool → Bool
nonblock_after d (Do sid (MqSetattr desc nonblock)) opens was = if desc.0 == d then nonblock else was
nonblock_after d e opens was = by_open (opening e) where
  by_open : Option Opening → Bool
  by_open None = was
  by_open (Some asked) = if opens == d then nonblock_asked asked.kind asked.flags else was

abbrev pub named_after : ℕ → Event → (Family → List ℕ → Bool) → ℕ → Option Opening → Option Opening
named_after o e is_bound creations was = by_open (opening e) where
  by_open : Option Opening → Option Opening
  by_open None = unless (λ asked. unlinks asked.family asked.name e) was
  by_open (Some asked) = if is_new asked is_bound && (creations == o) then Some asked else was

abbrev pub bindings_after : Family → Event → (Family → List ℕ → Bool) → ℕ → List Binding → List Binding
bindings_after f e is_bound creations was = by_open (opening e) where
  without : Option Naming → List Binding
  without None = was
  without (Some what) = filter (λ b. not (same_family what.family f && same_name b.name what.name)) was

  by_open : Option Opening → List Binding
  by_open None = without (unlinking e)
  by_open (Some asked) = if is_new asked is_bound && same_family asked.family f then was ++ record { name = asked.name; object = creations } ∷ [] else was

abbrev pub names_after : Family → Event → (Family → List ℕ → Bool) → List (List ℕ) → List (List ℕ)
names_after f e is_bound was = by_open (opening e) where
  without : Option Naming → List (List ℕ)
  without None = was
  without (Some what) = filter (λ name. not (same_family what.family f && same_name name what.name)) was

  by_open : Option Opening → List (List ℕ)
  by_open None = without (unlinking e)
  by_open (Some asked) = if is_new asked is_bound && same_family asked.family f then was ++ asked.name ∷ [] else was

-- what the object is named by, and what each description gives, after the event
abbrev pub alive_after : ℕ → Option Opening → (ℕ → Option Held) → ℕ → Bool
alive_after o named held opens = is_some named || any_below (λ d. gives_object o (held d)) opens

-- whether object o is alive after the event, by the values before it
abbrev pub alive_then : Event → History → ℕ → Bool
alive_then e h o = alive_after o (named_after o e (is_bound h) (creations h) (named h o)) (λ d. held_after d e (opens h) (bound h) (creations h) (held h d)) (opens_after e (opens h))

-- whose it then is, which group's, and with which mode
abbrev pub owner_then : Config → Event → History → ℕ → Option Uid
owner_then c e h o = owner_after o e (bound h) (is_bound h) (creations h) (cred c h) (owner c h o)

abbrev pub group_then : Config → Event → History → ℕ → Option Gid
group_then c e h o = group_after o e (bound h) (is_bound h) (creations h) (cred c h) (group c h o)

abbrev pub mode_then : Config → Event → History → ℕ → Option Mode
mode_then c e h o = mode_after o e (bound h) (is_bound h) (creations h) (cred c h) (mask h) (mode c h o)

-- and what it then is
abbrev pub object_then : Config → Event → History → ℕ → Option Object
object_then c e h o = made_after o e (is_bound h) (creations h) (λ asked. option_map (made_by c asked) (cred c h asked.session.0)) (object c h o)

-- a SetLimit sets the limit of its user, where there is one
abbrev pub limit_after : Uid → Event → Option ℕ → Option ℕ
limit_after u (Do sid (SetLimit uid bytes)) was = if uid.0 == u.0 then option_map (λ old. bytes) was else was
limit_after u _ was = was

-- the first value, where the event creates object o and asks for a semaphore
abbrev pub first_value : ℕ → Event → (Family → List ℕ → Bool) → ℕ → Option ℕ
first_value o e is_bound creations = made_after o e is_bound creations (λ asked. value_asked asked.kind) None

-- what the value of a semaphore is counted from: its first value, the posts, and the calls that got what they want
abbrev pub given_value_after : Option ℕ → ℕ → ℕ
given_value_after first_value was = unwrap_or first_value was

abbrev pub posts_after : SemaphoreAct → ℕ → ℕ
posts_after a was = if is_post a then was + 1 else was

abbrev pub passes_after : SemaphoreAct → Semaphore → ℕ → ℕ
passes_after a q was = if is_pass a q then was + 1 else was

-- the first value that the event gives semaphore o, if it creates it; and then what the value is counted from: the first
-- value, the posts, and the calls that got what they want
abbrev pub first_value_then : Event → History → ℕ → Option ℕ
first_value_then e h o = first_value o e (is_bound h) (creations h)

abbrev pub given_value_then : Event → History → ℕ → ℕ
given_value_then e h o = given_value_after (first_value_then e h o) (given_value h o)

abbrev pub posts_then : Config → Event → History → ℕ → ℕ
posts_then c e h o = posts_after (semaphore_act c o e h) (posts c h o)

abbrev pub passes_then : Config → Event → History → ℕ → ℕ
passes_then c e h o = passes_after (semaphore_act c o e h) (semaphore c h o) (passes c h o)

-- what ends the parked call of session s, and what ends the registration of queue o
abbrev pub ends_parked_by : Seen → ℕ → Event → Parked → Bool
ends_parked_by there s e p =
    is_posted (semaphore_act_by there.place there.holds there.due p.object e) p.kind p.place (there.semaphore p.object)
    || ends_call s p (act_by there.place there.holds there.due p.object e) (there.queue p.object)

abbrev pub ends_registration_by : Seen → ℕ → Event → Registration → Bool
ends_registration_by there o e x = ends_registration x e (act_by there.place there.holds there.due o e) (there.queue o)

-- the call of session s that parks, or else the one that was parked, unless the event ends it
abbrev pub parked_after : Seen → ℕ → Event → Option Parked → Option Parked
parked_after there s e was = option_or (parks_by there s e) (unless (ends_parked_by there s e) was)

-- the registration that a notify begins, or else the one that there was, unless the event ends it
abbrev pub registered_after : Seen → ℕ → Event → Option Registration → Option Registration
registered_after there o e was = option_or (registers there.holds o e) (unless (ends_registration_by there o e) was)

-- each value after an accepted event, by the values before it
pub record Grows (c : Config) (h k : History) (e : Event) : Type 0 where
  pub hello_count : hellos k ≡ hellos_after e (hellos h)
  pub user_of : (s : ℕ) → user k s ≡ user_after s e (hellos h) (user h s)
  pub live_or_not : (s : ℕ) → live k s ≡ live_after s e (hellos h) (live h s)
  pub mask_of : (s : ℕ) → mask k s ≡ mask_after s e (mask h s)
  pub bound_or_not : (f : Family) (name : List ℕ) → is_bound k f name ≡ is_bound_after f name e (is_bound h f name)
  pub creation_count : creations k ≡ creations_after e (is_bound h) (creations h)
  pub object_named : (f : Family) (name : List ℕ) → bound k f name ≡ bound_after f name e (is_bound h) (creations h) (bound h f name)
  pub object_of : (o : ℕ) → object c k o ≡ object_then c e h o
  pub owner_of : (o : ℕ) → owner c k o ≡ owner_then c e h o
  pub group_of : (o : ℕ) → group c k o ≡ group_then c e h o
  pub mode_of : (o : ℕ) → mode c k o ≡ mode_then c e h o
  pub facts_of : (o : ℕ) → facts c k o ≡ together (owner_then c e h o) (group_then c e h o) (mode_then c e h o)
  pub directory_of : (f : Family) → directory k f ≡ directory_after f e (directory h f)
  pub open_count : opens k ≡ opens_after e (opens h)
  pub held_by : (d : ℕ) → held k d ≡ held_after d e (opens h) (bound h) (creations h) (held h d)
  pub count_of : (s : ℕ) → held_count k s ≡ held_count_after s e (bound h) (creations h) (holds h) (held_count h s)
  pub nonblock_of : (d : ℕ) → is_nonblock k d ≡ nonblock_after d e (opens h) (is_nonblock h d)
  pub time : now k ≡ told e (now h)
  pub deadline_of : (i : ℕ) → deadline_at k i ≡ option_or (if length h == i then deadline e else None) (deadline_at h i)
  pub queue_of : (o : ℕ) → queue c k o ≡ queue_after (maxmsg c h o) (act c o e h) (queue c h o)
  pub registered_to : (o : ℕ) → registered c k o ≡ registered_after (seen c h) o e (registered c h o)
  pub semaphore_of : (o : ℕ) → semaphore c k o ≡ with_first (first_value_then e h o) (semaphore_after (semaphore_act c o e h) (semaphore c h o))
  pub given_value_of : (o : ℕ) → given_value k o ≡ given_value_then e h o
  pub posts_of : (o : ℕ) → posts c k o ≡ posts_then c e h o
  pub passes_of : (o : ℕ) → passes c k o ≡ passes_then c e h o
  pub value_of : (o : ℕ) → value c k o ≡ (given_value_then e h o + posts_then c e h o) - passes_then c e h o
  pub parked_in : (s : ℕ) → parked c k s ≡ parked_after (seen c h) s e (parked c h s)
  pub named_by : (o : ℕ) → named k o ≡ named_after o e (is_bound h) (creations h) (named h o)
  pub bindings_of : (f : Family) → bindings k f ≡ bindings_after f e (is_bound h) (creations h) (bindings h f)
  pub names_of : (f : Family) → names k f ≡ names_after f e (is_bound h) (names h f)
  pub alive_or_not : (o : ℕ) → alive k o ≡ alive_then e h o
  pub limit_of : (u : Uid) → limit c k u ≡ limit_after u e (limit c h u)
  pub charge_at : (u : Uid) (o : ℕ) → charge_of c k u o ≡ charge u (alive_then e h o) (object_then c e h o)
  pub charged_to : (u : Uid) → charged c k u ≡ sum_below (λ o. charge u (alive_then e h o) (object_then c e h o)) (creations_after e (is_bound h) (creations h))
  pub queue_count : queues_alive c k ≡ how_many_below (λ o. is_queue_alive (alive_then e h o) (object_then c e h o)) (creations_after e (is_bound h) (creations h))
  pub outbox_of : (s : ℕ) → outbox c k s ≡ outbox c h s ++ (if live_after s e (hellos h) (live h s) then for_session s (answers c h e) else [])

-- an accepted event changes each value as stated, by the values before it
abbrev pub AcceptedGrows : Type 0
AcceptedGrows = (c : Config) (h : History) (e : Event) → Grows c h (after_accepted h e) e
