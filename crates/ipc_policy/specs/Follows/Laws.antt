-- Laws that hold of every history, or of every legal one where they say so.
use Rattle.std.specs.Prelude.{◌≡◌, ℕ, ◌≤◌, ◌==◌, true, false, length, IsTrue, List, [], ◌∷◌, ◌++◌, find, Option, Some, None, is_some, MatchOption, if◌then◌else◌}
use Rattle.std.specs.List.{IsDistinct}
use Rattle.std.specs.Option.{option_map}
use Rattle.ipc_terms.specs.Names.{same_name}
use Rattle.ipc_terms.specs.Rules.{number_of}
use Rattle.ipc_terms.specs.declared.object.TheConstants.{SEM_VALUE_MAX}
use Rattle.ipc_terms.specs.declared.rule.Rule.{Rule}
use Rattle.ipc_terms.specs.declared.ids.Sid.{Sid}
use Rattle.ipc_terms.specs.declared.ids.Uid.{Uid}
use Rattle.ipc_terms.specs.declared.ids.Family.{Family}
use Rattle.ipc_terms.specs.declared.record.Event.{Event}
use Rattle.ipc_terms.specs.declared.record.Event.TheVariants.{Do}
use Rattle.ipc_terms.specs.declared.call.Call.{Call}
use Rattle.ipc_terms.specs.declared.call.Answer.TheVariants.{Refused}
use Rattle.ipc_policy.specs.declared.config.Config.{Config}
use Rattle.ipc_policy.specs.declared.config.Held.{Held}
use Rattle.ipc_policy.specs.Decides.History.{History, after_refused, newest, is_some_and}
use Rattle.ipc_policy.specs.Decides.Sessions.{hellos, user, live, cred, mask}
use Rattle.ipc_policy.specs.Decides.Names.{asks_name, is_bound, creations, bound}
use Rattle.ipc_policy.specs.Decides.Objects.{object, owner, group, mode, facts, directory}
use Rattle.ipc_policy.specs.Decides.Descriptions.{opens, held, holds, held_count, is_nonblock}
use Rattle.ipc_policy.specs.Decides.Life.{named, bindings, names, alive}
use Rattle.ipc_policy.specs.Decides.Timed.{now, deadline_at}
use Rattle.ipc_policy.specs.Decides.Queues.{Queue, has_none, maxmsg}
use Rattle.ipc_policy.specs.Decides.Registrations.{registered}
use Rattle.ipc_policy.specs.Decides.Semaphores.{Semaphore, given_value}
use Rattle.ipc_policy.specs.Decides.Bodies.{due, queue, senders, receivers, semaphore, posts, passes, value, waiters}
use Rattle.ipc_policy.specs.Decides.Parking.{ParkedKind, Sending, Receiving, Waiting, Parked, parked}
use Rattle.ipc_policy.specs.Decides.Charges.{charge_of, charged, queues_alive, sets_limit, limit}
use Rattle.ipc_terms.specs.Lists.{Each}
use Rattle.ipc_policy.specs.Decides.Rules.{forbids}
use Rattle.ipc_policy.specs.Decides.Verdict.{verdict, caller, Legal, for_session, outbox}

-- the rule forbids the event, and no rule of a lower number does
pub record IsLeastForbidding (c : Config) (h : History) (e : Event) (least : Rule) : Type 0 where
  pub forbidden : IsTrue (forbids least c h e)
  pub lowest : (rule : Rule) → IsTrue (forbids rule c h e) → number_of least ≤ number_of rule

-- the verdict is the least of the rules that forbid; where it is none, no rule forbids
abbrev pub VerdictIsLeast : Type 0
VerdictIsLeast =
    (c : Config) (h : History) (e : Event) →
    MatchOption (verdict c h e) ((rule : Rule) → forbids rule c h e ≡ false) (IsLeastForbidding c h e)

-- both histories give every value and every verdict alike
pub record SameValues (c : Config) (h k : History) : Type 0 where
  pub hellos : hellos h ≡ hellos k
  pub user : (s : ℕ) → user h s ≡ user k s
  pub live : (s : ℕ) → live h s ≡ live k s
  pub cred : (s : ℕ) → cred c h s ≡ cred c k s
  pub mask : (s : ℕ) → mask h s ≡ mask k s
  pub is_bound : (f : Family) (name : List ℕ) → is_bound h f name ≡ is_bound k f name
  pub bound : (f : Family) (name : List ℕ) → bound h f name ≡ bound k f name
  pub creations : creations h ≡ creations k
  pub object : (o : ℕ) → object c h o ≡ object c k o
  pub owner : (o : ℕ) → owner c h o ≡ owner c k o
  pub group : (o : ℕ) → group c h o ≡ group c k o
  pub mode : (o : ℕ) → mode c h o ≡ mode c k o
  pub facts : (o : ℕ) → facts c h o ≡ facts c k o
  pub directory : (f : Family) → directory h f ≡ directory k f
  pub opens : opens h ≡ opens k
  pub held : (d : ℕ) → held h d ≡ held k d
  pub holds : (s d : ℕ) → holds h s d ≡ holds k s d
  pub held_count : (s : ℕ) → held_count h s ≡ held_count k s
  pub is_nonblock : (d : ℕ) → is_nonblock h d ≡ is_nonblock k d
  pub named : (o : ℕ) → named h o ≡ named k o
  pub bindings : (f : Family) → bindings h f ≡ bindings k f
  pub names : (f : Family) → names h f ≡ names k f
  pub alive : (o : ℕ) → alive h o ≡ alive k o
  pub limit : (u : Uid) → limit c h u ≡ limit c k u
  pub charge_of : (u : Uid) (o : ℕ) → charge_of c h u o ≡ charge_of c k u o
  pub charged : (u : Uid) → charged c h u ≡ charged c k u
  pub queues_alive : queues_alive c h ≡ queues_alive c k
  pub queue : (o : ℕ) → queue c h o ≡ queue c k o
  pub registered : (o : ℕ) → registered c h o ≡ registered c k o
  pub semaphore : (o : ℕ) → semaphore c h o ≡ semaphore c k o
  pub given_value : (o : ℕ) → given_value h o ≡ given_value k o
  pub posts : (o : ℕ) → posts c h o ≡ posts c k o
  pub passes : (o : ℕ) → passes c h o ≡ passes c k o
  pub value : (o : ℕ) → value c h o ≡ value c k o
  pub parked : (s : ℕ) → parked c h s ≡ parked c k s
  pub time : now h ≡ now k
  pub deadline_at : (i : ℕ) → deadline_at h i ≡ deadline_at k i
  pub due : (moment : ℕ) → due c h moment ≡ due c k moment
  pub verdict : (e : Event) → verdict c h e ≡ verdict c k e

-- a refused event changes no value, and no verdict to come
abbrev pub RefusedIsQuiet : Type 0
RefusedIsQuiet =
    (c : Config) (h : History) (e : Event) (rule : Rule) →
    SameValues c (after_refused h e rule) h

-- a refused event adds its refusal to the answers of the session that it names, where that is live, and no other answer
abbrev pub RefusedIsAnswered : Type 0
RefusedIsAnswered =
    (c : Config) (h : History) (e : Event) (rule : Rule) (s : ℕ) → verdict c h e ≡ Some rule →
    outbox c (after_refused h e rule) s
    ≡ outbox c h s ++ (if live h s then for_session s ((caller e, Refused rule) ∷ []) else [])

-- in a legal history the caller of each accepted call has credentials
abbrev pub EachCallerIsKnown : Type 0
EachCallerIsKnown =
    (c : Config) (h : History) (sid : Sid) (call : Call) → Legal c h → verdict c h (Do sid call) ≡ None →
    is_some (cred c h sid.0) ≡ true

-- the names in the list are those that are bound, each to its object
abbrev pub ListedIsBound : Type 0
ListedIsBound =
    (h : History) (f : Family) (name : List ℕ) →
    option_map (λ b. b.object) (find (λ b. same_name b.name name) (bindings h f)) ≡ bound h f name

-- a name is bound exactly where it is bound to an object
abbrev pub BoundIsToObject : Type 0
BoundIsToObject = (h : History) (f : Family) (name : List ℕ) → is_bound h f name ≡ is_some (bound h f name)

-- an object has a name exactly where the name is bound to it
abbrev pub NamedIsBound : Type 0
NamedIsBound =
    (h : History) (o : ℕ) (f : Family) (name : List ℕ) →
    is_some_and (λ asked. asks_name asked f name) (named h o) ≡ is_some_and (λ n. n == o) (bound h f name)

-- the names of a family that are listed are all different
abbrev pub NamesDiffer : Type 0
NamesDiffer = (h : History) (f : Family) → IsDistinct same_name (names h f)

-- in a legal history what a name is bound to is an object, and it has an owner, a group and a mode
abbrev pub BoundIsMade : Type 0
BoundIsMade =
    (c : Config) (h : History) (f : Family) (name : List ℕ) (o : ℕ) → Legal c h → bound h f name ≡ Some o →
    IsTrue (is_some (object c h o)) × IsTrue (is_some (facts c h o))

-- the place of the call of session s in the list of its kind
abbrev pub place_listed : ParkedKind → ℕ → Queue → Semaphore → Option ℕ
place_listed Sending s q u = option_map (λ m. m.place) (find (λ m. m.session == s) q.senders)
place_listed Receiving s q u = option_map (λ w. w.place) (find (λ w. w.session == s) q.receivers)
place_listed Waiting s q u = option_map (λ w. w.place) (find (λ w. w.session == s) u.waiters)

-- each call that an object lists is the one in which its session is parked, and the call in which a session is parked
-- is listed by its object: so a session stands in at most one list, and there once, as the places in a list differ
pub record IsListed (c : Config) (h : History) : Type 0 where
  pub each_send : (o : ℕ) → Each (λ m. parked c h m.session ≡ Some (record { object = o; place = m.place; kind = Sending })) (senders c h o)
  pub each_receive : (o : ℕ) → Each (λ w. parked c h w.session ≡ Some (record { object = o; place = w.place; kind = Receiving })) (receivers c h o)
  pub each_wait : (o : ℕ) → Each (λ w. parked c h w.session ≡ Some (record { object = o; place = w.place; kind = Waiting })) (waiters c h o)
  pub each_parked : (s : ℕ) (p : Parked) → parked c h s ≡ Some p → place_listed p.kind s (queue c h p.object) (semaphore c h p.object) ≡ Some p.place

-- in a legal history a session is parked on an object exactly if the object lists its call
abbrev pub ParkedIsListed : Type 0
ParkedIsListed = (c : Config) (h : History) → Legal c h → IsListed c h

-- a queue that may have so many messages has no more, a receive is parked on it only while it has none, and a send only while it is full
pub record IsBounded (maxmsg : ℕ) (q : Queue) : Type 0 where
  pub within : length q.contents ≤ maxmsg
  pub receivers_wait : has_none q.receivers ≡ false → q.contents ≡ []
  pub senders_wait : has_none q.senders ≡ false → length q.contents ≡ maxmsg

-- in a legal history each queue is so, where the limits let a queue have a message at all
abbrev pub EachIsBounded : Type 0
EachIsBounded = (c : Config) (h : History) (o : ℕ) → 1 ≤ c.limits.msg_max → Legal c h → IsBounded (maxmsg c h o) (queue c h o)

-- a semaphore's running value is at most 2,147,483,647, and a wait is parked on it only while it is 0
pub record IsInRange (q : Semaphore) : Type 0 where
  pub within : q.running ≤ SEM_VALUE_MAX
  pub waiters_wait : has_none q.waiters ≡ false → q.running ≡ 0

-- in a legal history each semaphore is so
abbrev pub EachIsInRange : Type 0
EachIsInRange = (c : Config) (h : History) (o : ℕ) → Legal c h → IsInRange (semaphore c h o)

-- in a legal history a session is parked in a wait only while the semaphore is at 0
abbrev pub WaitsAtZero : Type 0
WaitsAtZero = (c : Config) (h : History) → Legal c h → (s : ℕ) (p : Parked) → parked c h s ≡ Some p → p.kind ≡ Waiting → value c h p.object ≡ 0

-- in a legal history the value, which is counted, is what the acts make of it, one by one
abbrev pub EachValueIsCounted : Type 0
EachValueIsCounted = (c : Config) (h : History) (o : ℕ) → Legal c h → value c h o ≡ (semaphore c h o).running

-- a description that session s holds gives object o
pub record HoldsFor (h : History) (s o : ℕ) : Type 0 where
  pub desc : ℕ
  pub x : Held
  pub held : holds h s desc ≡ Some x
  pub object : x.object ≡ o

-- the session of a parked call is live, and holds a description of the object, which was made
pub record IsParked (c : Config) (h : History) (s : ℕ) (p : Parked) : Type 0 where
  pub lives : live h s ≡ true
  pub holding : HoldsFor h s p.object
  pub made : is_some (object c h p.object) ≡ true

-- in a legal history each parked call is so
abbrev pub ParkedIsAlive : Type 0
ParkedIsAlive = (c : Config) (h : History) → Legal c h → (s : ℕ) (p : Parked) → parked c h s ≡ Some p → IsParked c h s p

-- in a legal history in which no limit was set for user u, the queues of u take no more bytes than u's limit
abbrev pub WithinLimit : Type 0
WithinLimit =
    (c : Config) (h : History) (u : Uid) (most : ℕ) → Legal c h → newest (sets_limit u) h ≡ None →
    limit c h u ≡ Some most → charged c h u ≤ most
