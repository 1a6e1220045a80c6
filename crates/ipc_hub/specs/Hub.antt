-- A hub: many connections over one core. What is seen of it, and what each of its calls makes of it, in the words of
-- frames (`cut`, `spell_answer`) and of the core (`after_steps`).
use Rattle.std.specs.Prelude.{◌≡◌, ◌<◌, ◌≤◌, Bool, true, false, ℕ, List, [], ◌∷◌, ◌++◌, map, take, slice_get, slice_set, Option, Some, None, is_none, is_some, unwrap_or, max, nat_lt, if◌then◌else◌, MatchOption, option_and_then}
use Rattle.std.specs.Option.{option_map}
use Rattle.ipc_terms.specs.Lists.{changed}
use Rattle.ipc_terms.specs.History.{record_at}
use Rattle.ipc_terms.specs.declared.ids.Sid.{Sid}
use Rattle.ipc_terms.specs.declared.ids.Uid.{Uid}
use Rattle.ipc_terms.specs.declared.call.Answer.{Answer}
use Rattle.ipc_terms.specs.declared.call.Answer.TheVariants.{Refused}
use Rattle.ipc_terms.specs.declared.call.Call.{Call}
use Rattle.ipc_terms.specs.declared.call.Call.TheVariants.{Audit}
use Rattle.ipc_terms.specs.declared.record.Event.{Event}
use Rattle.ipc_terms.specs.declared.record.Event.TheVariants as event
use Rattle.ipc_terms.specs.declared.record.Record.{Record}
use Rattle.ipc_terms.specs.declared.rule.Rule.TheVariants as rule
use Rattle.ipc_access.specs.Users.{user_of_key}
use Rattle.ipc_policy.specs.declared.config.Config.{Config}
use Rattle.ipc_policy.specs.Decides.Sessions.{hellos, live}
use Rattle.ipc_policy.specs.Decides.Bodies.{due}
use Rattle.ipc_policy.specs.Decides.Verdict.{verdict, for_session, tick_answers}
use Rattle.ipc_core.specs.Boxes.{box_at, taken}
use Rattle.ipc_core.specs.Outboxes.{after_step, after_steps}
use Rattle.ipc_core.specs.CoreView.{CoreView}
use Rattle.ipc_fields.specs.Field.{◌⊕◌}
use Rattle.ipc_fields.specs.declared.fault.WireFault.{WireFault}
use Rattle.ipc_wire.specs.declared.request.Request.{Request}
use Rattle.ipc_wire.specs.declared.request.Request.TheVariants as request
use Rattle.ipc_wire.specs.Streams.{Cut, cut, after, spell_answer}
use Rattle.ipc_hub.specs.Marking.{is_set}
use Rattle.ipc_hub.specs.declared.fed.Fed.{Fed}
use Rattle.ipc_hub.specs.declared.fed.Fed.TheVariants.{Done, Short, Full, Over}
use Rattle.ipc_hub.specs.declared.fed.End.TheVariants.{Wire, BadKey}
use Rattle.ipc_hub.specs.declared.fed.HubFault.{HubFault}
use Rattle.ipc_hub.specs.declared.fed.HubFault.TheVariants.{NoSuchConn, Ended, NoMemory}

-- ---- what is seen of a hub

-- kept: its stream from the first frame on that was not stepped yet. session: the one that its hello started.
-- has_refusal: whether its hello was refused, and the refusal was not taken yet. is_over: whether it was hung up, a
-- fault came, or its hello was refused.
pub record Connection : Type 0 where
  pub kept : List ℕ
  pub session : Option Sid
  pub has_refusal : Bool
  pub is_over : Bool

-- the connections stand by their numbers. marked: whether each was answered since it was last named
pub record Hub : Type 0 where
  pub core : CoreView
  pub connections : List Connection
  pub marked : List Bool

-- a connection of which nothing has come
abbrev pub new_connection : Connection
new_connection = record { kept = []; session = None; has_refusal = false; is_over = false }

-- a hub with nothing in its trail and no connection
abbrev pub new_hub : Config → Hub
new_hub c = record { core = record { config = c; history = []; untaken = []; first = 0 }; connections = []; marked = [] }

-- one more connection, without a mark
abbrev pub with_connection : Hub → Hub
with_connection hub = record hub { connections = hub.connections ++ new_connection ∷ []; marked = hub.marked ++ false ∷ [] }

-- ---- its answers

-- what a session was answered and has not taken; nothing, where there is none
abbrev pub untaken_of : CoreView → Option Sid → List Answer
untaken_of a None = []
untaken_of a (Some sid) = box_at a.untaken sid.0

-- what a connection was answered and has not taken: its refusal alone, or what its session was answered
abbrev pub untaken : CoreView → Connection → List Answer
untaken a x = if x.has_refusal then Refused rule.BadKey ∷ [] else untaken_of a x.session

-- what connection i was answered and has not taken; nothing, where there is none
abbrev pub untaken_at : Hub → ℕ → List Answer
untaken_at hub i = unwrap_or (option_map (untaken hub.core) (slice_get hub.connections i)) []

-- ---- who is gone

-- whether connection i is over; no, where there is none
abbrev pub is_over_at : Hub → ℕ → Bool
is_over_at hub i = unwrap_or (option_map (λ (x : Connection). x.is_over) (slice_get hub.connections i)) false

-- the session was started, and is live no more
pub record HasEnded (a : CoreView) (sid : Sid) : Type 0 where
  pub started : sid.0 < hellos a.history
  pub ended : live a.history sid.0 ≡ false

-- connection i is over, nothing of it is left to be taken, and its session has ended, if there was one
pub record IsGone (hub : Hub) (i : ℕ) : Type 0 where
  pub connection : Connection
  pub there : slice_get hub.connections i ≡ Some connection
  pub over : connection.is_over ≡ true
  pub nothing : untaken hub.core connection ≡ []
  pub session : (sid : Sid) → connection.session ≡ Some sid → HasEnded hub.core sid

-- ---- who was answered

-- whether connection i was answered since it was last named
abbrev pub is_marked : Hub → ℕ → Bool
is_marked hub i = is_set hub.marked i

-- no mark goes, and who has no mark has the untaken answers that it had
pub record Marks (old new : Hub) : Type 0 where
  pub kept : (i : ℕ) → is_marked old i ≡ true → is_marked new i ≡ true
  pub silent : (i : ℕ) → is_marked new i ≡ false → untaken_at new i ≡ untaken_at old i

-- ---- spellings

-- the spellings of answers, one after another; none, where an answer has none
abbrev pub spell_answers : List Answer → Option (List ℕ)
spell_answers [] = Some []
spell_answers (answer ∷ answers) = spell_answer answer ⊕ spell_answers answers

-- ---- its requests

-- the session whose requests a connection's are: its own, or, before its hello, the next to start
abbrev pub session_or_next : CoreView → Option Sid → Sid
session_or_next a session = unwrap_or session (record { 0 = hellos a.history })

-- a call where the records before this place were forgotten: an audit begins there, or later
abbrev pub from_kept : ℕ → Call → Call
from_kept first (Audit start count) = Audit (max start first) count
from_kept first call = call

-- a request of a session as an event: a hello finds the user whose key it brings, and an audit begins at the oldest record
-- that is kept, or later
abbrev pub event_of : CoreView → Sid → Request → Event
event_of a sid (request.Hello key) = event.Hello (user_of_key a.config.users key)
event_of a sid (request.Do call) = event.Do sid (from_kept a.first call)

abbrev pub events_of : CoreView → Option Sid → List Request → List Event
events_of a session requests = map (event_of a (session_or_next a session)) requests

-- the hang-up of a session, where there is one
abbrev pub hang_up_of : Option Sid → List Event
hang_up_of None = []
hang_up_of (Some sid) = event.Hangup sid ∷ []

-- whether the first of these requests is a hello that is refused
abbrev pub is_hello_refused : CoreView → Option Sid → List Request → Bool
is_hello_refused a (Some sid) requests = false
is_hello_refused a None [] = false
is_hello_refused a None (hello ∷ requests) = is_some (verdict a.config a.history (event_of a (session_or_next a None) hello))

-- the session of a connection whose requests these were
abbrev pub session_after : CoreView → Option Sid → List Request → Option Sid
session_after a session [] = session
session_after a session (first ∷ requests) = Some (session_or_next a session)

-- the requests are stepped in order, and no hello among them is refused
pub record Steps (a : CoreView) (session : Option Sid) (requests : List Request) (b : CoreView) (session' : Option Sid) : Type 0 where
  pub accepted : is_hello_refused a session requests ≡ false
  pub core : b ≡ after_steps (events_of a session requests) a
  pub session_is : session' ≡ session_after a session requests

-- ---- what a feed answers: from core a and connection x, whose stream is cut so, to core b and connection y

-- all requests of the whole frames are stepped, and the rest is kept; no fault stands in front of it
pub record StepsAll (a : CoreView) (x : Connection) (c : Cut) (b : CoreView) (y : Connection) : Type 0 where
  pub steps : Steps a x.session c.requests b y.session
  pub no_fault : c.fault ≡ None
  pub connection : y ≡ record x { kept = c.rest; session = y.session }

-- the first of them are stepped, and what is kept is cut into the others
pub record StepsSome (a : CoreView) (x : Connection) (c : Cut) (b : CoreView) (y : Connection) : Type 0 where
  pub done : List Request
  pub steps : Steps a x.session done b y.session
  pub others : c ≡ after done (cut (is_none y.session) y.kept)
  pub connection : y ≡ record x { kept = y.kept; session = y.session }

-- all before the fault are stepped, and then the session is hung up, if there is one
pub record EndsAtFault (fault : WireFault) (a : CoreView) (x : Connection) (c : Cut) (b : CoreView) (y : Connection) : Type 0 where
  pub middle : CoreView
  pub steps : Steps a x.session c.requests middle y.session
  pub hung_up : b ≡ after_steps (hang_up_of y.session) middle
  pub fault_is : c.fault ≡ Some fault
  pub connection : y ≡ record x { kept = []; session = y.session; is_over = true }

-- the hello is stepped and refused, and nothing behind it is stepped
pub record EndsAtHello (a : CoreView) (x : Connection) (c : Cut) (b : CoreView) (y : Connection) : Type 0 where
  pub refused : is_hello_refused a x.session c.requests ≡ true
  pub core : b ≡ after_steps (take 1 (events_of a x.session c.requests)) a
  pub connection : y ≡ record x { kept = []; has_refusal = true; is_over = true }

abbrev pub IsOutcome : Fed → CoreView → Connection → Cut → CoreView → Connection → Type 0
IsOutcome Done a x c b y = StepsAll a x c b y
IsOutcome Short a x c b y = StepsSome a x c b y
IsOutcome Full a x c b y = StepsSome a x c b y
IsOutcome (Over (Wire fault)) a x c b y = EndsAtFault fault a x c b y
IsOutcome (Over BadKey) a x c b y = EndsAtHello a x c b y

-- ---- who came

-- the user whose key a hello brings, if it is a hello and one was found
abbrev pub user_of_hello : Event → Option Uid
user_of_hello (event.Hello found) = found
user_of_hello e = None

-- the user whose session a record starts: that of an accepted hello
abbrev pub user_started : Record → Option Uid
user_started r = if is_none r.rule then user_of_hello r.event else None

-- the user whose session the record at this place started, if it did and the record is kept
abbrev pub started_at : Hub → ℕ → Option Uid
started_at hub place = if nat_lt place hub.core.first then None else option_and_then user_started (record_at place hub.core.history)

-- ---- the calls

-- connection i was x and is y, and no other changes
pub record ChangesOnly (old new : Hub) (i : ℕ) (x y : Connection) : Type 0 where
  pub was : slice_get old.connections i ≡ Some x
  pub others : new.connections ≡ slice_set old.connections i y

-- connection i, which was not over, was fed the piece: what it kept and the piece are cut and stepped
pub record Feeds (old : Hub) (i : ℕ) (piece : List ℕ) (fed : Fed) (new : Hub) : Type 0 where
  pub before : Connection
  pub later : Connection
  pub changes : ChangesOnly old new i before later
  pub open_before : before.is_over ≡ false
  pub outcome : IsOutcome fed old.core before (cut (is_none before.session) (before.kept ++ piece)) new.core later
  pub marks : Marks old new

-- connection i, which was not over, is; its session is hung up, if there is one, and what was not stepped is dropped
pub record HangsUp (old : Hub) (i : ℕ) (new : Hub) : Type 0 where
  pub before : Connection
  pub changes : ChangesOnly old new i before (record before { kept = []; is_over = true })
  pub open_before : before.is_over ≡ false
  pub core : new.core ≡ after_steps (hang_up_of before.session) old.core
  pub marks : Marks old new

-- the core once all that a session had not taken is taken
abbrev pub core_after_take : CoreView → Option Sid → CoreView
core_after_take a None = a
core_after_take a (Some sid) = record a { untaken = changed taken a.untaken sid.0 }

-- connection i gave the spellings of all that it had not taken
pub record Takes (old : Hub) (i : ℕ) (bytes : List ℕ) (new : Hub) : Type 0 where
  pub before : Connection
  pub changes : ChangesOnly old new i before (record before { has_refusal = false })
  pub given : spell_answers (untaken old.core before) ≡ Some bytes
  pub core : new.core ≡ core_after_take old.core before.session
  pub marked : new.marked ≡ old.marked

-- connection i was marked and is no longer, and nothing else changes
pub record Names (old : Hub) (i : ℕ) (new : Hub) : Type 0 where
  pub was : is_marked old i ≡ true
  pub now : new ≡ record old { marked = slice_set old.marked i false }

-- whether a tick of this moment would end a call
abbrev pub would_end : Hub → ℕ → Bool
would_end hub moment = is_some (due hub.core.config hub.core.history moment)

-- what a tick of this moment answers session s: that its deadline is past, if its call is the one that is due
abbrev pub ticked : CoreView → ℕ → ℕ → List Answer
ticked a moment s = for_session s (tick_answers (due a.config a.history moment))

-- one tick: the trail grows by it alone, each session's untaken answers by what it answers that session, and no connection changes
pub record Ticks (old : Hub) (moment : ℕ) (new : Hub) : Type 0 where
  pub core : new.core ≡ after_step (event.Tick moment) old.core
  pub trail : new.core.history ≡ record { event = event.Tick moment; rule = None } ∷ old.core.history
  pub answered : (s : ℕ) → box_at new.core.untaken s ≡ box_at old.core.untaken s ++ ticked old.core moment s
  pub connections : new.connections ≡ old.connections
  pub marks : Marks old new

-- the oldest of the records that are kept are forgotten; the history and all else stay
pub record Forgets (old new : Hub) : Type 0 where
  pub now : new ≡ record old { core = record old.core { first = new.core.first } }
  pub later : old.core.first ≤ new.core.first
  pub marks : Marks old new

-- ---- their faults

-- the fault of a feed or a hang-up of this connection, apart from out of memory
abbrev pub fault_of_change : Option Connection → Option HubFault
fault_of_change None = Some NoSuchConn
fault_of_change (Some x) = if x.is_over then Some Ended else None

-- the fault of a take
abbrev pub fault_of_take : Option Connection → Option HubFault
fault_of_take None = Some NoSuchConn
fault_of_take (Some x) = None

-- the fault of a question for the session of this connection: it is known no more of one that is over, and keeps nothing
abbrev pub IsSessionFault : Option Connection → HubFault → Type 0
IsSessionFault None fault = fault ≡ NoSuchConn
IsSessionFault (Some x) fault = (fault ≡ Ended) × (x.is_over ≡ true) × (x.kept ≡ [])

-- the one that there is, or out of memory where there is none
abbrev pub IsFaultOr : Option HubFault → HubFault → Type 0
IsFaultOr found fault = MatchOption found (fault ≡ NoMemory) (λ first. fault ≡ first)
