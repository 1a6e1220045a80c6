-- What follows from the calls of a hub, over any number of them: from the bytes that come in to those that go out.
use Rattle.std.specs.Prelude.{◌≡◌, ◌==◌, ◌≤◌, ⊤, Bool, true, false, ℕ, List, [], ◌∷◌, ◌++◌, slice_get, Some, None, if◌then◌else◌}
use Rattle.ipc_terms.specs.declared.ids.Sid.{Sid}
use Rattle.ipc_terms.specs.declared.call.Answer.TheVariants.{Refused}
use Rattle.ipc_terms.specs.declared.record.Event.{Event}
use Rattle.ipc_terms.specs.declared.record.Event.TheVariants as event
use Rattle.ipc_terms.specs.declared.rule.Rule.TheVariants.{BadKey}
use Rattle.ipc_policy.specs.declared.config.Config.{Config}
use Rattle.ipc_policy.specs.Decides.History.{History}
use Rattle.ipc_policy.specs.Decides.Verdict.{outbox}
use Rattle.ipc_state.specs.Ranges.{first_bad}
use Rattle.ipc_core.specs.CoreView.{CoreView}
use Rattle.ipc_wire.specs.declared.request.Request.{Request}
use Rattle.ipc_wire.specs.declared.request.Request.TheVariants as request
use Rattle.ipc_wire.specs.Streams.{Cut, cut, after, still_first}
use Rattle.ipc_hub.specs.declared.fed.Fed.{Fed}
use Rattle.ipc_hub.specs.Hub.{Connection, Hub, new_hub, with_connection, untaken, spell_answers, from_kept, IsGone, Feeds, HangsUp, Takes, Names, Ticks, Forgets}

-- where these requests of a stream were stepped and these bytes of it are kept, the stream goes on as if it had come in
-- one piece
abbrev pub CutAnyWay : Type 0
CutAnyWay =
    (first : Bool) (stream kept more : List ℕ) (stepped : List Request) →
    cut first stream ≡ after stepped (cut (still_first first stepped) kept) →
    cut first (stream ++ more) ≡ after stepped (cut (still_first first stepped) (kept ++ more))

-- what a hub did: it opened a connection, took a piece of connection i's stream, hung it up, gave these bytes of it, named
-- it as one that was answered, made a tick, or forgot its oldest record. A call that ended by a fault changed nothing
pub data Call : Type 0 where
  Opened : Call
  TookPiece : ℕ → List ℕ → Fed → Call
  HungUp : ℕ → Call
  Gave : ℕ → List ℕ → Call
  Named : ℕ → Call
  Ticked : ℕ → Call
  Forgot : Call

abbrev pub Makes : Call → Hub → Hub → Type 0
Makes Opened old new = new ≡ with_connection old
Makes (TookPiece i piece fed) old new = Feeds old i piece fed new
Makes (HungUp i) old new = HangsUp old i new
Makes (Gave i bytes) old new = Takes old i bytes new
Makes (Named i) old new = Names old i new
Makes (Ticked moment) old new = Ticks old moment new
Makes Forgot old new = Forgets old new

-- one after another
abbrev pub MakesAll : List Call → Hub → Hub → Type 0
MakesAll [] old new = new ≡ old
MakesAll (call ∷ calls) old new = (middle : Hub) × (Makes call old middle × MakesAll calls middle new)

-- who is gone stays gone: a session that has ended is answered nothing more
abbrev pub WhoIsGoneStaysGone : Type 0
WhoIsGoneStaysGone = (calls : List Call) (old new : Hub) (i : ℕ) → MakesAll calls old new → IsGone old i → IsGone new i

-- all that came of connection i's stream
abbrev pub stream_of : ℕ → List Call → List ℕ
stream_of i [] = []
stream_of i (TookPiece j piece fed ∷ calls) = if j == i then piece ++ stream_of i calls else stream_of i calls
stream_of i (call ∷ calls) = stream_of i calls

-- all that it gave
abbrev pub output_of : ℕ → List Call → List ℕ
output_of i [] = []
output_of i (Gave j bytes ∷ calls) = if j == i then bytes ++ output_of i calls else output_of i calls
output_of i (call ∷ calls) = output_of i calls

-- what was given and what is left are together the spellings of all that the session was answered while it was live
pub record GivesOutbox (hub : Hub) (x : Connection) (sid : Sid) (given : List ℕ) : Type 0 where
  pub left : List ℕ
  pub left_is : spell_answers (untaken hub.core x) ≡ Some left
  pub whole : spell_answers (outbox hub.core.config hub.core.history sid.0) ≡ Some (given ++ left)

abbrev pub EachOutputIsTheOutbox : Type 0
EachOutputIsTheOutbox =
    (c : Config) (calls : List Call) (hub : Hub) (i : ℕ) (x : Connection) (sid : Sid) → first_bad c.limits ≡ None →
    MakesAll calls (new_hub c) hub → slice_get hub.connections i ≡ Some x → x.session ≡ Some sid →
    GivesOutbox hub x sid (output_of i calls)

-- a connection that has no session gave nothing, or the frame of the refusal of its hello, once
abbrev pub GivesOneRefusal : List ℕ → Type 0
GivesOneRefusal given = (left : List ℕ) × (spell_answers (Refused BadKey ∷ []) ≡ Some (given ++ left))

abbrev pub EachStrangerIsRefused : Type 0
EachStrangerIsRefused =
    (c : Config) (calls : List Call) (hub : Hub) (i : ℕ) (x : Connection) → first_bad c.limits ≡ None →
    MakesAll calls (new_hub c) hub → slice_get hub.connections i ≡ Some x → x.session ≡ None →
    GivesOneRefusal (output_of i calls)

-- the requests of a session's calls in a history, the oldest first
abbrev pub call_in : ℕ → Event → List Request
call_in s (event.Do sid call) = if sid.0 == s then request.Do call ∷ [] else []
call_in s e = []

abbrev pub calls_of : ℕ → History → List Request
calls_of s [] = []
calls_of s (r ∷ before) = calls_of s before ++ call_in s r.event

-- a request where the records before this place were forgotten
abbrev pub as_stepped : ℕ → Request → Request
as_stepped first (request.Hello key) = request.Hello key
as_stepped first (request.Do call) = request.Do (from_kept first call)

-- the requests that were asked for and those that were stepped: each is the one that was asked for, but that an audit may
-- begin later, at the oldest record that was kept then
abbrev pub AreStepped : ℕ → List Request → List Request → Type 0
AreStepped first [] [] = ⊤
AreStepped first (asked ∷ more) (stepped ∷ later) = ((kept : ℕ) × ((kept ≤ first) × (stepped ≡ as_stepped kept asked))) × AreStepped first more later
AreStepped first asked stepped = ⊥

-- where nothing was forgotten, they are the same
abbrev pub NothingIsRaised : Type 0
NothingIsRaised = (asked stepped : List Request) → AreStepped 0 asked stepped → asked ≡ stepped

-- the stream is a hello, then the calls of the session as they stand in the trail, but for the beginnings of audits, and then
-- what was not stepped; which is what is kept, as long as the connection is not over
pub record IsStepped (a : CoreView) (x : Connection) (sid : Sid) (stream : List ℕ) : Type 0 where
  pub key : List ℕ
  pub asked : List Request
  pub stepped : AreStepped a.first asked (calls_of sid.0 a.history)
  pub others : Cut
  pub whole : cut true stream ≡ after (request.Hello key ∷ asked) others
  pub kept : x.is_over ≡ false → others ≡ cut false x.kept

abbrev pub EachStreamIsStepped : Type 0
EachStreamIsStepped =
    (c : Config) (calls : List Call) (hub : Hub) (i : ℕ) (x : Connection) (sid : Sid) → first_bad c.limits ≡ None →
    MakesAll calls (new_hub c) hub → slice_get hub.connections i ≡ Some x → x.session ≡ Some sid →
    IsStepped hub.core x sid (stream_of i calls)
