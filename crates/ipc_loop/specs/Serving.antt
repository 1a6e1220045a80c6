-- What serving makes of a hub, of links and of their ports.
use Rattle.std.specs.Prelude.{◌≡◌, ◌≢◌, ◌⊎◌, ◌==◌, ◌&&◌, ◌+◌, ◌-◌, ◌≤◌, ⊤, length, take, if◌then◌else◌, Bool, true, false, ℕ, zero, suc, List, [], ◌∷◌, ◌++◌, slice_get, unwrap_or, is_some, Option, Some, None, Result, Ok}
use Rattle.ipc_terms.specs.declared.call.Answer.{Answer}
use Rattle.std.specs.Option.{option_map}
use Rattle.ipc_hub.specs.Hub.{Connection, Hub, Takes, IsGone, is_marked, is_over_at, untaken_at}
use Rattle.ipc_hub.specs.Laws.{Call, TookPiece, MakesAll, stream_of, output_of}
use Rattle.ipc_hub.specs.declared.fed.Fed.{Fed}
use Rattle.ipc_hub.specs.declared.fed.Fed.TheVariants.{Over}
use Rattle.ipc_hub.specs.declared.fed.End.TheVariants as end
use Rattle.ipc_hub.specs.declared.fed.HubFault.{HubFault}
use Rattle.ipc_loop.specs.declared.ending.Ending.{Ending}
use Rattle.ipc_loop.specs.declared.ending.Ending.TheVariants.{Closed, ReadFailed, WriteFailed, Wire, BadKey, NoMemory, TooMuchUnfinished}
use Rattle.ipc_loop.specs.Moves.{Moved, LinkGave, GoOn, Adds, read_of, written_of, comes_to_its_end, opened_in, closed_as, fails_to_give, fails_to_take, is_offered, left_by}
use Rattle.ipc_loop.specs.Asking.{OffersNothing}
use Rattle.ipc_loop.specs.Ports.{Port, port_at, with_port, left_of, unfed_of}

-- what comes passes on in order, behind what was left before, and the rest is left. None is left once no more passes: then
-- what did not pass is dropped
abbrev pub PassesOn : Option (List ℕ) → List ℕ → List ℕ → Option (List ℕ) → Type 0
PassesOn None came passed left' = (passed ≡ []) × (left' ≡ None)
PassesOn (Some left) came passed None = (dropped : List ℕ) × (left ++ came ≡ passed ++ dropped)
PassesOn (Some left) came passed (Some left') = left ++ came ≡ passed ++ left'

-- whether connection i ended where a piece of its stream was fed: by a fault, or since its hello was refused
abbrev pub ends_at_a_feed : ℕ → List Call → Bool
ends_at_a_feed i [] = false
ends_at_a_feed i (TookPiece j piece (Over end) ∷ calls) = if j == i then true else ends_at_a_feed i calls
ends_at_a_feed i (call ∷ calls) = ends_at_a_feed i calls

-- whether these calls and moves show why link i isn't read any more: its stream ended, a read of it or a write to it failed, or its
-- connection ended where a piece was fed. That memory ran out, or that a bound was met, shows nowhere else
abbrev pub is_shown : ℕ → List Call → List Moved → Ending → Bool
is_shown i calls moved Closed = comes_to_its_end i moved
is_shown i calls moved ReadFailed = fails_to_give i moved
is_shown i calls moved WriteFailed = fails_to_take i moved
is_shown i calls moved (Wire fault) = ends_at_a_feed i calls
is_shown i calls moved BadKey = ends_at_a_feed i calls
is_shown i calls moved NoMemory = true
is_shown i calls moved TooMuchUnfinished = true

-- whether bytes for a link may be dropped for this reason
abbrev pub may_drop : Ending → Bool
may_drop WriteFailed = true
may_drop NoMemory = true
may_drop ending = false

-- why a link isn't read any more, if it isn't; none, where it is closed
abbrev pub why_of : Option Port → Option (Option Ending)
why_of None = None
why_of (Some port) = Some port.ending

-- this reason is told of a link: by its port, or where the link was closed
abbrev pub IsTold : Ending → Option (Option Ending) → Option Ending → Type 0
IsTold ending why closed = ((why ≡ Some (Some ending)) × (closed ≡ None)) ⊎ ((why ≡ None) × (closed ≡ Some ending))

-- from one moment to another, between which these reasons show and the link was closed so, if it was: it is still read, or one of them
-- is told. A reason that was told before stays, unless bytes for the link are dropped since
abbrev pub HasWhy : (Ending → Bool) → Option (Option Ending) → Option Ending → Option (Option Ending) → Type 0
HasWhy shown None closed why' = (why' ≡ None) × (closed ≡ None)
HasWhy shown (Some None) closed why' = ((why' ≡ Some None) × (closed ≡ None)) ⊎ ((ending : Ending) × ((shown ending ≡ true) × IsTold ending why' closed))
HasWhy shown (Some (Some before)) closed why' = (ending : Ending) × (((ending ≡ before) ⊎ ((may_drop ending && shown ending) ≡ true)) × IsTold ending why' closed)

-- where bytes for a link are dropped, its port tells why
abbrev pub DropsForAReason : Option Port → Type 0
DropsForAReason None = ⊤
DropsForAReason (Some port) = port.left ≡ None → (ending : Ending) × ((port.ending ≡ Some ending) × (may_drop ending ≡ true))

-- link i, if it is closed, left nothing: its connection is over, nothing of it is untaken, and its session has ended
abbrev pub LeavesNothing : Hub → (ℕ → Option Port) → ℕ → Type 0
LeavesNothing hub ports i = ports i ≡ None → IsGone hub i

-- from one moment to another: these links were opened, what each gave passed on to the hub, and what the hub gave passed on
-- to the link. Nothing else happened to the hub or to links. A link that is not read any more gave nothing, and one of which a read failed, or
-- whose stream ended, is at fault or began with a hello that was refused is not read any more. One to which a write failed takes nothing any more. A link that isn't read any more, or is closed, is so for a reason
-- that shows. A link that is closed leaves nothing, and took all that came for it, unless it is told that bytes were dropped
pub record ServesOpening (opened : List ℕ) (hub : Hub) (moves : Option (List Moved)) (ports : ℕ → Option Port) (hub' : Hub) (moves' : Option (List Moved)) (ports' : ℕ → Option Port) : Type 0 where
  pub calls : List Call
  pub moved : List Moved
  pub made : MakesAll calls hub hub'
  pub went : GoOn moves moves' moved
  pub opens : opened_in moved ≡ opened
  pub read : (i : ℕ) → PassesOn (unfed_of (ports i)) (read_of i moved) (stream_of i calls) (unfed_of (ports' i))
  pub written : (i : ℕ) → PassesOn (left_of (ports i)) (output_of i calls) (written_of i moved) (left_of (ports' i))
  pub unread : (i : ℕ) → unfed_of (ports i) ≡ None → read_of i moved ≡ []
  pub ended : (i : ℕ) → comes_to_its_end i moved ≡ true → unfed_of (ports' i) ≡ None
  pub over : (i : ℕ) → ends_at_a_feed i calls ≡ true → unfed_of (ports' i) ≡ None
  pub fails : (i : ℕ) → fails_to_give i moved ≡ true → unfed_of (ports' i) ≡ None
  pub refuses : (i : ℕ) → fails_to_take i moved ≡ true → left_of (ports' i) ≡ None
  pub why : (i : ℕ) → HasWhy (is_shown i calls moved) (why_of (ports i)) (closed_as i moved) (why_of (ports' i))
  pub drops : (i : ℕ) → DropsForAReason (ports i) → DropsForAReason (ports' i)
  pub closes : (i : ℕ) (ending : Ending) (left : List ℕ) → closed_as i moved ≡ Some ending → left_of (ports i) ≡ Some left → (may_drop ending ≡ true) ⊎ (written_of i moved ≡ left ++ output_of i calls)
  pub closed : (i : ℕ) → LeavesNothing hub ports i → LeavesNothing hub' ports' i

-- the same, where no link is opened
abbrev pub Serves : Hub → Option (List Moved) → (ℕ → Option Port) → Hub → Option (List Moved) → (ℕ → Option Port) → Type 0
Serves hub moves ports hub' moves' ports' = ServesOpening [] hub moves ports hub' moves' ports'

-- the numbers from n on, so many
abbrev pub numbers_from : ℕ → ℕ → List ℕ
numbers_from n zero = []
numbers_from n (suc count) = n ∷ numbers_from (n + 1) count

-- the same, where the links that are opened have the next numbers, in order
abbrev pub ServesAndOpens : Hub → Option (List Moved) → List (Option Port) → Hub → Option (List Moved) → List (Option Port) → Type 0
ServesAndOpens hub moves ports hub' moves' ports' =
    ServesOpening (numbers_from (length ports) (length ports' - length ports)) hub moves (port_at ports) hub' moves' (port_at ports')

-- the same, where no port but that of link k changes, and no link is opened
abbrev pub ServesPort : ℕ → Hub → Option (List Moved) → Port → Hub → Option (List Moved) → Port → Type 0
ServesPort k hub moves port hub' moves' port' = (others : ℕ → Option Port) → Serves hub moves (with_port others k (Some port)) hub' moves' (with_port others k (Some port'))

-- all that connection i was answered is taken, or stands behind bytes that its link did not take yet
abbrev pub IsAnswered : Hub → (ℕ → Option Port) → ℕ → Type 0
IsAnswered hub ports i = (port : Port) → ports i ≡ Some port → (untaken_at hub i ≡ []) ⊎ (port.left ≢ Some [])

-- the same, or it is marked
abbrev pub IsOwedByMark : Hub → (ℕ → Option Port) → ℕ → Type 0
IsOwedByMark hub ports i = is_marked hub i ≡ false → IsAnswered hub ports i

-- who is owed answers is marked, if it was so before
abbrev pub KeepsMarks : Hub → (ℕ → Option Port) → Hub → (ℕ → Option Port) → Type 0
KeepsMarks hub ports hub' ports' = (i : ℕ) → IsOwedByMark hub ports i → IsOwedByMark hub' ports' i

abbrev pub NobodyIsOwed : Hub → (ℕ → Option Port) → Type 0
NobodyIsOwed hub ports = (i : ℕ) → IsAnswered hub ports i

-- what a link took of these bytes: none, where the write failed
abbrev pub took_of : Option ℕ → List ℕ → List ℕ
took_of None bytes = []
took_of (Some count) bytes = take count bytes

-- link k was offered these bytes at once, and took so many, none of them where it would have waited or a signal came; or the write
-- failed
pub record Offers (k : ℕ) (moves moves' : Option (List Moved)) (bytes : List ℕ) (taken : Option ℕ) : Type 0 where
  pub added : Adds moves moves' k [] (took_of taken bytes) false
  pub failed : taken ≡ None → fails_to_take k added.moved ≡ true
  pub took : (count : ℕ) → taken ≡ Some count → fails_to_take k added.moved ≡ false
  pub unasked : fails_to_give k added.moved ≡ false
  pub offered : (n : ℕ) → n ≤ length bytes → is_offered k n added.moved ≡ true
  pub left : (count n : ℕ) → taken ≡ Some count → left_by k n added.moved ≡ length bytes - count
  pub others : (i : ℕ) → (k == i) ≡ false → OffersNothing i added.moved

-- link k's port, which had so much left, took this much more for it, and wrote what it could
pub record Writes (k : ℕ) (moves moves' : Option (List Moved)) (port : Port) (more : List ℕ) (port' : Port) : Type 0 where
  pub took : List ℕ
  pub added : Adds moves moves' k [] took false
  pub left : PassesOn port.left more took port'.left
  pub fails : fails_to_give k added.moved ≡ true → unfed_of (Some port') ≡ None
  pub refuses : fails_to_take k added.moved ≡ true → port'.left ≡ None
  pub why : HasWhy (is_shown k [] added.moved) (Some port.ending) None (Some port'.ending)
  pub drops : DropsForAReason (Some port) → DropsForAReason (Some port')

-- the piece was fed; where it wasn't, the link has come to its end
pub record FeedsPort (k : ℕ) (hub : Hub) (port : Port) (piece : List ℕ) (hub' : Hub) (port' : Port) : Type 0 where
  pub calls : List Call
  pub made : MakesAll calls hub hub'
  pub fed : List ℕ
  pub stream : (i : ℕ) → stream_of i calls ≡ (if k == i then fed else [])
  pub output : (i : ℕ) → output_of i calls ≡ []
  pub passes : PassesOn (unfed_of (Some port)) piece fed (unfed_of (Some port'))
  pub over : Bool
  pub ends : (i : ℕ) → ends_at_a_feed i calls ≡ (if k == i then over else false)
  pub stops : over ≡ true → unfed_of (Some port') ≡ None
  pub why : HasWhy (is_shown k calls []) (Some port.ending) None (Some port'.ending)
  pub left : port'.left ≡ port.left

-- where link k gave something, more may be there
abbrev pub StaysReadable : ℕ → Option (List Moved) → Option (List Moved) → Port → Port → Type 0
StaysReadable k moves moves' port port' = (before : List Moved) (byte : ℕ) (bytes : List ℕ) → moves ≡ Some before → moves' ≡ Some (before ++ LinkGave k (byte ∷ bytes) ∷ []) → port'.may_read ≡ port.may_read

abbrev pub KeepsPortMarks : ℕ → Hub → Port → Hub → Port → Type 0
KeepsPortMarks k hub port hub' port' = (others : ℕ → Option Port) → KeepsMarks hub (with_port others k (Some port)) hub' (with_port others k (Some port'))

-- connection k's answers were taken as far as its link took them, and those of no other
pub record Answers (k : ℕ) (hub : Hub) (hub' : Hub) (port' : Port) : Type 0 where
  pub answered : (untaken_at hub' k ≡ []) ⊎ (port'.left ≢ Some [])
  pub others : (i : ℕ) → (k == i) ≡ false → untaken_at hub' i ≡ untaken_at hub i
  pub marks : hub'.marked ≡ hub.marked

-- how many bytes of connection i's stream are kept, which were not stepped; and whether its hello was accepted
abbrev pub kept_at : Hub → ℕ → ℕ
kept_at hub i = unwrap_or (option_map (λ (x : Connection). length x.kept) (slice_get hub.connections i)) 0

abbrev pub has_session_at : Hub → ℕ → Bool
has_session_at hub i = unwrap_or (option_map (λ (x : Connection). is_some x.session) (slice_get hub.connections i)) false

-- whether nothing of a connection is still to be written: it was answered no more, and all before is written, or its link takes
-- nothing any more
abbrev pub has_no_more : List Answer → Option (List ℕ) → Bool
has_no_more untaken None = true
has_no_more untaken (Some []) = length untaken == 0
has_no_more untaken (Some (byte ∷ bytes)) = false

-- whether nothing is left to do for link i but to close it: its connection is over, and nothing is still to be written
abbrev pub is_done : Hub → ℕ → Port → Bool
is_done hub i port = is_over_at hub i && has_no_more (untaken_at hub i) port.left

-- link i, if it is open, isn't done
abbrev pub IsUndone : Hub → (ℕ → Option Port) → ℕ → Type 0
IsUndone hub ports i = (port : Port) → ports i ≡ Some port → is_done hub i port ≡ false

abbrev pub NobodyIsDone : Hub → (ℕ → Option Port) → Type 0
NobodyIsDone hub ports = (i : ℕ) → IsUndone hub ports i

-- all that connection i was answered is taken, as above, and its link isn't left open for nothing
abbrev pub IsUpToDate : Hub → (ℕ → Option Port) → ℕ → Type 0
IsUpToDate hub ports i = IsAnswered hub ports i × IsUndone hub ports i

-- the same, or it is marked
abbrev pub IsUpToDateByMark : Hub → (ℕ → Option Port) → ℕ → Type 0
IsUpToDateByMark hub ports i = is_marked hub i ≡ false → IsUpToDate hub ports i

-- who isn't up to date is marked, if it was so before
abbrev pub KeepsUpToDate : Hub → (ℕ → Option Port) → Hub → (ℕ → Option Port) → Type 0
KeepsUpToDate hub ports hub' ports' = (i : ℕ) → IsUpToDateByMark hub ports i → IsUpToDateByMark hub' ports' i

-- of each connection but k, whatever its port is: where that is done it is marked, if it was so before
abbrev pub OthersStayUndone : ℕ → Hub → Hub → Type 0
OthersStayUndone k hub hub' = (i : ℕ) (port : Port) → (k == i) ≡ false → (is_marked hub i ≡ false → is_done hub i port ≡ false) → is_marked hub' i ≡ false → is_done hub' i port ≡ false

-- link k is done, and what its connection still had is dropped: it is gone, and all others are as they were
pub record LetsGo (hub : Hub) (k : ℕ) (port : Port) (hub' : Hub) : Type 0 where
  pub done : is_done hub k port ≡ true
  pub bytes : List ℕ
  pub dropped : Takes hub k bytes hub'
  pub gone : IsGone hub' k
  pub others : (i : ℕ) → (k == i) ≡ false → untaken_at hub' i ≡ untaken_at hub i

-- whether the connection is over where a piece is fed so
abbrev pub ends_connection : Fed → Bool
ends_connection (Over end) = true
ends_connection fed = false

-- whether a link isn't read any more for this reason where a piece of it was fed so
abbrev pub is_fed_so : Result Fed HubFault → Ending → Bool
is_fed_so (Ok (Over (end.Wire fault))) (Wire fault') = true
is_fed_so (Ok (Over end.BadKey)) BadKey = true
is_fed_so fed NoMemory = true
is_fed_so fed ending = false
