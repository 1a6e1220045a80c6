-- What is sent, and what is answered: of each, what is sent, what has come, and what is left of that behind the answers.
use Rattle.std.specs.Prelude.{◌≡◌, ℕ, zero, suc, Bool, true, false, not, List, [], ◌∷◌, ◌++◌, Option, None, Some, Result, Ok, Err, Vec, if◌then◌else◌, codes, decimal}
use Rattle.std.specs.Io.KnownBytes.{Appends, Consumes}
use Rattle.std.specs.Str.{bytes_eq}
use Rattle.ipc_terms.specs.declared.call.Answer.{Answer}
use Rattle.ipc_terms.specs.declared.call.Answer.TheVariants.{Notice, Opened, Refused, Taken}
use Rattle.ipc_terms.specs.declared.ids.Desc.{Desc}
use Rattle.ipc_words.specs.declared.faults.WordFault.{WordFault}
use Rattle.ipc_words.specs.declared.faults.WordFault.TheVariants.{BadValue, NoMemory}
use Rattle.ipc_client.specs.Connections.{Incoming, IsNext, incoming}
use Rattle.ipc_client.specs.Frames.{AreSpelled, FailsBy}
use Rattle.ipc_client.specs.declared.session.Session.{Session}

-- both ends of a connection: what comes, and what its writer holds, where that is known
pub record Link : Type 0 where
  pub incoming : Incoming
  pub held : Option (List ℕ)

abbrev pub incoming_of : {R O : Type 0} → (R → Option (List ℕ)) → Session R O → Incoming
incoming_of remaining session = incoming remaining session.connection

abbrev pub link : {R O W : Type 0} → (R → Option (List ℕ)) → (W → Option (List ℕ)) → Session R O → W → Link
link remaining contents session writer = record { incoming = incoming_of remaining session; held = contents writer }

-- Some bytes were sent, and some came behind those that waited. This holds of them and of what waits now, whatever more
-- comes.
abbrev pub Talks : (List ℕ → List ℕ → List ℕ → Type 0) → Link → Link → Type 0
Talks P before after =
    (sent : List ℕ) × (came : List ℕ) × Appends before.held after.held sent × Consumes before.incoming.unread after.incoming.unread came
    × ((more : List ℕ) → P sent (before.incoming.waiting ++ (came ++ more)) (after.incoming.waiting ++ more))

-- nothing is sent, and no answer taken
abbrev pub Nothing : List ℕ → List ℕ → List ℕ → Type 0
Nothing sent bytes rest = (sent ≡ []) × (rest ≡ bytes)

-- first this, and then that
abbrev pub Then : (List ℕ → List ℕ → List ℕ → Type 0) → (List ℕ → List ℕ → List ℕ → Type 0) → List ℕ → List ℕ → List ℕ → Type 0
Then P Q sent bytes rest = (first : List ℕ) × (second : List ℕ) × (between : List ℕ) × (sent ≡ first ++ second) × P first bytes between × Q second between rest

-- ---- answers

-- what comes unasked: a notice, and a description that another session gave
abbrev pub is_notice : Answer → Bool
is_notice (Notice desc) = true
is_notice (Taken desc) = true
is_notice answer = false

abbrev pub is_refusal : Answer → Bool
is_refusal (Refused rule) = true
is_refusal answer = false

-- so many notices, one behind the other, and then the rest
unfoldable pub NoticesStand : ℕ → List ℕ → List ℕ → Type 0
NoticesStand zero bytes rest = rest ≡ bytes
NoticesStand (suc n) bytes rest = (notice : Answer) × (between : List ℕ) × NoticesStand n bytes between × IsNext notice between rest × (is_notice notice ≡ true)

-- nothing but notices
abbrev pub AreNotices : List ℕ → List ℕ → Type 0
AreNotices bytes rest = (n : ℕ) × NoticesStand n bytes rest

-- this is the first answer that is no notice
abbrev pub IsAnswered : Answer → List ℕ → List ℕ → Type 0
IsAnswered answer bytes rest = (between : List ℕ) × AreNotices bytes between × IsNext answer between rest × (is_notice answer ≡ false)

-- the command was sent, and its answer is no refusal
abbrev pub is_accepted : Option Answer → Bool
is_accepted None = false
is_accepted (Some answer) = not (is_refusal answer)

-- the description that an answer tells of an open
abbrev pub opened_by : Option Answer → Option Desc
opened_by (Some (Opened desc)) = Some desc
opened_by outcome = None

-- the description opened last, behind an answer
abbrev pub last_after : Option Desc → Option Desc → Option Desc
last_after (Some desc) last = Some desc
last_after None last = last

-- ---- a command

-- the frame of a command's words, or their fault, or want of memory
abbrev pub IsFrameOf : List (List ℕ) → Result (List ℕ) WordFault → Type 0
IsFrameOf words (Ok frame) = AreSpelled words (Some frame)
IsFrameOf words (Err fault) = FailsBy words fault

-- the bytes of a frame
abbrev pub bytes_of : {Z : Type 0} → Result (Vec ℕ Z) WordFault → Result (List ℕ) WordFault
bytes_of (Ok frame) = Ok frame.items
bytes_of (Err fault) = Err fault

-- the frame is sent and answered; at a fault nothing is
abbrev pub Goes : Result (List ℕ) WordFault → Option Answer → List ℕ → List ℕ → List ℕ → Type 0
Goes (Ok frame) (Some answer) sent bytes rest = (sent ≡ frame) × IsAnswered answer bytes rest
Goes (Ok frame) None sent bytes rest = ⊥
Goes (Err NoMemory) outcome sent bytes rest = ⊥
Goes (Err fault) (Some answer) sent bytes rest = ⊥
Goes (Err fault) None sent bytes rest = Nothing sent bytes rest

-- a command's words are sent and answered, or are at fault
abbrev pub Says : List (List ℕ) → Option Answer → List ℕ → List ℕ → List ℕ → Type 0
Says words outcome sent bytes rest = (frame : Result (List ℕ) WordFault) × IsFrameOf words frame × Goes frame outcome sent bytes rest

-- ---- `last`

-- a fault of the description
abbrev pub lacks_description : Result (List ℕ) WordFault → Bool
lacks_description (Err (BadValue argument)) = bytes_eq argument.now (codes "d")
lacks_description frame = false

-- the words with the number of the description opened last for the word `last` behind the command's own
abbrev pub with_last : Option Desc → List (List ℕ) → List (List ℕ)
with_last (Some desc) (command ∷ word ∷ arguments) = command ∷ (if bytes_eq word (codes "last") then decimal desc.0 else word) ∷ arguments
with_last last words = words

abbrev pub IsFrameUnless : Bool → Option Desc → List (List ℕ) → Result (List ℕ) WordFault → Result (List ℕ) WordFault → Type 0
IsFrameUnless true last words plain frame = IsFrameOf (with_last last words) frame
IsFrameUnless false last words plain frame = frame ≡ plain

-- the frame of a command's words; where they are at fault for their description, that of the words with `last` replaced
abbrev pub IsCommandFrame : Option Desc → List (List ℕ) → Result (List ℕ) WordFault → Type 0
IsCommandFrame last words frame = (plain : Result (List ℕ) WordFault) × IsFrameOf words plain × IsFrameUnless (lacks_description plain) last words plain frame

abbrev pub CommandSays : Option Desc → List (List ℕ) → Option Answer → List ℕ → List ℕ → List ℕ → Type 0
CommandSays last words outcome sent bytes rest = (frame : Result (List ℕ) WordFault) × IsCommandFrame last words frame × Goes frame outcome sent bytes rest
