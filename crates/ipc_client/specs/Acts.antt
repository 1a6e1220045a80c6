-- Commands that name their object: each opens it, acts on it, and closes it again.
use Rattle.std.specs.Prelude.{◌≡◌, ◌⊎◌, ℕ, Bool, true, false, ◌&&◌, List, [], ◌∷◌, Option, None, Some, Result, Ok, Err, if◌then◌else◌, codes, decimal}
use Rattle.std.specs.Str.{bytes_eq}
use Rattle.ipc_terms.specs.declared.call.Answer.{Answer}
use Rattle.ipc_terms.specs.declared.call.Answer.TheVariants.{Attrs}
use Rattle.ipc_terms.specs.declared.ids.Desc.{Desc}
use Rattle.ipc_words.specs.declared.faults.WordFault.{WordFault}
use Rattle.ipc_client.specs.Dialogues.{Goes, IsFrameOf, Nothing, Says, Then, is_accepted, opened_by}
use Rattle.ipc_client.specs.Frames.{AreSpelled, FailsBy}
use Rattle.ipc_client.specs.declared.acts.Act.{Act}
use Rattle.ipc_client.specs.declared.acts.Act.TheVariants.{Send, Receive, Post, Wait, Value}

abbrev pub act_of_word : List ℕ → Option Act
act_of_word word =
    if bytes_eq word (codes "send") then Some Send
    else if bytes_eq word (codes "receive") then Some Receive
    else if bytes_eq word (codes "post") then Some Post
    else if bytes_eq word (codes "wait") then Some Wait
    else None

-- a queue is opened to write for a send, and to read for a receive
abbrev pub opening : Act → List ℕ → List (List ℕ)
opening Send name = codes "mq-open" ∷ name ∷ codes "w" ∷ []
opening Receive name = codes "mq-open" ∷ name ∷ codes "r" ∷ []
opening act name = codes "sem-open" ∷ name ∷ []

-- what an act asks for first: a receive for the queue's message size
abbrev pub acting_word : Act → List ℕ
acting_word Send = codes "mq-send"
acting_word Receive = codes "mq-getattr"
acting_word Post = codes "sem-post"
acting_word Wait = codes "sem-wait"
acting_word Value = codes "sem-getvalue"

abbrev pub closing_word : Act → List ℕ
closing_word Send = codes "mq-close"
closing_word Receive = codes "mq-close"
closing_word act = codes "sem-close"

-- by the description D
abbrev pub acting : Act → List ℕ → List (List ℕ) → List (List ℕ)
acting act d arguments = acting_word act ∷ d ∷ arguments

abbrev pub closing : Act → List ℕ → List (List ℕ)
closing act d = closing_word act ∷ d ∷ []

-- the command is sent, and done exactly where it is accepted
abbrev pub Does : List (List ℕ) → Bool → List ℕ → List ℕ → List ℕ → Type 0
Does words is_done sent bytes rest = (outcome : Option Answer) × Says words outcome sent bytes rest × (is_done ≡ is_accepted outcome)

-- the message size that a receive was told
abbrev pub size_told : Act → Option Answer → Option ℕ
size_told Receive (Some (Attrs nonblock attributes messages)) = Some attributes.msgsize
size_told act outcome = None

-- behind what an act asked for: a receive is made with the message size, if that was told
abbrev pub ActGoesOn : List ℕ → Option ℕ → Option Answer → Bool → List ℕ → List ℕ → List ℕ → Type 0
ActGoesOn d (Some size) outcome is_done sent bytes rest = Does (codes "mq-receive" ∷ d ∷ decimal size ∷ []) is_done sent bytes rest
ActGoesOn d None outcome is_done sent bytes rest = (is_done ≡ is_accepted outcome) × Nothing sent bytes rest

abbrev pub ActEnds : Act → List ℕ → List (List ℕ) → Bool → List ℕ → List ℕ → List ℕ → Type 0
ActEnds act d arguments is_done sent bytes rest = (outcome : Option Answer) × Then (Says (acting act d arguments) outcome) (ActGoesOn d (size_told act outcome) outcome is_done) sent bytes rest

-- behind the open: the act and the close, and all is done where both are; nothing where no description was told
abbrev pub OpenGoesOn : Act → List (List ℕ) → Option Desc → Bool → List ℕ → List ℕ → List ℕ → Type 0
OpenGoesOn act arguments (Some desc) is_done sent bytes rest =
    (acted : Bool) × (closed : Bool)
    × Then (ActEnds act (decimal desc.0) arguments acted) (Does (closing act (decimal desc.0)) closed) sent bytes rest × (is_done ≡ (acted && closed))
OpenGoesOn act arguments None is_done sent bytes rest = (is_done ≡ false) × Nothing sent bytes rest

-- the frame of the open, or its fault, or that of the act's own words
abbrev pub IsOpening : Act → List ℕ → List (List ℕ) → Result (List ℕ) WordFault → Type 0
IsOpening act name arguments (Ok frame) = AreSpelled (opening act name) (Some frame)
IsOpening act name arguments (Err fault) = FailsBy (opening act name) fault ⊎ FailsBy (acting act (codes "0") arguments) fault

abbrev pub Opens : Act → List ℕ → List (List ℕ) → Option Answer → List ℕ → List ℕ → List ℕ → Type 0
Opens act name arguments outcome sent bytes rest = (frame : Result (List ℕ) WordFault) × IsOpening act name arguments frame × Goes frame outcome sent bytes rest

-- the open, the act by the description that it told, and the close
abbrev pub ByNameEnds : Act → List ℕ → List (List ℕ) → Bool → List ℕ → List ℕ → List ℕ → Type 0
ByNameEnds act name arguments is_done sent bytes rest = (opened : Option Answer) × Then (Opens act name arguments opened) (OpenGoesOn act arguments (opened_by opened) is_done) sent bytes rest
