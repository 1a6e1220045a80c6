-- What becomes of a hello and of lines: what is sent, by the bytes that the server gives.
use Rattle.std.specs.Prelude.{◌≡◌, ℕ, zero, suc, Bool, true, false, ◌&&◌, List, [], ◌∷◌, Option, None, Some, codes}
use Rattle.std.specs.Io.KnownBytes.{Appends}
use Rattle.std.specs.Str.{bytes_eq}
use Rattle.ipc_terms.specs.declared.call.Answer.{Answer}
use Rattle.ipc_terms.specs.declared.call.Answer.TheVariants.{Started}
use Rattle.ipc_terms.specs.declared.ids.Desc.{Desc}
use Rattle.ipc_wire.specs.Streams.{spell}
use Rattle.ipc_wire.specs.declared.request.Request.TheVariants.{Hello}
use Rattle.ipc_client.specs.Acts.{ByNameEnds, act_of_word}
use Rattle.ipc_client.specs.Dialogues.{CommandSays, IsAnswered, Nothing, Then, is_accepted, last_after, opened_by}
use Rattle.ipc_client.specs.Lists.{ListEnds}
use Rattle.ipc_client.specs.declared.acts.Act.{Act}

-- the answer to a hello that starts its session
abbrev pub is_start : Answer → Bool
is_start (Started session) = true
is_start answer = false

-- the hello is sent, and the session started exactly where its answer says so
abbrev pub HelloEnds : List ℕ → Bool → List ℕ → List ℕ → List ℕ → Type 0
HelloEnds key has_started sent bytes rest = (answer : Answer) × (spell (Hello key) ≡ Some sent) × IsAnswered answer bytes rest × (has_started ≡ is_start answer)

-- A command, by the description that was opened last before it and after it. It is done exactly where it is sent and
-- not refused.
abbrev pub CommandEnds : Option Desc → List (List ℕ) → Option Desc → Bool → List ℕ → List ℕ → List ℕ → Type 0
CommandEnds before words after is_done sent bytes rest =
    (outcome : Option Answer) × CommandSays before words outcome sent bytes rest × (after ≡ last_after (opened_by outcome) before) × (is_done ≡ is_accepted outcome)

-- ---- a line

-- `list` alone
abbrev pub is_list : List (List ℕ) → Bool
is_list [] = false
is_list (word ∷ []) = bytes_eq word (codes "list")
is_list (word ∷ name ∷ arguments) = false

-- the act of a line's first word, where a name stands behind it
abbrev pub act_asked : List (List ℕ) → Option Act
act_asked [] = None
act_asked (word ∷ []) = None
act_asked (word ∷ name ∷ arguments) = act_of_word word

abbrev pub name_of : List (List ℕ) → List ℕ
name_of [] = []
name_of (word ∷ []) = []
name_of (word ∷ name ∷ arguments) = name

abbrev pub arguments_of : List (List ℕ) → List (List ℕ)
arguments_of [] = []
arguments_of (word ∷ []) = []
arguments_of (word ∷ name ∷ arguments) = arguments

abbrev pub LineGoes : Bool → Option Act → Option Desc → List (List ℕ) → Option Desc → Bool → List ℕ → List ℕ → List ℕ → Type 0
LineGoes true act before words after is_done sent bytes rest = ListEnds is_done sent bytes rest × (after ≡ before)
LineGoes false (Some act) before words after is_done sent bytes rest = ByNameEnds act (name_of words) (arguments_of words) is_done sent bytes rest × (after ≡ before)
LineGoes false None before words after is_done sent bytes rest = CommandEnds before words after is_done sent bytes rest

-- what a line's words ask for: `list`, an act by name, or a command
abbrev pub LineEnds : Option Desc → List (List ℕ) → Option Desc → Bool → List ℕ → List ℕ → List ℕ → Type 0
LineEnds before words = LineGoes (is_list words) (act_asked words) before words

-- so many lines, one behind the other, and all are done exactly where each is
unfoldable pub SoManyEnd : ℕ → Option Desc → Bool → List ℕ → List ℕ → List ℕ → Type 0
SoManyEnd zero last all_are_done sent bytes rest = (last ≡ None) × (all_are_done ≡ true) × Nothing sent bytes rest
SoManyEnd (suc n) last all_are_done sent bytes rest =
    (words : List (List ℕ)) × (before : Option Desc) × (earlier_are_done : Bool) × (is_done : Bool)
    × Then (SoManyEnd n before earlier_are_done) (LineEnds before words last is_done) sent bytes rest × (all_are_done ≡ (earlier_are_done && is_done))

abbrev pub LinesEndAt : Option Desc → Bool → List ℕ → List ℕ → List ℕ → Type 0
LinesEndAt last all_are_done sent bytes rest = (n : ℕ) × SoManyEnd n last all_are_done sent bytes rest

abbrev pub LinesEnd : Bool → List ℕ → List ℕ → List ℕ → Type 0
LinesEnd all_are_done sent bytes rest = (last : Option Desc) × LinesEndAt last all_are_done sent bytes rest

-- where the session started, lines end; else the answer is false
abbrev pub EndsBehindHello : Bool → Bool → List ℕ → List ℕ → List ℕ → Type 0
EndsBehindHello true all_are_done sent bytes rest = LinesEnd all_are_done sent bytes rest
EndsBehindHello false all_are_done sent bytes rest = (all_are_done ≡ false) × Nothing sent bytes rest

-- a hello with the key ends by these bytes, and then lines
abbrev pub EndsBy : List ℕ → Bool → List ℕ → List ℕ → Type 0
EndsBy key all_are_done sent bytes = (has_started : Bool) × (rest : List ℕ) × Then (HelloEnds key has_started) (EndsBehindHello has_started all_are_done) sent bytes rest

-- by the bytes that the server gives, or, where they aren't known, by some
abbrev pub ByGiven : (List ℕ → Type 0) → Option (List ℕ) → Type 0
ByGiven P (Some given) = P given
ByGiven P None = (given : List ℕ) × P given

-- so a session ends, and what the writer held, where that is known, grew by what is sent
abbrev pub SessionEnds : List ℕ → Option (List ℕ) → Option (List ℕ) → Option (List ℕ) → Bool → Type 0
SessionEnds key given before after all_are_done = (sent : List ℕ) × Appends before after sent × ByGiven (EndsBy key all_are_done sent) given
