-- What `list` sends, by how it is answered.
use Rattle.std.specs.Prelude.{◌≡◌, ◌+◌, ℕ, zero, suc, Bool, true, false, ◌&&◌, List, [], ◌∷◌, Option, None, Some, if◌then◌else◌, codes, decimal, drop, length}
use Rattle.ipc_terms.specs.declared.call.Answer.{Answer}
use Rattle.ipc_terms.specs.declared.call.Answer.TheVariants.{Names}
use Rattle.ipc_terms.specs.declared.ids.Desc.{Desc}
use Rattle.ipc_terms.specs.declared.ids.Family.{Family}
use Rattle.ipc_terms.specs.declared.ids.Family.TheVariants.{Mq, Sem}
use Rattle.ipc_lines.specs.Words.{words_in}
use Rattle.ipc_words.specs.Answers.{answer_line}
use Rattle.ipc_client.specs.Acts.{acting, closing, opening}
use Rattle.ipc_client.specs.Dialogues.{Nothing, Says, Then, opened_by}
use Rattle.ipc_client.specs.declared.acts.Act.{Act}
use Rattle.ipc_client.specs.declared.acts.Act.TheVariants.{Receive, Value}

abbrev pub word_of : Family → List ℕ
word_of Mq = codes "mq"
word_of Sem = codes "sem"

-- ---- a name

-- a command is sent, or its words are at fault, whatever the answer
abbrev pub Tries : List (List ℕ) → List ℕ → List ℕ → List ℕ → Type 0
Tries words sent bytes rest = (outcome : Option Answer) × Says words outcome sent bytes rest

-- the act as which an object is opened, asked for its messages or its value, and closed
abbrev pub look_of : Family → Act
look_of Mq = Receive
look_of Sem = Value

-- behind the open: the question and the close; nothing where no description was told
abbrev pub LookGoesOn : Act → Option Desc → List ℕ → List ℕ → List ℕ → Type 0
LookGoesOn act (Some desc) sent bytes rest = Then (Tries (acting act (decimal desc.0) [])) (Tries (closing act (decimal desc.0))) sent bytes rest
LookGoesOn act None sent bytes rest = Nothing sent bytes rest

abbrev pub Looks : Act → List ℕ → List ℕ → List ℕ → List ℕ → Type 0
Looks act name sent bytes rest = (opened : Option Answer) × Then (Says (opening act name) opened) (LookGoesOn act (opened_by opened)) sent bytes rest

-- `stat`, and a look
abbrev pub NameGoes : Family → List ℕ → List ℕ → List ℕ → List ℕ → Type 0
NameGoes family name sent bytes rest = Then (Tries (codes "stat" ∷ word_of family ∷ name ∷ [])) (Looks (look_of family) name) sent bytes rest

-- one behind the other
unfoldable pub NamesGo : Family → List (List ℕ) → List ℕ → List ℕ → List ℕ → Type 0
NamesGo family [] sent bytes rest = Nothing sent bytes rest
NamesGo family (name ∷ names) sent bytes rest = Then (NameGoes family name) (NamesGo family names) sent bytes rest

-- ---- a page

abbrev pub tells_names : Answer → Bool
tells_names (Names names) = true
tells_names answer = false

-- the words of the answer's line behind `names` and their number
abbrev pub names_in : Answer → List (List ℕ)
names_in answer = drop 2 (words_in (answer_line answer))

abbrev pub names_told : Option Answer → Option (List (List ℕ))
names_told None = None
names_told (Some answer) = if tells_names answer then Some (names_in answer) else None

-- behind the answer: its names, if it tells any; and how many they are
abbrev pub PageGoesOn : Family → Option (List (List ℕ)) → Option ℕ → List ℕ → List ℕ → List ℕ → Type 0
PageGoesOn family (Some names) count sent bytes rest = NamesGo family names sent bytes rest × (count ≡ Some (length names))
PageGoesOn family None count sent bytes rest = Nothing sent bytes rest × (count ≡ None)

-- `ls` from this position on
abbrev pub PageGoes : Family → ℕ → Option ℕ → List ℕ → List ℕ → List ℕ → Type 0
PageGoes family start count sent bytes rest =
    (page : Option Answer) × Then (Says (codes "ls" ∷ word_of family ∷ decimal start ∷ codes "1000" ∷ []) page) (PageGoesOn family (names_told page) count) sent bytes rest

-- ---- a family

-- so many pages that tell names, each from behind those before it; and how many names were told in all
unfoldable pub SoManyPages : ℕ → Family → ℕ → List ℕ → List ℕ → List ℕ → Type 0
SoManyPages zero family told sent bytes rest = (told ≡ 0) × Nothing sent bytes rest
SoManyPages (suc n) family told sent bytes rest =
    (start : ℕ) × (more : ℕ) × Then (SoManyPages n family start) (PageGoes family start (Some (suc more))) sent bytes rest × (told ≡ start + suc more)

abbrev pub PagesGo : Family → ℕ → List ℕ → List ℕ → List ℕ → Type 0
PagesGo family told sent bytes rest = (n : ℕ) × SoManyPages n family told sent bytes rest

-- how many names the last page tells: none where all were told, and else it isn't told
abbrev pub last_count : Bool → Option ℕ
last_count true = Some 0
last_count false = None

-- pages, and a last one
abbrev pub FamilyGoes : Family → Bool → List ℕ → List ℕ → List ℕ → Type 0
FamilyGoes family are_all_told sent bytes rest = (told : ℕ) × Then (PagesGo family told) (PageGoes family told (last_count are_all_told)) sent bytes rest

-- the queues and then the semaphores; done exactly where all names of both were told
abbrev pub ListEnds : Bool → List ℕ → List ℕ → List ℕ → Type 0
ListEnds is_done sent bytes rest = (queues : Bool) × (semaphores : Bool) × Then (FamilyGoes Mq queues) (FamilyGoes Sem semaphores) sent bytes rest × (is_done ≡ (queues && semaphores))
