-- What a label's words ask for.
use Rattle.std.specs.Prelude.{◌≡◌, ℕ, ◌-◌, ◌^◌, List, [], ◌∷◌, codes, Result, Ok, Err, option_map, Bool, true, false}
use Rattle.std.specs.Str.{bytes_eq}
use Rattle.ipc_access.specs.Users.{user_of_key}
use Rattle.ipc_access.specs.declared.users.User.{User}
use Rattle.ipc_terms.specs.declared.call.Call.{Call}
use Rattle.ipc_terms.specs.declared.ids.Sid.{Sid}
use Rattle.ipc_terms.specs.declared.record.Event.{Event}
use Rattle.ipc_terms.specs.declared.record.Event.TheVariants.{Hello, Do, Hangup, Tick}
use Rattle.ipc_words.specs.Calls.{Means}
use Rattle.ipc_words.specs.Hyphens.{any_breaks_hyphen_rule}
use Rattle.ipc_words.specs.Numbers.{decimal_within}
use Rattle.ipc_words.specs.Readings.{Meaning, Reads, of_argument}
use Rattle.ipc_words.specs.declared.faults.WordFault.{WordFault}
use Rattle.ipc_words.specs.declared.faults.WordFault.TheVariants.{Usage}

-- the first where the test holds, and else the second
abbrev pub Choice : Bool → Type 0 → Type 0 → Type 0
Choice true P Q = P
Choice false P Q = Q

-- a tick by the word of its moment, which is a u64
abbrev pub tick_at : List ℕ → Meaning Event
tick_at word = of_argument (codes "moment") (option_map Tick (decimal_within (2 ^ 64 - 1) word))

-- `hello KEY` is a hello of the user whose key it is
abbrev pub IsHello : List User → List (List ℕ) → Result Event WordFault → Type 0
IsHello users (key ∷ []) result = result ≡ Ok (Hello (user_of_key users key))
IsHello users words result = result ≡ Err Usage

-- `hangup` is a hang-up of the session that acts for the label
abbrev pub IsHangup : Sid → List (List ℕ) → Result Event WordFault → Type 0
IsHangup sid [] result = result ≡ Ok (Hangup sid)
IsHangup sid words result = result ≡ Err Usage

-- `tick MOMENT` is a tick, and no session's
abbrev pub IsTick : List (List ℕ) → Result Event WordFault → Type 0
IsTick (word ∷ []) result = Reads (tick_at word) result
IsTick words result = result ≡ Err Usage

-- the call that words mean, or their fault
abbrev pub IsMeant : List (List ℕ) → Result Call WordFault → Type 0
IsMeant words result = Choice (any_breaks_hyphen_rule words) (result ≡ Err Usage) (Means words result)

-- any other words are that call of the session
abbrev pub IsCall : Sid → List (List ℕ) → Result Event WordFault → Type 0
IsCall sid words (Ok event) = (call : Call) × (event ≡ Do sid call) × IsMeant words (Ok call)
IsCall sid words (Err fault) = IsMeant words (Err fault)

-- the event that a label's words ask for, or their fault; or want of memory
abbrev pub AskFor : List User → Sid → List (List ℕ) → Result Event WordFault → Type 0
AskFor users sid [] result = IsCall sid [] result
AskFor users sid (verb ∷ words) result =
    Choice (bytes_eq verb (codes "hello")) (IsHello users words result)
    (Choice (bytes_eq verb (codes "hangup")) (IsHangup sid words result)
    (Choice (bytes_eq verb (codes "tick")) (IsTick words result)
    (IsCall sid (verb ∷ words) result)))
