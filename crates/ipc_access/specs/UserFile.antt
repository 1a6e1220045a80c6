-- The user file: its lines, the users that they spell, and what is wrong with them.
use Rattle.std.specs.Prelude.{Bool, false, ℕ, ◌+◌, ◌-◌, take, slice_get, ◌==◌, nat_lt, List, [], ◌∷◌, ◌++◌, length, filter_map, Option, Some, None, if◌then◌else◌}
use Rattle.std.specs.List.{list_any, slice_split}
use Rattle.std.specs.Option.{option_map_or}
use Rattle.ipc_terms.specs.Names.{same_name}
use Rattle.ipc_access.specs.declared.users.User.{User}
use Rattle.ipc_access.specs.declared.fault.UserFault.{UserFault}
use Rattle.ipc_access.specs.declared.fault.UserFault.TheVariants.{TooMany, BadLine, DuplicateName, DuplicateKey, DuplicateUid}
use Rattle.ipc_access.specs.UserLine.{user_of}

-- the last of the pieces is empty
abbrev pub ends_empty : List (List ℕ) → Bool
ends_empty pieces = option_map_or (λ piece. length piece == 0) (slice_get pieces (length pieces - 1)) false

-- the lines of a text, which line feeds (10) end: behind one at the very end there is no line
abbrev pub lines_of_pieces : List (List ℕ) → List (List ℕ)
lines_of_pieces pieces = if ends_empty pieces then take (length pieces - 1) pieces else pieces

unfoldable pub lines_of : List ℕ → List (List ℕ)
lines_of text = lines_of_pieces (slice_split (λ b. b == 10) text)

-- the users that the lines spell
unfoldable pub users_of : List (List ℕ) → List User
users_of lines = filter_map user_of lines

-- a user of this name, key or user ID is among them
abbrev pub has_name : List User → List ℕ → Bool
has_name users name = list_any (λ user. same_name user.name name) users

abbrev pub has_key : List User → List ℕ → Bool
has_key users key = list_any (λ user. same_name user.key key) users

abbrev pub has_uid : List User → ℕ → Bool
has_uid users uid = list_any (λ user. user.cred.uid.0 == uid) users

-- what is wrong with the line of this number, which spells this user, behind lines that spell these users
abbrev pub fault_of_user : List User → ℕ → Option User → Option UserFault
fault_of_user earlier number None = Some (BadLine number)
fault_of_user earlier number (Some user) =
    if has_name earlier user.name then Some (DuplicateName number)
    else (if has_key earlier user.key then Some (DuplicateKey number)
    else (if has_uid earlier user.cred.uid.0 then Some (DuplicateUid number)
    else None))

-- the same of the line itself; a file has at most 4,096 lines
abbrev pub fault_after : List User → ℕ → List ℕ → Option UserFault
fault_after earlier number line =
    if nat_lt 4096 number then Some TooMany else fault_of_user earlier number (user_of line)

-- what is wrong with a line behind these lines
abbrev pub fault_of : List (List ℕ) → List ℕ → Option UserFault
fault_of before line = fault_after (users_of before) (length before + 1) line

-- the first fault, or where there is none the next
abbrev pub or_else : Option UserFault → Option UserFault → Option UserFault
or_else (Some fault) next = Some fault
or_else None next = next

-- the fault of the first line at fault, each line read with the lines before it
abbrev pub first_fault : List (List ℕ) → List (List ℕ) → Option UserFault
first_fault before [] = None
first_fault before (line ∷ after) = or_else (fault_of before line) (first_fault (before ++ line ∷ []) after)

unfoldable pub user_fault : List (List ℕ) → Option UserFault
user_fault lines = first_fault [] lines
