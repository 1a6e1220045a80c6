-- Sessions, their users, and their masks.
use Rattle.std.specs.Prelude.{Bool, true, false, ℕ, ◌%◌, ◌==◌, Option, Some, None, is_some, if◌then◌else◌, unwrap_or, option_and_then}
use Rattle.std.specs.Option.{option_flatten}
use Rattle.ipc_terms.specs.declared.ids.Uid.{Uid}
use Rattle.ipc_terms.specs.declared.call.Call.TheVariants.{Umask}
use Rattle.ipc_terms.specs.declared.record.Event.{Event}
use Rattle.ipc_terms.specs.declared.record.Event.TheVariants.{Hello, Do, Hangup}
use Rattle.ipc_access.specs.declared.class.Cred.{Cred}
use Rattle.ipc_access.specs.Users.{cred_of}
use Rattle.ipc_policy.specs.declared.config.Config.{Config}
use Rattle.ipc_policy.specs.Decides.History.{History, newest, unended, how_many}

abbrev pub is_hello : Event → History → Bool
is_hello (Hello found) before = true
is_hello _ before = false

-- how many hellos were accepted
unfoldable pub hellos : History → ℕ
hellos h = how_many is_hello h

-- session s begins with the hello that has s accepted hellos before it, for the user found, if one was
abbrev pub begins : ℕ → Event → History → Option (Option Uid)
begins s (Hello found) before = if hellos before == s then Some found else None
begins s _ before = None

-- the user of session s
unfoldable pub user : History → ℕ → Option Uid
user h s = option_flatten (newest (begins s) h)

-- a hang-up ends its session
abbrev pub hangs_up : ℕ → Event → Bool
hangs_up s (Hangup sid) = sid.0 == s
hangs_up s _ = false

-- session s is live from its hello until its hang-up
unfoldable pub live : History → ℕ → Bool
live h s = is_some (unended (begins s) (λ who e before. hangs_up s e) h)

-- who the user of session s is, by the user file
unfoldable pub cred : Config → History → ℕ → Option Cred
cred c h s = option_and_then (cred_of c.users) (user h s)

-- an accepted umask sets the mask of its session to the low nine bits of its argument
abbrev pub sets_mask : ℕ → Event → History → Option ℕ
sets_mask s (Do sid (Umask mask)) before = if sid.0 == s then Some (mask.0 % 512) else None
sets_mask s _ before = None

-- the mask of session s; a session's first is octal 022
unfoldable pub mask : History → ℕ → ℕ
mask h s = unwrap_or (newest (sets_mask s) h) 18
