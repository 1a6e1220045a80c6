-- The task that the program's words ask for.
use Rattle.std.specs.Prelude.{◌-◌, ◌^◌, ◌&&◌, ◌||◌, ℕ, Bool, true, false, nat_le, not, List, Option, Some, None, Ok, Err, codes, is_some, unwrap_or, if◌then◌else◌}
use Rattle.std.specs.Option.{option_map_or}
use Rattle.std.specs.Str.{bytes_eq}
use Rattle.clap.specs.Simple.{subcommand_of}
use Rattle.clap.specs.Walk.{Row, Text, all_of, first_of}
use Rattle.ipc_policy.specs.declared.config.Limits.{Limits}
use Rattle.ipc_policy.specs.declared.config.TheConstants.Limits.{STANDARD}
use Rattle.ipc_words.specs.Numbers.{decimal_within}
use Rattle.ipc_words.specs.Readings.{Meaning, ◌>>=◌, is_given, of_argument, option_at}
use Rattle.ipc_program.specs.Addresses.{is_endpoint, is_unix, is_unix_users, mode_of_word}
use Rattle.ipc_program.specs.Options.{app_of_program}
use Rattle.ipc_program.specs.Servers.{Serving}
use Rattle.ipc_program.specs.Trails.{Replaying, Retold, TrailFile}
use Rattle.ipc_program.specs.declared.tasks.Kept.{Kept}
use Rattle.ipc_program.specs.declared.tasks.NewLimits.{NewLimits}
use Rattle.ipc_program.specs.declared.tasks.Places.{Places}
use Rattle.ipc_program.specs.declared.tasks.Threading.{Threading}
use Rattle.ipc_program.specs.declared.tasks.Threading.TheVariants.{OneThread, Workers}
use Rattle.ipc_program.specs.declared.tasks.Task.{Task}
use Rattle.ipc_program.specs.declared.tasks.Task.TheVariants.{Compact, Compare, Replay, Script, Serve}

-- the number of an option, and where it isn't given the standard one
abbrev pub limit_at : ℕ → Text → List Row → Meaning ℕ
limit_at standard option rows = option_at (decimal_within (2 ^ 32 - 1)) option rows >>= λ given. Ok (unwrap_or given standard)

-- the limits of the options that stand in the rows, or the first option whose value is no such number
abbrev pub limits_given : List Row → Meaning Limits
limits_given rows =
    limit_at STANDARD.msg_max (codes "msg-max") rows >>= λ msg_max.
    limit_at STANDARD.msgsize_max (codes "msgsize-max") rows >>= λ msgsize_max.
    limit_at STANDARD.queues_max (codes "queues-max") rows >>= λ queues_max.
    Ok (record { msg_max = msg_max; msgsize_max = msgsize_max; queues_max = queues_max })

-- the word at this place
abbrev pub word_at : Text → List Row → Meaning Text
word_at name rows = of_argument name (first_of name rows)

-- 1 to 64 workers, and no other number
abbrev pub within_range : ℕ → Meaning ℕ
within_range workers = if nat_le 1 workers && nat_le workers 64 then Ok workers else Err (codes "workers")

-- the workers that are asked for, and where none are 4
abbrev pub workers_given : List Row → Meaning ℕ
workers_given rows = limit_at 4 (codes "workers") rows >>= within_range

-- room for one connection or more
abbrev pub with_room : ℕ → Meaning ℕ
with_room connections = if nat_le 1 connections then Ok connections else Err (codes "connections")

-- how many connections one thread serves, and where it isn't told 10,000
abbrev pub connections_given : List Row → Meaning ℕ
connections_given rows = limit_at 10000 (codes "connections") rows >>= with_room

-- an option is given
abbrev pub has : Text → List Row → Bool
has option rows = is_some (first_of option rows)

-- the number of an option, of 64 bits, and where it isn't given the standard one
abbrev pub number_at : ℕ → Text → List Row → Meaning ℕ
number_at standard option rows = option_at (decimal_within (2 ^ 64 - 1)) option rows >>= λ given. Ok (unwrap_or given standard)

-- 1,000 records or more
abbrev pub enough : ℕ → Meaning ℕ
enough records = if nat_le 1000 records then Ok records else Err (codes "keep-records")

-- how many of the newest records one thread keeps, and about how many bytes of them: where it isn't told, 1,000,000 records
-- and 256 MiB
abbrev pub newest_given : List Row → Meaning Kept
newest_given rows =
    number_at 1000000 (codes "keep-records") rows >>= enough >>= λ records.
    number_at 268435456 (codes "keep-bytes") rows >>= λ bytes.
    Ok (record { records = Some records; bytes = Some bytes })

-- all records, or these
abbrev pub kept_given : List Row → Meaning Kept
kept_given rows =
    if is_given (codes "keep-all") rows
    then (if has (codes "keep-records") rows || has (codes "keep-bytes") rows then Err (codes "keep-all") else Ok (record { records = None; bytes = None }))
    else newest_given rows

-- workers, without what one thread alone is told
abbrev pub crew_given : List Row → Meaning Threading
crew_given rows =
    if has (codes "connections") rows then Err (codes "connections")
    else (if has (codes "keep-records") rows then Err (codes "keep-records")
    else (if has (codes "keep-bytes") rows then Err (codes "keep-bytes")
    else (if is_given (codes "keep-all") rows then Err (codes "keep-all")
    else workers_given rows >>= λ workers. Ok (Workers workers))))

-- one thread without workers, or workers
abbrev pub threading_given : List Row → Meaning Threading
threading_given rows =
    if is_given (codes "one-thread") rows
    then (if has (codes "workers") rows then Err (codes "one-thread") else connections_given rows >>= λ connections. kept_given rows >>= λ kept. Ok (OneThread connections kept))
    else crew_given rows

-- one thread serves any address, and workers any but users' sockets
abbrev pub serves : Text → Threading → Bool
serves address (OneThread _ _) = true
serves address (Workers _) = not (is_unix_users address)

-- one thread without workers, or workers, at this address
abbrev pub threading_at : Text → List Row → Meaning Threading
threading_at address rows =
    threading_given rows >>= λ threading.
    if serves address threading then Ok threading else Err (codes "address")

-- the permission bits of a socket's file, which stand at no other address, and where none are given 0600
abbrev pub socket_mode_given : Text → List Row → Meaning ℕ
socket_mode_given address rows =
    option_at mode_of_word (codes "socket-mode") rows >>= λ given.
    if is_some given && not (is_unix address) then Err (codes "socket-mode") else Ok (unwrap_or given 384)

abbrev pub is_one_thread : Threading → Bool
is_one_thread (OneThread _ _) = true
is_one_thread (Workers _) = false

-- at which address the numbers of one thread are read: that of one listener
abbrev pub metrics_at : Threading → Text → Meaning (Option Text)
metrics_at threading address = if is_one_thread threading && is_endpoint address then Ok (Some address) else Err (codes "metrics")

-- at which address counts are had, where one is given
abbrev pub metrics_given : Threading → List Row → Meaning (Option Text)
metrics_given threading rows = option_map_or (metrics_at threading) (first_of (codes "metrics") rows) (Ok None)

-- numbers are logged by one thread that has a log, each second or less often
abbrev pub tells_counts : Threading → List Row → ℕ → Bool
tells_counts threading rows seconds = is_one_thread threading && has (codes "log") rows && nat_le 1 seconds

-- after how many seconds each the log tells counts, if it does
abbrev pub stats_given : Threading → List Row → Meaning (Option ℕ)
stats_given threading rows =
    option_at (decimal_within (2 ^ 64 - 1)) (codes "stats") rows >>= λ seconds.
    if option_map_or (tells_counts threading rows) seconds true then Ok seconds else Err (codes "stats")

-- 4,096 bytes or more, where they are told
abbrev pub large_enough : Option ℕ → Meaning (Option ℕ)
large_enough bytes = if option_map_or (nat_le 4096) bytes true then Ok bytes else Err (codes "trail-segment")

-- after how many bytes another file is begun, if one is
abbrev pub segment_given : List Row → Meaning (Option ℕ)
segment_given rows = option_at (decimal_within (2 ^ 64 - 1)) (codes "trail-segment") rows >>= large_enough

-- old files are kept where a start retells
abbrev pub kept_where : Bool → Option ℕ → Meaning (Option ℕ)
kept_where is_kept compact = if is_kept && not (is_some compact) then Err (codes "trail-keep") else Ok compact

-- from how many bytes on a start retells the trail, if one does
abbrev pub compact_given : List Row → Meaning (Option ℕ)
compact_given rows = option_at (decimal_within (2 ^ 64 - 1)) (codes "trail-compact") rows >>= kept_where (is_given (codes "trail-keep") rows)

-- a file that a trail is written to, which one thread alone does
abbrev pub trail_at : Threading → List Row → Text → Meaning (Option TrailFile)
trail_at threading rows path =
    if is_one_thread threading
    then (
    segment_given rows >>= λ segment.
    compact_given rows >>= λ compact.
    Ok (Some (record { path = path; is_synced = is_given (codes "trail-sync") rows; segment = segment; compact = compact; is_kept = is_given (codes "trail-keep") rows }))
    )
    else Err (codes "trail-file")

-- without such a file nothing is told of one
abbrev pub no_trail : List Row → Meaning (Option TrailFile)
no_trail rows =
    if is_given (codes "trail-sync") rows then Err (codes "trail-sync")
    else (if has (codes "trail-segment") rows then Err (codes "trail-segment")
    else (if has (codes "trail-compact") rows then Err (codes "trail-compact")
    else (if is_given (codes "trail-keep") rows then Err (codes "trail-keep") else Ok None)))

-- the file that a trail is written to, where one is given
abbrev pub trail_given : Threading → List Row → Meaning (Option TrailFile)
trail_given threading rows = option_map_or (trail_at threading rows) (first_of (codes "trail-file") rows) (no_trail rows)

-- what the words of `serve` tell the server
abbrev pub serving_given : List Row → Meaning Serving
serving_given rows =
    word_at (codes "users") rows >>= λ users.
    word_at (codes "address") rows >>= λ address.
    threading_at address rows >>= λ threading.
    option_at (decimal_within (2 ^ 64 - 1)) (codes "stop-after") rows >>= λ stop_after.
    stats_given threading rows >>= λ stats.
    metrics_given threading rows >>= λ metrics.
    trail_given threading rows >>= λ trail.
    socket_mode_given address rows >>= λ socket_mode.
    limits_given rows >>= λ limits.
    Ok (record { users = users; address = address; socket_mode = socket_mode; threading = threading; stop_after = stop_after; log = first_of (codes "log") rows; metrics = metrics; stats = stats; trail = trail; limits = limits })

-- the words at this place, one or more
abbrev pub words_at : Text → List Row → Meaning (List Text)
words_at name rows = of_argument name (all_of name rows)

-- from which place to which, and where they aren't given all
abbrev pub places_given : List Row → Meaning Places
places_given rows =
    number_at 0 (codes "from") rows >>= λ first.
    number_at (2 ^ 64 - 1) (codes "to") rows >>= λ last.
    Ok (record { first = first; last = last })

-- of which records a line is printed, if of any
abbrev pub audit_given : List Row → Meaning (Option Places)
audit_given rows =
    if is_given (codes "audit") rows then (places_given rows >>= λ places. Ok (Some places))
    else (if has (codes "from") rows then Err (codes "from")
    else (if has (codes "to") rows then Err (codes "to") else Ok None))

-- the session of whose answers a line is printed, if of any
abbrev pub answers_given : List Row → Meaning (Option ℕ)
answers_given rows =
    option_at (decimal_within (2 ^ 64 - 1)) (codes "answers") rows >>= λ answers.
    if is_some answers && is_given (codes "audit") rows then Err (codes "answers") else Ok answers

-- what the words of `replay` tell
abbrev pub replaying_given : List Row → Meaning Replaying
replaying_given rows =
    word_at (codes "users") rows >>= λ users.
    audit_given rows >>= λ audit.
    answers_given rows >>= λ answers.
    words_at (codes "files") rows >>= λ files.
    Ok (record { users = users; files = files; audit = audit; answers = answers })

-- the limits of the options that stand in the rows, and none for the others
abbrev pub new_limits_given : List Row → Meaning NewLimits
new_limits_given rows =
    option_at (decimal_within (2 ^ 32 - 1)) (codes "msg-max") rows >>= λ msg_max.
    option_at (decimal_within (2 ^ 32 - 1)) (codes "msgsize-max") rows >>= λ msgsize_max.
    option_at (decimal_within (2 ^ 32 - 1)) (codes "queues-max") rows >>= λ queues_max.
    Ok (record { msg_max = msg_max; msgsize_max = msgsize_max; queues_max = queues_max })

-- what the words of `compact` and `same` tell
abbrev pub retold_given : List Row → Meaning Retold
retold_given rows =
    word_at (codes "users") rows >>= λ users.
    word_at (codes "new") rows >>= λ new.
    new_limits_given rows >>= λ limits.
    words_at (codes "files") rows >>= λ old.
    Ok (record { users = users; new = new; old = old; to = first_of (codes "to") rows; limits = limits })

-- the task of a subcommand by its name and what stands behind it
abbrev pub task_of : Text × List Row → Meaning Task
task_of (name, rows) =
    if bytes_eq name (codes "serve") then (serving_given rows >>= λ serving. Ok (Serve serving))
    else (if bytes_eq name (codes "replay") then (replaying_given rows >>= λ replaying. Ok (Replay replaying))
    else (if bytes_eq name (codes "compact") then (retold_given rows >>= λ retold. Ok (Compact retold))
    else (if bytes_eq name (codes "same") then (retold_given rows >>= λ retold. Ok (Compare retold))
    else (limits_given rows >>= λ limits. Ok (Script limits)))))

-- and where none is named a script within the standard limits
abbrev pub task_given : Option (Text × List Row) → Meaning Task
task_given named = option_map_or task_of named (Ok (Script STANDARD))

-- the task that the program's words ask for
abbrev pub task_asked : List Text → Meaning Task
task_asked words = task_given (subcommand_of app_of_program words)
