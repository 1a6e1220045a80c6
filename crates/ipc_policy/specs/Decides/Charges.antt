-- How many queues are alive, how many bytes they take of their creators, and how many a user's queues may take.
use Rattle.std.specs.Prelude.{Bool, ℕ, ◌&&◌, ◌==◌, Option, Some, None, is_some, if◌then◌else◌, unwrap_or}
use Rattle.std.specs.Option.{option_map}
use Rattle.ipc_terms.specs.Objects.{as_queue, queue_bytes}
use Rattle.ipc_terms.specs.declared.ids.Uid.{Uid}
use Rattle.ipc_terms.specs.declared.call.Attributes.{Attributes}
use Rattle.ipc_terms.specs.declared.call.Call.TheVariants.{SetLimit}
use Rattle.ipc_terms.specs.declared.object.Object.{Object}
use Rattle.ipc_terms.specs.declared.record.Event.{Event}
use Rattle.ipc_terms.specs.declared.record.Event.TheVariants.{Do}
use Rattle.ipc_access.specs.Users.{cred_of}
use Rattle.ipc_policy.specs.declared.config.Config.{Config}
use Rattle.ipc_policy.specs.Decides.History.{History, newest, how_many_below, sum_below, is_some_and}
use Rattle.ipc_policy.specs.Decides.Names.{creations}
use Rattle.ipc_policy.specs.Decides.Objects.{object}
use Rattle.ipc_policy.specs.Decides.Life.{alive}

-- what a queue of these attributes takes
unfoldable pub bytes_of : Attributes → ℕ
bytes_of attributes = queue_bytes attributes.maxmsg attributes.msgsize

-- the object is a queue, and it is alive
abbrev pub is_queue_alive : Bool → Option Object → Bool
is_queue_alive alive made = alive && is_some (as_queue made)

-- user u created the object
abbrev pub is_created_by : Uid → Option Object → Bool
is_created_by u made = is_some_and (λ x. x.creator.0 == u.0) made

-- what an object takes of the bytes of user u: the bytes of a queue that is alive, where u created it
abbrev pub charge : Uid → Bool → Option Object → ℕ
charge u alive made = if alive && is_created_by u made then unwrap_or (option_map bytes_of (as_queue made)) 0 else 0

-- what object o takes of the bytes of user u; a chown leaves it with the creator
unfoldable pub charge_of : Config → History → Uid → ℕ → ℕ
charge_of c h u o = charge u (alive h o) (object c h o)

-- how many bytes the queues of user u take in all
unfoldable pub charged : Config → History → Uid → ℕ
charged c h u = sum_below (charge_of c h u) (creations h)

-- how many queues are alive
unfoldable pub queues_alive : Config → History → ℕ
queues_alive c h = how_many_below (λ o. is_queue_alive (alive h o) (object c h o)) (creations h)

-- a SetLimit sets the limit of its user
abbrev pub sets_limit : Uid → Event → History → Option ℕ
sets_limit u (Do sid (SetLimit uid bytes)) before = if uid.0 == u.0 then Some bytes else None
sets_limit u _ before = None

-- how many bytes the queues of user u may take in all: what was set last, else what the user file says of the user
unfoldable pub limit : Config → History → Uid → Option ℕ
limit c h u = option_map (λ who. unwrap_or (newest (sets_limit u) h) who.limit) (cred_of c.users u)
