-- What an object is, by its family.
use Rattle.std.specs.Prelude.{ℕ, ◌+◌, ◌*◌, min, Option, Some, None, option_and_then}
use Rattle.ipc_terms.specs.declared.ids.Family.{Family}
use Rattle.ipc_terms.specs.declared.ids.Family.TheVariants.{Mq, Sem}
use Rattle.ipc_terms.specs.declared.call.Attributes.{Attributes}
use Rattle.ipc_terms.specs.declared.limits.TheConstants.{MQ_PRIO_MAX}
use Rattle.ipc_terms.specs.declared.object.Object.{Object}
use Rattle.ipc_terms.specs.declared.object.Kind.{Kind}
use Rattle.ipc_terms.specs.declared.object.Kind.TheVariants.{Queue, Semaphore}
use Rattle.ipc_terms.specs.declared.object.Asked.{Asked}
use Rattle.ipc_terms.specs.declared.object.Asked.TheVariants.{Queue as AskedQueue, Semaphore as AskedSemaphore}

-- the family of an object
abbrev pub family_of : Kind → Family
family_of (Queue attributes) = Mq
family_of (Semaphore value) = Sem

-- the attributes of a queue
abbrev pub of_queue : Kind → Option Attributes
of_queue (Queue attributes) = Some attributes
of_queue (Semaphore value) = None

-- the first value of a semaphore
abbrev pub of_semaphore : Kind → Option ℕ
of_semaphore (Queue attributes) = None
of_semaphore (Semaphore value) = Some value

-- there is an object, it is a queue, and these are its attributes
abbrev pub as_queue : Option Object → Option Attributes
as_queue found = option_and_then (λ x. of_queue x.kind) found

-- there is an object, it is a semaphore, and this is its first value
abbrev pub as_semaphore : Option Object → Option ℕ
as_semaphore found = option_and_then (λ x. of_semaphore x.kind) found

-- the attributes that an open asks for, if it gives any
abbrev pub attributes_asked : Asked → Option Attributes
attributes_asked (AskedQueue given) = given
attributes_asked (AskedSemaphore value) = None

-- the first value that an open asks for, where it asks for a semaphore
abbrev pub value_asked : Asked → Option ℕ
value_asked (AskedQueue given) = None
value_asked (AskedSemaphore value) = Some value

-- the bytes that a queue of so many messages of so many bytes takes: 48 for each message, 48 for each priority that its
-- messages can have, and the messages' own
abbrev pub queue_bytes : ℕ → ℕ → ℕ
queue_bytes maxmsg msgsize = maxmsg * 48 + min maxmsg MQ_PRIO_MAX * 48 + maxmsg * msgsize
