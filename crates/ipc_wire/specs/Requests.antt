-- The table of requests: their opcodes, and the fields of each.
use Rattle.std.specs.Prelude.{ℕ, ◌==◌, List, Option, Some, option_map, if◌then◌else◌, Result, Ok, Bool, true, false}
use Rattle.ipc_terms.specs.declared.flags.OpenFlags.{OpenFlags}
use Rattle.ipc_terms.specs.declared.ids.Mode.{Mode}
use Rattle.ipc_terms.specs.declared.call.Access.{Access}
use Rattle.ipc_terms.specs.declared.call.Attributes.{Attributes}
use Rattle.ipc_terms.specs.declared.call.QueueOpen.{QueueOpen}
use Rattle.ipc_terms.specs.declared.call.SemaphoreOpen.{SemaphoreOpen}
use Rattle.ipc_terms.specs.declared.call.Call.TheVariants as call
use Rattle.ipc_terms.specs.declared.op.CallOp.TheVariants as asks
use Rattle.ipc_terms.specs.Ops.{hello_number, call_number, call_of_number, call_op}
use Rattle.ipc_fields.specs.declared.fault.WireFault.{WireFault}
use Rattle.ipc_fields.specs.Field.{◌>>=◌, Field, Body, u16, u32, u64, text, boolean, optional, ◌⊗◌, seen, nothing, only, then_rest}
use Rattle.ipc_fields.specs.Format.{Format, allowed, body_text, body_read}
use Rattle.ipc_wire.specs.declared.request.Request.{Request}
use Rattle.ipc_wire.specs.declared.request.Request.TheVariants as request
use Rattle.ipc_wire.specs.declared.opcodes.RequestOp.{RequestOp}
use Rattle.ipc_wire.specs.declared.opcodes.RequestOp.TheVariants as op
use Rattle.ipc_fields.specs.Terms.{sid_field, desc_field, uid_field, gid_field, mode_field, access_field, family_field, masked, flags_field, attributes_field, target_field}

-- the flags that mean something to an open of a queue, and to one of a semaphore
abbrev pub queue_flags : ℕ
queue_flags = 7

abbrev pub semaphore_flags : ℕ
semaphore_flags = 3

abbrev pub queue_open_of : List ℕ × (Access × (OpenFlags × (Mode × Option Attributes))) → QueueOpen
queue_open_of x = record { name = x.0; access = x.1.0; flags = x.1.1.0; mode = x.1.1.1.0; attributes = x.1.1.1.1 }

abbrev pub queue_open_parts : QueueOpen → List ℕ × (Access × (OpenFlags × (Mode × Option Attributes)))
queue_open_parts o = (o.name, (o.access, (o.flags, (o.mode, o.attributes))))

unfoldable pub queue_open_field : Field QueueOpen
queue_open_field = seen queue_open_of queue_open_parts (text ⊗ access_field ⊗ flags_field queue_flags ⊗ mode_field ⊗ optional attributes_field)

abbrev pub semaphore_open_of : List ℕ × (OpenFlags × (Mode × ℕ)) → SemaphoreOpen
semaphore_open_of x = record { name = x.0; flags = x.1.0; mode = x.1.1.0; value = x.1.1.1 }

abbrev pub semaphore_open_parts : SemaphoreOpen → List ℕ × (OpenFlags × (Mode × ℕ))
semaphore_open_parts o = (o.name, (o.flags, (o.mode, o.value)))

unfoldable pub semaphore_open_field : Field SemaphoreOpen
semaphore_open_field = seen semaphore_open_of semaphore_open_parts (text ⊗ flags_field semaphore_flags ⊗ mode_field ⊗ u32)

-- the opcode of each request: the number of a hello, or of the call
abbrev pub request_opcode : RequestOp → ℕ
request_opcode op.Hello = hello_number
request_opcode (op.Call asked) = call_number asked

-- the request whose opcode is this byte
unfoldable pub request_op : ℕ → Option RequestOp
request_op b = if b == hello_number then Some op.Hello else option_map op.Call (call_of_number b)

abbrev pub op_of_request : Request → RequestOp
op_of_request (request.Hello key) = op.Hello
op_of_request (request.Do asked) = op.Call (call_op asked)

-- each request's fields and their values
unfoldable pub request_with : {R : Type 0} → ((A : Type 0) → Body A → A → R) → Request → R
request_with k (request.Hello key) = k _ (only text) key
request_with k (request.Do (call.Umask mask)) = k _ (only mode_field) mask
request_with k (request.Do (call.MqOpen asked)) = k _ (only queue_open_field) asked
request_with k (request.Do (call.MqClose desc)) = k _ (only desc_field) desc
request_with k (request.Do (call.MqUnlink name)) = k _ (only text) name
request_with k (request.Do (call.MqSend desc priority bytes)) = k _ (then_rest (desc_field ⊗ u32)) ((desc, priority), bytes)
request_with k (request.Do (call.MqReceive desc size)) = k _ (only (desc_field ⊗ u32)) (desc, size)
request_with k (request.Do (call.MqGetattr desc)) = k _ (only desc_field) desc
request_with k (request.Do (call.MqSetattr desc nonblock)) = k _ (only (desc_field ⊗ boolean)) (desc, nonblock)
request_with k (request.Do (call.MqNotify desc on)) = k _ (only (desc_field ⊗ boolean)) (desc, on)
request_with k (request.Do (call.MqGive desc taker)) = k _ (only (desc_field ⊗ sid_field)) (desc, taker)
request_with k (request.Do (call.SemOpen asked)) = k _ (only semaphore_open_field) asked
request_with k (request.Do (call.SemClose desc)) = k _ (only desc_field) desc
request_with k (request.Do (call.SemUnlink name)) = k _ (only text) name
request_with k (request.Do (call.SemPost desc)) = k _ (only desc_field) desc
request_with k (request.Do (call.SemWait desc)) = k _ (only desc_field) desc
request_with k (request.Do (call.SemTryWait desc)) = k _ (only desc_field) desc
request_with k (request.Do (call.SemGetvalue desc)) = k _ (only desc_field) desc
request_with k (request.Do (call.ListNames family start count)) = k _ (only (family_field ⊗ u32 ⊗ u16)) (family, (start, count))
request_with k (request.Do (call.StatName target)) = k _ (only target_field) target
request_with k (request.Do (call.Chmod mode target)) = k _ (only (mode_field ⊗ target_field)) (mode, target)
request_with k (request.Do (call.Chown owner group target)) = k _ (only (optional uid_field ⊗ optional gid_field ⊗ target_field)) (owner, (group, target))
request_with k (request.Do (call.SetLimit uid bytes)) = k _ (only (uid_field ⊗ u64)) (uid, bytes)
request_with k (request.Do call.Interrupt) = k _ nothing tt
request_with k (request.Do (call.Audit start count)) = k _ (only (u64 ⊗ u16)) (start, count)
request_with k (request.Do (call.MqTimedSend desc priority deadline bytes)) = k _ (then_rest (desc_field ⊗ u32 ⊗ u64)) ((desc, (priority, deadline)), bytes)
request_with k (request.Do (call.MqTimedReceive desc size deadline)) = k _ (only (desc_field ⊗ u32 ⊗ u64)) (desc, (size, deadline))
request_with k (request.Do (call.SemTimedWait desc deadline)) = k _ (only (desc_field ⊗ u64)) (desc, deadline)

-- what is spelled behind the opcode
abbrev pub request_fields : Request → Option (List ℕ)
request_fields q = request_with (λ A b x. b.spell x) q

-- each number is within its type, and no flag is set that means nothing
abbrev pub is_plain : Request → Bool
is_plain q = request_with (λ A b x. b.is_plain x) q

-- the request that stands behind an opcode
unfoldable pub fields_at : RequestOp → List ℕ → Result Request WireFault
fields_at op.Hello w = (only text).read w >>= λ key. Ok (request.Hello key)
fields_at (op.Call asks.Umask) w = (only mode_field).read w >>= λ mask. Ok (request.Do (call.Umask mask))
fields_at (op.Call asks.MqOpen) w = (only queue_open_field).read w >>= λ asked. Ok (request.Do (call.MqOpen asked))
fields_at (op.Call asks.MqClose) w = (only desc_field).read w >>= λ desc. Ok (request.Do (call.MqClose desc))
fields_at (op.Call asks.MqUnlink) w = (only text).read w >>= λ name. Ok (request.Do (call.MqUnlink name))
fields_at (op.Call asks.MqSend) w = (then_rest (desc_field ⊗ u32)).read w >>= λ x. Ok (request.Do (call.MqSend x.0.0 x.0.1 x.1))
fields_at (op.Call asks.MqReceive) w = (only (desc_field ⊗ u32)).read w >>= λ x. Ok (request.Do (call.MqReceive x.0 x.1))
fields_at (op.Call asks.MqGetattr) w = (only desc_field).read w >>= λ desc. Ok (request.Do (call.MqGetattr desc))
fields_at (op.Call asks.MqSetattr) w = (only (desc_field ⊗ boolean)).read w >>= λ x. Ok (request.Do (call.MqSetattr x.0 x.1))
fields_at (op.Call asks.MqNotify) w = (only (desc_field ⊗ boolean)).read w >>= λ x. Ok (request.Do (call.MqNotify x.0 x.1))
fields_at (op.Call asks.MqGive) w = (only (desc_field ⊗ sid_field)).read w >>= λ x. Ok (request.Do (call.MqGive x.0 x.1))
fields_at (op.Call asks.SemOpen) w = (only semaphore_open_field).read w >>= λ asked. Ok (request.Do (call.SemOpen asked))
fields_at (op.Call asks.SemClose) w = (only desc_field).read w >>= λ desc. Ok (request.Do (call.SemClose desc))
fields_at (op.Call asks.SemUnlink) w = (only text).read w >>= λ name. Ok (request.Do (call.SemUnlink name))
fields_at (op.Call asks.SemPost) w = (only desc_field).read w >>= λ desc. Ok (request.Do (call.SemPost desc))
fields_at (op.Call asks.SemWait) w = (only desc_field).read w >>= λ desc. Ok (request.Do (call.SemWait desc))
fields_at (op.Call asks.SemTryWait) w = (only desc_field).read w >>= λ desc. Ok (request.Do (call.SemTryWait desc))
fields_at (op.Call asks.SemGetvalue) w = (only desc_field).read w >>= λ desc. Ok (request.Do (call.SemGetvalue desc))
fields_at (op.Call asks.ListNames) w = (only (family_field ⊗ u32 ⊗ u16)).read w >>= λ x. Ok (request.Do (call.ListNames x.0 x.1.0 x.1.1))
fields_at (op.Call asks.StatName) w = (only target_field).read w >>= λ target. Ok (request.Do (call.StatName target))
fields_at (op.Call asks.Chmod) w = (only (mode_field ⊗ target_field)).read w >>= λ x. Ok (request.Do (call.Chmod x.0 x.1))
fields_at (op.Call asks.Chown) w = (only (optional uid_field ⊗ optional gid_field ⊗ target_field)).read w >>= λ x. Ok (request.Do (call.Chown x.0 x.1.0 x.1.1))
fields_at (op.Call asks.SetLimit) w = (only (uid_field ⊗ u64)).read w >>= λ x. Ok (request.Do (call.SetLimit x.0 x.1))
fields_at (op.Call asks.Interrupt) w = nothing.read w >>= λ u. Ok (request.Do call.Interrupt)
fields_at (op.Call asks.Audit) w = (only (u64 ⊗ u16)).read w >>= λ x. Ok (request.Do (call.Audit x.0 x.1))
fields_at (op.Call asks.MqTimedSend) w = (then_rest (desc_field ⊗ u32 ⊗ u64)).read w >>= λ x. Ok (request.Do (call.MqTimedSend x.0.0 x.0.1.0 x.0.1.1 x.1))
fields_at (op.Call asks.MqTimedReceive) w = (only (desc_field ⊗ u32 ⊗ u64)).read w >>= λ x. Ok (request.Do (call.MqTimedReceive x.0 x.1.0 x.1.1))
fields_at (op.Call asks.SemTimedWait) w = (only (desc_field ⊗ u64)).read w >>= λ x. Ok (request.Do (call.SemTimedWait x.0 x.1))

abbrev pub requests : Format RequestOp Request
requests = record { opcode = request_opcode; kind = request_op; op_of = op_of_request; fields = request_fields; is_plain = is_plain; read = fields_at }

-- an opcode and the fields, in order
unfoldable pub request_body : Request → Option (List ℕ)
request_body q = body_text requests q

-- the request without the flags that mean nothing to it
unfoldable pub plain : Request → Request
plain (request.Do (call.MqOpen o)) = request.Do (call.MqOpen (record { name = o.name; access = o.access; flags = masked queue_flags o.flags; mode = o.mode; attributes = o.attributes }))
plain (request.Do (call.SemOpen o)) = request.Do (call.SemOpen (record { name = o.name; flags = masked semaphore_flags o.flags; mode = o.mode; value = o.value }))
plain q = q

-- each number is within its type
abbrev pub fits : Request → Bool
fits q = is_plain (plain q)

abbrev pub is_hello : RequestOp → Bool
is_hello op.Hello = true
is_hello _ = false

abbrev pub is_hello_request : Request → Bool
is_hello_request q = is_hello (op_of_request q)

abbrev pub same : Bool → Bool → Bool
same true b = b
same false true = false
same false false = true

-- the first frame is a hello, and no other is
abbrev pub may_stand : Bool → RequestOp → Bool
may_stand first o = same (is_hello o) first

abbrev pub opcode_at : Bool → ℕ → Result RequestOp WireFault
opcode_at first b = allowed (may_stand first) (request_op b)

-- the request of a whole body
unfoldable pub request_at : Bool → List ℕ → Result Request WireFault
request_at first w = body_read requests (may_stand first) w
