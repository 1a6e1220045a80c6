-- Formats of messages: an opcode, and the fields that it has.
use Rattle.std.specs.Prelude.{ℕ, List, [], ◌∷◌, Option, Some, None, Result, Ok, Err, Bool, ◌==◌, find, if◌then◌else◌}
use Rattle.ipc_fields.specs.declared.fault.WireFault.{WireFault}
use Rattle.ipc_fields.specs.declared.fault.WireFault.TheVariants.{BadOpcode, Empty}
use Rattle.ipc_fields.specs.Field.{◌>>=◌, ◌⊕◌}

-- opcode: the byte of each kind of message. kind: the kind that a byte is the opcode of. fields: what is spelled behind it, or none where a length is
-- too great. is_plain: each field is within its type and has no bit that means nothing.
pub record Format (O M : Type 0) : Type 0 where
  pub opcode : O → ℕ
  pub kind : ℕ → Option O
  pub op_of : M → O
  pub fields : M → Option (List ℕ)
  pub is_plain : M → Bool
  pub read : O → List ℕ → Result M WireFault

-- the one with this number
abbrev pub among : {O : Type 0} → (O → ℕ) → List O → ℕ → Option O
among number os n = find (λ o. number o == n) os

abbrev pub allowed : {O : Type 0} → (O → Bool) → Option O → Result O WireFault
allowed may_stand None = Err BadOpcode
allowed may_stand (Some o) = if may_stand o then Ok o else Err BadOpcode

abbrev pub body_text : {O M : Type 0} → Format O M → M → Option (List ℕ)
body_text f m = Some (f.opcode (f.op_of m) ∷ []) ⊕ f.fields m

-- the message of a whole body, where these opcodes may stand
abbrev pub body_read : {O M : Type 0} → Format O M → (O → Bool) → List ℕ → Result M WireFault
body_read f may_stand [] = Err Empty
body_read f may_stand (b ∷ w) = allowed may_stand (f.kind b) >>= λ o. f.read o w
