-- The table of answers: their opcodes, and the fields of each.
use Rattle.std.specs.Prelude.{ℕ, List, Option, Result, Ok, Bool, true}
use Rattle.ipc_terms.specs.Rules.{every_rule, number_of}
use Rattle.ipc_terms.specs.Ops.{answer_number, answer_of_number, answer_op}
use Rattle.ipc_terms.specs.declared.call.Answer.{Answer}
use Rattle.ipc_terms.specs.declared.call.Answer.TheVariants as answer
use Rattle.ipc_terms.specs.declared.facts.Facts.{Facts}
use Rattle.ipc_terms.specs.declared.line.Line.{Line}
use Rattle.ipc_terms.specs.declared.ids.Sid.{Sid}
use Rattle.ipc_terms.specs.declared.ids.Uid.{Uid}
use Rattle.ipc_terms.specs.declared.ids.Gid.{Gid}
use Rattle.ipc_terms.specs.declared.ids.Mode.{Mode}
use Rattle.ipc_terms.specs.declared.rule.Rule.{Rule}
use Rattle.ipc_fields.specs.declared.fault.WireFault.{WireFault}
use Rattle.ipc_fields.specs.Field.{◌>>=◌, Field, Body, byte, u16, u32, u64, text, boolean, counted, coded, seen, ◌⊗◌, nothing, only, then_rest}
use Rattle.ipc_fields.specs.Format.{Format, among, body_text, body_read}
use Rattle.ipc_terms.specs.declared.op.AnswerOp.{AnswerOp}
use Rattle.ipc_terms.specs.declared.op.AnswerOp.TheVariants as op
use Rattle.ipc_fields.specs.Terms.{sid_field, desc_field, uid_field, gid_field, mode_field, attributes_field}

abbrev pub facts_of : Uid × (Gid × Mode) → Facts
facts_of x = record { owner = x.0; group = x.1.0; mode = x.1.1 }

abbrev pub facts_parts : Facts → Uid × (Gid × Mode)
facts_parts f = (f.owner, (f.group, f.mode))

unfoldable pub facts_field : Field Facts
facts_field = seen facts_of facts_parts (uid_field ⊗ gid_field ⊗ mode_field)

abbrev pub line_of : ℕ × (Sid × (ℕ × (ℕ × List ℕ))) → Line
line_of x = record { place = x.0; sid = x.1.0; op = x.1.1.0; rule = x.1.1.1.0; name = x.1.1.1.1 }

abbrev pub line_parts : Line → ℕ × (Sid × (ℕ × (ℕ × List ℕ)))
line_parts l = (l.place, (l.sid, (l.op, (l.rule, l.name))))

unfoldable pub line_field : Field Line
line_field = seen line_of line_parts (u64 ⊗ sid_field ⊗ byte ⊗ u16 ⊗ text)

-- the rule of this number, if there is one
unfoldable pub rule_of : ℕ → Option Rule
rule_of n = among number_of every_rule n

unfoldable pub rule_field : Field Rule
rule_field = coded number_of (λ r. true) rule_of u16

-- each answer's fields and their values
unfoldable pub answer_with : {R : Type 0} → ((A : Type 0) → Body A → A → R) → Answer → R
answer_with k (answer.Started sid) = k _ (only sid_field) sid
answer_with k answer.Done = k _ nothing tt
answer_with k (answer.Opened desc) = k _ (only desc_field) desc
answer_with k (answer.Mask mask) = k _ (only mode_field) mask
answer_with k (answer.Attrs nonblock attributes messages) = k _ (only (boolean ⊗ attributes_field ⊗ u32)) (nonblock, (attributes, messages))
answer_with k answer.Sent = k _ nothing tt
answer_with k (answer.Received priority bytes) = k _ (then_rest u32) (priority, bytes)
answer_with k (answer.Value value) = k _ (only u32) value
answer_with k (answer.Names names) = k _ (only (counted text)) names
answer_with k (answer.Stat facts) = k _ (only facts_field) facts
answer_with k (answer.Records lines) = k _ (only (counted line_field)) lines
answer_with k (answer.Refused rule) = k _ (only rule_field) rule
answer_with k answer.Interrupted = k _ nothing tt
answer_with k (answer.Notice desc) = k _ (only desc_field) desc
answer_with k (answer.Taken desc) = k _ (only desc_field) desc

-- what is spelled behind the opcode
abbrev pub answer_fields : Answer → Option (List ℕ)
answer_fields a = answer_with (λ A b x. b.spell x) a

-- each number is within its type
abbrev pub answer_fits : Answer → Bool
answer_fits a = answer_with (λ A b x. b.is_plain x) a

-- the answer that stands behind an opcode
unfoldable pub answer_fields_at : AnswerOp → List ℕ → Result Answer WireFault
answer_fields_at op.Started w = (only sid_field).read w >>= λ sid. Ok (answer.Started sid)
answer_fields_at op.Done w = nothing.read w >>= λ u. Ok answer.Done
answer_fields_at op.Opened w = (only desc_field).read w >>= λ desc. Ok (answer.Opened desc)
answer_fields_at op.Mask w = (only mode_field).read w >>= λ mask. Ok (answer.Mask mask)
answer_fields_at op.Attrs w = (only (boolean ⊗ attributes_field ⊗ u32)).read w >>= λ x. Ok (answer.Attrs x.0 x.1.0 x.1.1)
answer_fields_at op.Sent w = nothing.read w >>= λ u. Ok answer.Sent
answer_fields_at op.Received w = (then_rest u32).read w >>= λ x. Ok (answer.Received x.0 x.1)
answer_fields_at op.Value w = (only u32).read w >>= λ value. Ok (answer.Value value)
answer_fields_at op.Names w = (only (counted text)).read w >>= λ names. Ok (answer.Names names)
answer_fields_at op.Stat w = (only facts_field).read w >>= λ facts. Ok (answer.Stat facts)
answer_fields_at op.Records w = (only (counted line_field)).read w >>= λ lines. Ok (answer.Records lines)
answer_fields_at op.Refused w = (only rule_field).read w >>= λ rule. Ok (answer.Refused rule)
answer_fields_at op.Interrupted w = nothing.read w >>= λ u. Ok answer.Interrupted
answer_fields_at op.Notice w = (only desc_field).read w >>= λ desc. Ok (answer.Notice desc)
answer_fields_at op.Taken w = (only desc_field).read w >>= λ desc. Ok (answer.Taken desc)

abbrev pub answers : Format AnswerOp Answer
answers = record { opcode = answer_number; kind = answer_of_number; op_of = answer_op; fields = answer_fields; is_plain = answer_fits; read = answer_fields_at }

-- an opcode and the fields, in order
unfoldable pub answer_body : Answer → Option (List ℕ)
answer_body a = body_text answers a

-- the answer of a whole body
unfoldable pub answer_at : List ℕ → Result Answer WireFault
answer_at w = body_read answers (λ o. true) w
