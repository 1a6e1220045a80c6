-- Frames of answers, one after another.
use Rattle.std.proofs.Common.{◌≡◌, ℕ, List, [], ◌∷◌, true, Option, Err, refl, ap}
use Rattle.ipc_terms.specs.declared.call.Answer.{Answer}
use Rattle.ipc_fields.specs.declared.fault.WireFault.TheVariants.{BadField}
use Rattle.ipc_fields.specs.Field.{◌⊕◌, Field, all_spelled}
use Rattle.ipc_wire.specs.Streams.{spell_answer}
use Rattle.ipc_hub.specs.Hub.{spell_answers}

-- a frame as a field that is only written
abbrev pub frame_field : Field Answer
frame_field = record { spell = spell_answer; is_plain = λ a. true; read = λ w. Err BadField }

pub frames_are : (xs : List Answer) → all_spelled frame_field xs ≡ spell_answers xs
frames_are [] = refl
frames_are (x ∷ xs) = ap (λ (t : Option (List ℕ)). spell_answer x ⊕ t) (frames_are xs)
