-- An answer whose parts are small has a spelling.
use Rattle.std.proofs.Common.{◌≡◌, ℕ, ◌+◌, ◌*◌, ◌≤◌, ◌^◌, true, nat_lt, List, [], ◌∷◌, ◌++◌, length, Option, Some, None, refl, sym, ap, ◌∙◌, arith}
use Rattle.std.specs.Int.{w16, w64, to_be_bytes}
use Rattle.std.proofs.lemmas.Bool.{lt-ltb}
use Rattle.std.proofs.lemmas.List.{length-append}
use Rattle.ipc_terms.specs.declared.call.Answer.{Answer}
use Rattle.ipc_terms.specs.declared.call.Answer.TheVariants as answer
use Rattle.ipc_terms.specs.declared.line.Line.{Line}
use Rattle.ipc_terms.specs.Lists.{Each}
use Rattle.ipc_terms.specs.Ops.{answer_number, answer_op}
use Rattle.ipc_terms.specs.Sizes.{IsSmall}
use Rattle.ipc_fields.specs.Field.{◌⊕◌, Field, u32, text, boolean, counted, all_spelled}
use Rattle.ipc_fields.specs.Frame.{frame, framed}
use Rattle.ipc_fields.proofs.FramingLemmas.{framed_is}
use Rattle.ipc_fields.specs.Terms.{attributes_field}
use Rattle.ipc_wire.specs.Answers.{answer_with, answer_fields, answer_body, facts_field, rule_field, line_field}
use Rattle.ipc_wire.specs.Streams.{spell_answer}

-- there is a text, of so many bytes at most
record IsWithin (n : ℕ) (t : Option (List ℕ)) : Type 0 where
  pub bytes : List ℕ
  pub is : t ≡ Some bytes
  pub within : length bytes ≤ n

joined : (n m : ℕ) (s t : Option (List ℕ)) → IsWithin n s → IsWithin m t → IsWithin (n + m) (s ⊕ t)
joined n m s t a b = record {
  bytes = a.bytes ++ b.bytes;
  is = ap (λ x. x ⊕ t) a.is ∙ ap (λ x. (Some a.bytes) ⊕ x) b.is;
  within = let p = length-append a.bytes b.bytes in let k = a.within in let j = b.within in omega arith;
}

known : (n : ℕ) (w : List ℕ) → length w ≤ n → IsWithin n (Some w)
known n w le = record { bytes = w; is = refl; within = le }

more : (n m : ℕ) (t : Option (List ℕ)) → n ≤ m → IsWithin n t → IsWithin m t
more n m t le h = record { bytes = h.bytes; is = h.is; within = let k = h.within in omega arith }

text_within : (t : List ℕ) → length t ≤ 256 → IsWithin 258 (text.spell t)
unfolding text
text_within t le =
    let small : nat_lt (length t) (2 ^ 16) ≡ true = lt-ltb _ _ (omega arith) in
    rw small (known 258 (to_be_bytes w16 (length t) ++ t) (let k = length-append (to_be_bytes w16 (length t)) t in omega arith))

all_within : {A : Type 0} (f : Field A) (n : ℕ) (xs : List A) → Each (λ x. IsWithin n (f.spell x)) xs → IsWithin (length xs * n) (all_spelled f xs)
all_within f n [] h = known (0 * n) [] (omega arith)
all_within f n (x ∷ xs) h = more (n + length xs * n) (length (x ∷ xs) * n) (f.spell x ⊕ all_spelled f xs) (grind arith) (joined n (length xs * n) (f.spell x) (all_spelled f xs) h.0 (all_within f n xs h.1))

counted_within : {A : Type 0} (f : Field A) (n : ℕ) (xs : List A) → length xs ≤ 1000 → Each (λ x. IsWithin n (f.spell x)) xs → IsWithin (2 + length xs * n) ((counted f).spell xs)
unfolding counted
counted_within f n xs le h =
    let small : nat_lt (length xs) (2 ^ 16) ≡ true = lt-ltb _ _ (omega arith) in
    rw small (joined 2 (length xs * n) (Some (to_be_bytes w16 (length xs))) (all_spelled f xs) (known 2 (to_be_bytes w16 (length xs)) (omega arith)) (all_within f n xs h))

line_within : (line : Line) → length line.name ≤ 256 → IsWithin 277 (line_field.spell line)
unfolding line_field
line_within line le =
    let place : List ℕ = to_be_bytes w64 line.place in
    let sid : List ℕ = to_be_bytes w64 line.sid.0 in
    let op : List ℕ = line.op ∷ [] in
    let rule : List ℕ = to_be_bytes w16 line.rule in
    joined 8 269 (Some place) ((Some sid) ⊕ ((Some op) ⊕ ((Some rule) ⊕ text.spell line.name))) (known 8 place (omega arith))
    (joined 8 261 (Some sid) ((Some op) ⊕ ((Some rule) ⊕ text.spell line.name)) (known 8 sid (omega arith))
    (joined 1 260 (Some op) ((Some rule) ⊕ text.spell line.name) (known 1 op (omega arith))
    (joined 2 258 (Some rule) (text.spell line.name) (known 2 rule (omega arith)) (text_within line.name le))))

each_with : {A : Type 0} (P Q : A → Type 0) (xs : List A) → ((x : A) → P x → Q x) → Each P xs → Each Q xs
each_with P Q [] f h = tt
each_with P Q (x ∷ xs) f h = (f x h.0, each_with P Q xs f h.1)

has_frame : (t : Option (List ℕ)) → IsWithin 16777300 t → (text : List ℕ) × (framed t ≡ Some text)
has_frame t h = (frame h.bytes, ap framed h.is ∙ framed_is h.bytes h.within)

names_within : (names : List (List ℕ)) → length names ≤ 1000 → Each (λ name. length name ≤ 256) names → IsWithin 300000 ((counted text).spell names)
names_within names le h = more (2 + length names * 258) 300000 ((counted text).spell names) (omega arith) (counted_within text 258 names le (each_with (λ name. length name ≤ 256) (λ name. IsWithin 258 (text.spell name)) names text_within h))

lines_within : (lines : List Line) → length lines ≤ 1000 → Each (λ line. length line.name ≤ 256) lines → IsWithin 300000 ((counted line_field).spell lines)
lines_within lines le h = more (2 + length lines * 277) 300000 ((counted line_field).spell lines) (omega arith) (counted_within line_field 277 lines le (each_with (λ line. length line.name ≤ 256) (λ line. IsWithin 277 (line_field.spell line)) lines line_within h))

fields_within : (most : ℕ) (a : Answer) → most ≤ 16777216 → IsSmall most a → IsWithin 16777299 (answer_fields a)
unfolding answer_with facts_field rule_field boolean attributes_field
fields_within most (answer.Started sid) le small = known _ _ (omega arith)
fields_within most answer.Done le small = known _ _ (omega arith)
fields_within most (answer.Opened desc) le small = known _ _ (omega arith)
fields_within most (answer.Mask mask) le small = known _ _ (omega arith)
fields_within most (answer.Attrs nonblock attributes messages) le small = known _ _ (omega arith)
fields_within most answer.Sent le small = known _ _ (omega arith)
fields_within most (answer.Received priority bytes) le small = joined 4 16777295 (u32.spell priority) (Some bytes) (known 4 _ (omega arith)) (known 16777295 bytes (omega (arith, le, small)))
fields_within most (answer.Value value) le small = known _ _ (omega arith)
fields_within most (answer.Names names) le small = more 300000 16777299 ((counted text).spell names) (omega arith) (names_within names small.0 small.1)
fields_within most (answer.Stat facts) le small = known _ _ (omega arith)
fields_within most (answer.Records lines) le small = more 300000 16777299 ((counted line_field).spell lines) (omega arith) (lines_within lines small.0 small.1)
fields_within most (answer.Refused rule) le small = known _ _ (omega arith)
fields_within most answer.Interrupted le small = known _ _ (omega arith)
fields_within most (answer.Notice desc) le small = known _ _ (omega arith)
fields_within most (answer.Taken desc) le small = known _ _ (omega arith)

pub small_spelled : (most : ℕ) (a : Answer) → most ≤ 16777216 → IsSmall most a → (text : List ℕ) × (spell_answer a ≡ Some text)
unfolding answer_body
small_spelled most a le small =
    let op : List ℕ = answer_number (answer_op a) ∷ [] in
    has_frame ((Some op) ⊕ answer_fields a) (joined 1 16777299 (Some op) (answer_fields a) (known 1 op (omega arith)) (fields_within most a le small))

-- so it is never too long to be put
pub small_not_long : (most : ℕ) (a : Answer) → most ≤ 16777216 → IsSmall most a → spell_answer a ≡ None → ⊥
small_not_long most a le small none = clash (small_spelled most a le small).0 (sym none ∙ (small_spelled most a le small).1) where
  clash : (text : List ℕ) → None ≡ Some text → ⊥
  clash text e = absurd cc
