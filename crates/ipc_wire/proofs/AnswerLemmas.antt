-- What each answer's body was read from spells it, and what spells it is read again.
use Rattle.std.proofs.Common.{◌≡◌, ℕ, true, ltb, List, ◌++◌, Some, Ok, refl}
use Rattle.ipc_terms.specs.Rules.{every_rule, number_of}
use Rattle.ipc_terms.specs.Ops.{answer_number, every_answer, answer_of_number, answer_op}
use Rattle.ipc_terms.specs.declared.rule.Rule.{Rule}
use Rattle.ipc_terms.specs.declared.rule.Rule.TheVariants as rule
use Rattle.ipc_terms.specs.declared.call.Answer.{Answer}
use Rattle.ipc_terms.specs.declared.call.Answer.TheVariants as answer
use Rattle.ipc_fields.specs.Field.{byte, u16, u32, u64, text, boolean, counted, ◌⊗◌, nothing, only, then_rest}
use Rattle.ipc_fields.proofs.FieldLemmas.{IsBytes, IsExact, IsExactBody, byte_exact, u16_exact, u32_exact, u64_exact, text_exact, boolean_exact, coded_exact, pair_exact, seen_exact, counted_exact, only_exact, rest_exact, nothing_exact}
use Rattle.ipc_fields.proofs.FormatLemmas.{IsTaken, IsExactFormat, among_is, takes_by, again_by, front_takes, front_again, one_message}
use Rattle.ipc_terms.specs.declared.op.AnswerOp.{AnswerOp}
use Rattle.ipc_terms.specs.declared.op.AnswerOp.TheVariants as op
use Rattle.ipc_fields.specs.Terms.{sid_field, desc_field, uid_field, gid_field, mode_field, attributes_field}
use Rattle.ipc_wire.specs.Answers.{facts_of, facts_parts, facts_field, line_of, line_parts, line_field, rule_of, rule_field, answer_with, answer_fields, answer_fits, answer_fields_at, answers, answer_body, answer_at}
use Rattle.ipc_wire.specs.Streams.{spell_answer, answer_front, IsAnswerSpelledBy}
use Rattle.ipc_fields.proofs.TermLemmas.{sid_exact, desc_exact, uid_exact, gid_exact, mode_exact, attributes_exact}

facts_exact : IsExact facts_field
unfolding facts_field
facts_exact = seen_exact facts_of facts_parts (uid_field ⊗ gid_field ⊗ mode_field) (λ x. refl) (λ f. refl) (pair_exact uid_field _ uid_exact (pair_exact gid_field _ gid_exact mode_exact))

line_exact : IsExact line_field
unfolding line_field
line_exact = seen_exact line_of line_parts (u64 ⊗ sid_field ⊗ byte ⊗ u16 ⊗ text) (λ x. refl) (λ l. refl) (pair_exact u64 _ u64_exact (pair_exact sid_field _ sid_exact (pair_exact byte _ byte_exact (pair_exact u16 _ u16_exact text_exact))))

rule_back : (n : ℕ) (r : Rule) → ltb n 65536 ≡ true → rule_of n ≡ Some r → (number_of r ≡ n) × (true ≡ true)
unfolding rule_of
rule_back n r lt e = (among_is number_of every_rule n r e, refl)

rule_again : (r : Rule) → true ≡ true → (rule_of (number_of r) ≡ Some r) × (ltb (number_of r) 65536 ≡ true)
unfolding rule_of
rule_again rule.NoSession p = (refl, refl)
rule_again rule.InCall p = (refl, refl)
rule_again rule.NotInCall p = (refl, refl)
rule_again rule.NameForm p = (refl, refl)
rule_again rule.NameLong p = (refl, refl)
rule_again rule.NotAdmin p = (refl, refl)
rule_again rule.NoUser p = (refl, refl)
rule_again rule.BadDescr p = (refl, refl)
rule_again rule.NotForWrite p = (refl, refl)
rule_again rule.NotForRead p = (refl, refl)
rule_again rule.DirSearch p = (refl, refl)
rule_again rule.DirRead p = (refl, refl)
rule_again rule.Absent p = (refl, refl)
rule_again rule.Present p = (refl, refl)
rule_again rule.ModeDenied p = (refl, refl)
rule_again rule.DirWrite p = (refl, refl)
rule_again rule.Sticky p = (refl, refl)
rule_again rule.NotOwner p = (refl, refl)
rule_again rule.ChownDenied p = (refl, refl)
rule_again rule.AttrRange p = (refl, refl)
rule_again rule.ValueRange p = (refl, refl)
rule_again rule.QueueCount p = (refl, refl)
rule_again rule.ByteLimit p = (refl, refl)
rule_again rule.DescrLimit p = (refl, refl)
rule_again rule.PrioRange p = (refl, refl)
rule_again rule.MessageLong p = (refl, refl)
rule_again rule.BufferShort p = (refl, refl)
rule_again rule.NotifyTaken p = (refl, refl)
rule_again rule.WouldBlock p = (refl, refl)
rule_again rule.Overflow p = (refl, refl)
rule_again rule.BadKey p = (refl, refl)
rule_again rule.TimedOut p = (refl, refl)
rule_again rule.NoTaker p = (refl, refl)

rule_exact : IsExact rule_field
unfolding rule_field
rule_exact = coded_exact number_of (λ r. true) rule_of u16 (record { back = rule_back; again = rule_again }) u16_exact

-- ---- the fields of each answer

started_body : IsExactBody (only sid_field)
started_body = only_exact sid_field sid_exact

opened_body : IsExactBody (only desc_field)
opened_body = only_exact desc_field desc_exact

mask_body : IsExactBody (only mode_field)
mask_body = only_exact mode_field mode_exact

attrs_body : IsExactBody (only (boolean ⊗ attributes_field ⊗ u32))
attrs_body = only_exact _ (pair_exact boolean _ boolean_exact (pair_exact attributes_field _ attributes_exact u32_exact))

received_body : IsExactBody (then_rest u32)
received_body = rest_exact u32 u32_exact

value_body : IsExactBody (only u32)
value_body = only_exact u32 u32_exact

names_body : IsExactBody (only (counted text))
names_body = only_exact _ (counted_exact text text_exact)

stat_body : IsExactBody (only facts_field)
stat_body = only_exact facts_field facts_exact

records_body : IsExactBody (only (counted line_field))
records_body = only_exact _ (counted_exact line_field line_exact)

refused_body : IsExactBody (only rule_field)
refused_body = only_exact rule_field rule_exact

-- ---- answers

fields_take : (o : AnswerOp) (w : List ℕ) (a : Answer) → IsBytes w → answer_fields_at o w ≡ Ok a → IsTaken answers o w a
unfolding answer_fields_at answer_with
fields_take op.Started = takes_by answers op.Started (only sid_field) started_body (λ sid. answer.Started sid) (λ x. refl) (λ x. refl) (λ x. refl)
fields_take op.Done = takes_by answers op.Done nothing nothing_exact (λ u. answer.Done) (λ x. refl) (λ x. refl) (λ x. refl)
fields_take op.Opened = takes_by answers op.Opened (only desc_field) opened_body (λ desc. answer.Opened desc) (λ x. refl) (λ x. refl) (λ x. refl)
fields_take op.Mask = takes_by answers op.Mask (only mode_field) mask_body (λ mask. answer.Mask mask) (λ x. refl) (λ x. refl) (λ x. refl)
fields_take op.Attrs = takes_by answers op.Attrs (only (boolean ⊗ attributes_field ⊗ u32)) attrs_body (λ x. answer.Attrs x.0 x.1.0 x.1.1) (λ x. refl) (λ x. refl) (λ x. refl)
fields_take op.Sent = takes_by answers op.Sent nothing nothing_exact (λ u. answer.Sent) (λ x. refl) (λ x. refl) (λ x. refl)
fields_take op.Received = takes_by answers op.Received (then_rest u32) received_body (λ x. answer.Received x.0 x.1) (λ x. refl) (λ x. refl) (λ x. refl)
fields_take op.Value = takes_by answers op.Value (only u32) value_body (λ value. answer.Value value) (λ x. refl) (λ x. refl) (λ x. refl)
fields_take op.Names = takes_by answers op.Names (only (counted text)) names_body (λ names. answer.Names names) (λ x. refl) (λ x. refl) (λ x. refl)
fields_take op.Stat = takes_by answers op.Stat (only facts_field) stat_body (λ facts. answer.Stat facts) (λ x. refl) (λ x. refl) (λ x. refl)
fields_take op.Records = takes_by answers op.Records (only (counted line_field)) records_body (λ lines. answer.Records lines) (λ x. refl) (λ x. refl) (λ x. refl)
fields_take op.Refused = takes_by answers op.Refused (only rule_field) refused_body (λ rule. answer.Refused rule) (λ x. refl) (λ x. refl) (λ x. refl)
fields_take op.Interrupted = takes_by answers op.Interrupted nothing nothing_exact (λ u. answer.Interrupted) (λ x. refl) (λ x. refl) (λ x. refl)
fields_take op.Notice = takes_by answers op.Notice (only desc_field) opened_body (λ desc. answer.Notice desc) (λ x. refl) (λ x. refl) (λ x. refl)
fields_take op.Taken = takes_by answers op.Taken (only desc_field) opened_body (λ desc. answer.Taken desc) (λ x. refl) (λ x. refl) (λ x. refl)

fields_again : (a : Answer) (w : List ℕ) → answer_fits a ≡ true → answer_fields a ≡ Some w → answer_fields_at (answer_op a) w ≡ Ok a
unfolding answer_fields_at answer_with
fields_again (answer.Started sid) = again_by (only sid_field) started_body (λ sid. answer.Started sid) sid
fields_again answer.Done = again_by nothing nothing_exact (λ u. answer.Done) tt
fields_again (answer.Opened desc) = again_by (only desc_field) opened_body (λ desc. answer.Opened desc) desc
fields_again (answer.Mask mask) = again_by (only mode_field) mask_body (λ mask. answer.Mask mask) mask
fields_again (answer.Attrs nonblock attributes messages) = again_by (only (boolean ⊗ attributes_field ⊗ u32)) attrs_body (λ x. answer.Attrs x.0 x.1.0 x.1.1) (nonblock, (attributes, messages))
fields_again answer.Sent = again_by nothing nothing_exact (λ u. answer.Sent) tt
fields_again (answer.Received priority bytes) = again_by (then_rest u32) received_body (λ x. answer.Received x.0 x.1) (priority, bytes)
fields_again (answer.Value value) = again_by (only u32) value_body (λ value. answer.Value value) value
fields_again (answer.Names names) = again_by (only (counted text)) names_body (λ names. answer.Names names) names
fields_again (answer.Stat facts) = again_by (only facts_field) stat_body (λ facts. answer.Stat facts) facts
fields_again (answer.Records lines) = again_by (only (counted line_field)) records_body (λ lines. answer.Records lines) lines
fields_again (answer.Refused rule) = again_by (only rule_field) refused_body (λ rule. answer.Refused rule) rule
fields_again answer.Interrupted = again_by nothing nothing_exact (λ u. answer.Interrupted) tt
fields_again (answer.Notice desc) = again_by (only desc_field) opened_body (λ desc. answer.Notice desc) desc
fields_again (answer.Taken desc) = again_by (only desc_field) opened_body (λ desc. answer.Taken desc) desc

codes : (o : AnswerOp) → answer_of_number (answer_number o) ≡ Some o
unfolding answer_of_number
codes op.Started = refl
codes op.Done = refl
codes op.Opened = refl
codes op.Mask = refl
codes op.Attrs = refl
codes op.Sent = refl
codes op.Received = refl
codes op.Value = refl
codes op.Names = refl
codes op.Stat = refl
codes op.Records = refl
codes op.Refused = refl
codes op.Interrupted = refl
codes op.Notice = refl
codes op.Taken = refl

kinds : (b : ℕ) (o : AnswerOp) → answer_of_number b ≡ Some o → answer_number o ≡ b
unfolding answer_of_number
kinds b o e = among_is answer_number every_answer b o e

answers_exact : IsExactFormat answers
answers_exact = record { takes = fields_take; again = fields_again; codes = codes; kinds = kinds }

pub answer_was_spelled : (w : List ℕ) (a : Answer) (rest : List ℕ) → IsBytes w → answer_front w ≡ Ok (Some (a, rest)) → IsAnswerSpelledBy w a rest
unfolding answer_at answer_body
answer_was_spelled w a rest fits e =
    let i = front_takes answers answers_exact (λ o. true) w a rest fits e in
    record { text = i.text; spelled = i.spelled; parts = i.parts; plain = i.plain }

pub answer_is_read : (a : Answer) (text rest : List ℕ) → answer_fits a ≡ true → spell_answer a ≡ Some text → answer_front (text ++ rest) ≡ Ok (Some (a, rest))
unfolding answer_at answer_body
answer_is_read a text rest plain e = front_again answers answers_exact (λ o. true) a text rest plain refl e

pub one_answer : (a b : Answer) (text : List ℕ) → answer_fits a ≡ true → answer_fits b ≡ true → spell_answer a ≡ Some text → spell_answer b ≡ Some text → a ≡ b
unfolding answer_body
one_answer a b text a_fits b_fits d e = one_message answers answers_exact a b text a_fits b_fits d e
