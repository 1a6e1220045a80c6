-- What each request's body was read from spells it, and what spells it is read again.
use Rattle.std.proofs.Common.{◌≡◌, ℕ, Bool, true, false, cond, eqb, List, [], ◌∷◌, ◌++◌, Option, Some, None, Result, Ok, Err, refl, sym, ap, subst, ◌∙◌, arith}
use Rattle.std.specs.Prelude.{option_map}
use Rattle.std.proofs.lemmas.Bool.{eqb-true}
use Rattle.std.specs.Int.RustNames.{bit_and}
use Rattle.std.proofs.lemmas.Nat.{and_le_r}
use Rattle.std.proofs.lemmas.Grind.{and_numeral}
use Rattle.ipc_terms.specs.Ops.{hello_number, call_number, every_call, call_of_number}
use Rattle.ipc_terms.specs.declared.op.CallOp.{CallOp}
use Rattle.ipc_terms.specs.declared.op.CallOp.TheVariants as asks
use Rattle.ipc_terms.specs.declared.call.Call.TheVariants as call
use Rattle.ipc_fields.specs.declared.fault.WireFault.{WireFault}
use Rattle.ipc_fields.specs.Field.{◌⊕◌, u16, u32, u64, text, boolean, optional, ◌⊗◌, nothing, only, then_rest}
use Rattle.ipc_fields.specs.Frame.{framed}
use Rattle.ipc_fields.proofs.FrontLemmas.{front_err}
use Rattle.ipc_fields.proofs.FormatLemmas.{IsTaken, IsExactFormat, among_is, takes_by, again_by, front_takes, front_again, one_message}
use Rattle.ipc_fields.proofs.FieldLemmas.{IsBytes, some_is, IsExact, IsExactBody, u16_exact, u32_exact, u64_exact, text_exact, boolean_exact, pair_exact, seen_exact, optional_exact, only_exact, rest_exact, nothing_exact}
use Rattle.ipc_wire.specs.declared.request.Request.{Request}
use Rattle.ipc_wire.specs.declared.request.Request.TheVariants as request
use Rattle.ipc_wire.specs.declared.opcodes.RequestOp.{RequestOp}
use Rattle.ipc_wire.specs.declared.opcodes.RequestOp.TheVariants as op
use Rattle.ipc_fields.specs.Terms.{sid_field, desc_field, uid_field, gid_field, mode_field, access_field, family_field, flags_field, attributes_field, target_field}
use Rattle.ipc_wire.specs.Requests.{queue_flags, queue_open_of, queue_open_parts, queue_open_field, semaphore_flags, semaphore_open_of, semaphore_open_parts, semaphore_open_field, request_opcode, request_op, request_with, op_of_request, request_fields, is_plain, fields_at, requests, request_body, plain, fits, is_hello_request, same, may_stand, request_at}
use Rattle.ipc_wire.specs.Streams.{spell, front, IsSpelledBy}
use Rattle.ipc_fields.proofs.TermLemmas.{sid_exact, desc_exact, uid_exact, gid_exact, mode_exact, access_exact, family_exact, flags_exact, attributes_exact, target_exact}

queue_open_exact : IsExact queue_open_field
unfolding queue_open_field
queue_open_exact = seen_exact queue_open_of queue_open_parts (text ⊗ access_field ⊗ flags_field queue_flags ⊗ mode_field ⊗ optional attributes_field) (λ x. refl) (λ o. refl) (pair_exact text _ text_exact (pair_exact access_field _ access_exact (pair_exact (flags_field queue_flags) _ (flags_exact queue_flags) (pair_exact mode_field _ mode_exact (optional_exact attributes_field attributes_exact)))))

semaphore_open_exact : IsExact semaphore_open_field
unfolding semaphore_open_field
semaphore_open_exact = seen_exact semaphore_open_of semaphore_open_parts (text ⊗ flags_field semaphore_flags ⊗ mode_field ⊗ u32) (λ x. refl) (λ o. refl) (pair_exact text _ text_exact (pair_exact (flags_field semaphore_flags) _ (flags_exact semaphore_flags) (pair_exact mode_field _ mode_exact u32_exact)))

-- ---- the fields of each request

hello_body : IsExactBody (only text)
hello_body = only_exact text text_exact

umask_body : IsExactBody (only mode_field)
umask_body = only_exact mode_field mode_exact

mq_open_body : IsExactBody (only queue_open_field)
mq_open_body = only_exact queue_open_field queue_open_exact

mq_close_body : IsExactBody (only desc_field)
mq_close_body = only_exact desc_field desc_exact

mq_send_body : IsExactBody (then_rest (desc_field ⊗ u32))
mq_send_body = rest_exact _ (pair_exact desc_field _ desc_exact u32_exact)

mq_receive_body : IsExactBody (only (desc_field ⊗ u32))
mq_receive_body = only_exact _ (pair_exact desc_field _ desc_exact u32_exact)

mq_setattr_body : IsExactBody (only (desc_field ⊗ boolean))
mq_setattr_body = only_exact _ (pair_exact desc_field _ desc_exact boolean_exact)

sem_open_body : IsExactBody (only semaphore_open_field)
sem_open_body = only_exact semaphore_open_field semaphore_open_exact

mq_give_body : IsExactBody (only (desc_field ⊗ sid_field))
mq_give_body = only_exact _ (pair_exact desc_field _ desc_exact sid_exact)

list_names_body : IsExactBody (only (family_field ⊗ u32 ⊗ u16))
list_names_body = only_exact _ (pair_exact family_field _ family_exact (pair_exact u32 _ u32_exact u16_exact))

stat_name_body : IsExactBody (only target_field)
stat_name_body = only_exact target_field target_exact

chmod_body : IsExactBody (only (mode_field ⊗ target_field))
chmod_body = only_exact _ (pair_exact mode_field _ mode_exact target_exact)

chown_body : IsExactBody (only (optional uid_field ⊗ optional gid_field ⊗ target_field))
chown_body = only_exact _ (pair_exact (optional uid_field) _ (optional_exact uid_field uid_exact) (pair_exact (optional gid_field) _ (optional_exact gid_field gid_exact) target_exact))

set_limit_body : IsExactBody (only (uid_field ⊗ u64))
set_limit_body = only_exact _ (pair_exact uid_field _ uid_exact u64_exact)

audit_body : IsExactBody (only (u64 ⊗ u16))
audit_body = only_exact _ (pair_exact u64 _ u64_exact u16_exact)

mq_timed_exact : IsExact (desc_field ⊗ u32 ⊗ u64)
mq_timed_exact = pair_exact desc_field _ desc_exact (pair_exact u32 _ u32_exact u64_exact)

mq_timed_send_body : IsExactBody (then_rest (desc_field ⊗ u32 ⊗ u64))
mq_timed_send_body = rest_exact _ mq_timed_exact

mq_timed_receive_body : IsExactBody (only (desc_field ⊗ u32 ⊗ u64))
mq_timed_receive_body = only_exact _ mq_timed_exact

sem_timed_wait_body : IsExactBody (only (desc_field ⊗ u64))
sem_timed_wait_body = only_exact _ (pair_exact desc_field _ desc_exact u64_exact)

-- ---- requests

fields_take : (o : RequestOp) (w : List ℕ) (q : Request) → IsBytes w → fields_at o w ≡ Ok q → IsTaken requests o w q
unfolding fields_at request_with
fields_take op.Hello = takes_by requests op.Hello (only text) hello_body (λ key. request.Hello key) (λ x. refl) (λ x. refl) (λ x. refl)
fields_take (op.Call asks.Umask) = takes_by requests (op.Call asks.Umask) (only mode_field) umask_body (λ mask. request.Do (call.Umask mask)) (λ x. refl) (λ x. refl) (λ x. refl)
fields_take (op.Call asks.MqOpen) = takes_by requests (op.Call asks.MqOpen) (only queue_open_field) mq_open_body (λ asked. request.Do (call.MqOpen asked)) (λ x. refl) (λ x. refl) (λ x. refl)
fields_take (op.Call asks.MqClose) = takes_by requests (op.Call asks.MqClose) (only desc_field) mq_close_body (λ desc. request.Do (call.MqClose desc)) (λ x. refl) (λ x. refl) (λ x. refl)
fields_take (op.Call asks.MqUnlink) = takes_by requests (op.Call asks.MqUnlink) (only text) hello_body (λ name. request.Do (call.MqUnlink name)) (λ x. refl) (λ x. refl) (λ x. refl)
fields_take (op.Call asks.MqSend) = takes_by requests (op.Call asks.MqSend) (then_rest (desc_field ⊗ u32)) mq_send_body (λ x. request.Do (call.MqSend x.0.0 x.0.1 x.1)) (λ x. refl) (λ x. refl) (λ x. refl)
fields_take (op.Call asks.MqReceive) = takes_by requests (op.Call asks.MqReceive) (only (desc_field ⊗ u32)) mq_receive_body (λ x. request.Do (call.MqReceive x.0 x.1)) (λ x. refl) (λ x. refl) (λ x. refl)
fields_take (op.Call asks.MqGetattr) = takes_by requests (op.Call asks.MqGetattr) (only desc_field) mq_close_body (λ desc. request.Do (call.MqGetattr desc)) (λ x. refl) (λ x. refl) (λ x. refl)
fields_take (op.Call asks.MqSetattr) = takes_by requests (op.Call asks.MqSetattr) (only (desc_field ⊗ boolean)) mq_setattr_body (λ x. request.Do (call.MqSetattr x.0 x.1)) (λ x. refl) (λ x. refl) (λ x. refl)
fields_take (op.Call asks.MqNotify) = takes_by requests (op.Call asks.MqNotify) (only (desc_field ⊗ boolean)) mq_setattr_body (λ x. request.Do (call.MqNotify x.0 x.1)) (λ x. refl) (λ x. refl) (λ x. refl)
fields_take (op.Call asks.MqGive) = takes_by requests (op.Call asks.MqGive) (only (desc_field ⊗ sid_field)) mq_give_body (λ x. request.Do (call.MqGive x.0 x.1)) (λ x. refl) (λ x. refl) (λ x. refl)
fields_take (op.Call asks.SemOpen) = takes_by requests (op.Call asks.SemOpen) (only semaphore_open_field) sem_open_body (λ asked. request.Do (call.SemOpen asked)) (λ x. refl) (λ x. refl) (λ x. refl)
fields_take (op.Call asks.SemClose) = takes_by requests (op.Call asks.SemClose) (only desc_field) mq_close_body (λ desc. request.Do (call.SemClose desc)) (λ x. refl) (λ x. refl) (λ x. refl)
fields_take (op.Call asks.SemUnlink) = takes_by requests (op.Call asks.SemUnlink) (only text) hello_body (λ name. request.Do (call.SemUnlink name)) (λ x. refl) (λ x. refl) (λ x. refl)
fields_take (op.Call asks.SemPost) = takes_by requests (op.Call asks.SemPost) (only desc_field) mq_close_body (λ desc. request.Do (call.SemPost desc)) (λ x. refl) (λ x. refl) (λ x. refl)
fields_take (op.Call asks.SemWait) = takes_by requests (op.Call asks.SemWait) (only desc_field) mq_close_body (λ desc. request.Do (call.SemWait desc)) (λ x. refl) (λ x. refl) (λ x. refl)
fields_take (op.Call asks.SemTryWait) = takes_by requests (op.Call asks.SemTryWait) (only desc_field) mq_close_body (λ desc. request.Do (call.SemTryWait desc)) (λ x. refl) (λ x. refl) (λ x. refl)
fields_take (op.Call asks.SemGetvalue) = takes_by requests (op.Call asks.SemGetvalue) (only desc_field) mq_close_body (λ desc. request.Do (call.SemGetvalue desc)) (λ x. refl) (λ x. refl) (λ x. refl)
fields_take (op.Call asks.ListNames) = takes_by requests (op.Call asks.ListNames) (only (family_field ⊗ u32 ⊗ u16)) list_names_body (λ x. request.Do (call.ListNames x.0 x.1.0 x.1.1)) (λ x. refl) (λ x. refl) (λ x. refl)
fields_take (op.Call asks.StatName) = takes_by requests (op.Call asks.StatName) (only target_field) stat_name_body (λ target. request.Do (call.StatName target)) (λ x. refl) (λ x. refl) (λ x. refl)
fields_take (op.Call asks.Chmod) = takes_by requests (op.Call asks.Chmod) (only (mode_field ⊗ target_field)) chmod_body (λ x. request.Do (call.Chmod x.0 x.1)) (λ x. refl) (λ x. refl) (λ x. refl)
fields_take (op.Call asks.Chown) = takes_by requests (op.Call asks.Chown) (only (optional uid_field ⊗ optional gid_field ⊗ target_field)) chown_body (λ x. request.Do (call.Chown x.0 x.1.0 x.1.1)) (λ x. refl) (λ x. refl) (λ x. refl)
fields_take (op.Call asks.SetLimit) = takes_by requests (op.Call asks.SetLimit) (only (uid_field ⊗ u64)) set_limit_body (λ x. request.Do (call.SetLimit x.0 x.1)) (λ x. refl) (λ x. refl) (λ x. refl)
fields_take (op.Call asks.Interrupt) = takes_by requests (op.Call asks.Interrupt) nothing nothing_exact (λ u. request.Do call.Interrupt) (λ x. refl) (λ x. refl) (λ x. refl)
fields_take (op.Call asks.Audit) = takes_by requests (op.Call asks.Audit) (only (u64 ⊗ u16)) audit_body (λ x. request.Do (call.Audit x.0 x.1)) (λ x. refl) (λ x. refl) (λ x. refl)
fields_take (op.Call asks.MqTimedSend) = takes_by requests (op.Call asks.MqTimedSend) (then_rest (desc_field ⊗ u32 ⊗ u64)) mq_timed_send_body (λ x. request.Do (call.MqTimedSend x.0.0 x.0.1.0 x.0.1.1 x.1)) (λ x. refl) (λ x. refl) (λ x. refl)
fields_take (op.Call asks.MqTimedReceive) = takes_by requests (op.Call asks.MqTimedReceive) (only (desc_field ⊗ u32 ⊗ u64)) mq_timed_receive_body (λ x. request.Do (call.MqTimedReceive x.0 x.1.0 x.1.1)) (λ x. refl) (λ x. refl) (λ x. refl)
fields_take (op.Call asks.SemTimedWait) = takes_by requests (op.Call asks.SemTimedWait) (only (desc_field ⊗ u64)) sem_timed_wait_body (λ x. request.Do (call.SemTimedWait x.0 x.1)) (λ x. refl) (λ x. refl) (λ x. refl)

fields_again : (q : Request) (w : List ℕ) → is_plain q ≡ true → request_fields q ≡ Some w → fields_at (op_of_request q) w ≡ Ok q
unfolding fields_at request_with
fields_again (request.Hello key) = again_by (only text) hello_body (λ key. request.Hello key) key
fields_again (request.Do (call.Umask mask)) = again_by (only mode_field) umask_body (λ mask. request.Do (call.Umask mask)) mask
fields_again (request.Do (call.MqOpen asked)) = again_by (only queue_open_field) mq_open_body (λ asked. request.Do (call.MqOpen asked)) asked
fields_again (request.Do (call.MqClose desc)) = again_by (only desc_field) mq_close_body (λ desc. request.Do (call.MqClose desc)) desc
fields_again (request.Do (call.MqUnlink name)) = again_by (only text) hello_body (λ name. request.Do (call.MqUnlink name)) name
fields_again (request.Do (call.MqSend desc priority bytes)) = again_by (then_rest (desc_field ⊗ u32)) mq_send_body (λ x. request.Do (call.MqSend x.0.0 x.0.1 x.1)) ((desc, priority), bytes)
fields_again (request.Do (call.MqReceive desc size)) = again_by (only (desc_field ⊗ u32)) mq_receive_body (λ x. request.Do (call.MqReceive x.0 x.1)) (desc, size)
fields_again (request.Do (call.MqGetattr desc)) = again_by (only desc_field) mq_close_body (λ desc. request.Do (call.MqGetattr desc)) desc
fields_again (request.Do (call.MqSetattr desc nonblock)) = again_by (only (desc_field ⊗ boolean)) mq_setattr_body (λ x. request.Do (call.MqSetattr x.0 x.1)) (desc, nonblock)
fields_again (request.Do (call.MqNotify desc on)) = again_by (only (desc_field ⊗ boolean)) mq_setattr_body (λ x. request.Do (call.MqNotify x.0 x.1)) (desc, on)
fields_again (request.Do (call.MqGive desc taker)) = again_by (only (desc_field ⊗ sid_field)) mq_give_body (λ x. request.Do (call.MqGive x.0 x.1)) (desc, taker)
fields_again (request.Do (call.SemOpen asked)) = again_by (only semaphore_open_field) sem_open_body (λ asked. request.Do (call.SemOpen asked)) asked
fields_again (request.Do (call.SemClose desc)) = again_by (only desc_field) mq_close_body (λ desc. request.Do (call.SemClose desc)) desc
fields_again (request.Do (call.SemUnlink name)) = again_by (only text) hello_body (λ name. request.Do (call.SemUnlink name)) name
fields_again (request.Do (call.SemPost desc)) = again_by (only desc_field) mq_close_body (λ desc. request.Do (call.SemPost desc)) desc
fields_again (request.Do (call.SemWait desc)) = again_by (only desc_field) mq_close_body (λ desc. request.Do (call.SemWait desc)) desc
fields_again (request.Do (call.SemTryWait desc)) = again_by (only desc_field) mq_close_body (λ desc. request.Do (call.SemTryWait desc)) desc
fields_again (request.Do (call.SemGetvalue desc)) = again_by (only desc_field) mq_close_body (λ desc. request.Do (call.SemGetvalue desc)) desc
fields_again (request.Do (call.ListNames family start count)) = again_by (only (family_field ⊗ u32 ⊗ u16)) list_names_body (λ x. request.Do (call.ListNames x.0 x.1.0 x.1.1)) (family, (start, count))
fields_again (request.Do (call.StatName target)) = again_by (only target_field) stat_name_body (λ target. request.Do (call.StatName target)) target
fields_again (request.Do (call.Chmod mode target)) = again_by (only (mode_field ⊗ target_field)) chmod_body (λ x. request.Do (call.Chmod x.0 x.1)) (mode, target)
fields_again (request.Do (call.Chown owner group target)) = again_by (only (optional uid_field ⊗ optional gid_field ⊗ target_field)) chown_body (λ x. request.Do (call.Chown x.0 x.1.0 x.1.1)) (owner, (group, target))
fields_again (request.Do (call.SetLimit uid bytes)) = again_by (only (uid_field ⊗ u64)) set_limit_body (λ x. request.Do (call.SetLimit x.0 x.1)) (uid, bytes)
fields_again (request.Do call.Interrupt) = again_by nothing nothing_exact (λ u. request.Do call.Interrupt) tt
fields_again (request.Do (call.Audit start count)) = again_by (only (u64 ⊗ u16)) audit_body (λ x. request.Do (call.Audit x.0 x.1)) (start, count)
fields_again (request.Do (call.MqTimedSend desc priority deadline bytes)) = again_by (then_rest (desc_field ⊗ u32 ⊗ u64)) mq_timed_send_body (λ x. request.Do (call.MqTimedSend x.0.0 x.0.1.0 x.0.1.1 x.1)) ((desc, (priority, deadline)), bytes)
fields_again (request.Do (call.MqTimedReceive desc size deadline)) = again_by (only (desc_field ⊗ u32 ⊗ u64)) mq_timed_receive_body (λ x. request.Do (call.MqTimedReceive x.0 x.1.0 x.1.1)) (desc, (size, deadline))
fields_again (request.Do (call.SemTimedWait desc deadline)) = again_by (only (desc_field ⊗ u64)) sem_timed_wait_body (λ x. request.Do (call.SemTimedWait x.0 x.1)) (desc, deadline)

codes : (o : RequestOp) → request_op (request_opcode o) ≡ Some o
unfolding request_op call_of_number
codes op.Hello = refl
codes (op.Call asks.Umask) = refl
codes (op.Call asks.MqOpen) = refl
codes (op.Call asks.MqClose) = refl
codes (op.Call asks.MqUnlink) = refl
codes (op.Call asks.MqSend) = refl
codes (op.Call asks.MqReceive) = refl
codes (op.Call asks.MqGetattr) = refl
codes (op.Call asks.MqSetattr) = refl
codes (op.Call asks.MqNotify) = refl
codes (op.Call asks.MqGive) = refl
codes (op.Call asks.SemOpen) = refl
codes (op.Call asks.SemClose) = refl
codes (op.Call asks.SemUnlink) = refl
codes (op.Call asks.SemPost) = refl
codes (op.Call asks.SemWait) = refl
codes (op.Call asks.SemTryWait) = refl
codes (op.Call asks.SemGetvalue) = refl
codes (op.Call asks.ListNames) = refl
codes (op.Call asks.StatName) = refl
codes (op.Call asks.Chmod) = refl
codes (op.Call asks.Chown) = refl
codes (op.Call asks.SetLimit) = refl
codes (op.Call asks.Interrupt) = refl
codes (op.Call asks.Audit) = refl
codes (op.Call asks.MqTimedSend) = refl
codes (op.Call asks.MqTimedReceive) = refl
codes (op.Call asks.SemTimedWait) = refl

call_kind : (b : ℕ) (o : RequestOp) (found : Option CallOp) → call_of_number b ≡ found → option_map op.Call found ≡ Some o → request_opcode o ≡ b
unfolding call_of_number
call_kind b o None is e = absurd cc
call_kind b o (Some asked) is e = subst (λ (z : RequestOp). request_opcode z ≡ b) (some_is (op.Call asked) o e) (among_is call_number every_call b asked is)

kind_at : (b : ℕ) (o : RequestOp) (hello : Bool) → eqb b hello_number ≡ hello → cond hello (Some op.Hello) (option_map op.Call (call_of_number b)) ≡ Some o → request_opcode o ≡ b
kind_at b o true is e = subst (λ (z : RequestOp). request_opcode z ≡ b) (some_is op.Hello o e) (sym (eqb-true b hello_number is))
kind_at b o false is e = call_kind b o (call_of_number b) refl e

kinds : (b : ℕ) (o : RequestOp) → request_op b ≡ Some o → request_opcode o ≡ b
unfolding request_op
kinds b o e = kind_at b o (eqb b hello_number) refl e

pub requests_exact : IsExactFormat requests
requests_exact = record { takes = fields_take; again = fields_again; codes = codes; kinds = kinds }

-- ---- the first request, and the others

same_is : (a b : Bool) → same a b ≡ true → a ≡ b
same_is true b e = sym e
same_is false true e = absurd cc
same_is false false e = refl

same_self : (a : Bool) → same a a ≡ true
same_self true = refl
same_self false = refl

pub was_spelled : (first : Bool) (w : List ℕ) (q : Request) (rest : List ℕ) → IsBytes w → front first w ≡ Ok (Some (q, rest)) → IsSpelledBy first w q rest
unfolding request_at request_body
was_spelled first w q rest fits e =
    let i = front_takes requests requests_exact (may_stand first) w q rest fits e in
    record { text = i.text; spelled = i.spelled; parts = i.parts; plain = i.plain; hello_is = same_is (is_hello_request q) first i.may }

-- ---- flags that mean nothing

seven_again : (n : ℕ) → bit_and (bit_and n 7) 7 ≡ bit_and n 7
seven_again n =
    let small = and_le_r n 7 in
    let masked = and_numeral (bit_and n 7) 6 refl in
    omega (arith, small, masked)

three_again : (n : ℕ) → bit_and (bit_and n 3) 3 ≡ bit_and n 3
three_again n =
    let small = and_le_r n 3 in
    let masked = and_numeral (bit_and n 3) 2 refl in
    omega (arith, small, masked)

-- they are not spelled
plain_alike : (q : Request) → (spell (plain q) ≡ spell q) × (is_hello_request (plain q) ≡ is_hello_request q)
unfolding plain request_body request_with queue_open_field semaphore_open_field flags_field
plain_alike (request.Hello key) = (refl, refl)
plain_alike (request.Do (call.Umask mask)) = (refl, refl)
plain_alike (request.Do (call.MqOpen o)) =
    (ap (λ (flags : ℕ). framed (Some (3 ∷ []) ⊕ (text.spell o.name ⊕ (access_field.spell o.access ⊕ (Some (flags ∷ []) ⊕ (mode_field.spell o.mode ⊕ (optional attributes_field).spell o.attributes)))))) (seven_again o.flags.0), refl)
plain_alike (request.Do (call.MqClose desc)) = (refl, refl)
plain_alike (request.Do (call.MqUnlink name)) = (refl, refl)
plain_alike (request.Do (call.MqSend desc priority bytes)) = (refl, refl)
plain_alike (request.Do (call.MqReceive desc size)) = (refl, refl)
plain_alike (request.Do (call.MqGetattr desc)) = (refl, refl)
plain_alike (request.Do (call.MqSetattr desc nonblock)) = (refl, refl)
plain_alike (request.Do (call.MqNotify desc on)) = (refl, refl)
plain_alike (request.Do (call.MqGive desc taker)) = (refl, refl)
plain_alike (request.Do (call.SemOpen o)) =
    (ap (λ (flags : ℕ). framed (Some (11 ∷ []) ⊕ (text.spell o.name ⊕ (Some (flags ∷ []) ⊕ (mode_field.spell o.mode ⊕ u32.spell o.value))))) (three_again o.flags.0), refl)
plain_alike (request.Do (call.SemClose desc)) = (refl, refl)
plain_alike (request.Do (call.SemUnlink name)) = (refl, refl)
plain_alike (request.Do (call.SemPost desc)) = (refl, refl)
plain_alike (request.Do (call.SemWait desc)) = (refl, refl)
plain_alike (request.Do (call.SemTryWait desc)) = (refl, refl)
plain_alike (request.Do (call.SemGetvalue desc)) = (refl, refl)
plain_alike (request.Do (call.ListNames family start count)) = (refl, refl)
plain_alike (request.Do (call.StatName target)) = (refl, refl)
plain_alike (request.Do (call.Chmod mode target)) = (refl, refl)
plain_alike (request.Do (call.Chown owner group target)) = (refl, refl)
plain_alike (request.Do (call.SetLimit uid bytes)) = (refl, refl)
plain_alike (request.Do call.Interrupt) = (refl, refl)
plain_alike (request.Do (call.Audit start count)) = (refl, refl)
plain_alike (request.Do (call.MqTimedSend desc priority deadline bytes)) = (refl, refl)
plain_alike (request.Do (call.MqTimedReceive desc size deadline)) = (refl, refl)
plain_alike (request.Do (call.SemTimedWait desc deadline)) = (refl, refl)

-- a request without them
plain_is_read : (q : Request) (text rest : List ℕ) → is_plain q ≡ true → spell q ≡ Some text → front (is_hello_request q) (text ++ rest) ≡ Ok (Some (q, rest))
unfolding request_at request_body
plain_is_read q text rest plain e = front_again requests requests_exact (may_stand (is_hello_request q)) q text rest plain (same_self (is_hello_request q)) e

pub is_read : (q : Request) (text rest : List ℕ) → fits q ≡ true → spell q ≡ Some text → front (is_hello_request q) (text ++ rest) ≡ Ok (Some (plain q, rest))
is_read q text rest fit e =
    let alike = plain_alike q in
    let found = plain_is_read (plain q) text rest fit (alike.0 ∙ e) in
    ap (λ (first : Bool). front first (text ++ rest)) (sym alike.1) ∙ found

pub one_request : (p q : Request) (text : List ℕ) → fits p ≡ true → fits q ≡ true → spell p ≡ Some text → spell q ≡ Some text → plain p ≡ plain q
unfolding request_body
one_request p q text p_fits q_fits d e =
    one_message requests requests_exact (plain p) (plain q) text p_fits q_fits ((plain_alike p).0 ∙ d) ((plain_alike q).0 ∙ e)

-- ---- a fault is for good

clash : {A : Type 0} {P : Type 0} (f : WireFault) (x : A) (r : Result A WireFault) → r ≡ Err f → r ≡ Ok x → P
clash f x r e g = absurd cc

pub none_at_fault : (w more : List ℕ) (f : WireFault) (q : Request) (text rest : List ℕ) → front (is_hello_request q) w ≡ Err f → fits q ≡ true → spell q ≡ Some text → w ++ more ≡ text ++ rest → ⊥
none_at_fault w more f q text rest fault fit spelled same =
    let stays = front_err (request_at (is_hello_request q)) w more f fault in
    let found = is_read q text rest fit spelled in
    clash f (Some (plain q, rest)) (front (is_hello_request q) (w ++ more)) stays (ap (front (is_hello_request q)) same ∙ found)
