-- A stream gives one hello, and then calls alone.
use Rattle.std.proofs.Common.{◌≡◌, ℕ, zero, suc, Bool, true, false, List, [], ◌∷◌, Option, Some, None, Result, Ok, Err, refl, ap, subst, ◌∙◌}
use Rattle.std.proofs.lemmas.Bool.{and_from}
use Rattle.ipc_terms.specs.declared.call.Call.TheVariants as call
use Rattle.ipc_terms.specs.declared.op.CallOp.TheVariants as asks
use Rattle.ipc_fields.specs.declared.fault.WireFault.{WireFault}
use Rattle.ipc_fields.specs.Field.{◌>>=◌, u16, u32, u64, text, boolean, optional, ◌⊗◌, nothing, only, then_rest}
use Rattle.ipc_fields.specs.Format.{allowed}
use Rattle.ipc_fields.specs.Terms.{sid_field, desc_field, uid_field, gid_field, mode_field, family_field, target_field}
use Rattle.ipc_fields.proofs.FieldLemmas.{bind_ok, ok_is}
use Rattle.ipc_fields.proofs.FormatLemmas.{allowed_ok}
use Rattle.ipc_fields.proofs.FrontLemmas.{front_some}
use Rattle.ipc_wire.specs.declared.request.Request.{Request}
use Rattle.ipc_wire.specs.declared.request.Request.TheVariants as request
use Rattle.ipc_wire.specs.declared.opcodes.RequestOp.{RequestOp}
use Rattle.ipc_wire.specs.declared.opcodes.RequestOp.TheVariants as op
use Rattle.ipc_wire.specs.Requests.{queue_open_field, semaphore_open_field, request_op, request_with, op_of_request, fields_at, is_hello_request, same, may_stand, request_at}
use Rattle.ipc_wire.specs.Streams.{front, cut, cut_by, cut_within, is_in_order}

made_by : {A : Type 0} (o : RequestOp) (make : A → Request) (r : Result A WireFault) (q : Request) → ((x : A) → op_of_request (make x) ≡ o) → (r >>= λ x. Ok (make x)) ≡ Ok q → op_of_request q ≡ o
made_by o make (Ok x) q is e = subst (λ (z : Request). op_of_request z ≡ o) (ok_is (make x) q e) (is x)
made_by o make (Err f) q is e = absurd cc

-- the opcode of a request that was read
read_op : (o : RequestOp) (w : List ℕ) (q : Request) → fields_at o w ≡ Ok q → op_of_request q ≡ o
unfolding fields_at request_with
read_op op.Hello w q e = made_by op.Hello (λ key. request.Hello key) ((only text).read w) q (λ x. refl) e
read_op (op.Call asks.Umask) w q e = made_by (op.Call asks.Umask) (λ mask. request.Do (call.Umask mask)) ((only mode_field).read w) q (λ x. refl) e
read_op (op.Call asks.MqOpen) w q e = made_by (op.Call asks.MqOpen) (λ asked. request.Do (call.MqOpen asked)) ((only queue_open_field).read w) q (λ x. refl) e
read_op (op.Call asks.MqClose) w q e = made_by (op.Call asks.MqClose) (λ desc. request.Do (call.MqClose desc)) ((only desc_field).read w) q (λ x. refl) e
read_op (op.Call asks.MqUnlink) w q e = made_by (op.Call asks.MqUnlink) (λ name. request.Do (call.MqUnlink name)) ((only text).read w) q (λ x. refl) e
read_op (op.Call asks.MqSend) w q e = made_by (op.Call asks.MqSend) (λ x. request.Do (call.MqSend x.0.0 x.0.1 x.1)) ((then_rest (desc_field ⊗ u32)).read w) q (λ x. refl) e
read_op (op.Call asks.MqReceive) w q e = made_by (op.Call asks.MqReceive) (λ x. request.Do (call.MqReceive x.0 x.1)) ((only (desc_field ⊗ u32)).read w) q (λ x. refl) e
read_op (op.Call asks.MqGetattr) w q e = made_by (op.Call asks.MqGetattr) (λ desc. request.Do (call.MqGetattr desc)) ((only desc_field).read w) q (λ x. refl) e
read_op (op.Call asks.MqSetattr) w q e = made_by (op.Call asks.MqSetattr) (λ x. request.Do (call.MqSetattr x.0 x.1)) ((only (desc_field ⊗ boolean)).read w) q (λ x. refl) e
read_op (op.Call asks.MqNotify) w q e = made_by (op.Call asks.MqNotify) (λ x. request.Do (call.MqNotify x.0 x.1)) ((only (desc_field ⊗ boolean)).read w) q (λ x. refl) e
read_op (op.Call asks.MqGive) w q e = made_by (op.Call asks.MqGive) (λ x. request.Do (call.MqGive x.0 x.1)) ((only (desc_field ⊗ sid_field)).read w) q (λ x. refl) e
read_op (op.Call asks.SemOpen) w q e = made_by (op.Call asks.SemOpen) (λ asked. request.Do (call.SemOpen asked)) ((only semaphore_open_field).read w) q (λ x. refl) e
read_op (op.Call asks.SemClose) w q e = made_by (op.Call asks.SemClose) (λ desc. request.Do (call.SemClose desc)) ((only desc_field).read w) q (λ x. refl) e
read_op (op.Call asks.SemUnlink) w q e = made_by (op.Call asks.SemUnlink) (λ name. request.Do (call.SemUnlink name)) ((only text).read w) q (λ x. refl) e
read_op (op.Call asks.SemPost) w q e = made_by (op.Call asks.SemPost) (λ desc. request.Do (call.SemPost desc)) ((only desc_field).read w) q (λ x. refl) e
read_op (op.Call asks.SemWait) w q e = made_by (op.Call asks.SemWait) (λ desc. request.Do (call.SemWait desc)) ((only desc_field).read w) q (λ x. refl) e
read_op (op.Call asks.SemTryWait) w q e = made_by (op.Call asks.SemTryWait) (λ desc. request.Do (call.SemTryWait desc)) ((only desc_field).read w) q (λ x. refl) e
read_op (op.Call asks.SemGetvalue) w q e = made_by (op.Call asks.SemGetvalue) (λ desc. request.Do (call.SemGetvalue desc)) ((only desc_field).read w) q (λ x. refl) e
read_op (op.Call asks.ListNames) w q e = made_by (op.Call asks.ListNames) (λ x. request.Do (call.ListNames x.0 x.1.0 x.1.1)) ((only (family_field ⊗ u32 ⊗ u16)).read w) q (λ x. refl) e
read_op (op.Call asks.StatName) w q e = made_by (op.Call asks.StatName) (λ target. request.Do (call.StatName target)) ((only target_field).read w) q (λ x. refl) e
read_op (op.Call asks.Chmod) w q e = made_by (op.Call asks.Chmod) (λ x. request.Do (call.Chmod x.0 x.1)) ((only (mode_field ⊗ target_field)).read w) q (λ x. refl) e
read_op (op.Call asks.Chown) w q e = made_by (op.Call asks.Chown) (λ x. request.Do (call.Chown x.0 x.1.0 x.1.1)) ((only (optional uid_field ⊗ optional gid_field ⊗ target_field)).read w) q (λ x. refl) e
read_op (op.Call asks.SetLimit) w q e = made_by (op.Call asks.SetLimit) (λ x. request.Do (call.SetLimit x.0 x.1)) ((only (uid_field ⊗ u64)).read w) q (λ x. refl) e
read_op (op.Call asks.Interrupt) w q e = made_by (op.Call asks.Interrupt) (λ u. request.Do call.Interrupt) (nothing.read w) q (λ x. refl) e
read_op (op.Call asks.Audit) w q e = made_by (op.Call asks.Audit) (λ x. request.Do (call.Audit x.0 x.1)) ((only (u64 ⊗ u16)).read w) q (λ x. refl) e
read_op (op.Call asks.MqTimedSend) w q e = made_by (op.Call asks.MqTimedSend) (λ x. request.Do (call.MqTimedSend x.0.0 x.0.1.0 x.0.1.1 x.1)) ((then_rest (desc_field ⊗ u32 ⊗ u64)).read w) q (λ x. refl) e
read_op (op.Call asks.MqTimedReceive) w q e = made_by (op.Call asks.MqTimedReceive) (λ x. request.Do (call.MqTimedReceive x.0 x.1.0 x.1.1)) ((only (desc_field ⊗ u32 ⊗ u64)).read w) q (λ x. refl) e
read_op (op.Call asks.SemTimedWait) w q e = made_by (op.Call asks.SemTimedWait) (λ x. request.Do (call.SemTimedWait x.0 x.1)) ((only (desc_field ⊗ u64)).read w) q (λ x. refl) e

stands : (first : Bool) (w : List ℕ) (q : Request) → request_at first w ≡ Ok q → may_stand first (op_of_request q) ≡ true
unfolding request_at
stands first [] q e = absurd cc
stands first (b ∷ w) q e =
    let s = bind_ok (allowed (may_stand first) (request_op b)) (λ o. fields_at o w) q e in
    let a = allowed_ok (may_stand first) (request_op b) s.0 s.1 in
    ap (may_stand first) (read_op s.0 w q s.2) ∙ a.1

pub front_stands : (first : Bool) (w : List ℕ) (q : Request) (rest : List ℕ) → front first w ≡ Ok (Some (q, rest)) → same (is_hello_request q) first ≡ true
front_stands first w q rest e =
    let i = front_some (request_at first) w q rest e in
    stands first i.body q i.value_is

in_order_from : (n : ℕ) (first : Bool) (w : List ℕ) (f : Result (Option (Request × List ℕ)) WireFault) → front first w ≡ f → ((r : List ℕ) → is_in_order false (cut_within n false r).requests ≡ true) → is_in_order first (cut_by (cut_within n false) w f).requests ≡ true
in_order_from n first w (Err f) e h = refl
in_order_from n first w (Ok None) e h = refl
in_order_from n first w (Ok (Some x)) e h = and_from _ _ (front_stands first w x.0 x.1 e) (h x.1)

in_order_within : (n : ℕ) (first : Bool) (w : List ℕ) → is_in_order first (cut_within n first w).requests ≡ true
unfolding cut_within
in_order_within zero first w = refl
in_order_within (suc n) first w = in_order_from n first w (front first w) refl (λ r. in_order_within n false r)

pub one_hello : (first : Bool) (w : List ℕ) → is_in_order first (cut first w).requests ≡ true
unfolding cut
one_hello first w = in_order_within _ first w
