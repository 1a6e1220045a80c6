-- Messages of a format are spelled and read alike, frame by frame.
use Rattle.std.proofs.Common.{◌≡◌, ℕ, ◌<◌, Bool, true, false, cond, eqb, find, List, [], ◌∷◌, ◌++◌, length, Option, Some, None, Result, Ok, Err, refl, sym, ap, subst, ◌∙◌, arith}
use Rattle.std.proofs.lemmas.Bool.{eqb-true}
use Rattle.std.proofs.lemmas.Option.{some_pair_parts}
use Rattle.ipc_fields.specs.declared.fault.WireFault.{WireFault}
use Rattle.ipc_fields.specs.declared.fault.WireFault.TheVariants.{BadOpcode}
use Rattle.ipc_fields.specs.Field.{◌>>=◌, Body}
use Rattle.ipc_fields.specs.Format.{Format, among, allowed, body_text, body_read}
use Rattle.ipc_fields.specs.Frame.{frame, framed, body_at, front_by}
use Rattle.ipc_fields.proofs.FieldLemmas.{IsBytes, IsBytes-rest, IsExactBody, bind_ok, ok_is, some_is, join_some}
use Rattle.ipc_fields.proofs.FrontLemmas.{front_some}
use Rattle.ipc_fields.proofs.FramingLemmas.{framed_some, body_spelled, body_again}

-- a plain message of this opcode, and what stands behind it
pub record IsTaken {O M : Type 0} (f : Format O M) (o : O) (w : List ℕ) (m : M) : Type 0 where
  pub text_is : f.fields m ≡ Some w
  pub plain : f.is_plain m ≡ true
  pub op_is : f.op_of m ≡ o

pub record IsExactFormat {O M : Type 0} (f : Format O M) : Type 0 where
  pub takes : (o : O) (w : List ℕ) (m : M) → IsBytes w → f.read o w ≡ Ok m → IsTaken f o w m
  pub again : (m : M) (w : List ℕ) → f.is_plain m ≡ true → f.fields m ≡ Some w → f.read (f.op_of m) w ≡ Ok m
  pub codes : (o : O) → f.kind (f.opcode o) ≡ Some o
  pub kinds : (b : ℕ) (o : O) → f.kind b ≡ Some o → f.opcode o ≡ b

-- one opcode's part of both laws, from its body's
pub takes_by : {O M A : Type 0} (f : Format O M) (o : O) (b : Body A) (exact : IsExactBody b) (make : A → M) → ((x : A) → f.fields (make x) ≡ b.spell x) → ((x : A) → f.is_plain (make x) ≡ b.is_plain x) → ((x : A) → f.op_of (make x) ≡ o)
    → (w : List ℕ) (m : M) → IsBytes w → (b.read w >>= λ x. Ok (make x)) ≡ Ok m → IsTaken f o w m
takes_by f o b exact make spells plain op w m fits e =
    let r = bind_ok (b.read w) (λ x. Ok (make x)) m e in
    let t = exact.takes w r.0 fits r.1 in
    subst (IsTaken f o w) (ok_is (make r.0) m r.2) (record { text_is = spells r.0 ∙ t.0; plain = plain r.0 ∙ t.1; op_is = op r.0 })

pub again_by : {M A : Type 0} (b : Body A) (exact : IsExactBody b) (make : A → M) (x : A) (w : List ℕ) → b.is_plain x ≡ true → b.spell x ≡ Some w → (b.read w >>= λ y. Ok (make y)) ≡ Ok (make x)
again_by b exact make x w plain e = rw (exact.again x w plain e) refl

-- ---- the opcode

-- what is found passes the test
found_there : {X : Type 0} (p : X → Bool) (y x : X) (others : Option X) (b : Bool) → p y ≡ b → (others ≡ Some x → p x ≡ true) → cond b (Some y) others ≡ Some x → p x ≡ true
found_there p y x others true is rest e = subst (λ (z : _). p z ≡ true) (some_is y x e) is
found_there p y x others false is rest e = rest e

found_passes : {X : Type 0} (p : X → Bool) (xs : List X) (x : X) → find p xs ≡ Some x → p x ≡ true
found_passes p [] x e = absurd cc
found_passes p (y ∷ ys) x e = found_there p y x (find p ys) (p y) refl (λ k. found_passes p ys x k) e

pub among_is : {O : Type 0} (number : O → ℕ) (os : List O) (n : ℕ) (o : O) → among number os n ≡ Some o → number o ≡ n
among_is number os n o e = eqb-true (number o) n (found_passes (λ p. eqb (number p) n) os o e)

pub allowed_ok : {O : Type 0} (may_stand : O → Bool) (p : Option O) (o : O) → allowed may_stand p ≡ Ok o → (p ≡ Some o) × (may_stand o ≡ true)
allowed_ok may_stand None o e = absurd cc
allowed_ok {O} may_stand (Some p) o e = decided (may_stand p) refl e
  where
    decided : (t : Bool) → may_stand p ≡ t → cond t (Ok p) (Err BadOpcode) ≡ Ok o → (Some p ≡ Some o) × (may_stand o ≡ true)
    decided true is e =
        let p-is : p ≡ o = ok_is p o e in
        (ap (λ (x : O). Some x) p-is, ap may_stand (sym p-is) ∙ is)
    decided false is e = absurd cc

-- ---- bodies

pub record IsBodyOf {O M : Type 0} (f : Format O M) (may_stand : O → Bool) (w : List ℕ) (m : M) : Type 0 where
  pub text_is : body_text f m ≡ Some w
  pub plain : f.is_plain m ≡ true
  pub may : may_stand (f.op_of m) ≡ true

body_takes : {O M : Type 0} (f : Format O M) → IsExactFormat f → (may_stand : O → Bool) (w : List ℕ) (m : M) → IsBytes w → body_read f may_stand w ≡ Ok m → IsBodyOf f may_stand w m
body_takes f exact may_stand [] m fits e = absurd cc
body_takes f exact may_stand (b ∷ w) m fits e =
    let s = bind_ok (allowed may_stand (f.kind b)) (λ o. f.read o w) m e in
    let a = allowed_ok may_stand (f.kind b) s.0 s.1 in
    let t = exact.takes s.0 w m (IsBytes-rest b w fits) s.2 in
    let b-is : f.opcode (f.op_of m) ≡ b = ap f.opcode t.op_is ∙ exact.kinds b s.0 a.0 in
    record { text_is = rw (t.text_is, b-is) refl; plain = t.plain; may = ap may_stand t.op_is ∙ a.1 }

body_reads : {O M : Type 0} (f : Format O M) → IsExactFormat f → (may_stand : O → Bool) (m : M) (w : List ℕ) → f.is_plain m ≡ true → may_stand (f.op_of m) ≡ true → body_text f m ≡ Some w → (body_read f may_stand w ≡ Ok m) × (0 < length w)
body_reads f exact may_stand m w plain may e =
    let code : ℕ = f.opcode (f.op_of m) in
    let j = join_some (Some (code ∷ [])) (f.fields m) w e in
    let first : code ∷ [] ≡ j.0 = some_is _ _ j.2 in
    let whole : w ≡ code ∷ j.1 = j.4 ∙ ap (λ (z : List ℕ). z ++ j.1) (sym first) in
    (ap (body_read f may_stand) whole ∙ rw (exact.codes (f.op_of m), may) (exact.again m j.1 plain j.3), rw whole (omega arith))

-- ---- frames

-- the frame of this message stands in front, and the message is plain
pub record IsInFront {O M : Type 0} (f : Format O M) (may_stand : O → Bool) (w : List ℕ) (m : M) (rest : List ℕ) : Type 0 where
  pub text : List ℕ
  pub spelled : framed (body_text f m) ≡ Some text
  pub parts : w ≡ text ++ rest
  pub plain : f.is_plain m ≡ true
  pub may : may_stand (f.op_of m) ≡ true

pub front_takes : {O M : Type 0} (f : Format O M) → IsExactFormat f → (may_stand : O → Bool) (w : List ℕ) (m : M) (rest : List ℕ) → IsBytes w → front_by (body_read f may_stand) w ≡ Ok (Some (m, rest)) → IsInFront f may_stand w m rest
front_takes f exact may_stand w m rest fits e =
    let i = front_some (body_read f may_stand) w m rest e in
    let b = body_spelled w i.body rest fits i.body_is in
    let s = body_takes f exact may_stand i.body m b.2 i.value_is in
    record { text = frame i.body; spelled = ap framed s.text_is ∙ b.0; parts = b.1; plain = s.plain; may = s.may }

pub front_again : {O M : Type 0} (f : Format O M) → IsExactFormat f → (may_stand : O → Bool) (m : M) (s rest : List ℕ) → f.is_plain m ≡ true → may_stand (f.op_of m) ≡ true → framed (body_text f m) ≡ Some s → front_by (body_read f may_stand) (s ++ rest) ≡ Ok (Some (m, rest))
front_again f exact may_stand m s rest plain may e =
    let t = framed_some (body_text f m) s e in
    let read = body_reads f exact may_stand m t.0 plain may t.1 in
    let body : body_at (s ++ rest) ≡ Ok (Some (t.0, rest)) = ap (λ (x : List ℕ). body_at (x ++ rest)) t.2.text_is ∙ body_again t.0 rest read.1 t.2.small in
    rw (body, read.0) refl

-- ---- two plain messages with one spelling are one

abbrev taken : {M : Type 0} → M → List ℕ → Result (Option (M × List ℕ)) WireFault
taken m r = Ok (Some (m, r))

taken_is : {M : Type 0} (m n : M) (r : List ℕ) → taken m r ≡ taken n r → m ≡ n
taken_is {M} m n r e =
    let pairs : ◌≡◌ {A = Option (M × List ℕ)} (Some (m, r)) (Some (n, r)) = cc in
    (some_pair_parts m n r r pairs).0

pub one_message : {O M : Type 0} (f : Format O M) → IsExactFormat f → (m n : M) (s : List ℕ) → f.is_plain m ≡ true → f.is_plain n ≡ true → framed (body_text f m) ≡ Some s → framed (body_text f n) ≡ Some s → m ≡ n
one_message f exact m n s m_plain n_plain m_spelled n_spelled =
    taken_is m n [] (sym (front_again f exact (λ o. true) m s [] m_plain refl m_spelled) ∙ front_again f exact (λ o. true) n s [] n_plain refl n_spelled)
