-- The frame in front: what it takes, and that more bytes behind it change nothing.
use Rattle.std.proofs.Common.{◌≡◌, ℕ, ◌+◌, ◌-◌, ◌<◌, ◌≤◌, Bool, true, false, cond, ltb, eqb, List, ◌++◌, length, take, drop, Option, Some, None, Result, Ok, Err, refl, sym, ap, ◌∙◌, arith}
use Rattle.std.specs.Int.{w32, from_be_bytes}
use Rattle.std.proofs.lemmas.Bool.{ltb-false, le-ltb, eqb-false}
use Rattle.std.proofs.lemmas.List.{take-append-le, drop-append-le, drop-drop, length-append, length-drop}
use Rattle.std.proofs.lemmas.Option.{some_pair_parts}
use Rattle.ipc_fields.specs.declared.fault.WireFault.{WireFault}
use Rattle.ipc_fields.specs.declared.fault.WireFault.TheVariants.{TooLong, Empty}
use Rattle.ipc_fields.specs.Field.{◌>>=◌}
use Rattle.ipc_fields.specs.Frame.{max_body, body_of, body_at, read_body, front_by}

abbrev pub Framed : Type 0 → Type 0
Framed A = Result (Option A) WireFault

-- the tests of body_of
abbrev chosen : {A : Type 0} → Bool → Bool → Bool → A → Framed A
chosen a b c x = cond a (Err Empty) (cond b (Err TooLong) (cond c (Ok None) (Ok (Some x))))

chosen_some : {A : Type 0} (a b c : Bool) (x y : A) → chosen a b c x ≡ Ok (Some y) → (a ≡ false) × (b ≡ false) × (c ≡ false) × (x ≡ y)
chosen_some true b c x y e = absurd cc
chosen_some false true c x y e = absurd cc
chosen_some false false true x y e = absurd cc
chosen_some false false false x y e = (refl, refl, refl, cc)

chosen_err : {A : Type 0} (a b c d : Bool) (x y : A) (f : WireFault) → chosen a b c x ≡ Err f → chosen a b d y ≡ Err f
chosen_err true b c d x y f e = cc
chosen_err false true c d x y f e = cc
chosen_err false false true d x y f e = absurd cc
chosen_err false false false d x y f e = absurd cc

-- the body and the rest of a whole frame of n bytes, the length left out
pub record IsBody (n : ℕ) (w b r : List ℕ) : Type 0 where
  pub positive : n ≡ 0 → ⊥
  pub small : ltb max_body n ≡ false
  pub whole : n ≤ length w
  pub body_is : b ≡ take n w
  pub rest_is : r ≡ drop n w

pub body_of_some : (n : ℕ) (w b r : List ℕ) → body_of n w ≡ Ok (Some (b, r)) → IsBody n w b r
body_of_some n w b r e =
    let t = chosen_some (eqb n 0) (ltb max_body n) (ltb (length w) n) (take n w, drop n w) (b, r) e in
    record { positive = eqb-false _ _ t.0; small = t.1; whole = ltb-false _ _ t.2; body_is = ap (λ (p : List ℕ × List ℕ). p.0) (sym t.3); rest_is = ap (λ (p : List ℕ × List ℕ). p.1) (sym t.3) }

pub body_of_is : (n : ℕ) (w b r : List ℕ) → eqb n 0 ≡ false → ltb max_body n ≡ false → n ≤ length w → b ≡ take n w → r ≡ drop n w → body_of n w ≡ Ok (Some (b, r))
body_of_is n w b r positive small whole body_is rest_is =
    let long : ltb (length w) n ≡ false = le-ltb _ _ whole in
    rw (positive, small, long, body_is, rest_is) refl

body_of_grow : (n : ℕ) (w v b r : List ℕ) → body_of n w ≡ Ok (Some (b, r)) → body_of n (w ++ v) ≡ Ok (Some (b, r ++ v))
body_of_grow n w v b r e =
    let t = chosen_some (eqb n 0) (ltb max_body n) (ltb (length w) n) (take n w, drop n w) (b, r) e in
    let i = body_of_some n w b r e in
    let whole : n ≤ length w = i.whole in
    body_of_is n (w ++ v) b (r ++ v) t.0 t.1 (omega (arith, length-append w v)) (i.body_is ∙ sym (take-append-le n w v whole)) (ap (λ (x : List ℕ). x ++ v) i.rest_is ∙ sym (drop-append-le n w v whole))

body_of_err : (n : ℕ) (w v : List ℕ) (f : WireFault) → body_of n w ≡ Err f → body_of n (w ++ v) ≡ Err f
body_of_err n w v f e = chosen_err (eqb n 0) (ltb max_body n) (ltb (length w) n) (ltb (length (w ++ v)) n) (take n w, drop n w) (take n (w ++ v), drop n (w ++ v)) f e

-- ---- with the length

header_there : {A : Type 0} (b : Bool) (x : Framed A) (y : A) → cond b (Ok None) x ≡ Ok (Some y) → (b ≡ false) × (x ≡ Ok (Some y))
header_there true x y e = absurd cc
header_there false x y e = (refl, e)

header_bad : {A : Type 0} (b : Bool) (x : Framed A) (f : WireFault) → cond b (Ok None) x ≡ Err f → (b ≡ false) × (x ≡ Err f)
header_bad true x f e = absurd cc
header_bad false x f e = (refl, e)

-- behind a length that is there
pub at_header : (w v : List ℕ) → 4 ≤ length w → body_at (w ++ v) ≡ body_of (from_be_bytes w32 (take 4 w)) (drop 4 w ++ v)
unfolding body_at
at_header w v le =
    let long : ltb (length (w ++ v)) 4 ≡ false = le-ltb _ _ (omega (arith, length-append w v)) in
    rw (long, take-append-le 4 w v le, drop-append-le 4 w v le) refl

pub record IsFront (w b r : List ℕ) : Type 0 where
  pub header : 4 ≤ length w
  pub body : IsBody (from_be_bytes w32 (take 4 w)) (drop 4 w) b r

pub body_at_some : (w b r : List ℕ) → body_at w ≡ Ok (Some (b, r)) → IsFront w b r
unfolding body_at
body_at_some w b r e =
    let t = header_there (ltb (length w) 4) (body_of (from_be_bytes w32 (take 4 w)) (drop 4 w)) (b, r) e in
    record { header = ltb-false _ _ t.0; body = body_of_some (from_be_bytes w32 (take 4 w)) (drop 4 w) b r t.1 }

pub body_at_grow : (w v b r : List ℕ) → body_at w ≡ Ok (Some (b, r)) → body_at (w ++ v) ≡ Ok (Some (b, r ++ v))
unfolding body_at
body_at_grow w v b r e =
    let t = header_there (ltb (length w) 4) (body_of (from_be_bytes w32 (take 4 w)) (drop 4 w)) (b, r) e in
    at_header w v (ltb-false _ _ t.0) ∙ body_of_grow (from_be_bytes w32 (take 4 w)) (drop 4 w) v b r t.1

pub body_at_err : (w v : List ℕ) (f : WireFault) → body_at w ≡ Err f → body_at (w ++ v) ≡ Err f
unfolding body_at
body_at_err w v f e =
    let t = header_bad (ltb (length w) 4) (body_of (from_be_bytes w32 (take 4 w)) (drop 4 w)) f e in
    at_header w v (ltb-false _ _ t.0) ∙ body_of_err (from_be_bytes w32 (take 4 w)) (drop 4 w) v f t.1

-- what is behind a frame
pub rest_is : (w b r : List ℕ) → body_at w ≡ Ok (Some (b, r)) → (r ≡ drop (4 + from_be_bytes w32 (take 4 w)) w) × (length r < length w)
rest_is w b r e =
    let i = body_at_some w b r e in
    let n : ℕ = from_be_bytes w32 (take 4 w) in
    (i.body.rest_is ∙ drop-drop n 4 w, rw i.body.rest_is (omega (arith, i.header, length-drop n (drop 4 w), length-drop 4 w)))

-- so it is what stays when as much is dropped as it is shorter
pub rest_behind : (w b r : List ℕ) → body_at w ≡ Ok (Some (b, r)) → (length r ≤ length w) × (drop (length w - length r) w ≡ r)
rest_behind w b r e =
    let i = body_at_some w b r e in
    let n : ℕ = from_be_bytes w32 (take 4 w) in
    let k = (rest_is w b r e).0 in
    let len : length r ≡ length w - (4 + n) = ap length k ∙ length-drop (4 + n) w in
    let taken : length w - length r ≡ 4 + n = omega (arith, i.header, i.body.whole, length-drop 4 w) in
    (omega arith, ap (λ (m : ℕ). drop m w) taken ∙ sym k)

-- ---- with what reads the body

-- the body in front, and the value that it was read as
pub record IsRead {A : Type 0} (read : List ℕ → Result A WireFault) (w : List ℕ) (x : A) (r : List ℕ) : Type 0 where
  pub body : List ℕ
  pub body_is : body_at w ≡ Ok (Some (body, r))
  pub value_is : read body ≡ Ok x

abbrev with_rest : {A : Type 0} → List ℕ → A → Framed (A × List ℕ)
with_rest r y = Ok (Some (y, r))

read_some : {A : Type 0} (value : Result A WireFault) (r : List ℕ) (x : A) (s : List ℕ) → (value >>= with_rest r) ≡ Ok (Some (x, s)) → (value ≡ Ok x) × (r ≡ s)
read_some {A} (Ok y) r x s e =
    let pairs : ◌≡◌ {A = Option (A × List ℕ)} (Some (y, r)) (Some (x, s)) = cc in
    let parts = some_pair_parts y x r s pairs in
    (ap Ok parts.0, parts.1)
read_some (Err f) r x s e = absurd cc

front_found : {A : Type 0} (read : List ℕ → Result A WireFault) (w : List ℕ) (x : A) (r : List ℕ) (front : Framed (List ℕ × List ℕ)) → body_at w ≡ front → (front >>= read_body read) ≡ Ok (Some (x, r)) → IsRead read w x r
front_found read w x r (Err f) b e = absurd cc
front_found read w x r (Ok None) b e = absurd cc
front_found read w x r (Ok (Some y)) b e =
    let t = read_some (read y.0) y.1 x r e in
    record { body = y.0; body_is = b ∙ ap (λ (z : List ℕ). Ok (Some (y.0, z))) t.1; value_is = t.0 }

pub front_some : {A : Type 0} (read : List ℕ → Result A WireFault) (w : List ℕ) (x : A) (r : List ℕ) → front_by read w ≡ Ok (Some (x, r)) → IsRead read w x r
front_some read w x r e = front_found read w x r (body_at w) refl e

pub front_grow : {A : Type 0} (read : List ℕ → Result A WireFault) (w v : List ℕ) (x : A) (r : List ℕ) → front_by read w ≡ Ok (Some (x, r)) → front_by read (w ++ v) ≡ Ok (Some (x, r ++ v))
front_grow read w v x r e =
    let i = front_some read w x r e in
    rw (body_at_grow w v i.body r i.body_is, i.value_is) refl

read_err : {A : Type 0} (value : Result A WireFault) (r s : List ℕ) (f : WireFault) → (value >>= with_rest r) ≡ Err f → (value >>= with_rest s) ≡ Err f
read_err (Ok y) r s f e = absurd cc
read_err (Err g) r s f e = cc

front_failed : {A : Type 0} (read : List ℕ → Result A WireFault) (w v : List ℕ) (f : WireFault) (front : Framed (List ℕ × List ℕ)) → body_at w ≡ front → (front >>= read_body read) ≡ Err f → front_by read (w ++ v) ≡ Err f
front_failed read w v f (Err g) b e = rw (body_at_err w v g b) cc
front_failed read w v f (Ok None) b e = absurd cc
front_failed read w v f (Ok (Some y)) b e = rw (body_at_grow w v y.0 y.1 b) (read_err (read y.0) y.1 (y.1 ++ v) f e)

pub front_err : {A : Type 0} (read : List ℕ → Result A WireFault) (w v : List ℕ) (f : WireFault) → front_by read w ≡ Err f → front_by read (w ++ v) ≡ Err f
front_err read w v f e = front_failed read w v f (body_at w) refl e

-- a value read, and what stays when as much is dropped as the rest is shorter
pub front_dropped : {A : Type 0} (read : List ℕ → Result A WireFault) (w b r : List ℕ) (x : A) → body_at w ≡ Ok (Some (b, r)) → read b ≡ Ok x → front_by read w ≡ Ok (Some (x, drop (length w - length r) w))
front_dropped {A} read w b r x e f =
    let found : front_by read w ≡ Ok (Some (x, r)) = rw (e, f) refl in
    found ∙ ap (λ (s : List ℕ). with_rest s x) (sym (rest_behind w b r e).1)
