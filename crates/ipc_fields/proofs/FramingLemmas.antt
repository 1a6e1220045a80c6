-- Frames are spelled and read alike, and no frame begins another.
use Rattle.std.proofs.Common.{◌≡◌, ℕ, ◌+◌, ◌<◌, ◌≤◌, Bool, true, false, cond, leb, List, [], ◌++◌, length, take, drop, Option, Some, None, Result, Ok, refl, sym, ap, subst, ◌∙◌, append_assoc, arith}
use Rattle.std.specs.Int.{w32, to_be_bytes, from_be_bytes}
use Rattle.std.proofs.lemmas.Bool.{ltb-false, le-ltb, leb-true, le-leb, ne_eqb}
use Rattle.std.proofs.lemmas.List.{take_at, drop_at, take-append-drop, length-append, length-take, nil_from_length}
use Rattle.ipc_fields.specs.declared.fault.WriteFault.{WriteFault}
use Rattle.ipc_fields.specs.declared.fault.WriteFault.TheVariants as writing
use Rattle.ipc_fields.specs.Field.{◌⊕◌, u32}
use Rattle.ipc_fields.specs.Given.{Begins, Lacks, Puts}
use Rattle.ipc_fields.specs.Frame.{max_body, frame, framed, body_of, body_at}
use Rattle.ipc_fields.proofs.FieldLemmas.{some_is, join_some, IsBytes, IsBytes-take, IsBytes-drop, wide32}
use Rattle.ipc_fields.proofs.Beginning.{begun}
use Rattle.ipc_fields.proofs.FrontLemmas.{at_header, body_of_is, body_at_some}

-- a frame's text is that of a body of this length
pub record IsFramed (body : List ℕ) (s : List ℕ) : Type 0 where
  pub small : length body ≤ max_body
  pub text_is : s ≡ frame body

guard_some : {A : Type 0} (b : Bool) (x y : A) → cond b (Some x) None ≡ Some y → (b ≡ true) × (x ≡ y)
guard_some true x y e = (refl, cc)
guard_some false x y e = absurd cc

-- what a framed text frames
pub framed_some : (o : Option (List ℕ)) (s : List ℕ) → framed o ≡ Some s → (body : List ℕ) × (o ≡ Some body) × IsFramed body s
unfolding framed
framed_some None s e = absurd cc
framed_some (Some body) s e =
    let g = guard_some (leb (length body) max_body) (frame body) s e in
    (body, refl, record { small = leb-true _ _ g.0; text_is = sym g.1 })

pub framed_is : (body : List ℕ) → length body ≤ max_body → framed (Some body) ≡ Some (frame body)
unfolding framed
framed_is body small = rw (le-leb _ _ small) refl

-- ---- a frame that is read was spelled so

pub body_spelled : (w b r : List ℕ) → IsBytes w → body_at w ≡ Ok (Some (b, r)) → (framed (Some b) ≡ Some (frame b)) × (w ≡ frame b ++ r) × IsBytes b
body_spelled w b r fits e =
    let f = body_at_some w b r e in
    let head : List ℕ = take 4 w in
    let n : ℕ = from_be_bytes w32 head in
    let len : length b ≡ n = ap length f.body.body_is ∙ (omega (arith, length-take n (drop 4 w), f.body.whole)) in
    let head_is : to_be_bytes w32 (length b) ≡ head = ap (to_be_bytes w32) len ∙ wide32.back head (omega (arith, length-take 4 w, f.header)) (IsBytes-take 4 w fits) in
    let tail : b ++ r ≡ drop 4 w = rw (f.body.body_is, f.body.rest_is) (take-append-drop n (drop 4 w)) in
    let whole : w ≡ head ++ (b ++ r) = sym (take-append-drop 4 w) ∙ ap (λ (x : List ℕ). head ++ x) (sym tail) in
    let small : length b ≤ max_body = omega (arith, len, ltb-false _ _ f.body.small) in
    (framed_is b small, whole ∙ ap (λ (x : List ℕ). x ++ (b ++ r)) (sym head_is) ∙ sym (append_assoc (to_be_bytes w32 (length b)) b r), subst IsBytes (sym f.body.body_is) (IsBytes-take n (drop 4 w) (IsBytes-drop 4 w fits)))

-- ---- a frame that was spelled is read

pub body_again : (b r : List ℕ) → 0 < length b → length b ≤ max_body → body_at (frame b ++ r) ≡ Ok (Some (b, r))
body_again b r some small =
    let head : List ℕ = to_be_bytes w32 (length b) in
    let regrouped : frame b ++ r ≡ head ++ (b ++ r) = append_assoc head b r in
    let n : from_be_bytes w32 head ≡ length b = wide32.again (length b) (omega arith) in
    let body : body_of (length b) (b ++ r) ≡ Ok (Some (b, r)) =
    body_of_is (length b) (b ++ r) b r (ne_eqb _ _ (λ is. absurd (omega arith))) (le-ltb _ _ small) (omega (arith, length-append b r)) (sym (take_at b r (length b) refl)) (sym (drop_at b r (length b) refl)) in
    ap body_at regrouped ∙ at_header head (b ++ r) (omega arith) ∙ ap (λ (m : ℕ). body_of m (b ++ r)) n ∙ body

-- ---- no frame begins another

pub no_frame_begins : (a b : List ℕ) (s t : List ℕ) → IsFramed a s → IsFramed b (s ++ t) → t ≡ []
no_frame_begins a b s t x y =
    let same : frame a ++ t ≡ frame b = ap (λ (z : List ℕ). z ++ t) (sym x.text_is) ∙ y.text_is in
    let long : length (frame a ++ t) ≡ length (frame b) = ap length same in
    let head_a : List ℕ = to_be_bytes w32 (length a) in
    let head_b : List ℕ = to_be_bytes w32 (length b) in
    let heads : head_a ≡ head_b = sym (take_at head_a (a ++ t) 4 refl) ∙ ap (take 4) (sym (append_assoc head_a a t) ∙ same) ∙ take_at head_b b 4 refl in
    let a-is = wide32.again (length a) (omega (arith, x.small)) in
    let b-is = wide32.again (length b) (omega (arith, y.small)) in
    let lengths : length a ≡ length b = sym a-is ∙ ap (from_be_bytes w32) heads ∙ b-is in
    nil_from_length t (omega (arith, lengths, length-append (frame a) t, length-append head_a a, length-append head_b b, long))

-- ---- a frame that is put behind what stands in a buffer: room for its length, its body, and then its length

pub frame_put : {X : Type 0} (old empty full new : List ℕ) (start : ℕ) (body : Option (List ℕ)) (result : Result X WriteFault) → start ≡ length old → (Some old ⊕ u32.spell 0) ≡ Some empty → (Some empty ⊕ body) ≡ Some full
    → Puts (take start full) new result (framed (Some (drop (start + 4) full))) → Puts old new result (framed body)
frame_put old empty full new start body result begins room put closed =
    let head : List ℕ = to_be_bytes w32 0 in
    let empty_is : old ++ head ≡ empty = some_is _ _ room in
    let j = join_some (Some empty) body full put in
    let parts : full ≡ empty ++ j.1 = j.4 ∙ ap (λ (x : List ℕ). x ++ j.1) (sym (some_is _ _ j.2)) in
    let whole : full ≡ old ++ (head ++ j.1) = parts ∙ ap (λ (x : List ℕ). x ++ j.1) (sym empty_is) ∙ append_assoc old head j.1 in
    let before : take start full ≡ old = ap (take start) whole ∙ take_at old (head ++ j.1) start (sym begins) in
    let len : length empty ≡ start + 4 = ap length (sym empty_is) ∙ length-append old head ∙ ap (λ (n : ℕ). n + 4) (sym begins) in
    let behind : drop (start + 4) full ≡ j.1 = ap (drop (start + 4)) parts ∙ drop_at empty j.1 (start + 4) len in
    subst (λ (o : List ℕ). Puts o new result (framed body)) before (subst (λ (t : Option (List ℕ)). Puts (take start full) new result (framed t)) (ap (λ (x : List ℕ). Some x) behind ∙ sym j.3) closed)

pub frame_lacks : (e : WriteFault) (body : Option (List ℕ)) → Lacks e body → Lacks e (framed body)
unfolding framed
frame_lacks writing.NoMemory body lacks = tt
frame_lacks writing.TooLong body lacks = ap framed lacks

pub frame_begins : (old full new : List ℕ) (start : ℕ) → start ≡ length old → Begins old full → Begins (take start full) new → Begins old new
frame_begins old full new start is before behind = subst (λ (o : List ℕ). Begins o new) (begun start (sym is) before) behind

-- there is room for the length
pub frame_room : (old empty full : List ℕ) (start : ℕ) → start ≡ length old → (Some old ⊕ u32.spell 0) ≡ Some empty → Begins empty full → start + 4 ≤ length full
frame_room old empty full start is room behind =
    let head : List ℕ = to_be_bytes w32 0 in
    let empty_is : old ++ head ≡ empty = some_is _ _ room in
    omega (arith, is, ap length (sym empty_is) ∙ length-append old head, ap length behind.parts ∙ length-append empty behind.more)

-- what is put into an empty buffer is all
pub put_first : (old new : List ℕ) (text : Option (List ℕ)) → old ≡ [] → (Some old ⊕ text) ≡ Some new → text ≡ Some new
put_first old new text none put =
    let j = join_some (Some old) text new put in
    let front : j.0 ≡ [] = sym (some_is _ _ j.2) ∙ none in
    j.3 ∙ ap (λ (x : List ℕ). Some x) (sym (j.4 ∙ ap (λ (x : List ℕ). x ++ j.1) front))
