-- What is put behind what stands in a buffer: text with its sum, and a body behind its length.
use Rattle.std.proofs.Common.{◌≡◌, ℕ, ◌+◌, ◌≤◌, ◌<◌, List, ◌++◌, length, take, drop, Option, Some, None, Result, Ok, Err, refl, sym, ap, subst, ◌∙◌, append_assoc, arith}
use Rattle.std.specs.Prelude.{OnOk, OnErr}
use Rattle.std.specs.Int.{w64, to_be_bytes}
use Rattle.std.proofs.lemmas.Bool.{le-leb, lt-leb}
use Rattle.std.proofs.lemmas.List.{take_at, drop_at, length-append}
use Rattle.ipc_fields.specs.declared.fault.WriteFault.{WriteFault}
use Rattle.ipc_fields.specs.declared.fault.WriteFault.TheVariants as writing
use Rattle.ipc_fields.specs.Field.{◌⊕◌, u64}
use Rattle.ipc_fields.specs.Given.{Begins, Lacks, Puts}
use Rattle.ipc_fields.proofs.Beginning.{begins_self, begins_on, begun}
use Rattle.ipc_fields.proofs.FieldLemmas.{some_is, join_some}
use Rattle.ipc_fields.proofs.Many.{puts_on}
use Rattle.ipc_log.specs.Summed.{summed}
use Rattle.ipc_log.specs.Trail.{summed_text, max_length, closed}
use Rattle.ipc_log.proofs.TrailLemmas.{prefix}

-- a writer that leaves all as it was where it fails
pub puts_of : {X : Type 0} (old new : List ℕ) (result : Result X WriteFault) (text : Option (List ℕ)) → OnOk result ((Some old ⊕ text) ≡ Some new) → (result ≡ Err writing.TooLong → text ≡ None) → Puts old new result text
puts_of old new (Ok x) text put long = put
puts_of old new (Err writing.NoMemory) text put long = tt
puts_of old new (Err writing.TooLong) text put long = long refl

-- what a text that was put stands behind
pub split_put : (old new : List ℕ) (text : Option (List ℕ)) → (Some old ⊕ text) ≡ Some new → (more : List ℕ) × (text ≡ Some more) × (new ≡ old ++ more)
split_put old new text put =
    let j = join_some (Some old) text new put in
    (j.1, j.3, j.4 ∙ ap (λ (x : List ℕ). x ++ j.1) (sym (some_is _ _ j.2)))

pub begins_of : {X : Type 0} (old new : List ℕ) (result : Result X WriteFault) (text : Option (List ℕ)) → OnOk result ((Some old ⊕ text) ≡ Some new) → OnErr result (new ≡ old) → Begins old new
begins_of old new (Ok x) text put left =
    let s = split_put old new text put in
    record { more = s.0; parts = s.2 }
begins_of old new (Err e) text put left = subst (Begins old) (sym left) (begins_self old)

-- ---- a text, and its sum from where it began

pub sum_put : {X : Type 0} (old full new : List ℕ) (start : ℕ) (text : Option (List ℕ)) (result : Result X WriteFault) → start ≡ length old → (Some old ⊕ text) ≡ Some full
    → Puts (take start full) new result (Some (summed (drop start full))) → Puts old new result (summed_text text)
sum_put old full new start text result begins put closed =
    let s = split_put old full text put in
    let before : take start full ≡ old = ap (take start) s.2 ∙ take_at old s.0 start (sym begins) in
    let behind : drop start full ≡ s.0 = ap (drop start) s.2 ∙ drop_at old s.0 start (sym begins) in
    let text_is : Some (summed (drop start full)) ≡ summed_text text = ap (λ (x : List ℕ). Some (summed x)) behind ∙ ap summed_text (sym s.1) in
    subst (λ (o : List ℕ). Puts o new result (summed_text text)) before (subst (λ (t : Option (List ℕ)). Puts (take start full) new result t) text_is closed)

-- ---- room for a length and its sum, a body, and then what closes it

pub record_put : {X : Type 0} (old empty full new : List ℕ) (start : ℕ) (body : Option (List ℕ)) (result : Result X WriteFault) → start ≡ length old → (Some old ⊕ u64.spell 0) ≡ Some empty → (Some empty ⊕ body) ≡ Some full
    → Puts (take start full) new result (closed (Some (drop (start + 8) full))) → Puts old new result (closed body)
record_put old empty full new start body result begins room put closing =
    let head : List ℕ = to_be_bytes w64 0 in
    let empty_is : old ++ head ≡ empty = some_is _ _ room in
    let s = split_put empty full body put in
    let whole : full ≡ old ++ (head ++ s.0) = s.2 ∙ ap (λ (x : List ℕ). x ++ s.0) (sym empty_is) ∙ append_assoc old head s.0 in
    let before : take start full ≡ old = ap (take start) whole ∙ take_at old (head ++ s.0) start (sym begins) in
    let len : length empty ≡ start + 8 = ap length (sym empty_is) ∙ length-append old head ∙ ap (λ (n : ℕ). n + 8) (sym begins) in
    let behind : drop (start + 8) full ≡ s.0 = ap (drop (start + 8)) s.2 ∙ drop_at empty s.0 (start + 8) len in
    subst (λ (o : List ℕ). Puts o new result (closed body)) before (subst (λ (t : Option (List ℕ)). Puts (take start full) new result (closed t)) (ap (λ (x : List ℕ). Some x) behind ∙ sym s.1) closing)

pub closed_lacks : (e : WriteFault) (body : Option (List ℕ)) → Lacks e body → Lacks e (closed body)
closed_lacks writing.NoMemory body lacks = tt
closed_lacks writing.TooLong body lacks = ap closed lacks

pub closed_begins : (old full new : List ℕ) (start : ℕ) → start ≡ length old → Begins old full → Begins (take start full) new → Begins old new
closed_begins old full new start is before behind = subst (λ (o : List ℕ). Begins o new) (begun start (sym is) before) behind

pub record_room : (old empty full : List ℕ) (start : ℕ) → start ≡ length old → (Some old ⊕ u64.spell 0) ≡ Some empty → Begins empty full → start + 8 ≤ length full
record_room old empty full start is room behind =
    let head : List ℕ = to_be_bytes w64 0 in
    let empty_is : old ++ head ≡ empty = some_is _ _ room in
    omega (arith, is, ap length (sym empty_is) ∙ length-append old head, ap length behind.parts ∙ length-append empty behind.more)

-- ---- what closes a body that stands behind its length

pub close_put : {X : Type 0} (before body set new : List ℕ) (n at : ℕ) (result : Result X WriteFault) → set ≡ (before ++ prefix n) ++ body → length before + 8 ≡ at → n ≡ length body → n ≤ max_length
    → Puts (take at set) new result (Some (summed (drop at set))) → Puts before new result (closed (Some body))
close_put before body set new n at result set_is at_is n_is small put =
    let front : List ℕ = before ++ prefix n in
    let len : length front ≡ at = length-append before (prefix n) ∙ at_is in
    let taken : take at set ≡ front = ap (take at) set_is ∙ take_at front body at len in
    let left : drop at set ≡ body = ap (drop at) set_is ∙ drop_at front body at len in
    let behind : Puts front new result (Some (summed body)) = subst (λ (o : List ℕ). Puts o new result (Some (summed body))) taken (subst (λ (t : List ℕ). Puts (take at set) new result (Some (summed t))) left put) in
    let whole : Puts before new result (Some (prefix n ++ summed body)) = puts_on before front new result (Some (prefix n)) (Some (summed body)) refl behind in
    let long : closed (Some body) ≡ Some (prefix n ++ summed body) = rw (← n_is, le-leb _ _ small) refl in
    subst (λ (t : Option (List ℕ)). Puts before new result t) (sym long) whole

pub set_begins : (before body set new : List ℕ) (n : ℕ) → set ≡ (before ++ prefix n) ++ body → Begins set new → Begins before new
set_begins before body set new n set_is behind = begins_on (record { more = prefix n ++ body; parts = set_is ∙ append_assoc before (prefix n) body }) behind

pub too_long : (body : List ℕ) → max_length < length body → closed (Some body) ≡ None
too_long body lt = rw (lt-leb _ _ lt) refl

-- where a field lacks its text, all lack it
pub summed_lacks : (e : WriteFault) (front : List ℕ) (fields : Option (List ℕ)) → Lacks e fields → Lacks e (summed_text (Some front ⊕ fields))
summed_lacks writing.NoMemory front fields lacks = tt
summed_lacks writing.TooLong front fields lacks = ap (λ (t : Option (List ℕ)). summed_text (Some front ⊕ t)) lacks
