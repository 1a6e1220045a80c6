-- Reading and writing many values one after the other, as a loop does.
use Rattle.std.proofs.Common.{◌≡◌, ℕ, suc, ◌-◌, ◌+◌, ◌≤◌, ◌<◌, List, [], ◌∷◌, ◌++◌, length, get_or, drop, drop-cons, add-one, Option, Some, None, Result, Ok, Err, refl, sym, ap, ◌∙◌, append_assoc, arith}
use Rattle.std.proofs.Math.ListN.{drop_of_length-le}
use Rattle.std.proofs.lemmas.List.{append-nil}
use Rattle.ipc_fields.specs.declared.fault.WireFault.{WireFault}
use Rattle.ipc_fields.specs.declared.fault.ReadFault.{ReadFault}
use Rattle.ipc_fields.specs.declared.fault.ReadFault.TheVariants as reading
use Rattle.ipc_fields.specs.declared.fault.WriteFault.{WriteFault}
use Rattle.ipc_fields.specs.declared.fault.WriteFault.TheVariants as writing
use Rattle.ipc_fields.specs.Field.{◌>>=◌, ◌⊕◌, Field, so_many, all_spelled}
use Rattle.ipc_fields.specs.Given.{Fails, Lacks, Puts}
use Rattle.ipc_fields.proofs.Joins.{join_assoc, join_none}

-- what was read before, and what is still read
abbrev pub with_front : {A : Type 0} → List A → Result (List A × List ℕ) WireFault → Result (List A × List ℕ) WireFault
with_front front read = read >>= λ x. Ok (front ++ x.0, x.1)

regroup : {A : Type 0} (front : List A) (x : A) (read : Result (List A × List ℕ) WireFault) → with_front front (read >>= λ y. Ok (x ∷ y.0, y.1)) ≡ with_front (front ++ x ∷ []) read
regroup front x (Ok y) = ap (λ (xs : List _). Ok (xs, y.1)) (simp append_assoc)
regroup front x (Err f) = refl

pub goes_on : {A : Type 0} (f : Field A) (front : List A) (count i : ℕ) (w : List ℕ) (x : A) (after : List ℕ) (total : Result (List A × List ℕ) WireFault) → i < count → f.read w ≡ Ok (x, after)
    → with_front front (so_many f (count - i) w) ≡ total → with_front (front ++ x ∷ []) (so_many f (count - (i + 1)) after) ≡ total
unfolding so_many
goes_on f front count i w x after total lt h so_far =
    let k : count - i ≡ suc (count - (i + 1)) = omega arith in
    let one : with_front front (so_many f (count - i) w) ≡ with_front (front ++ x ∷ []) (so_many f (count - (i + 1)) after) = rw (k, h) (regroup front x (so_many f (count - (i + 1)) after)) in
    sym one ∙ so_far

pub ends : {A : Type 0} (f : Field A) (e : ReadFault) (front : List A) (count i : ℕ) (w : List ℕ) (total : Result (List A × List ℕ) WireFault) → i < count → Fails e (f.read w)
    → with_front front (so_many f (count - i) w) ≡ total → Fails e total
unfolding so_many
ends f reading.NoMemory front count i w total lt h so_far = tt
ends f (reading.Wire d) front count i w total lt h so_far =
    let k : count - i ≡ suc (count - (i + 1)) = omega arith in
    let one : with_front front (so_many f (count - i) w) ≡ Err d = rw (k, h) refl in
    sym so_far ∙ one

-- what wants memory alone fails by nothing else
pub wants_memory : {X Y : Type 0} (e : ReadFault) (x : X) (read : Result Y WireFault) → Fails e (Ok x) → Fails e read
wants_memory reading.NoMemory x read fails = tt
wants_memory (reading.Wire d) x read fails = absurd cc

pub is_done : {A : Type 0} (f : Field A) (front : List A) (count i : ℕ) (w : List ℕ) (total : Result (List A × List ℕ) WireFault) → count ≤ i → with_front front (so_many f (count - i) w) ≡ total → total ≡ Ok (front, w)
unfolding so_many
is_done {A} f front count i w total le so_far =
    let k : count - i ≡ 0 = omega arith in
    let one : with_front front (so_many f (count - i) w) ≡ Ok (front, w) = rw k (ap (λ (xs : List A). Ok (xs, w)) (append-nil front)) in
    sym so_far ∙ one

-- ---- writing

-- what is spelled from an item on
from_item : {A : Type 0} (f : Field A) (xs : List A) (i : ℕ) (x : A) → i < length xs → x ≡ get_or xs i x → all_spelled f (drop i xs) ≡ (f.spell x ⊕ all_spelled f (drop (i + 1) xs))
from_item f xs i x lt is = rw (add-one, drop-cons xs i x, ← is) refl

pub writes_on : {A : Type 0} (f : Field A) (xs : List A) (i : ℕ) (x : A) (out next : List ℕ) (total : Option (List ℕ)) → i < length xs → x ≡ get_or xs i x
    → (Some out ⊕ f.spell x) ≡ Some next → (Some out ⊕ all_spelled f (drop i xs)) ≡ total → (Some next ⊕ all_spelled f (drop (i + 1) xs)) ≡ total
writes_on f xs i x out next total lt is put so_far =
    let rest : Option (List ℕ) = all_spelled f (drop (i + 1) xs) in
    ap (λ (t : Option (List ℕ)). t ⊕ rest) (sym put) ∙ join_assoc (Some out) (f.spell x) rest ∙ ap (λ (t : Option (List ℕ)). Some out ⊕ t) (sym (from_item f xs i x lt is)) ∙ so_far

none_behind : (old : List ℕ) (text : Option (List ℕ)) → None ≡ (Some old ⊕ text) → text ≡ None
none_behind old None e = refl
none_behind old (Some t) e = absurd cc

pub lacks_on : {A : Type 0} (f : Field A) (e : WriteFault) (xs : List A) (i : ℕ) (x : A) (old out : List ℕ) (text : Option (List ℕ)) → i < length xs → x ≡ get_or xs i x
    → Lacks e (f.spell x) → (Some out ⊕ all_spelled f (drop i xs)) ≡ (Some old ⊕ text) → Lacks e text
lacks_on f writing.NoMemory xs i x old out text lt is none so_far = tt
lacks_on f writing.TooLong xs i x old out text lt is none so_far =
    let rest : Option (List ℕ) = all_spelled f (drop (i + 1) xs) in
    let from : all_spelled f (drop i xs) ≡ None = from_item f xs i x lt is ∙ ap (λ (t : Option (List ℕ)). t ⊕ rest) none in
    none_behind old text (sym (ap (λ (t : Option (List ℕ)). Some out ⊕ t) from) ∙ so_far)

pub all_written : {A : Type 0} (f : Field A) (xs : List A) (i : ℕ) (out : List ℕ) (total : Option (List ℕ)) → length xs ≤ i → (Some out ⊕ all_spelled f (drop i xs)) ≡ total → total ≡ Some out
all_written f xs i out total le so_far =
    let none : all_spelled f (drop i xs) ≡ Some [] = ap (all_spelled f) (drop_of_length-le xs le) in
    sym so_far ∙ ap (λ (t : Option (List ℕ)). Some out ⊕ t) none ∙ ap (λ (t : List ℕ). Some t) (append-nil out)

-- what a writer puts behind another
pub puts_on : {X : Type 0} (old first new : List ℕ) (result : Result X WriteFault) (a b : Option (List ℕ)) → (Some old ⊕ a) ≡ Some first → Puts first new result b → Puts old new result (a ⊕ b)
puts_on old first new (Ok x) a b put then = sym (join_assoc (Some old) a b) ∙ ap (λ (t : Option (List ℕ)). t ⊕ b) put ∙ then
puts_on old first new (Err writing.NoMemory) a b put then = tt
puts_on old first new (Err writing.TooLong) a b put then = ap (λ (t : Option (List ℕ)). a ⊕ t) then ∙ join_none a
