-- What stands in front of a buffer when more is put behind it.
use Rattle.std.proofs.Common.{◌≡◌, ℕ, Bool, true, false, cond, List, [], ◌++◌, length, take, sym, ap, ◌∙◌, append_assoc}
use Rattle.std.proofs.lemmas.List.{append-nil, take_at}
use Rattle.ipc_fields.specs.Given.{Begins}

-- what was put, or nothing where it was refused
pub begins_put : (put : Bool) (old text new : List ℕ) → new ≡ cond put (old ++ text) old → Begins old new
begins_put true old text new e = record { more = text; parts = e }
begins_put false old text new e = record { more = []; parts = e ∙ sym (append-nil old) }

pub begins_self : (old : List ℕ) → Begins old old
begins_self old = record { more = []; parts = sym (append-nil old) }

-- one writer after another
pub begins_on : {a b c : List ℕ} → Begins a b → Begins b c → Begins a c
begins_on {a} {b} {c} first second = record {
  more = first.more ++ second.more;
  parts = second.parts ∙ ap (λ (x : List ℕ). x ++ second.more) first.parts ∙ append_assoc a first.more second.more;
}

-- so what stood there is got back
pub begun : {old new : List ℕ} (n : ℕ) → length old ≡ n → Begins old new → take n new ≡ old
begun {old} {new} n is b = ap (take n) b.parts ∙ take_at old b.more n is
