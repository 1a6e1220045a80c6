use Rattle.std.proofs.Common.{◌≡◌, ℕ, ◌+◌, ◌<◌, ◌≤◌, ◌^◌, Bool, true, false, cond, nat_lt, Some, None, refl, sym, ap, ◌∙◌, arith}
use Rattle.std.proofs.lemmas.Bool.Decides.{nat_tests}
use Rattle.ipc_policy.specs.Decides.Charges.{bytes_of}
use Rattle.ipc_rules.proofs.conditions.takes_more.Goals as goal

-- bytes that are counted fit, and bytes that are not exceed every limit
counted : (n bytes : ℕ) (b : Bool) → Some bytes ≡ cond b (Some n) None → bytes ≡ n
counted n bytes true e = cc
counted n bytes false e = absurd cc

uncounted : (n : ℕ) (b : Bool) → nat_lt n (2 ^ 64) ≡ b → None ≡ cond b (Some n) None → 2 ^ 64 ≤ n
uncounted n true e k = absurd cc
uncounted n false e k = grind (arith, nat_tests, e)

more : (most n : ℕ) → most < n → true ≡ nat_lt most n
more most n lt = grind (arith, nat_tests)

pub returns-in_default : goal.returns-in_default
unfolding bytes_of
returns-in_default c =
    let over = uncounted _ _ refl (sym c.in_default.is ∙ c.checked_bytes_of.ensures) in
    let fits = c.ranges.most.fits in
    more c.args.most _ (omega arith)

pub returns-in-Some-checked_add : goal.returns-in-Some-checked_add
unfolding bytes_of
returns-in-Some-checked_add c =
    let bytes = counted _ _ _ (sym c.in-Some.is ∙ c.checked_bytes_of.ensures) in
    ap (nat_lt c.args.most) (c.in-Some-checked_add.ensures.1 ∙ ap (λ n. c.args.used + n) bytes)

pub returns-in-None : goal.returns-in-None
unfolding bytes_of
returns-in-None c =
    let bytes = counted _ _ _ (sym c.in-Some.is ∙ c.checked_bytes_of.ensures) in
    let fits = c.ranges.most.fits in
    let over = c.in-None.ensures in
    more c.args.most _ (omega arith)
