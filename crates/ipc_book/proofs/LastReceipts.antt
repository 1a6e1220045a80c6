-- The last receipt of a seat.
use Rattle.std.proofs.Common.{◌≡◌, ℕ, ◌<◌, List, Option, Some, None, length, refl, sym, ap, subst, ◌∙◌}
use Rattle.std.specs.Prelude.{Result, Err}
use Rattle.std.specs.Option.{option_map}
use Rattle.std.proofs.lemmas.Option.{same_Some, none-some}
use Rattle.ipc_terms.specs.Lines.{line_of}
use Rattle.ipc_terms.specs.declared.record.Event.{Event}
use Rattle.ipc_terms.specs.declared.record.Record.{Record}
use Rattle.ipc_trail.specs.declared.audit.Receipt.{Receipt}
use Rattle.ipc_trail.specs.Receipts.{receipt_of}
use Rattle.ipc_policy.specs.Decides.History.{History, record_at}
use Rattle.ipc_policy.specs.Decides.Verdict.{verdict}
use Rattle.ipc_policy.proofs.Histories.Moments.{place_below, record_now}
use Rattle.ipc_core.specs.CoreView.{CoreView}
use Rattle.ipc_core.specs.Outboxes.{after_step}
use Rattle.ipc_book.specs.declared.entry.Entry.{Entry}
use Rattle.ipc_book.specs.declared.entry.StepFault.{StepFault}
use Rattle.ipc_book.specs.declared.entry.StepFault.TheVariants.{Stale, NoMemory}
use Rattle.ipc_book.specs.declared.entry.OfferFault.{OfferFault}
use Rattle.ipc_book.specs.declared.entry.OfferFault.TheVariants.{Full, Fault}
use Rattle.ipc_book.specs.Seats.{receipt_at, receipt_after, StaleExactly, FullExactly, without_full, step_fault}
use Rattle.ipc_book.specs.Locked.{StaleSays}
use Rattle.std.specs.Result.{IsErrAnd}
use Rattle.std.proofs.Math.Nat.{lt_of_not-le}

-- the receipt that is found at the place where the history ended
pub receipt_got : (a a' : CoreView) (e : Event) (place : ℕ) (r : Receipt) → a' ≡ after_step e a → place ≡ length a.history → receipt_at a'.history place ≡ Some r → r ≡ receipt_after a.config a.history e
receipt_got a a' e place r stepped at got =
    same_Some r (receipt_after a.config a.history e)
    (sym got
    ∙ ap (λ (w : CoreView). receipt_at w.history place) stepped
    ∙ ap (receipt_at (after_step e a).history) at
    ∙ ap (option_map (λ q. receipt_of (line_of (length a.history) q))) (record_now a.history (record { event = e; rule = verdict a.config a.history e })))

-- a receipt that stands has a place within
pub receipt_below : (h : History) (place : ℕ) (r : Receipt) → receipt_at h place ≡ Some r → place < length h
receipt_below h place r e = at (record_at place h) refl e where
  at : (o : Option Record) → record_at place h ≡ o → option_map (λ q. receipt_of (line_of place q)) o ≡ Some r → place < length h
  at None is k = absurd (none-some r k)
  at (Some q) is k = place_below h place q is

same_fault : {A : Type 0} → (x y : StepFault) → ◌≡◌ {A = Result A StepFault} (Err x) (Err y) → x ≡ y
same_fault x y e = cc

-- the same fault, of another type of results
pub stale_across : {A : Type 0} → {B : Type 0} → (a : CoreView) (list : List Entry) (r : Result A StepFault) (r' : Result B StepFault) (fault : StepFault) → r ≡ Err fault → r' ≡ Err fault → StaleExactly a list r → StaleExactly a list r'
stale_across a list r r' fault is is' h seen found =
    ((λ e. (h seen found).0 (is ∙ ap Err (same_fault fault (Stale seen found) (sym is' ∙ e)))), (λ t. is' ∙ ap Err (same_fault fault (Stale seen found) (sym is ∙ (h seen found).1 t))))

-- the same result, of what the views show
pub stale_moved : {A : Type 0} → (a a' : CoreView) (list list' : List Entry) (r : Result A StepFault) → a ≡ a' → list ≡ list' → StaleExactly a list r → StaleExactly a' list' r
stale_moved a a' list list' r p q h = subst (λ v. StaleExactly v list' r) p (subst (λ l. StaleExactly a l r) q h)

stale_is : {A : Type 0} → (a : CoreView) (list : List Entry) (r : Result A StepFault) → StaleExactly a list r → StaleSays list r
stale_is a list r h seen found e =
    let t = (h seen found).0 e in (t.0, t.2)

-- what a stale seat is told, in another type of results, after room was made in it
pub says_across : {A : Type 0} → {B : Type 0} → (list list' : List Entry) (r : Result A StepFault) (r' : Result B StepFault) (fault : StepFault) → r ≡ Err fault → r' ≡ Err fault → list ≡ list' → StaleSays list r → StaleSays list' r'
says_across list list' r r' fault is is' same h = subst (λ l. StaleSays l r') same there where
  there : StaleSays list r'
  there seen found e = h seen found (is ∙ ap Err (same_fault fault (Stale seen found) (sym is' ∙ e)))

pub stale_told : {A : Type 0} → {B : Type 0} → (a : CoreView) (list list' : List Entry) (r : Result A StepFault) (r' : Result B StepFault) (fault : StepFault) → r ≡ Err fault → r' ≡ Err fault → list ≡ list' → StaleExactly a list r → StaleSays list' r'
stale_told a list list' r r' fault is is' same h = says_across list list' r r' fault is is' same (stale_is a list r h)

-- a seat that is not full has room
under : {A : Type 0} → {B : Type 0} → (most n : ℕ) (r : Result A (OfferFault × B)) (fault : StepFault) (back : B) → r ≡ Err (Fault fault, back) → FullExactly most n r → n < most
under most n r fault back is full =
    lt_of_not-le (λ le. not_full (subst (λ v. IsErrAnd v (λ p. p.0 ≡ Full)) is (full.1 le)))
  where
    not_full : Fault fault ≡ Full → ⊥
    not_full e = absurd cc

not_stale : (seen : Receipt) (found : Option Receipt) → ◌≡◌ {A = Result Receipt StepFault} (Err NoMemory) (Err (Stale seen found)) → ⊥
not_stale seen found e = absurd cc

pub offer_stale : {A : Type 0} → {B : Type 0} → (a : CoreView) (list list' : List Entry) (most n : ℕ) (r : Result A (OfferFault × B)) (r' : Result Receipt (OfferFault × B)) (fault : OfferFault) (back : B) → r ≡ Err (fault, back) → r' ≡ Err (fault, back) → list ≡ list' → FullExactly most n r → (n < most → StaleExactly a list (without_full r)) → StaleSays list' (without_full r')
offer_stale a list list' most n r r' Full back is is' same full stale =
    λ seen found e. absurd (not_stale seen found (sym (ap without_full is') ∙ e))
offer_stale a list list' most n r r' (Fault fault) back is is' same full stale =
    stale_told a list list' (without_full r) (without_full r') fault (ap without_full is) (ap without_full is') same (stale (under most n r fault back is full))
