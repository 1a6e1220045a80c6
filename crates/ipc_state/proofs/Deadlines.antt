-- The least deadline that the clock has is that of the calls that are parked.
use Rattle.std.proofs.Common.{◌≡◌, ℕ, ◌≤◌, Bool, true, false, ◌||◌, List, [], ◌∷◌, cond, Option, Some, None, is_some, refl, sym, ap, subst, inl, inr, ◌⊎◌, ◌∙◌, arith}
use Rattle.std.specs.Prelude.{find, max, nat_le}
use Rattle.std.specs.List.{list_any}
use Rattle.std.specs.Option.{option_map, IfSome, IfNone}
use Rattle.std.proofs.lemmas.Bool.{leb-true}
use Rattle.ipc_containers.specs.declared.timed.Timed.{Timed}
use Rattle.ipc_containers.specs.Calls.{is_over, IsLeast}
use Rattle.ipc_policy.specs.declared.config.Config.{Config}
use Rattle.ipc_policy.specs.Decides.History.{History}
use Rattle.ipc_policy.specs.Decides.Timed.{now, deadline_at, is_past}
use Rattle.ipc_policy.specs.Decides.Parking.{parked}
use Rattle.ipc_policy.specs.Decides.Bodies.{due}
use Rattle.ipc_policy.specs.Decides.Verdict.{Legal}
use Rattle.ipc_policy.specs.Follows.CallLists.{In, IsTimedCall}
use Rattle.ipc_policy.proofs.Blocked.DueLists.{in_each, first_is_due}
use Rattle.ipc_state.specs.declared.clock.Clock.{Clock}
use Rattle.ipc_state.specs.OnTime.{place_of, session_of, deadline_told, IsClock, IsOnTime}
use Rattle.ipc_state.specs.NextDeadline.{WaitsUntil, IsLeastDeadline, IsNextDeadline}

-- a call of the list that passes
record Passing (test : Timed → Bool) (xs : List Timed) : Type 0 where
  item : Timed
  stands : In item xs
  passes : test item ≡ true

passing : (test : Timed → Bool) (xs : List Timed) → list_any test xs ≡ true → Passing test xs
passing test [] e = absurd cc
passing test (x ∷ xs) e = at (test x) refl e (passing test xs) where
  at : (b : Bool) → test x ≡ b → (b || list_any test xs) ≡ true → (list_any test xs ≡ true → Passing test xs) → Passing test (x ∷ xs)
  at true q k rest = record { item = x; stands = inl refl; passes = q }
  at false q k rest = let found = rest k in record { item = found.item; stands = inr found.stands; passes = found.passes }

some_passes : (test : Timed → Bool) (y : Timed) (xs : List Timed) → In y xs → test y ≡ true → list_any test xs ≡ true
some_passes test y [] is e = absurd is
some_passes test y (x ∷ xs) is e = at (test x) refl is (some_passes test y xs) where
  at : (b : Bool) → test x ≡ b → (x ≡ y) ⊎ In y xs → (In y xs → test y ≡ true → list_any test xs ≡ true) → (b || list_any test xs) ≡ true
  at true q i rest = refl
  at false q (inl same) rest = absurd (let wrong : true ≡ false = sym e ∙ ap test (sym same) ∙ q in cc)
  at false q (inr there) rest = rest there e

-- one is found where one passes
found_passes : (test : Timed → Bool) (xs : List Timed) → is_some (option_map session_of (find test xs)) ≡ list_any test xs
found_passes test [] = refl
found_passes test (x ∷ xs) = at (test x) (found_passes test xs) where
  at : (b : Bool) → is_some (option_map session_of (find test xs)) ≡ list_any test xs → is_some (option_map session_of (cond b (Some x) (find test xs))) ≡ (b || list_any test xs)
  at true e = refl
  at false e = e

le_itself : (n : ℕ) → nat_le n n ≡ true
le_itself n = grind (arith)

-- the least deadline is that of no call that is parked later
least_below : (n : ℕ) (y : Timed) (xs : List Timed) → IsLeast n xs → In y xs → n ≤ y.deadline
least_below n y xs least is = leb-true _ _ (least y.deadline ∙ some_passes (is_over y.deadline) y xs is (le_itself y.deadline))

-- a parked call that is timed stands in the clock's list
record Standing (xs : List Timed) (t : ℕ) : Type 0 where
  item : Timed
  stands : In item xs
  told : item.deadline ≡ t

standing : (c : Config) (h : History) (xs : List Timed) (s t : ℕ) → IsClock c h xs → WaitsUntil c h s t → Standing xs t
standing c h xs s t listed waits =
    let has = listed.all s waits.call t waits.is_parked waits.until in
    let call = in_each (λ (x : Timed). IsTimedCall (parked c h) (deadline_at h) (session_of x) (place_of x) (deadline_told x)) has.item xs listed.each has.stands in
    let both : Some has.item.deadline ≡ Some t = sym call.until ∙ ap (deadline_at h) has.at_place ∙ waits.until in
    record { item = has.item; stands = has.stands; told = cc }

least_is : (c : Config) (h : History) (xs : List Timed) (n : ℕ) → IsClock c h xs → IsLeast n xs → IsLeastDeadline c h n
least_is c h xs n listed least =
    let found = passing (is_over n) xs (sym (least n) ∙ le_itself n) in
    let call = in_each (λ (x : Timed). IsTimedCall (parked c h) (deadline_at h) (session_of x) (place_of x) (deadline_told x)) found.item xs listed.each found.stands in
    let low = least_below n found.item xs least found.stands in
    let high = leb-true _ _ found.passes in
    let same : found.item.deadline ≡ n = omega arith in
    record {
      session = session_of found.item;
      waits = record { call = call.call; is_parked = call.here; until = ap (deadline_at h) call.place ∙ call.until ∙ ap Some same };
      least = λ s u waits. (let it = standing c h xs s u listed waits in subst (λ m. n ≤ m) it.told (least_below n it.item xs least it.stands));
    }

pub next_is : (c : Config) (h : History) (k : Clock) (w : Option ℕ) → IsOnTime c h k → IfSome w (λ n. IsLeast n k.calls) → IfNone w (k.calls ≡ []) → IsNextDeadline c h w
next_is c h k None on some none = λ s t waits. (let it = standing c h k.calls s t on.calls waits in subst (In it.item) none it.stands)
next_is c h k (Some n) on some none = least_is c h k.calls n on.calls some

any_past : (m : ℕ) (xs : List Timed) (w : Option ℕ) → IfSome w (λ n. IsLeast n xs) → IfNone w (xs ≡ []) → list_any (is_over m) xs ≡ is_past m w
any_past m xs None some none = ap (list_any (is_over m)) none
any_past m xs (Some n) some none = sym (some m)

-- a tick ends a call exactly where the least deadline is past
pub due_past : (c : Config) (h : History) (k : Clock) (moment : ℕ) (w : Option ℕ) → Legal c h → IsOnTime c h k → IfSome w (λ n. IsLeast n k.calls) → IfNone w (k.calls ≡ []) → is_some (due c h moment) ≡ is_past (max moment (now h)) w
due_past c h k moment w legal on some none =
    ap is_some (sym (first_is_due place_of session_of deadline_told c h k.calls moment legal on.calls))
    ∙ found_passes (is_over (max moment (now h))) k.calls
    ∙ any_past (max moment (now h)) k.calls w some none
