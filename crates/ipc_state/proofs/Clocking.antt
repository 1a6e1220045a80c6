-- How the clock is kept.
use Rattle.std.proofs.Common.{◌≡◌, ℕ, ◌<◌, Bool, true, false, not, ◌&&◌, eqb, List, [], ◌∷◌, ◌++◌, length, Option, Some, None, is_some, refl, sym, ap, subst, ◌∙◌, arith}
use Rattle.std.specs.Prelude.{filter, is_none}
use Rattle.std.specs.Option.{option_map, IfSome}
use Rattle.std.proofs.lemmas.Bool.{eq-eqb, ne_eqb}
use Rattle.ipc_terms.specs.Lists.{Each}
use Rattle.ipc_terms.specs.Timed.{plain, deadline}
use Rattle.ipc_terms.specs.Events.{caller}
use Rattle.ipc_terms.specs.declared.ids.Sid.{Sid}
use Rattle.ipc_terms.specs.declared.rule.Rule.{Rule}
use Rattle.ipc_terms.specs.declared.record.Event.{Event}
use Rattle.ipc_containers.specs.declared.timed.Timed.{Timed}
use Rattle.ipc_containers.specs.Calls.{AllBelow}
use Rattle.ipc_containers.specs.Sessions.{NoneOf}
use Rattle.ipc_policy.specs.declared.config.Config.{Config}
use Rattle.ipc_policy.specs.Decides.History.{History, after_accepted}
use Rattle.ipc_policy.specs.Decides.Timed.{now, told}
use Rattle.ipc_policy.specs.Decides.Parking.{parked}
use Rattle.ipc_policy.specs.Decides.Rules.{would_park}
use Rattle.ipc_policy.specs.Follows.CallLists.{dropped, joined}
use Rattle.ipc_policy.specs.Decides.Verdict.{verdict}
use Rattle.ipc_policy.proofs.Histories.Grown.{grows}
use Rattle.ipc_policy.proofs.Histories.Refused.{same_values}
use Rattle.ipc_policy.proofs.Blocked.DueSteps.{list_same, list_new, listed_parked, listed_before}
use Rattle.ipc_tables.specs.TablesView.{TablesView}
use Rattle.ipc_state.specs.declared.clock.Clock.{Clock}
use Rattle.ipc_state.specs.Agrees.{IsCore}
use Rattle.ipc_state.specs.OnTime.{ended_call, new_call, place_of, session_of, deadline_told, IsClock, IsOnTime, MayCome, with_calls}
use Rattle.ipc_state.proofs.Moving.{moved_by, list_moved}

-- the lists of the crate below
all_below : (n : ℕ) (xs : List Timed) → Each (λ x. place_of x < n) xs → AllBelow n xs
all_below n [] all = tt
all_below n (x ∷ xs) all = (all.0, all_below n xs all.1)

none_of : (s : ℕ) (xs : List Timed) → Each (λ x. session_of x ≡ s → ⊥) xs → NoneOf s xs
none_of s [] all = tt
none_of s (x ∷ xs) all = (all.0, none_of s xs all.1)

-- what comes may come
new_is : (b : Bool) (w : Option ℕ) (place : ℕ) (sid : Sid) (x : Timed) → new_call b w place sid ≡ Some x → (b ≡ true) × (is_some w ≡ true) × (x.place ≡ place) × (x.session ≡ sid)
new_is true (Some t) place sid x e = let same : record { place = place; session = sid; deadline = t } ≡ x = cc in (refl, refl, ap (λ (y : Timed). y.place) (sym same), ap (λ (y : Timed). y.session) (sym same))
new_is true None place sid x e = absurd cc
new_is false w place sid x e = absurd cc

both_on : (a b : Bool) → (a && b) ≡ true → (a ≡ true) × (b ≡ true)
both_on true true e = (refl, refl)
both_on true false e = absurd cc
both_on false b e = absurd cc

is_none_so : (w : Option Rule) → is_none w ≡ true → w ≡ None
is_none_so None e = refl
is_none_so (Some r) e = absurd cc

pub may_come : (c : Config) (h : History) (t : TablesView) (k : Clock) (e : Event) (rule : Option Rule) (parks : Bool) (w : Option Timed) → IsCore c h t → IsOnTime c h k → rule ≡ verdict c h e → parks ≡ would_park c h (plain e) → w ≡ new_call (is_none rule && parks) (deadline e) (length h) (caller e) → IfSome w (λ x. MayCome x k.calls)
may_come c h t k e rule parks None core on is p made = tt
may_come c h t k e rule parks (Some x) core on is p made =
    let new = new_is (is_none rule && parks) (deadline e) (length h) (caller e) x (sym made) in
    let both = both_on (is_none rule) parks new.0 in
    let accepted : verdict c h e ≡ None = sym is ∙ is_none_so rule both.0 in
    let m = moved_by c h t e core accepted in
    let free : parked c h x.session.0 ≡ None = ap (λ (s : Sid). parked c h s.0) new.3 ∙ m.free (sym p ∙ both.1) in
    record {
      behind = all_below x.place k.calls (subst (λ (n : ℕ). Each (λ y. place_of y < n) k.calls) (sym new.2) (listed_before place_of session_of deadline_told (parked c h) _ (length h) k.calls on.calls));
      free = none_of x.session.0 k.calls (listed_parked place_of session_of deadline_told (parked c h) _ (length h) k.calls on.calls x.session.0 free);
    }

-- a call that came and goes leaves the list as it was
dropped_joined : (x : Timed) (xs : List Timed) → NoneOf x.session.0 xs → filter (λ y. not (eqb (session_of y) x.session.0)) (xs ++ x ∷ []) ≡ xs
dropped_joined x [] none = rw (eq-eqb x.session.0 x.session.0 refl) refl
dropped_joined x (y ∷ ys) none = rw (ne_eqb y.session.0 x.session.0 none.0) (ap (λ zs. y ∷ zs) (dropped_joined x ys none.1))

pub undone : (c : Config) (h : History) (k : Clock) (w : Option Timed) → IsOnTime c h k → IfSome w (λ x. MayCome x k.calls) → IsOnTime c h (with_calls (dropped session_of (option_map (λ (s : Sid). s.0) (option_map (λ (x : Timed). x.session) w)) (joined w k.calls)) (with_calls (joined w k.calls) k))
undone c h k None on may = on
undone c h k (Some x) on may = record { time = on.time; calls = subst (IsClock c h) (sym (dropped_joined x k.calls may.free)) on.calls }

-- an accepted event
swapped : (b : Bool) (w : Option ℕ) (place : ℕ) (sid : Sid) (gone : Option ℕ) (xs : List Timed) → (b ≡ true → gone ≡ None) → dropped session_of gone (joined (new_call b w place sid) xs) ≡ joined (new_call b w place sid) (dropped session_of gone xs)
swapped true (Some t) place sid gone xs alone = rw (alone refl) refl
swapped true None place sid gone xs alone = refl
swapped false w place sid gone xs alone = refl

pub on_accepted : (c : Config) (h : History) (t : TablesView) (k : Clock) (e : Event) (parks : Bool) (gone : Option Sid) → IsCore c h t → IsOnTime c h k → verdict c h e ≡ None → parks ≡ would_park c h (plain e) → option_map (λ (s : Sid). s.0) gone ≡ ended_call c h (plain e) → IsOnTime c (after_accepted h e) (record (with_calls (dropped session_of (option_map (λ (s : Sid). s.0) gone) (joined (new_call parks (deadline e) (length h) (caller e)) k.calls)) k) { time = told e k.time })
on_accepted c h t k e parks gone core on accepted p g =
    let m = moved_by c h t e core accepted in
    record {
      time = ap (told e) on.time ∙ sym (grows c h e).time;
      calls = rw (g, p, swapped (would_park c h (plain e)) (deadline e) (length h) (caller e) (ended_call c h (plain e)) k.calls m.alone) (list_moved c h e (caller e) (ended_call c h (plain e)) (would_park c h (plain e)) k.calls core.legal m on.calls);
    }

-- a refused event
pub on_refused : (c : Config) (h : History) (k : Clock) (e : Event) (rule : Rule) → IsOnTime c h k → IsOnTime c (record { event = e; rule = Some rule } ∷ h) k
on_refused c h k e rule on =
    let q = same_values c h e rule in
    record {
      time = on.time ∙ sym q.time;
      calls = list_same place_of session_of deadline_told (parked c h) _ _ _ (length h) _ k.calls q.parked q.deadline_at (omega arith) on.calls;
    }

-- an event with its verdict
pub on_stepped : (c : Config) (h : History) (t : TablesView) (k : Clock) (e : Event) (rule : Option Rule) (parks : Bool) (gone : Option Sid) → IsCore c h t → IsOnTime c h k → rule ≡ verdict c h e → rule ≡ None → parks ≡ would_park c h (plain e) → (verdict c h e ≡ None → option_map (λ (s : Sid). s.0) gone ≡ ended_call c h (plain e)) → IsOnTime c (record { event = e; rule = rule } ∷ h) (record (with_calls (dropped session_of (option_map (λ (s : Sid). s.0) gone) (joined (new_call (is_none rule && parks) (deadline e) (length h) (caller e)) k.calls)) k) { time = told e k.time })
on_stepped c h t k e None parks gone core on is none p g = on_accepted c h t k e parks gone core on (sym is) p (g (sym is))
on_stepped c h t k e (Some rule) parks gone core on is none p g = absurd cc

pub on_passed : (c : Config) (h : History) (k : Clock) (e : Event) (rule : Option Rule) (parks : Bool) → IsOnTime c h k → is_some rule ≡ true → IsOnTime c (record { event = e; rule = rule } ∷ h) (with_calls (joined (new_call (is_none rule && parks) (deadline e) (length h) (caller e)) k.calls) k)
on_passed c h k e None parks on some = absurd cc
on_passed c h k e (Some rule) parks on some = on_refused c h k e rule on

-- before anything happened
pub on_new : (c : Config) → IsOnTime c [] (record { time = 0; calls = [] })
unfolding now
on_new c = record { time = refl; calls = list_new place_of session_of deadline_told c }
