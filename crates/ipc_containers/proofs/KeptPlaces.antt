-- How the places of the sessions' calls are kept.
use Rattle.std.proofs.Common.{◌≡◌, ℕ, ◌<◌, Bool, true, false, not, eqb, List, [], ◌∷◌, ◌++◌, cond, Option, Some, None, refl, ap, ◌∙◌, sym, subst, inl, inr, ◌⊎◌, arith}
use Rattle.std.specs.Prelude.{filter}
use Rattle.std.specs.Ordering.{nat_cmp}
use Rattle.std.specs.BTreeMap.{BTreeMap, get, is_at}
use Rattle.std.proofs.lemmas.Bool.{eqb-true, eqb-false, eq-eqb, ne_eqb}
use Rattle.std.proofs.lemmas.Bool.Decides.{nat_tests}
use Rattle.ipc_containers.specs.declared.timed.Timed.{Timed}
use Rattle.ipc_containers.specs.Calls.{without, AllBelow}
use Rattle.ipc_containers.specs.Sessions.{In, without_session, NoneOf, HasPlace, IsKept}

-- the place at one session is written
pub record Writes (places after : ℕ → Option ℕ) (s : ℕ) (w : Option ℕ) : Type 0 where
  pub here : after s ≡ w
  pub others : (r : ℕ) → (s ≡ r → ⊥) → after r ≡ places r

pub written : (m n : BTreeMap ℕ ℕ) (s : ℕ) (w : Option ℕ) → get nat_cmp n s ≡ w → ((r : ℕ) → is_at (nat_cmp s) r ≡ false → get nat_cmp n r ≡ get nat_cmp m r) → Writes (get nat_cmp m) (get nat_cmp n) s w
written m n s w here others = record { here = here; others = λ r apart. others r (let other : is_at (nat_cmp s) r ≡ false = at r apart (is_at (nat_cmp s) r) refl in other) } where
  at : (r : ℕ) → (s ≡ r → ⊥) → (b : Bool) → is_at (nat_cmp s) r ≡ b → is_at (nat_cmp s) r ≡ false
  at r apart true e = absurd (apart (let same : s ≡ r = grind (arith, nat_tests) in same))
  at r apart false e = e

-- what is filtered
filter_same : (f g : Timed → Bool) (xs : List Timed) → ((t : Timed) → In t xs → f t ≡ g t) → filter f xs ≡ filter g xs
filter_same f g [] same = refl
filter_same f g (x ∷ xs) same = rw (same x (inl refl)) (ap (λ ys. cond (g x) (x ∷ ys) ys) (filter_same f g xs (λ t is. same t (inr is))))

filter_all : (f : Timed → Bool) (xs : List Timed) → ((t : Timed) → In t xs → f t ≡ true) → filter f xs ≡ xs
filter_all f [] all = refl
filter_all f (x ∷ xs) all = rw (all x (inl refl)) (ap (λ ys. x ∷ ys) (filter_all f xs (λ t is. all t (inr is))))

in_filter : (f : Timed → Bool) (y : Timed) (xs : List Timed) → In y (filter f xs) → In y xs × (f y ≡ true)
in_filter f y [] is = absurd is
in_filter f y (x ∷ xs) is = at (f x) refl is (in_filter f y xs) where
  at : (b : Bool) → f x ≡ b → In y (cond b (x ∷ filter f xs) (filter f xs)) → (In y (filter f xs) → In y xs × (f y ≡ true)) → ((x ≡ y) ⊎ In y xs) × (f y ≡ true)
  at true q (inl same) rest = (inl same, ap f (sym same) ∙ q)
  at true q (inr there) rest = let found = rest there in (inr found.0, found.1)
  at false q there rest = let found = rest there in (inr found.0, found.1)

filter_in : (f : Timed → Bool) (y : Timed) (xs : List Timed) → In y xs → f y ≡ true → In y (filter f xs)
filter_in f y [] is kept = absurd is
filter_in f y (x ∷ xs) is kept = at (f x) refl is (filter_in f y xs) where
  at : (b : Bool) → f x ≡ b → (x ≡ y) ⊎ In y xs → (In y xs → f y ≡ true → In y (filter f xs)) → In y (cond b (x ∷ filter f xs) (filter f xs))
  at true q (inl same) rest = inl same
  at true q (inr there) rest = inr (rest there kept)
  at false q (inl same) rest = absurd (let wrong : true ≡ false = sym kept ∙ ap f (sym same) ∙ q in cc)
  at false q (inr there) rest = rest there kept

in_joined : (y z : Timed) (xs : List Timed) → In y (xs ++ z ∷ []) → In y xs ⊎ (z ≡ y)
in_joined y z [] (inl same) = inr same
in_joined y z [] (inr is) = absurd is
in_joined y z (x ∷ xs) (inl same) = inl (inl same)
in_joined y z (x ∷ xs) (inr there) = at (in_joined y z xs there) where
  at : In y xs ⊎ (z ≡ y) → ((x ≡ y) ⊎ In y xs) ⊎ (z ≡ y)
  at (inl is) = inl (inr is)
  at (inr same) = inr same

joined_in : (y z : Timed) (xs : List Timed) → In y xs → In y (xs ++ z ∷ [])
joined_in y z [] is = absurd is
joined_in y z (x ∷ xs) (inl same) = inl same
joined_in y z (x ∷ xs) (inr there) = inr (joined_in y z xs there)

joined_last : (z : Timed) (xs : List Timed) → In z (xs ++ z ∷ [])
joined_last z [] = inl refl
joined_last z (x ∷ xs) = inr (joined_last z xs)

below_at : (n : ℕ) (t : Timed) (xs : List Timed) → AllBelow n xs → In t xs → t.place < n
below_at n t [] all is = absurd is
below_at n t (x ∷ xs) all (inl same) = subst (λ (y : Timed). y.place < n) same all.0
below_at n t (x ∷ xs) all (inr there) = below_at n t xs all.1 there

none_at : (s : ℕ) (t : Timed) (xs : List Timed) → NoneOf s xs → In t xs → t.session.0 ≡ s → ⊥
none_at s t [] all is e = is
none_at s t (x ∷ xs) all (inl same) e = all.0 (ap (λ (y : Timed). y.session.0) same ∙ e)
none_at s t (x ∷ xs) all (inr there) e = none_at s t xs all.1 there e

-- no calls
pub kept_new : (places : ℕ → Option ℕ) → ((s : ℕ) → places s ≡ None) → IsKept places []
kept_new places none = record { each = λ t is. absurd is; call = λ s i e. let no : None ≡ Some i = sym (none s) ∙ e in absurd cc; one = λ t u is js e. absurd is }

-- where the same place stands at each session
kept_alike : (places after : ℕ → Option ℕ) (calls : List Timed) → ((s : ℕ) → after s ≡ places s) → IsKept places calls → IsKept after calls
kept_alike places after calls same k = record { each = λ t is. same t.session.0 ∙ k.each t is; call = λ s i e. k.call s i (sym (same s) ∙ e); one = k.one }

-- a session without a call has no place
pub none_stands : (places : ℕ → Option ℕ) (calls : List Timed) (s : ℕ) → IsKept places calls → NoneOf s calls → places s ≡ None
none_stands places calls s k free = at (places s) refl where
  at : (w : Option ℕ) → places s ≡ w → places s ≡ None
  at None e = e
  at (Some i) e = let its = k.call s i e in absurd (none_at s its.call calls free its.stands its.of_session)

-- a place is written, and taken back
pub kept_back : (places there after : ℕ → Option ℕ) (calls : List Timed) (s i : ℕ) → IsKept places calls → NoneOf s calls → Writes places there s (Some i) → Writes there after s None → IsKept after calls
kept_back places there after calls s i k free w back = kept_alike places after calls (λ r. at r (eqb s r) refl) k where
  at : (r : ℕ) (b : Bool) → eqb s r ≡ b → after r ≡ places r
  at r true q = let same : s ≡ r = eqb-true _ _ q in subst (λ (n : ℕ). after n ≡ places n) same (back.here ∙ sym (none_stands places calls s k free))
  at r false q = back.others r (eqb-false _ _ q) ∙ w.others r (eqb-false _ _ q)

-- a call comes
pub kept_push : (places after : ℕ → Option ℕ) (calls : List Timed) (x : Timed) → IsKept places calls → AllBelow x.place calls → NoneOf x.session.0 calls → Writes places after x.session.0 (Some x.place) → IsKept after (calls ++ x ∷ [])
kept_push places after calls x k behind free w = record {
  each = λ t is. each t (in_joined t x calls is);
  call = λ s i e. call s i e (eqb x.session.0 s) refl;
  one = λ t u is js e. one t u e (in_joined t x calls is) (in_joined u x calls js);
} where
  each : (t : Timed) → In t calls ⊎ (x ≡ t) → after t.session.0 ≡ Some t.place
  each t (inl is) = w.others t.session.0 (λ (e : x.session.0 ≡ t.session.0). none_at x.session.0 t calls free is (sym e)) ∙ k.each t is
  each t (inr same) = subst (λ (y : Timed). after y.session.0 ≡ Some y.place) same w.here

  call : (s i : ℕ) → after s ≡ Some i → (b : Bool) → eqb x.session.0 s ≡ b → HasPlace s i (calls ++ x ∷ [])
  call s i e true q =
      let same : x.session.0 ≡ s = eqb-true _ _ q in
      let both : Some x.place ≡ Some i = sym w.here ∙ ap after same ∙ e in
      record { call = x; stands = joined_last x calls; of_session = same; at_place = cc }
  call s i e false q =
      let was = k.call s i (sym (w.others s (eqb-false _ _ q)) ∙ e) in
      record { call = was.call; stands = joined_in was.call x calls was.stands; of_session = was.of_session; at_place = was.at_place }

  one : (t u : Timed) → t.place ≡ u.place → In t calls ⊎ (x ≡ t) → In u calls ⊎ (x ≡ u) → t ≡ u
  one t u e (inl is) (inl js) = k.one t u is js e
  one t u e (inr p) (inr q) = sym p ∙ q
  one t u e (inl is) (inr q) = absurd (let lt = below_at x.place t calls behind is in let f = ap (λ (y : Timed). y.place) q in omega arith)
  one t u e (inr p) (inl js) = absurd (let lt = below_at x.place u calls behind js in let f = ap (λ (y : Timed). y.place) p in omega arith)

-- a session's call goes: it is the one of its place
at_one : (places : ℕ → Option ℕ) (calls : List Timed) (s i : ℕ) → IsKept places calls → places s ≡ Some i → (t : Timed) → In t calls → eqb t.place i ≡ eqb t.session.0 s
at_one places calls s i k here t is = at (eqb t.session.0 s) refl where
  at : (b : Bool) → eqb t.session.0 s ≡ b → eqb t.place i ≡ b
  at true q =
      let both : Some t.place ≡ Some i = sym (k.each t is) ∙ ap places (eqb-true _ _ q) ∙ here in
      eq-eqb _ _ (let same : t.place ≡ i = cc in same)
  at false q = ne_eqb _ _ (λ (e : t.place ≡ i).
      let its = k.call s i here in
      let same = k.one t its.call is its.stands (e ∙ sym its.at_place) in
      eqb-false _ _ q (ap (λ (y : Timed). y.session.0) same ∙ its.of_session))

pub call_goes : (places : ℕ → Option ℕ) (calls : List Timed) (s i : ℕ) → IsKept places calls → places s ≡ Some i → without i calls ≡ without_session s calls
call_goes places calls s i k here = filter_same (λ t. not (eqb t.place i)) (λ t. not (eqb t.session.0 s)) calls (λ t is. ap not (at_one places calls s i k here t is))

-- where it has none, none goes
pub none_goes : (places : ℕ → Option ℕ) (calls : List Timed) (s : ℕ) → IsKept places calls → places s ≡ None → calls ≡ without_session s calls
none_goes places calls s k none = sym (filter_all (λ t. not (eqb t.session.0 s)) calls (λ t is. ap not (ne_eqb _ _ (λ (e : t.session.0 ≡ s). let no : None ≡ Some t.place = sym none ∙ ap places (sym e) ∙ k.each t is in absurd cc))))

-- and nothing is written
pub kept_none : (places after : ℕ → Option ℕ) (calls : List Timed) (s : ℕ) → IsKept places calls → places s ≡ None → Writes places after s None → IsKept after calls
kept_none places after calls s k none w = kept_alike places after calls (λ r. at r (eqb s r) refl) k where
  at : (r : ℕ) (b : Bool) → eqb s r ≡ b → after r ≡ places r
  at r true q = let same : s ≡ r = eqb-true _ _ q in subst (λ (n : ℕ). after n ≡ places n) same (w.here ∙ sym none)
  at r false q = w.others r (eqb-false _ _ q)

not_true : (b : Bool) → not b ≡ true → b ≡ false
not_true true k = absurd cc
not_true false k = refl

pub kept_end : (places after : ℕ → Option ℕ) (calls : List Timed) (s i : ℕ) → IsKept places calls → places s ≡ Some i → Writes places after s None → IsKept after (without_session s calls)
kept_end places after calls s i k here w = record {
  each = λ t is. let found = in_filter keep t calls is in w.others t.session.0 (λ (e : s ≡ t.session.0). eqb-false _ _ (not_true _ found.1) (sym e)) ∙ k.each t found.0;
  call = λ r j e. call r j e (eqb s r) refl;
  one = λ t u is js e. k.one t u (in_filter keep t calls is).0 (in_filter keep u calls js).0 e;
} where
  keep : Timed → Bool
  keep t = not (eqb t.session.0 s)

  call : (r j : ℕ) → after r ≡ Some j → (b : Bool) → eqb s r ≡ b → HasPlace r j (filter keep calls)
  call r j e true q = let wrong : None ≡ Some j = sym w.here ∙ ap after (eqb-true _ _ q) ∙ e in absurd cc
  call r j e false q =
      let was = k.call r j (sym (w.others r (eqb-false _ _ q)) ∙ e) in
      record { call = was.call; stands = filter_in keep was.call calls was.stands (ap not (ne_eqb _ _ (λ (f : was.call.session.0 ≡ s). eqb-false _ _ q (sym f ∙ was.of_session)))); of_session = was.of_session; at_place = was.at_place }
