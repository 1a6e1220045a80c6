-- What users are charged with in tables that agree with a history.
use Rattle.std.proofs.Common.{◌≡◌, ℕ, ◌+◌, ◌-◌, ◌≤◌, ◌<◌, Bool, true, false, not, eqb, cond, List, [], ◌∷◌, map, find, filter, count_by, add-one, zero, suc, Option, Some, None, is_some, refl, sym, ap, subst, ◌∙◌, arith}
use Rattle.std.specs.Prelude.{nat_lt, unwrap_or}
use Rattle.std.specs.Option.{option_map, option_map_or, option_or}
use Rattle.std.proofs.lemmas.Bool.{eqb-true}
use Rattle.std.proofs.lemmas.Bool.Decides.{nat_tests}
use Rattle.ipc_terms.specs.declared.ids.Uid.{Uid}
use Rattle.ipc_terms.specs.declared.ids.Sid.{Sid}
use Rattle.ipc_terms.specs.declared.facts.Facts.{Facts}
use Rattle.ipc_terms.specs.Objects.{of_queue}
use Rattle.ipc_terms.specs.declared.call.Attributes.{Attributes}
use Rattle.ipc_terms.specs.declared.call.Call.TheVariants.{SetLimit}
use Rattle.ipc_terms.specs.declared.object.Kind.{Kind}
use Rattle.ipc_terms.specs.declared.object.Kind.TheVariants.{Queue as QueueKind, Semaphore as SemaphoreKind}
use Rattle.ipc_terms.specs.declared.object.Object.{Object}
use Rattle.ipc_terms.specs.declared.record.Event.{Event}
use Rattle.ipc_terms.specs.declared.record.Event.TheVariants.{Do}
use Rattle.ipc_access.specs.declared.class.Cred.{Cred}
use Rattle.ipc_access.specs.declared.users.User.{User}
use Rattle.ipc_access.specs.Users.{cred_of}
use Rattle.ipc_policy.specs.declared.config.Config.{Config}
use Rattle.ipc_policy.specs.Decides.History.{History, after_accepted, newest, sum_below, gathered_below, is_some_and}
use Rattle.ipc_policy.specs.Decides.Names.{creations}
use Rattle.ipc_policy.specs.Decides.Objects.{object, facts}
use Rattle.ipc_policy.specs.Decides.Life.{alive}
use Rattle.ipc_policy.specs.Decides.Charges.{bytes_of, charge, charge_of as charge_of_object, charged, queues_alive, is_queue_alive, sets_limit, limit}
use Rattle.ipc_policy.specs.Decides.Rules.{above_limit}
use Rattle.ipc_policy.specs.Decides.Verdict.{Legal}
use Rattle.ipc_policy.proofs.Lists.Gathering.{passes, weighed, gathered_sum, gathered_count as gathered_passing}
use Rattle.ipc_policy.proofs.Holdings.Holding.{how_many_below_same}
use Rattle.ipc_policy.proofs.Queues.Charging.{sum_below_same}
use Rattle.ipc_policy.proofs.Queues.Limiting.{creator_limited}
use Rattle.ipc_policy.proofs.Directories.Bindings.{object_with_facts}
use Rattle.ipc_descr.specs.declared.charges.Charge.{Charge}
use Rattle.ipc_descr.specs.Charges.{charge_of, used_of, limit_of, with_limit, raised, limited, lowered, uncharged}
use Rattle.ipc_tables.specs.declared.rows.ObjectRow.{ObjectRow}
use Rattle.ipc_tables.specs.Objects.{queue_in, bytes_taken, is_queue}
use Rattle.ipc_tables.specs.Charging.{taken_by, taken, Covered, Affords, charged_with, settled}
use Rattle.ipc_tables.proofs.CoveredCharges.{charge_changed, settled_charge, taken_parted}
use Rattle.ipc_tables.specs.TablesView.{TablesView}
use Rattle.ipc_state.specs.Agrees.{IsCore, ObjectsAgree, ChargesAgree, charge_meant, Inside, inside, body_of, row_made, row_with}

-- what is charged, where the same objects are alive
charge_alike : (u : Uid) (a b : Bool) (x y : Option Object) → a ≡ b → x ≡ y → charge u a x ≡ charge u b y
charge_alike u a b x y one two = rw (one, two) refl

pub charged_same : (c : Config) (h k : History) (u : Uid) → ((o : ℕ) → alive k o ≡ alive h o) → ((o : ℕ) → object c k o ≡ object c h o) → creations k ≡ creations h → charged c k u ≡ charged c h u
unfolding charged charge_of_object
charged_same c h k u l o n = ap (sum_below (λ i. charge u (alive k i) (object c k i))) n ∙ sum_below_same _ _ (creations h) (λ i lt. charge_alike u (alive k i) (alive h i) (object c k i) (object c h i) (l i) (o i))

-- the limit, where none is set
pub limit_left : (c : Config) (h : History) (e : Event) (u : Uid) → sets_limit u e h ≡ None → limit c (after_accepted h e) u ≡ limit c h u
unfolding limit
limit_left c h e u none = ap (λ (w : Option ℕ). option_map (λ (who : Cred). unwrap_or (option_or w (newest (sets_limit u) h)) who.limit) (cred_of c.users u)) none

-- charges, where neither changes
meant_alike : (c : Config) (h k : History) (u : Uid) → limit c k u ≡ limit c h u → charged c k u ≡ charged c h u → charge_meant c k u ≡ charge_meant c h u
meant_alike c h k u l n = ap (option_map (λ (most : ℕ). record { uid = u; limit = most; used = charged c k u })) l ∙ ap (λ (m : ℕ). option_map (λ (most : ℕ). record { uid = u; limit = most; used = m }) (limit c h u)) n

pub charges_kept : (c : Config) (h k : History) (charges : List Charge) → ((u : Uid) → limit c k u ≡ limit c h u) → ((u : Uid) → charged c k u ≡ charged c h u) → ChargesAgree c h charges → ChargesAgree c k charges
charges_kept c h k charges l n a u = a u ∙ sym (meant_alike c h k u (l u) (n u))

-- what the rows say that is taken is what is charged
bytes_same : (x : Object) (y : ℕ) → cond (eqb x.creator.0 y) (unwrap_or (option_map bytes_of (of_queue x.kind)) 0) 0 ≡ cond (eqb x.creator.0 y) (bytes_taken x.kind) 0
unfolding bytes_of
bytes_same x y = at x.kind where
  at : (kind : Kind) → cond (eqb x.creator.0 y) (unwrap_or (option_map bytes_of (of_queue kind)) 0) 0 ≡ cond (eqb x.creator.0 y) (bytes_taken kind) 0
  at (QueueKind given) = refl
  at (SemaphoreKind value) = refl

row_taken : (u : Uid) (o : ℕ) (b : Bool) (w : Option Object) (v : Option Facts) (q : Inside) → is_some w ≡ is_some v → weighed (taken_by u.0) (cond b (row_made o w v q) None) ≡ charge u b w
row_taken u o true None v q e = refl
row_taken u o true (Some x) None q e = absurd cc
row_taken u o true (Some x) (Some y) q e = sym (bytes_same x u.0)
row_taken u o false w v q e = refl

-- each object has an owner, a group and a mode
abbrev pub HaveFacts : Config → History → Type 0
HaveFacts c h = (o : ℕ) → is_some (object c h o) ≡ is_some (facts c h o)

pub taken_is : (c : Config) (h : History) (q : ℕ → Inside) (xs : List ObjectRow) (u : Uid) → HaveFacts c h → xs ≡ gathered_below (row_with c h q) (creations h) → taken u.0 xs ≡ charged c h u
unfolding charged charge_of_object
taken_is c h q xs u made rows =
    ap (taken u.0) rows
    ∙ gathered_sum (taken_by u.0) (row_with c h q) (creations h)
    ∙ sum_below_same _ _ (creations h) (λ i lt. row_taken u i (alive h i) (object c h i) (facts c h i) (q i) (made i))

-- a user without a limit is charged with nothing
free_object : (u : Uid) (b : Bool) (w : Option Object) → ((x : Object) → w ≡ Some x → eqb x.creator.0 u.0 ≡ false) → charge u b w ≡ 0
free_object u true None other = refl
free_object u true (Some x) other = rw (other x refl) refl
free_object u false w other = refl

sum_below_none : (f : ℕ → ℕ) (n : ℕ) → ((i : ℕ) → f i ≡ 0) → sum_below f n ≡ 0
sum_below_none f zero none = refl
sum_below_none f (suc n) none = let rest = sum_below_none f n none in let last = none n in omega arith

same_uid : (u v : Uid) → u.0 ≡ v.0 → u ≡ v
same_uid u v e = ap (λ (n : ℕ). record { 0 = n }) e

others_created : (c : Config) (h : History) (u : Uid) → limit c h u ≡ None → (o : ℕ) (x : Object) → object c h o ≡ Some x → eqb x.creator.0 u.0 ≡ false
others_created c h u none o x is = at (eqb x.creator.0 u.0) refl where
  at : (b : Bool) → eqb x.creator.0 u.0 ≡ b → b ≡ false
  at true e = absurd (let some = subst (λ (v : Uid). is_some (limit c h v) ≡ true) (same_uid x.creator u (eqb-true _ _ e)) (creator_limited c h h o x is) in let none' = sym (ap is_some none) ∙ some in cc)
  at false e = refl

free_charged : (c : Config) (h : History) (u : Uid) → limit c h u ≡ None → charged c h u ≡ 0
unfolding charged charge_of_object
free_charged c h u none = sum_below_none _ (creations h) (λ i. free_object u (alive h i) (object c h i) (others_created c h u none i))

-- so charges cover what is taken
pub used_meant : (c : Config) (h : History) (u : Uid) (charges : List Charge) → ChargesAgree c h charges → used_of charges u.0 ≡ charged c h u
used_meant c h u charges a = ap (λ (w : Option Charge). option_map_or (λ (x : Charge). x.used) w 0) (a u) ∙ at (limit c h u) refl where
  at : (w : Option ℕ) → limit c h u ≡ w → option_map_or (λ (x : Charge). x.used) (option_map (λ (most : ℕ). record { uid = u; limit = most; used = charged c h u }) w) 0 ≡ charged c h u
  at None e = sym (free_charged c h u e)
  at (Some most) e = refl

pub covered_by : (c : Config) (h : History) (q : ℕ → Inside) (xs : List ObjectRow) (charges : List Charge) → HaveFacts c h → xs ≡ gathered_below (row_with c h q) (creations h) → ChargesAgree c h charges → Covered charges xs
covered_by c h q xs charges made rows a u =
    let taken' = taken_is c h q xs (record { 0 = u }) made rows in
    let used = used_meant c h (record { 0 = u }) charges a in
    omega arith

-- once what nothing keeps has given back what it took
lowered_meant : (u : Uid) (all kept dead : ℕ) (w : Option ℕ) → all ≡ kept + dead → option_map (lowered dead) (option_map (λ (most : ℕ). record { uid = u; limit = most; used = all }) w) ≡ option_map (λ (most : ℕ). record { uid = u; limit = most; used = kept }) w
lowered_meant u all kept dead None e = refl
lowered_meant u all kept dead (Some most) e = let left : all - dead ≡ kept = omega arith in ap (λ (n : ℕ). Some (record { uid = u; limit = most; used = n })) left

pub charges_settled : (c : Config) (h k : History) (keep : ObjectRow → Bool) (xs : List ObjectRow) (charges : List Charge) → ((u : Uid) → limit c k u ≡ limit c h u) → ((u : Uid) → taken u.0 xs ≡ charged c h u) → ((u : Uid) → taken u.0 (filter keep xs) ≡ charged c k u) → ChargesAgree c h charges → ChargesAgree c k (settled keep xs charges)
charges_settled c h k keep xs charges l was is a u =
    let parted : charged c h u ≡ charged c k u + taken u.0 (filter (λ row. not (keep row)) xs) = sym (was u) ∙ taken_parted keep u.0 xs ∙ ap (λ n. n + taken u.0 (filter (λ row. not (keep row)) xs)) (is u) in
    settled_charge keep xs charges u.0
    ∙ ap (option_map (lowered (taken u.0 (filter (λ row. not (keep row)) xs)))) (a u)
    ∙ lowered_meant u (charged c h u) (charged c k u) (taken u.0 (filter (λ row. not (keep row)) xs)) (limit c h u) parted
    ∙ ap (option_map (λ (most : ℕ). record { uid = u; limit = most; used = charged c k u })) (sym (l u))

-- once a user has created an object
raised_meant : (u v : Uid) (all bytes : ℕ) (b : Bool) (w : Option ℕ) → cond b (option_map (raised bytes) (option_map (λ (most : ℕ). record { uid = u; limit = most; used = all }) w)) (option_map (λ (most : ℕ). record { uid = u; limit = most; used = all }) w) ≡ option_map (λ (most : ℕ). record { uid = u; limit = most; used = all + cond b bytes 0 }) w
raised_meant u v all bytes true None = refl
raised_meant u v all bytes true (Some most) = refl
raised_meant u v all bytes false None = refl
raised_meant u v all bytes false (Some most) = let same : all ≡ all + 0 = omega arith in ap (λ (n : ℕ). Some (record { uid = u; limit = most; used = n })) same

charges_with : (charges : List Charge) (creator u : ℕ) (kind : Kind) → charge_of (charged_with charges creator kind) u ≡ cond (eqb creator u) (option_map (raised (bytes_taken kind)) (charge_of charges u)) (charge_of charges u)
charges_with charges creator u (QueueKind given) = charge_changed (raised _) (λ x. refl) charges creator u
charges_with charges creator u (SemaphoreKind value) = at (eqb creator u) (charge_of charges u) where
  at : (b : Bool) (w : Option Charge) → w ≡ cond b (option_map (raised 0) w) w
  at true None = refl
  at true (Some x) = let same : x.used ≡ x.used + 0 = omega arith in ap (λ (n : ℕ). Some (record x { used = n })) same
  at false w = refl

pub charges_created : (c : Config) (h k : History) (x : Object) (charges : List Charge) → ((u : Uid) → limit c k u ≡ limit c h u) → creations k ≡ creations h + 1 → ((o : ℕ) → o < creations h → alive k o ≡ alive h o) → ((o : ℕ) → o < creations h → object c k o ≡ object c h o) → alive k (creations h) ≡ true → object c k (creations h) ≡ Some x → ChargesAgree c h charges → ChargesAgree c k (charged_with charges x.creator.0 x.kind)
unfolding charged charge_of_object
charges_created c h k x charges l n live made lives is a u =
    let more : charged c k u ≡ charged c h u + cond (eqb x.creator.0 u.0) (bytes_taken x.kind) 0 =
    ap (sum_below (λ i. charge u (alive k i) (object c k i))) (n ∙ add-one (creations h))
    ∙ ap (λ m. m + charge u (alive k (creations h)) (object c k (creations h))) (sum_below_same _ _ (creations h) (λ i lt. charge_alike u (alive k i) (alive h i) (object c k i) (object c h i) (live i lt) (made i lt)))
    ∙ ap (λ m. charged c h u + m) (charge_alike u (alive k (creations h)) true (object c k (creations h)) (Some x) lives is ∙ bytes_same x u.0) in
    charges_with charges x.creator.0 u.0 x.kind
    ∙ ap (λ w. cond (eqb x.creator.0 u.0) (option_map (raised (bytes_taken x.kind)) w) w) (a u)
    ∙ raised_meant u u (charged c h u) (bytes_taken x.kind) (eqb x.creator.0 u.0) (limit c h u)
    ∙ ap (λ (m : ℕ). option_map (λ (most : ℕ). record { uid = u; limit = most; used = m }) (limit c h u)) (sym more)
    ∙ ap (option_map (λ (most : ℕ). record { uid = u; limit = most; used = charged c k u })) (sym (l u))

-- a creator that is not above its limit can afford what it creates
affords_at : (c : Config) (h : History) (charges : List Charge) (who : Cred) (given : Attributes) (w : Option ℕ) → limit c h who.uid ≡ w → is_some w ≡ true → ChargesAgree c h charges → is_some_and (λ (most : ℕ). nat_lt most (charged c h who.uid + bytes_of given)) w ≡ false → Affords charges who.uid.0 (QueueKind given)
unfolding bytes_of
affords_at c h charges who given None e some a fits = absurd cc
affords_at c h charges who given (Some most) e some a fits =
    let found : charge_of charges who.uid.0 ≡ Some (record { uid = who.uid; limit = most; used = charged c h who.uid }) = a who.uid ∙ ap (option_map (λ (m : ℕ). record { uid = who.uid; limit = m; used = charged c h who.uid })) e in
    let le : charged c h who.uid + bytes_of given ≤ most = grind (arith, nat_tests, fits) in
    rw found le

pub affords_kind : (c : Config) (h : History) (charges : List Charge) (who : Cred) (kind : Kind) → is_some (limit c h who.uid) ≡ true → ChargesAgree c h charges → is_some_and (λ given. above_limit c h given who) (of_queue kind) ≡ false → Affords charges who.uid.0 kind
affords_kind c h charges who (QueueKind given) some a fits = affords_at c h charges who given (limit c h who.uid) refl some a fits
affords_kind c h charges who (SemaphoreKind value) some a fits = tt

-- once a limit is set
limited_meant : (u : Uid) (all bytes : ℕ) (b : Bool) (found : Option Cred) (was : Option ℕ) → cond b (option_map (limited bytes) (option_map (λ (most : ℕ). record { uid = u; limit = most; used = all }) (option_map (λ (who : Cred). unwrap_or was who.limit) found))) (option_map (λ (most : ℕ). record { uid = u; limit = most; used = all }) (option_map (λ (who : Cred). unwrap_or was who.limit) found)) ≡ option_map (λ (most : ℕ). record { uid = u; limit = most; used = all }) (option_map (λ (who : Cred). unwrap_or (option_or (cond b (Some bytes) None) was) who.limit) found)
limited_meant u all bytes true None was = refl
limited_meant u all bytes true (Some who) was = refl
limited_meant u all bytes false found was = refl

pub charges_limited : (c : Config) (h : History) (sid : Sid) (uid : Uid) (bytes : ℕ) (charges : List Charge) → ((u : Uid) → charged c (after_accepted h (Do sid (SetLimit uid bytes))) u ≡ charged c h u) → ChargesAgree c h charges → ChargesAgree c (after_accepted h (Do sid (SetLimit uid bytes))) (with_limit charges uid.0 bytes)
unfolding limit
charges_limited c h sid uid bytes charges n a u =
    charge_changed (limited bytes) (λ x. refl) charges uid.0 u.0
    ∙ ap (λ w. cond (eqb uid.0 u.0) (option_map (limited bytes) w) w) (a u)
    ∙ limited_meant u (charged c h u) bytes (eqb uid.0 u.0) (cred_of c.users u) (newest (sets_limit u) h)
    ∙ ap (λ (m : ℕ). option_map (λ (most : ℕ). record { uid = u; limit = most; used = m }) (limit c (after_accepted h (Do sid (SetLimit uid bytes))) u)) (sym (n u))

-- at the start
first_at : (users : List User) (u : Uid) → charge_of (map uncharged users) u.0 ≡ option_map (λ (most : ℕ). record { uid = u; limit = most; used = 0 }) (option_map (λ (who : Cred). who.limit) (cred_of users u))
first_at [] u = refl
first_at (x ∷ xs) u = at (eqb x.cred.uid.0 u.0) refl (first_at xs u) where
  at : (b : Bool) → eqb x.cred.uid.0 u.0 ≡ b → charge_of (map uncharged xs) u.0 ≡ option_map (λ (most : ℕ). record { uid = u; limit = most; used = 0 }) (option_map (λ (who : Cred). who.limit) (cred_of xs u)) → cond b (Some (uncharged x)) (charge_of (map uncharged xs) u.0) ≡ option_map (λ (most : ℕ). record { uid = u; limit = most; used = 0 }) (option_map (λ (who : Cred). who.limit) (option_map (λ (y : User). y.cred) (cond b (Some x) (find (λ (y : User). eqb y.cred.uid.0 u.0) xs))))
  at true e rest = ap (λ (v : Uid). Some (record { uid = v; limit = x.cred.limit; used = 0 })) (same_uid x.cred.uid u (eqb-true _ _ e))
  at false e rest = rest

pub charges_first : (c : Config) → ChargesAgree c [] (map uncharged c.users)
unfolding limit charged creations
charges_first c u = first_at c.users u

-- how many queues are alive
row_counts : (o : ℕ) (b : Bool) (w : Option Object) (v : Option Facts) (q : Inside) → is_some w ≡ is_some v → passes is_queue (cond b (row_made o w v q) None) ≡ is_queue_alive b w
row_counts o true None v q e = refl
row_counts o true (Some x) None q e = absurd cc
row_counts o true (Some x) (Some y) q e = at x.kind where
  at : (kind : Kind) → is_some (queue_in (body_of kind q)) ≡ is_some (of_queue kind)
  at (QueueKind given) = refl
  at (SemaphoreKind value) = refl
row_counts o false w v q e = refl

pub queues_counted : (c : Config) (h : History) (xs : List ObjectRow) (created : ℕ) → Legal c h → ObjectsAgree c h xs created → count_by is_queue xs ≡ queues_alive c h
unfolding queues_alive
queues_counted c h xs created legal a =
    ap (count_by is_queue) a.rows
    ∙ gathered_passing is_queue (row_with c h (inside c h)) (creations h)
    ∙ how_many_below_same _ _ (creations h) (λ i lt. row_counts i (alive h i) (object c h i) (facts c h i) (inside c h i) (object_with_facts c h legal i))

pub core_covered : (c : Config) (h : History) (t : TablesView) → IsCore c h t → Covered t.charges t.objects
core_covered c h t k = covered_by c h (inside c h) t.objects t.charges (object_with_facts c h k.legal) k.agrees.objects.rows k.agrees.charges

-- the limit that is looked up
pub limit_absent : (c : Config) (h : History) (u : Uid) → cred_of c.users u ≡ None → limit c h u ≡ None
unfolding limit
limit_absent c h u none = ap (option_map (λ (who : Cred). unwrap_or (newest (sets_limit u) h) who.limit)) none

pub limit_present : (c : Config) (h : History) (u : Uid) (who : Cred) → cred_of c.users u ≡ Some who → is_some (limit c h u) ≡ true
unfolding limit
limit_present c h u who found = ap (λ (w : Option Cred). is_some (option_map (λ (x : Cred). unwrap_or (newest (sets_limit u) h) x.limit) w)) found

pub limit_found : (c : Config) (h : History) (charges : List Charge) (u : Uid) → is_some (limit c h u) ≡ true → ChargesAgree c h charges → Some (limit_of charges u.0) ≡ limit c h u
limit_found c h charges u some a = ap (λ (w : Option Charge). Some (option_map_or (λ (x : Charge). x.limit) w 0)) (a u) ∙ at (limit c h u) some where
  at : (w : Option ℕ) → is_some w ≡ true → Some (option_map_or (λ (x : Charge). x.limit) (option_map (λ (most : ℕ). record { uid = u; limit = most; used = charged c h u }) w) 0) ≡ w
  at None e = absurd cc
  at (Some most) e = refl
