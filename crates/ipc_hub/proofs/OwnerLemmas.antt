-- Whose a session is, when one starts or ends.
use Rattle.std.proofs.Common.{◌≡◌, ℕ, zero, suc, ◌+◌, ◌-◌, ◌<◌, Bool, true, false, eqb, cond, List, [], ◌∷◌, ◌++◌, length, Option, Some, None, refl, sym, ap, ◌∙◌, arith}
use Rattle.std.specs.Prelude.{is_some, nat_lt, take}
use Rattle.std.proofs.lemmas.Bool.{eq-eqb, ne_eqb, ltb-true, ltb-false}
use Rattle.ipc_terms.specs.Lists.{changed}
use Rattle.ipc_terms.proofs.Lists.{count_changed}
use Rattle.ipc_terms.specs.declared.ids.Sid.{Sid}
use Rattle.ipc_terms.specs.declared.ids.Uid.{Uid}
use Rattle.ipc_terms.specs.declared.rule.Rule.{Rule}
use Rattle.ipc_terms.specs.declared.record.Event.{Event}
use Rattle.ipc_terms.specs.declared.record.Event.TheVariants.{Hello, Do, Hangup, Tick}
use Rattle.ipc_containers.specs.Slots.{at as value_at, emptied}
use Rattle.ipc_policy.specs.declared.config.Config.{Config}
use Rattle.ipc_policy.specs.Decides.History.{History}
use Rattle.ipc_policy.specs.Decides.Sessions.{hellos, live, hangs_up}
use Rattle.ipc_policy.specs.Follows.Grow.{hellos_after}
use Rattle.ipc_policy.specs.Decides.Verdict.{verdict}
use Rattle.ipc_policy.proofs.Histories.Grown.{grows}
use Rattle.ipc_policy.proofs.Histories.Refused.{same_values}
use Rattle.ipc_core.specs.Outboxes.{starts, after_step}
use Rattle.ipc_core.specs.CoreView.{CoreView}
use Rattle.ipc_hub.specs.Marking.{owner_of, sessions_in, with_owner, without_newest, without_owner, Owners}
use Rattle.ipc_hub.specs.MarkedCore.{is_plain, AreOwners}
use Rattle.ipc_hub.proofs.SessionSteps.{live_later, live_at_hello}

-- ---- one more

pub length_both : {X : Type 0} (xs ys : List X) → length (xs ++ ys) ≡ length xs + length ys
length_both [] ys = omega arith
length_both (x ∷ xs) ys = let e = length_both xs ys in omega arith

front_stands : (xs ys : List (Option ℕ)) (s i : ℕ) → value_at xs s ≡ Some i → value_at (xs ++ ys) s ≡ Some i
front_stands [] ys s i e = absurd cc
front_stands (x ∷ xs) ys zero i e = e
front_stands (x ∷ xs) ys (suc s) i e = front_stands xs ys s i e

end_stands : (xs : List (Option ℕ)) (i s : ℕ) → s ≡ length xs → value_at (xs ++ Some i ∷ []) s ≡ Some i
end_stands [] i zero e = refl
end_stands [] i (suc s) e = absurd (omega arith)
end_stands (x ∷ xs) i zero e = absurd (omega arith)
end_stands (x ∷ xs) i (suc s) e = end_stands xs i s (omega arith)

pub own_owner : (owners : Owners) (own s : ℕ) → s ≡ sessions_in owners → owner_of (with_owner own owners) s ≡ Some own
own_owner owners own s is = at (nat_lt s owners.before) refl where
  at : (b : Bool) → nat_lt s owners.before ≡ b → cond b None (value_at (owners.list ++ Some own ∷ []) (s - owners.before)) ≡ Some own
  at true k = absurd (let lt : s < owners.before = ltb-true s owners.before k in omega arith)
  at false k = end_stands owners.list own (s - owners.before) (omega arith)

-- who has a session keeps it where a next one comes
pub owner_stays : (owners : Owners) (own s i : ℕ) → owner_of owners s ≡ Some i → owner_of (with_owner own owners) s ≡ Some i
owner_stays owners own s i = at (nat_lt s owners.before) where
  at : (b : Bool) → cond b None (value_at owners.list (s - owners.before)) ≡ Some i → cond b None (value_at (owners.list ++ Some own ∷ []) (s - owners.before)) ≡ Some i
  at true e = absurd cc
  at false e = front_stands owners.list (Some own ∷ []) (s - owners.before) i e

-- the next one may not come
pub newest_undone : (owners : Owners) (own : ℕ) → without_newest (with_owner own owners) ≡ owners
newest_undone owners own = ap (λ (xs : List (Option ℕ)). record owners { list = xs }) (let one = length_both owners.list (Some own ∷ []) in let less : length (owners.list ++ Some own ∷ []) - 1 ≡ length owners.list = omega arith in rw less (front owners.list (Some own ∷ []))) where
  front : (xs ys : List (Option ℕ)) → take (length xs) (xs ++ ys) ≡ xs
  front [] ys = refl
  front (x ∷ xs) ys = ap (λ l. x ∷ l) (front xs ys)

slot_or_end : (xs : List (Option ℕ)) (own k i : ℕ) (P : Type 0) → value_at (xs ++ Some own ∷ []) k ≡ Some i → (value_at xs k ≡ Some i → P) → (k ≡ length xs → P) → P
slot_or_end [] own zero i P e old new = new refl
slot_or_end [] own (suc k) i P e old new = absurd cc
slot_or_end (x ∷ xs) own zero i P e old new = old e
slot_or_end (x ∷ xs) own (suc k) i P e old new = slot_or_end xs own k i P e old (λ is. new (ap suc is))

-- who has a connection then had it, or is the next
owner_or_next : (owners : Owners) (own s i : ℕ) (P : Type 0) → owner_of (with_owner own owners) s ≡ Some i → (owner_of owners s ≡ Some i → P) → (s ≡ sessions_in owners → P) → P
owner_or_next owners own s i P e old new = at (nat_lt s owners.before) refl e where
  at : (b : Bool) → nat_lt s owners.before ≡ b → cond b None (value_at (owners.list ++ Some own ∷ []) (s - owners.before)) ≡ Some i → P
  at true k f = absurd cc
  at false k f = slot_or_end owners.list own (s - owners.before) i P f (λ there. old (ap (λ b. cond b None (value_at owners.list (s - owners.before))) k ∙ there)) (λ is. new (let le = ltb-false s owners.before k in omega arith))

-- ---- one less

emptied_slot : (xs : List (Option ℕ)) (n k i : ℕ) → value_at (changed emptied xs n) k ≡ Some i → value_at xs k ≡ Some i
emptied_slot [] n k i e = e
emptied_slot (x ∷ xs) zero zero i e = absurd cc
emptied_slot (x ∷ xs) zero (suc k) i e = e
emptied_slot (x ∷ xs) (suc n) zero i e = e
emptied_slot (x ∷ xs) (suc n) (suc k) i e = emptied_slot xs n k i e

was_owner : (before : ℕ) (xs ys : List (Option ℕ)) (s i : ℕ) → (value_at ys (s - before) ≡ Some i → value_at xs (s - before) ≡ Some i) → owner_of (record { before = before; list = ys }) s ≡ Some i → owner_of (record { before = before; list = xs }) s ≡ Some i
was_owner before xs ys s i was e = at (nat_lt s before) e where
  at : (b : Bool) → cond b None (value_at ys (s - before)) ≡ Some i → cond b None (value_at xs (s - before)) ≡ Some i
  at true f = absurd cc
  at false f = was f

pub emptied_owner : (before : ℕ) (xs : List (Option ℕ)) (n s i : ℕ) → owner_of (record { before = before; list = changed emptied xs n }) s ≡ Some i → owner_of (record { before = before; list = xs }) s ≡ Some i
emptied_owner before xs n s i e = was_owner before xs (changed emptied xs n) s i (emptied_slot xs n (s - before) i) e

other_slot : (xs : List (Option ℕ)) (n k : ℕ) → (n ≡ k → ⊥) → value_at (changed emptied xs n) k ≡ value_at xs k
other_slot [] n k apart = refl
other_slot (x ∷ xs) zero zero apart = absurd (apart refl)
other_slot (x ∷ xs) zero (suc k) apart = refl
other_slot (x ∷ xs) (suc n) zero apart = refl
other_slot (x ∷ xs) (suc n) (suc k) apart = other_slot xs n k (λ q. apart (ap suc q))

none_there : (xs : List (Option ℕ)) (n : ℕ) → value_at (changed emptied xs n) n ≡ None
none_there [] n = refl
none_there (x ∷ xs) zero = refl
none_there (x ∷ xs) (suc n) = none_there xs n

left_owner : (owners : Owners) (t s i : ℕ) → owner_of (without_owner t owners) s ≡ Some i → owner_of owners s ≡ Some i
left_owner owners t s i = at (nat_lt t owners.before) where
  at : (b : Bool) → owner_of (cond b owners (record owners { list = changed emptied owners.list (t - owners.before) })) s ≡ Some i → owner_of owners s ≡ Some i
  at true e = e
  at false e = emptied_owner owners.before owners.list (t - owners.before) s i e

-- who ended has no owner
none_owns_it : (owners : Owners) (s : ℕ) → owner_of (without_owner s owners) s ≡ None
none_owns_it owners s = at (nat_lt s owners.before) refl where
  at : (b : Bool) → nat_lt s owners.before ≡ b → owner_of (cond b owners (record owners { list = changed emptied owners.list (s - owners.before) })) s ≡ None
  at true k = ap (λ b. cond b None (value_at owners.list (s - owners.before))) k
  at false k = ap (λ b. cond b None (value_at (changed emptied owners.list (s - owners.before)) (s - owners.before))) k ∙ none_there owners.list (s - owners.before)

-- the others have theirs
pub others_own : (owners : Owners) (t s i : ℕ) → (t ≡ s → ⊥) → owner_of owners s ≡ Some i → owner_of (without_owner t owners) s ≡ Some i
others_own owners t s i apart e = at (nat_lt t owners.before) refl where
  slot : nat_lt t owners.before ≡ false → (b : Bool) → nat_lt s owners.before ≡ b → cond b None (value_at owners.list (s - owners.before)) ≡ Some i → cond b None (value_at (changed emptied owners.list (t - owners.before)) (s - owners.before)) ≡ Some i
  slot past true k f = absurd cc
  slot past false k f = other_slot owners.list (t - owners.before) (s - owners.before) (λ q. let le = ltb-false t owners.before past in let le' = ltb-false s owners.before k in apart (omega arith)) ∙ f

  at : (b : Bool) → nat_lt t owners.before ≡ b → owner_of (cond b owners (record owners { list = changed emptied owners.list (t - owners.before) })) s ≡ Some i
  at true k = e
  at false k = slot k (nat_lt s owners.before) refl e

pub as_many_sessions : (owners : Owners) (s : ℕ) → sessions_in (without_owner s owners) ≡ sessions_in owners
as_many_sessions owners s = at (nat_lt s owners.before) where
  at : (b : Bool) → sessions_in (cond b owners (record owners { list = changed emptied owners.list (s - owners.before) })) ≡ sessions_in owners
  at true = refl
  at false = ap (λ (n : ℕ). owners.before + n) (count_changed emptied owners.list (s - owners.before))

-- who has an owner was started
pub owned_within : (owners : Owners) (s i : ℕ) → owner_of owners s ≡ Some i → s < sessions_in owners
owned_within owners s i e = at (nat_lt s owners.before) refl e where
  slot : (xs : List (Option ℕ)) (k : ℕ) → value_at xs k ≡ Some i → k < length xs
  slot [] k f = absurd cc
  slot (x ∷ xs) zero f = omega arith
  slot (x ∷ xs) (suc k) f = let lt = slot xs k f in omega arith

  at : (b : Bool) → nat_lt s owners.before ≡ b → cond b None (value_at owners.list (s - owners.before)) ≡ Some i → s < sessions_in owners
  at true k f = absurd cc
  at false k f = let lt = slot owners.list (s - owners.before) f in omega arith

-- ---- how many sessions have started

hellos_by : (c : Config) (h : History) (e : Event) (rule : Option Rule) → starts None e ≡ false → hellos (record { event = e; rule = rule } ∷ h) ≡ hellos h
hellos_by c h e (Some rule) plain = (same_values c h e rule).hellos
hellos_by c h e None plain = (grows c h e).hello_count ∙ at e plain where
  at : (e : Event) → starts None e ≡ false → hellos_after e (hellos h) ≡ hellos h
  at (Hello found) plain = absurd cc
  at (Do sid call) plain = refl
  at (Hangup sid) plain = refl
  at (Tick moment) plain = refl

pub none_starts : (a b : CoreView) (e : Event) → starts None e ≡ false → b ≡ after_step e a → hellos b.history ≡ hellos a.history
none_starts a b e plain now = ap (λ (z : CoreView). hellos z.history) now ∙ hellos_by a.config a.history e (verdict a.config a.history e) plain

refused_by : (c : Config) (h : History) (e : Event) (rule : Option Rule) → is_some rule ≡ true → hellos (record { event = e; rule = rule } ∷ h) ≡ hellos h
refused_by c h e (Some rule) on = (same_values c h e rule).hellos
refused_by c h e None on = absurd cc

pub refused_starts : (a b : CoreView) (e : Event) → is_some (verdict a.config a.history e) ≡ true → b ≡ after_step e a → hellos b.history ≡ hellos a.history
refused_starts a b e on now = ap (λ (z : CoreView). hellos z.history) now ∙ refused_by a.config a.history e (verdict a.config a.history e) on

hello_by : (c : Config) (h : History) (found : Option Uid) (rule : Option Rule) → is_some rule ≡ false → hellos (record { event = Hello found; rule = rule } ∷ h) ≡ hellos h + 1
hello_by c h found (Some rule) off = absurd cc
hello_by c h found None off = (grows c h (Hello found)).hello_count

pub hello_more : (a b : CoreView) (found : Option Uid) → is_some (verdict a.config a.history (Hello found)) ≡ false → b ≡ after_step (Hello found) a → hellos b.history ≡ hellos a.history + 1
hello_more a b found off now = ap (λ (z : CoreView). hellos z.history) now ∙ hello_by a.config a.history found (verdict a.config a.history (Hello found)) off

-- ---- who has a connection is live

stays_live : (a b : CoreView) (e : Event) (s : ℕ) → s < hellos a.history → hangs_up s e ≡ false → b ≡ after_step e a → live a.history s ≡ true → live b.history s ≡ true
stays_live a b e s lt off now on = ap (λ (z : CoreView). live z.history s) now ∙ live_later (e ∷ []) a s lt (off, tt) ∙ on

-- where no session starts, and those that have one are not hung up
none_new : (a b : CoreView) (e : Event) (k last : Owners) → b ≡ after_step e a → hellos b.history ≡ hellos a.history → sessions_in last ≡ sessions_in k → ((s i : ℕ) → owner_of last s ≡ Some i → (owner_of k s ≡ Some i) × (hangs_up s e ≡ false)) → AreOwners k a.history → AreOwners last b.history
none_new a b e k last now same count was w = record {
  count = count ∙ w.count ∙ sym same;
  live_is = λ s i own. (
      let old = was s i own in
      let lt = owned_within k s i old.0 in
      let n = w.count in
      stays_live a b e s (omega arith) old.1 now (w.live_is s i old.0)
      );
}

plain_ends_none : (e : Event) (s : ℕ) → is_plain e ≡ true → hangs_up s e ≡ false
plain_ends_none (Hello found) s plain = absurd cc
plain_ends_none (Do sid call) s plain = refl
plain_ends_none (Hangup sid) s plain = absurd cc
plain_ends_none (Tick moment) s plain = refl

plain_starts_none : (e : Event) → is_plain e ≡ true → starts None e ≡ false
plain_starts_none (Hello found) plain = absurd cc
plain_starts_none (Do sid call) plain = refl
plain_starts_none (Hangup sid) plain = absurd cc
plain_starts_none (Tick moment) plain = refl

pub plain_owners : (a b : CoreView) (e : Event) (k last : Owners) → is_plain e ≡ true → b ≡ after_step e a → last ≡ k → AreOwners k a.history → AreOwners last b.history
plain_owners a b e k last plain now same w = none_new a b e k last now (none_starts a b e (plain_starts_none e plain) now) (ap sessions_in same) (λ s i own. (ap (λ (o : Owners). owner_of o s) (sym same) ∙ own, plain_ends_none e s plain)) w

pub refused_owners : (a b : CoreView) (found : Option Uid) (k last : Owners) → is_some (verdict a.config a.history (Hello found)) ≡ true → b ≡ after_step (Hello found) a → last ≡ k → AreOwners k a.history → AreOwners last b.history
refused_owners a b found k last on now same w = none_new a b (Hello found) k last now (refused_starts a b (Hello found) on now) (ap sessions_in same) (λ s i own. (ap (λ (o : Owners). owner_of o s) (sym same) ∙ own, refl)) w

none_of : (w : Option Rule) → is_some w ≡ false → w ≡ None
none_of None e = refl
none_of (Some rule) e = absurd cc

pub started_owners : (a b : CoreView) (found : Option Uid) (own : ℕ) (k last : Owners) → is_some (verdict a.config a.history (Hello found)) ≡ false → b ≡ after_step (Hello found) a → last ≡ with_owner own k → AreOwners k a.history → AreOwners last b.history
started_owners a b found own k last off now more w = record {
  count = (
      let one : length (k.list ++ Some own ∷ []) ≡ length k.list + 1 = length_both k.list (Some own ∷ []) in
      let all : sessions_in last ≡ k.before + length (k.list ++ Some own ∷ []) = ap sessions_in more in
      let n = w.count in
      let next = hello_more a b found off now in
      omega arith
      );
  live_is = λ s i e. owner_or_next k own s i (live b.history s ≡ true) (ap (λ (o : Owners). owner_of o s) (sym more) ∙ e) (λ old. let lt = owned_within k s i old in let n = w.count in stays_live a b (Hello found) s (omega arith) refl now (w.live_is s i old)) (λ is. new s (is ∙ w.count));
} where
  new : (s : ℕ) → s ≡ hellos a.history → live b.history s ≡ true
  new s is = ap (λ (z : CoreView). live z.history s) now ∙ live_at_hello a.config a.history (Hello found) (verdict a.config a.history (Hello found)) (none_of _ off) s is (let next : eqb (hellos a.history) s ≡ true = eq-eqb _ _ (sym is) in rw next refl)

pub hung_up_owners : (a b : CoreView) (sid : Sid) (k n last : Owners) → b ≡ after_step (Hangup sid) a → n ≡ k → last ≡ without_owner sid.0 n → AreOwners k a.history → AreOwners last b.history
hung_up_owners a b sid k n last now same gone w = none_new a b (Hangup sid) k last now (none_starts a b (Hangup sid) refl now) (ap sessions_in gone ∙ as_many_sessions n sid.0 ∙ ap sessions_in same) (λ s i own. other s i (ap (λ (o : Owners). owner_of o s) (sym gone) ∙ own)) w where
  other : (s i : ℕ) → owner_of (without_owner sid.0 n) s ≡ Some i → (owner_of k s ≡ Some i) × (hangs_up s (Hangup sid) ≡ false)
  other s i e = (ap (λ (o : Owners). owner_of o s) (sym same) ∙ left_owner n sid.0 s i e, ne_eqb sid.0 s (λ (q : sid.0 ≡ s). absurd (differ i (sym (none_owns_it n sid.0) ∙ ap (owner_of (without_owner sid.0 n)) q ∙ e)))) where
    differ : (i : ℕ) → ◌≡◌ {A = Option ℕ} None (Some i) → ⊥
    differ i q = absurd cc
