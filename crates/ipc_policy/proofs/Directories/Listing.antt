-- The names in order are those that are bound, each to its object.
use Rattle.std.proofs.Common.{◌≡◌, ℕ, Bool, true, false, not, ◌&&◌, cond, List, [], ◌∷◌, ◌++◌, find, filter, Option, Some, None, is_some, refl, sym, ap, ◌∙◌}
use Rattle.std.specs.Option.{option_or, option_map}
use Rattle.std.proofs.lemmas.List.Folds.{find-append}
use Rattle.std.proofs.lemmas.Slice.Eq.{bytes_eq-Decides}
use Rattle.ipc_terms.specs.Flags.{has_create}
use Rattle.ipc_terms.specs.Names.{same_family, same_name}
use Rattle.ipc_terms.specs.declared.binding.Binding.{Binding}
use Rattle.ipc_terms.specs.declared.ids.Family.{Family}
use Rattle.ipc_terms.specs.declared.ids.Family.TheVariants.{Mq, Sem}
use Rattle.ipc_terms.specs.declared.rule.Rule.{Rule}
use Rattle.ipc_terms.specs.declared.call.Call.TheVariants.{Umask, MqOpen, MqClose, MqSend, MqReceive, MqGetattr, MqSetattr, MqNotify, MqGive, MqUnlink, SemOpen, SemClose, SemUnlink, SemPost, SemWait, SemTryWait, SemGetvalue, ListNames, StatName, Chmod, Chown, SetLimit, Interrupt, Audit, MqTimedSend, MqTimedReceive, SemTimedWait}
use Rattle.ipc_terms.specs.declared.record.Event.{Event}
use Rattle.ipc_terms.specs.declared.record.Event.TheVariants.{Hello, Do, Hangup, Tick}
use Rattle.ipc_policy.specs.Decides.History.{History}
use Rattle.ipc_policy.specs.Decides.Names.{queue_opening, semaphore_opening, is_bound, creations, bound}
use Rattle.ipc_policy.specs.Decides.Life.{named, bindings}
use Rattle.ipc_policy.specs.Follows.Grow.{is_new, bound_after, bindings_after}
use Rattle.ipc_policy.proofs.Lists.Gathering.{find_kept, find_dropped}
use Rattle.ipc_policy.proofs.Histories.Growing.{bound_grows}
use Rattle.ipc_policy.proofs.Directories.Living.{bindings_grow}
use Rattle.ipc_policy.proofs.Histories.Known.{bound_iff}

-- the object that a list of names gives a name
abbrev found : List Binding → List ℕ → Option ℕ
found xs name = option_map (λ (b : Binding). b.object) (find (λ (b : Binding). same_name b.name name) xs)

-- one more name, where it was not found
found_more : (xs : List Binding) (name : List ℕ) (x : Binding) (w : Option ℕ) (b : Bool) → same_name x.name name ≡ b → found xs name ≡ w → (b ≡ true → w ≡ None) → found (xs ++ x ∷ []) name ≡ cond b (Some x.object) w
found_more xs name x w b e is none = ap (option_map (λ (b : Binding). b.object)) (find-append (λ (y : Binding). same_name y.name name) xs (x ∷ [])) ∙ at (find (λ (y : Binding). same_name y.name name) xs) is b e none where
  at : (o : Option Binding) → option_map (λ (b : Binding). b.object) o ≡ w → (b : Bool) → same_name x.name name ≡ b → (b ≡ true → w ≡ None) → option_map (λ (b : Binding). b.object) (option_or o (cond (same_name x.name name) (Some x) None)) ≡ cond b (Some x.object) w
  at None k true e none = rw e refl
  at None k false e none = rw e k
  at (Some y) k true e none = absurd (let no = k ∙ none refl in cc)
  at (Some y) k false e none = k

-- without a name
found_without : (xs : List Binding) (name given : List ℕ) (w : Option ℕ) (b : Bool) → same_name name given ≡ b → found xs name ≡ w → found (filter (λ (x : Binding). not (same_name x.name given)) xs) name ≡ cond b None w
found_without xs name given w true e is = ap (option_map (λ (b : Binding). b.object)) (find_dropped (λ (x : Binding). same_name x.name name) (λ (x : Binding). not (same_name x.name given)) xs (λ x q. dropped x q)) where
  dropped : (x : Binding) → same_name x.name name ≡ true → not (same_name x.name given) ≡ false
  dropped x q =
      let one : x.name ≡ name = (bytes_eq-Decides x.name name).0 q in
      let two : same_name x.name given ≡ true = ap (λ n. same_name n given) one ∙ e in
      ap not two
found_without xs name given w false e is = ap (option_map (λ (b : Binding). b.object)) (find_kept (λ (x : Binding). same_name x.name name) (λ (x : Binding). not (same_name x.name given)) xs (λ x q. left x q)) ∙ is where
  left : (x : Binding) → same_name x.name name ≡ true → not (same_name x.name given) ≡ true
  left x q =
      let one : x.name ≡ name = (bytes_eq-Decides x.name name).0 q in
      let two : same_name x.name given ≡ false = ap (λ n. same_name n given) one ∙ e in
      ap not two

filter_true : (xs : List Binding) → filter (λ (x : Binding). true) xs ≡ xs
filter_true [] = refl
filter_true (x ∷ xs) = ap (λ l. x ∷ l) (filter_true xs)

found_unlinked : (h : History) (u f : Family) (name given : List ℕ) → found (bindings h f) name ≡ bound h f name → found (filter (λ (x : Binding). not (same_family u f && same_name x.name given)) (bindings h f)) name ≡ cond (same_family u f && same_name name given) None (bound h f name)
found_unlinked h Mq Mq name given known = found_without (bindings h Mq) name given (bound h Mq name) (same_name name given) refl known
found_unlinked h Sem Sem name given known = found_without (bindings h Sem) name given (bound h Sem name) (same_name name given) refl known
found_unlinked h Mq Sem name given known = ap (λ xs. found xs name) (filter_true (bindings h Sem)) ∙ known
found_unlinked h Sem Mq name given known = ap (λ xs. found xs name) (filter_true (bindings h Mq)) ∙ known

-- a name that is made anew was not bound
pub unbound_new : (b u : Bool) (w : Option ℕ) → u ≡ is_some w → (b && not u) ≡ true → w ≡ None
unbound_new true true w is e = absurd cc
unbound_new true false None is e = refl
unbound_new true false (Some x) is e = absurd cc
unbound_new false u w is e = absurd cc

found_new : (h : History) (f : Family) (given name : List ℕ) (create : Bool) → (create && not (is_bound h f given)) ≡ true → found (bindings h f) name ≡ bound h f name → found (bindings h f ++ record { name = given; object = creations h } ∷ []) name ≡ cond (same_name given name) (Some (creations h)) (bound h f name)
found_new h f given name create e known = found_more (bindings h f) name (record { name = given; object = creations h }) (bound h f name) (same_name given name) refl known (λ same.
    let at : given ≡ name = (bytes_eq-Decides given name).0 same in
    let none : bound h f given ≡ None = unbound_new create (is_bound h f given) (bound h f given) (bound_iff h f given) e in
    rw (← at) none)

found_created : (h : History) (u f : Family) (given name : List ℕ) (create b : Bool) → (create && not (is_bound h u given)) ≡ b → found (bindings h f) name ≡ bound h f name → found (cond (b && same_family u f) (bindings h f ++ record { name = given; object = creations h } ∷ []) (bindings h f)) name ≡ cond (b && (same_family u f && same_name given name)) (Some (creations h)) (bound h f name)
found_created h u f given name create false e known = known
found_created h Mq Sem given name create true e known = known
found_created h Sem Mq given name create true e known = known
found_created h Mq Mq given name create true e known = found_new h Mq given name create e known
found_created h Sem Sem given name create true e known = found_new h Sem given name create e known

listed_more : (h : History) (f : Family) (name : List ℕ) → found (bindings h f) name ≡ bound h f name → (e : Event) → found (bindings_after f e (is_bound h) (creations h) (bindings h f)) name ≡ bound_after f name e (is_bound h) (creations h) (bound h f name)
listed_more h f name known (Hello uid) = known
listed_more h f name known (Do sid (Umask mode)) = known
listed_more h f name known (Do sid (MqOpen asked)) = found_created h Mq f asked.name name (has_create asked.flags) (is_new (queue_opening sid asked) (is_bound h)) refl known
listed_more h f name known (Do sid (SemOpen asked)) = found_created h Sem f asked.name name (has_create asked.flags) (is_new (semaphore_opening sid asked) (is_bound h)) refl known
listed_more h f name known (Do sid (MqClose desc)) = known
listed_more h f name known (Do sid (MqSend desc priority bytes)) = known
listed_more h f name known (Do sid (MqReceive desc room)) = known
listed_more h f name known (Do sid (MqGetattr desc)) = known
listed_more h f name known (Do sid (MqSetattr desc nonblock)) = known
listed_more h f name known (Do sid (MqNotify desc on)) = known
listed_more h f name known (Do sid (MqGive desc taker)) = known
listed_more h f name known (Do sid (MqUnlink given)) = found_unlinked h Mq f name given known
listed_more h f name known (Do sid (SemUnlink given)) = found_unlinked h Sem f name given known
listed_more h f name known (Do sid (SemClose desc)) = known
listed_more h f name known (Do sid (SemPost desc)) = known
listed_more h f name known (Do sid (SemWait desc)) = known
listed_more h f name known (Do sid (SemTryWait desc)) = known
listed_more h f name known (Do sid (SemGetvalue desc)) = known
listed_more h f name known (Do sid (ListNames family start count)) = known
listed_more h f name known (Do sid (StatName target)) = known
listed_more h f name known (Do sid (Chmod mode target)) = known
listed_more h f name known (Do sid (Chown owner group target)) = known
listed_more h f name known (Do sid (SetLimit uid bytes)) = known
listed_more h f name known (Do sid Interrupt) = known
listed_more h f name known (Do sid (Audit start count)) = known
listed_more h f name known (Do sid (MqTimedSend desc priority until bytes)) = known
listed_more h f name known (Do sid (MqTimedReceive desc room until)) = known
listed_more h f name known (Do sid (SemTimedWait desc until)) = known
listed_more h f name known (Hangup sid) = known
listed_more h f name known (Tick moment) = known

listed_at : (h : History) (f : Family) (name : List ℕ) → found (bindings h f) name ≡ bound h f name → (e : Event) (r : Option Rule) → found (bindings (record { event = e; rule = r } ∷ h) f) name ≡ bound (record { event = e; rule = r } ∷ h) f name
unfolding bindings named creations bound
listed_at h f name known e (Some rule) = known
listed_at h f name known e None = ap (λ xs. found xs name) (bindings_grow h e f) ∙ listed_more h f name known e ∙ sym (bound_grows h e f name)

pub listed_is_bound : (h : History) (f : Family) (name : List ℕ) → found (bindings h f) name ≡ bound h f name
unfolding bindings bound creations
listed_is_bound [] f name = refl
listed_is_bound (r ∷ h) f name = listed_at h f name (listed_is_bound h f name) r.event r.rule
