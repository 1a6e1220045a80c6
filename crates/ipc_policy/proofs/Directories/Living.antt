-- What an accepted event does to the names in order, and to which objects are alive.
use Rattle.std.proofs.Common.{◌≡◌, ℕ, ◌+◌, ◌<◌, Bool, true, false, not, ◌&&◌, ◌||◌, eqb, cond, List, [], ◌∷◌, ◌++◌, map, filter, Option, Some, None, is_some, refl, sym, ap, ◌∙◌, arith}
use Rattle.std.specs.Option.{option_or, option_map, option_to_list}
use Rattle.std.proofs.lemmas.Bool.{eqb-true, eq-eqb, ne_eqb}
use Rattle.std.proofs.lemmas.List.{map_push}
use Rattle.ipc_terms.specs.Names.{same_family, same_name}
use Rattle.ipc_terms.specs.declared.binding.Binding.{Binding}
use Rattle.ipc_terms.specs.declared.ids.Sid.{Sid}
use Rattle.ipc_terms.specs.declared.ids.Desc.{Desc}
use Rattle.ipc_terms.specs.declared.ids.Family.{Family}
use Rattle.ipc_terms.specs.declared.ids.Family.TheVariants.{Mq, Sem}
use Rattle.ipc_terms.specs.declared.rule.Rule.{Rule}
use Rattle.ipc_terms.specs.declared.call.Call.TheVariants.{Umask, MqOpen, MqClose, MqSend, MqReceive, MqGetattr, MqSetattr, MqNotify, MqGive, MqUnlink, SemOpen, SemClose, SemUnlink, SemPost, SemWait, SemTryWait, SemGetvalue, ListNames, StatName, Chmod, Chown, SetLimit, Interrupt, Audit, MqTimedSend, MqTimedReceive, SemTimedWait}
use Rattle.ipc_terms.specs.declared.record.Event.{Event}
use Rattle.ipc_terms.specs.declared.record.Event.TheVariants.{Hello, Do, Hangup, Tick}
use Rattle.ipc_policy.specs.declared.config.Held.{Held}
use Rattle.ipc_policy.specs.Decides.History.{History, unless, unended, gathered_below, any_below}
use Rattle.ipc_policy.specs.Decides.Names.{queue_opening, semaphore_opening, Opening, unlinks, is_bound, creating, creations, bound}
use Rattle.ipc_policy.specs.Decides.Objects.{creation_of}
use Rattle.ipc_policy.specs.Decides.Descriptions.{opens, held}
use Rattle.ipc_policy.specs.Decides.Life.{named, binding_of, bindings, names, gives_object, alive}
use Rattle.ipc_policy.specs.Follows.Grow.{is_new, creations_after, named_after, bindings_after, names_after, alive_after, held_after, opens_after}
use Rattle.ipc_policy.proofs.Holdings.Holding.{kept_all, kept_some, held_grows, held_given, moved}
use Rattle.ipc_policy.proofs.Lists.Gathering.{gathered_same, gathered_more, passing, gathered_filter, any_below_same}
use Rattle.ipc_policy.proofs.Histories.Growing.{creations_grow, opens_grow}

-- the name of object o after an accepted event
abbrev named_so_far : History → ℕ → Option Opening
named_so_far h o = unended (creation_of o) (λ asked e before. unlinks asked.family asked.name e) h

none_or : {A : Type 0} (b : Bool) (w : Option A) → option_or (cond b None None) w ≡ w
none_or true w = refl
none_or false w = refl

opened_or : (b d : Bool) (x : Opening) (w : Option Opening) → option_or (cond b (cond d (Some x) None) None) (unless (λ y. false) w) ≡ cond (d && b) (Some x) w
opened_or true true x w = refl
opened_or true false x w = kept_all w
opened_or false true x w = kept_all w
opened_or false false x w = kept_all w

pub named_grows : (h : History) (e : Event) (o : ℕ) → named (record { event = e; rule = None } ∷ h) o ≡ named_after o e (is_bound h) (creations h) (named h o)
unfolding named creating
named_grows h (Hello found) o = none_or (eqb (creations h) o) (unless (λ x. false) (named_so_far h o))
named_grows h (Do sid (MqOpen asked)) o = opened_or (eqb (creations h) o) (is_new (queue_opening sid asked) (is_bound h)) (queue_opening sid asked) (named_so_far h o)
named_grows h (Do sid (SemOpen asked)) o = opened_or (eqb (creations h) o) (is_new (semaphore_opening sid asked) (is_bound h)) (semaphore_opening sid asked) (named_so_far h o)
named_grows h (Do sid call) o = none_or (eqb (creations h) o) (unless (λ asked. unlinks asked.family asked.name (Do sid call)) (named_so_far h o))
named_grows h (Hangup sid) o = none_or (eqb (creations h) o) (unless (λ x. false) (named_so_far h o))
named_grows h (Tick moment) o = none_or (eqb (creations h) o) (unless (λ x. false) (named_so_far h o))

-- only what was created has a name
named_at : (n o : ℕ) (b : Bool) → eqb n o ≡ b → (w v : Option Opening) (p : Opening → Bool) → (is_some v ≡ true → o < n) → is_some (option_or (cond b w None) (unless p v)) ≡ true → o < cond (is_some w) (n + 1) n
named_at n o true e None v p known k = known (kept_some p v k)
named_at n o true e (Some x) v p known k = let at : n ≡ o = eqb-true _ _ e in omega arith
named_at n o false e None v p known k = known (kept_some p v k)
named_at n o false e (Some x) v p known k = let below = known (kept_some p v k) in omega arith

named_more : (h : History) (o : ℕ) → (is_some (named h o) ≡ true → o < creations h) → (e : Event) (r : Option Rule) → is_some (named (record { event = e; rule = r } ∷ h) o) ≡ true → o < creations (record { event = e; rule = r } ∷ h)
unfolding named creations
named_more h o known e (Some rule) k = known k
named_more h o known e None k = named_at (creations h) o (eqb (creations h) o) refl _ (named_so_far h o) (λ asked. unlinks asked.family asked.name e) known k

pub named_below : (h : History) (o : ℕ) → is_some (named h o) ≡ true → o < creations h
unfolding named
named_below [] o k = absurd cc
named_below (r ∷ h) o k = named_more h o (named_below h o) r.event r.rule k

-- the names in order
bindings_same : (h k : History) (f : Family) → creations k ≡ creations h → ((o : ℕ) → o < creations h → named k o ≡ named h o) → bindings k f ≡ bindings h f
unfolding bindings
bindings_same h k f n same = ap (gathered_below (λ o. binding_of f o (named k o))) n ∙ gathered_same _ _ (creations h) (λ o lt. ap (binding_of f o) (same o lt))

bindings_quiet : (h : History) (e : Event) (f : Family) → creations_after e (is_bound h) (creations h) ≡ creations h → ((o : ℕ) → named_after o e (is_bound h) (creations h) (named h o) ≡ named h o) → bindings (record { event = e; rule = None } ∷ h) f ≡ bindings h f
bindings_quiet h e f n same = bindings_same h _ f (creations_grow h e ∙ n) (λ o lt. named_grows h e o ∙ same o)

-- whether an unlink of a name of family u takes the name away
abbrev taken : Family → Family → List ℕ → Binding → Bool
taken u f name b = same_family u f && same_name b.name name

nothing_passes : (p : Binding → Bool) (b : Bool) → cond b None None ≡ passing p None
nothing_passes p true = refl
nothing_passes p false = refl

taken_at : (u f g : Family) (given name : List ℕ) (o : ℕ) (b : Bool) → same_name given name ≡ b → cond (same_family u g && b) None (cond (same_family g f) (Some (record { name = given; object = o })) None) ≡ passing (λ x. not (taken u f name x)) (cond (same_family g f) (Some (record { name = given; object = o })) None)
taken_at Mq Mq Mq given name o true e = rw e refl
taken_at Mq Mq Mq given name o false e = rw e refl
taken_at Sem Sem Sem given name o true e = rw e refl
taken_at Sem Sem Sem given name o false e = rw e refl
taken_at Mq Sem Sem given name o b e = refl
taken_at Sem Mq Mq given name o b e = refl
taken_at Mq Mq Sem given name o b e = refl
taken_at Sem Sem Mq given name o b e = refl
taken_at Mq Sem Mq given name o b e = nothing_passes (λ x. not (taken Mq Sem name x)) b
taken_at Sem Mq Sem given name o b e = nothing_passes (λ x. not (taken Sem Mq name x)) b

binding_kept : (f : Family) (o : ℕ) (b : Bool) (asked : Opening) → binding_of f o (cond b None (Some asked)) ≡ cond b None (binding_of f o (Some asked))
binding_kept f o true asked = refl
binding_kept f o false asked = refl

binding_taken : (u f : Family) (name : List ℕ) (o : ℕ) (w : Option Opening) → binding_of f o (unless (λ asked. same_family u asked.family && same_name asked.name name) w) ≡ passing (λ x. not (taken u f name x)) (binding_of f o w)
binding_taken u f name o None = refl
binding_taken u f name o (Some asked) = binding_kept f o (same_family u asked.family && same_name asked.name name) asked ∙ taken_at u f asked.family asked.name name o (same_name asked.name name) refl

bindings_unlinked : (h : History) (e : Event) (u : Family) (name : List ℕ) → creations_after e (is_bound h) (creations h) ≡ creations h → ((o : ℕ) → named_after o e (is_bound h) (creations h) (named h o) ≡ unless (λ asked. same_family u asked.family && same_name asked.name name) (named h o)) → (f : Family) → bindings (record { event = e; rule = None } ∷ h) f ≡ filter (λ x. not (taken u f name x)) (bindings h f)
unfolding bindings
bindings_unlinked h e u name n after f =
    ap (gathered_below (λ o. binding_of f o (named (record { event = e; rule = None } ∷ h) o))) (creations_grow h e ∙ n)
    ∙ gathered_same _ _ (creations h) (λ o lt. ap (binding_of f o) (named_grows h e o ∙ after o) ∙ binding_taken u f name o (named h o))
    ∙ sym (gathered_filter (λ x. not (taken u f name x)) (λ o. binding_of f o (named h o)) (creations h))

pub append_none : {A : Type 0} (xs : List A) → xs ++ [] ≡ xs
append_none [] = refl
append_none (x ∷ xs) = ap (λ l. x ∷ l) (append_none xs)

pushed_if : (b : Bool) (x : Binding) (xs : List Binding) → xs ++ option_to_list (cond b (Some x) None) ≡ cond b (xs ++ x ∷ []) xs
pushed_if true x xs = refl
pushed_if false x xs = append_none xs

-- what an open that creates names, and what it leaves as it was
abbrev Opens : History → Event → Opening → Type 0
Opens h e asked = (o : ℕ) → named_after o e (is_bound h) (creations h) (named h o) ≡ cond (is_new asked (is_bound h) && eqb (creations h) o) (Some asked) (named h o)

named_new : (h : History) (e : Event) (asked : Opening) → Opens h e asked → is_new asked (is_bound h) ≡ true → named (record { event = e; rule = None } ∷ h) (creations h) ≡ Some asked
named_new h e asked after new = named_grows h e (creations h) ∙ after (creations h) ∙ rw (new, eq-eqb (creations h) (creations h) refl) refl

named_other : (h : History) (e : Event) (asked : Opening) → Opens h e asked → (o : ℕ) → o < creations h → named (record { event = e; rule = None } ∷ h) o ≡ named h o
named_other h e asked after o lt = named_grows h e o ∙ after o ∙ at (is_new asked (is_bound h)) where
  at : (b : Bool) → cond (b && eqb (creations h) o) (Some asked) (named h o) ≡ named h o
  at true = rw (ne_eqb (creations h) o (λ (q : creations h ≡ o). absurd (omega arith))) refl
  at false = refl

bindings_created : (h : History) (e : Event) (asked : Opening) → creations_after e (is_bound h) (creations h) ≡ cond (is_new asked (is_bound h)) (creations h + 1) (creations h) → Opens h e asked → (f : Family) (b : Bool) → is_new asked (is_bound h) ≡ b → bindings (record { event = e; rule = None } ∷ h) f ≡ cond (b && same_family asked.family f) (bindings h f ++ record { name = asked.name; object = creations h } ∷ []) (bindings h f)
unfolding bindings
bindings_created h e asked n after f true new =
    gathered_more (λ o. binding_of f o (named (record { event = e; rule = None } ∷ h) o)) (λ o. binding_of f o (named h o)) (creations (record { event = e; rule = None } ∷ h)) (creations h)
    (creations_grow h e ∙ n ∙ rw new refl)
    (λ o lt. ap (binding_of f o) (named_other h e asked after o lt))
    ∙ ap (λ w. gathered_below (λ o. binding_of f o (named h o)) (creations h) ++ option_to_list (binding_of f (creations h) w)) (named_new h e asked after new)
    ∙ pushed_if (same_family asked.family f) (record { name = asked.name; object = creations h }) (gathered_below (λ o. binding_of f o (named h o)) (creations h))
bindings_created h e asked n after f false new = bindings_same h _ f (creations_grow h e ∙ n ∙ rw new refl) (λ o lt. named_grows h e o ∙ after o ∙ rw new refl)

pub bindings_grow : (h : History) (e : Event) (f : Family) → bindings (record { event = e; rule = None } ∷ h) f ≡ bindings_after f e (is_bound h) (creations h) (bindings h f)
bindings_grow h (Hello found) f = bindings_quiet h (Hello found) f refl (λ o. kept_all (named h o))
bindings_grow h (Do sid (Umask mode)) f = bindings_quiet h (Do sid (Umask mode)) f refl (λ o. kept_all (named h o))
bindings_grow h (Do sid (MqOpen asked)) f = bindings_created h (Do sid (MqOpen asked)) (queue_opening sid asked) refl (λ o. refl) f (is_new (queue_opening sid asked) (is_bound h)) refl
bindings_grow h (Do sid (SemOpen asked)) f = bindings_created h (Do sid (SemOpen asked)) (semaphore_opening sid asked) refl (λ o. refl) f (is_new (semaphore_opening sid asked) (is_bound h)) refl
bindings_grow h (Do sid (MqClose desc)) f = bindings_quiet h (Do sid (MqClose desc)) f refl (λ o. kept_all (named h o))
bindings_grow h (Do sid (MqSend desc priority bytes)) f = bindings_quiet h (Do sid (MqSend desc priority bytes)) f refl (λ o. kept_all (named h o))
bindings_grow h (Do sid (MqReceive desc room)) f = bindings_quiet h (Do sid (MqReceive desc room)) f refl (λ o. kept_all (named h o))
bindings_grow h (Do sid (MqGetattr desc)) f = bindings_quiet h (Do sid (MqGetattr desc)) f refl (λ o. kept_all (named h o))
bindings_grow h (Do sid (MqSetattr desc nonblock)) f = bindings_quiet h (Do sid (MqSetattr desc nonblock)) f refl (λ o. kept_all (named h o))
bindings_grow h (Do sid (MqNotify desc on)) f = bindings_quiet h (Do sid (MqNotify desc on)) f refl (λ o. kept_all (named h o))
bindings_grow h (Do sid (MqGive desc taker)) f = bindings_quiet h (Do sid (MqGive desc taker)) f refl (λ o. kept_all (named h o))
bindings_grow h (Do sid (MqUnlink name)) f = bindings_unlinked h (Do sid (MqUnlink name)) Mq name refl (λ o. refl) f
bindings_grow h (Do sid (SemUnlink name)) f = bindings_unlinked h (Do sid (SemUnlink name)) Sem name refl (λ o. refl) f
bindings_grow h (Do sid (SemClose desc)) f = bindings_quiet h (Do sid (SemClose desc)) f refl (λ o. kept_all (named h o))
bindings_grow h (Do sid (SemPost desc)) f = bindings_quiet h (Do sid (SemPost desc)) f refl (λ o. kept_all (named h o))
bindings_grow h (Do sid (SemWait desc)) f = bindings_quiet h (Do sid (SemWait desc)) f refl (λ o. kept_all (named h o))
bindings_grow h (Do sid (SemTryWait desc)) f = bindings_quiet h (Do sid (SemTryWait desc)) f refl (λ o. kept_all (named h o))
bindings_grow h (Do sid (SemGetvalue desc)) f = bindings_quiet h (Do sid (SemGetvalue desc)) f refl (λ o. kept_all (named h o))
bindings_grow h (Do sid (ListNames family start count)) f = bindings_quiet h (Do sid (ListNames family start count)) f refl (λ o. kept_all (named h o))
bindings_grow h (Do sid (StatName target)) f = bindings_quiet h (Do sid (StatName target)) f refl (λ o. kept_all (named h o))
bindings_grow h (Do sid (Chmod mode target)) f = bindings_quiet h (Do sid (Chmod mode target)) f refl (λ o. kept_all (named h o))
bindings_grow h (Do sid (Chown owner group target)) f = bindings_quiet h (Do sid (Chown owner group target)) f refl (λ o. kept_all (named h o))
bindings_grow h (Do sid (SetLimit uid bytes)) f = bindings_quiet h (Do sid (SetLimit uid bytes)) f refl (λ o. kept_all (named h o))
bindings_grow h (Do sid Interrupt) f = bindings_quiet h (Do sid Interrupt) f refl (λ o. kept_all (named h o))
bindings_grow h (Do sid (Audit start count)) f = bindings_quiet h (Do sid (Audit start count)) f refl (λ o. kept_all (named h o))
bindings_grow h (Do sid (MqTimedSend desc priority until bytes)) f = bindings_quiet h (Do sid (MqTimedSend desc priority until bytes)) f refl (λ o. kept_all (named h o))
bindings_grow h (Do sid (MqTimedReceive desc room until)) f = bindings_quiet h (Do sid (MqTimedReceive desc room until)) f refl (λ o. kept_all (named h o))
bindings_grow h (Do sid (SemTimedWait desc until)) f = bindings_quiet h (Do sid (SemTimedWait desc until)) f refl (λ o. kept_all (named h o))
bindings_grow h (Hangup sid) f = bindings_quiet h (Hangup sid) f refl (λ o. kept_all (named h o))
bindings_grow h (Tick moment) f = bindings_quiet h (Tick moment) f refl (λ o. kept_all (named h o))

-- the names alone
names_filtered : (u f : Family) (name : List ℕ) (xs : List Binding) → map (λ (b : Binding). b.name) (filter (λ x. not (taken u f name x)) xs) ≡ filter (λ n. not (same_family u f && same_name n name)) (map (λ (b : Binding). b.name) xs)
names_filtered u f name [] = refl
names_filtered u f name (x ∷ xs) = at (not (same_family u f && same_name x.name name)) (names_filtered u f name xs) where
  at : (b : Bool) → map (λ (b : Binding). b.name) (filter (λ x. not (taken u f name x)) xs) ≡ filter (λ n. not (same_family u f && same_name n name)) (map (λ (b : Binding). b.name) xs) → map (λ (b : Binding). b.name) (cond b (x ∷ filter (λ x. not (taken u f name x)) xs) (filter (λ x. not (taken u f name x)) xs)) ≡ cond b (x.name ∷ filter (λ n. not (same_family u f && same_name n name)) (map (λ (b : Binding). b.name) xs)) (filter (λ n. not (same_family u f && same_name n name)) (map (λ (b : Binding). b.name) xs))
  at true rest = ap (λ l. x.name ∷ l) rest
  at false rest = rest

names_pushed : (b : Bool) (x : Binding) (xs : List Binding) → map (λ (b : Binding). b.name) (cond b (xs ++ x ∷ []) xs) ≡ cond b (map (λ (b : Binding). b.name) xs ++ x.name ∷ []) (map (λ (b : Binding). b.name) xs)
names_pushed true x xs = map_push (λ (b : Binding). b.name) xs x
names_pushed false x xs = refl

pub names_grow : (h : History) (e : Event) (f : Family) → names (record { event = e; rule = None } ∷ h) f ≡ names_after f e (is_bound h) (names h f)
unfolding names
names_grow h (Hello found) f = ap (map (λ (b : Binding). b.name)) (bindings_grow h (Hello found) f)
names_grow h (Do sid (Umask mode)) f = ap (map (λ (b : Binding). b.name)) (bindings_grow h (Do sid (Umask mode)) f)
names_grow h (Do sid (MqOpen asked)) f = ap (map (λ (b : Binding). b.name)) (bindings_grow h (Do sid (MqOpen asked)) f) ∙ names_pushed (is_new (queue_opening sid asked) (is_bound h) && same_family Mq f) (record { name = asked.name; object = creations h }) (bindings h f)
names_grow h (Do sid (SemOpen asked)) f = ap (map (λ (b : Binding). b.name)) (bindings_grow h (Do sid (SemOpen asked)) f) ∙ names_pushed (is_new (semaphore_opening sid asked) (is_bound h) && same_family Sem f) (record { name = asked.name; object = creations h }) (bindings h f)
names_grow h (Do sid (MqClose desc)) f = ap (map (λ (b : Binding). b.name)) (bindings_grow h (Do sid (MqClose desc)) f)
names_grow h (Do sid (MqSend desc priority bytes)) f = ap (map (λ (b : Binding). b.name)) (bindings_grow h (Do sid (MqSend desc priority bytes)) f)
names_grow h (Do sid (MqReceive desc room)) f = ap (map (λ (b : Binding). b.name)) (bindings_grow h (Do sid (MqReceive desc room)) f)
names_grow h (Do sid (MqGetattr desc)) f = ap (map (λ (b : Binding). b.name)) (bindings_grow h (Do sid (MqGetattr desc)) f)
names_grow h (Do sid (MqSetattr desc nonblock)) f = ap (map (λ (b : Binding). b.name)) (bindings_grow h (Do sid (MqSetattr desc nonblock)) f)
names_grow h (Do sid (MqNotify desc on)) f = ap (map (λ (b : Binding). b.name)) (bindings_grow h (Do sid (MqNotify desc on)) f)
names_grow h (Do sid (MqGive desc taker)) f = ap (map (λ (b : Binding). b.name)) (bindings_grow h (Do sid (MqGive desc taker)) f)
names_grow h (Do sid (MqUnlink name)) f = ap (map (λ (b : Binding). b.name)) (bindings_grow h (Do sid (MqUnlink name)) f) ∙ names_filtered Mq f name (bindings h f)
names_grow h (Do sid (SemUnlink name)) f = ap (map (λ (b : Binding). b.name)) (bindings_grow h (Do sid (SemUnlink name)) f) ∙ names_filtered Sem f name (bindings h f)
names_grow h (Do sid (SemClose desc)) f = ap (map (λ (b : Binding). b.name)) (bindings_grow h (Do sid (SemClose desc)) f)
names_grow h (Do sid (SemPost desc)) f = ap (map (λ (b : Binding). b.name)) (bindings_grow h (Do sid (SemPost desc)) f)
names_grow h (Do sid (SemWait desc)) f = ap (map (λ (b : Binding). b.name)) (bindings_grow h (Do sid (SemWait desc)) f)
names_grow h (Do sid (SemTryWait desc)) f = ap (map (λ (b : Binding). b.name)) (bindings_grow h (Do sid (SemTryWait desc)) f)
names_grow h (Do sid (SemGetvalue desc)) f = ap (map (λ (b : Binding). b.name)) (bindings_grow h (Do sid (SemGetvalue desc)) f)
names_grow h (Do sid (ListNames family start count)) f = ap (map (λ (b : Binding). b.name)) (bindings_grow h (Do sid (ListNames family start count)) f)
names_grow h (Do sid (StatName target)) f = ap (map (λ (b : Binding). b.name)) (bindings_grow h (Do sid (StatName target)) f)
names_grow h (Do sid (Chmod mode target)) f = ap (map (λ (b : Binding). b.name)) (bindings_grow h (Do sid (Chmod mode target)) f)
names_grow h (Do sid (Chown owner group target)) f = ap (map (λ (b : Binding). b.name)) (bindings_grow h (Do sid (Chown owner group target)) f)
names_grow h (Do sid (SetLimit uid bytes)) f = ap (map (λ (b : Binding). b.name)) (bindings_grow h (Do sid (SetLimit uid bytes)) f)
names_grow h (Do sid Interrupt) f = ap (map (λ (b : Binding). b.name)) (bindings_grow h (Do sid Interrupt) f)
names_grow h (Do sid (Audit start count)) f = ap (map (λ (b : Binding). b.name)) (bindings_grow h (Do sid (Audit start count)) f)
names_grow h (Do sid (MqTimedSend desc priority until bytes)) f = ap (map (λ (b : Binding). b.name)) (bindings_grow h (Do sid (MqTimedSend desc priority until bytes)) f)
names_grow h (Do sid (MqTimedReceive desc room until)) f = ap (map (λ (b : Binding). b.name)) (bindings_grow h (Do sid (MqTimedReceive desc room until)) f)
names_grow h (Do sid (SemTimedWait desc until)) f = ap (map (λ (b : Binding). b.name)) (bindings_grow h (Do sid (SemTimedWait desc until)) f)
names_grow h (Hangup sid) f = ap (map (λ (b : Binding). b.name)) (bindings_grow h (Hangup sid) f)
names_grow h (Tick moment) f = ap (map (λ (b : Binding). b.name)) (bindings_grow h (Tick moment) f)

-- which objects are alive
pub alive_grows : (h : History) (e : Event) (o : ℕ) → alive (record { event = e; rule = None } ∷ h) o ≡ alive_after o (named_after o e (is_bound h) (creations h) (named h o)) (λ d. held_after d e (opens h) (bound h) (creations h) (held h d)) (opens_after e (opens h))
unfolding alive
alive_grows h e o =
    ap (λ w. is_some w || any_below (λ d. gives_object o (held (record { event = e; rule = None } ∷ h) d)) (opens (record { event = e; rule = None } ∷ h))) (named_grows h e o)
    ∙ ap (λ b. is_some (named_after o e (is_bound h) (creations h) (named h o)) || b)
    (ap (any_below (λ d. gives_object o (held (record { event = e; rule = None } ∷ h) d))) (opens_grow h e)
    ∙ any_below_same _ _ (opens_after e (opens h)) (λ d lt. ap (gives_object o) (held_grows h e d)))

-- a give leaves every object as alive as it was: what is given gives the same object
given_gives : (sid taker : Sid) (desc : Desc) (d o : ℕ) (w : Option Held) → gives_object o (option_map (moved sid desc taker d) w) ≡ gives_object o w
given_gives sid taker desc d o None = refl
given_gives sid taker desc d o (Some x) = at (eqb sid.0 x.session.0 && eqb desc.0 d) where
  at : (b : Bool) → eqb (cond b (record x { session = taker }) x).object o ≡ eqb x.object o
  at true = refl
  at false = refl

pub alive_given : (h : History) (sid taker : Sid) (desc : Desc) (o : ℕ) → alive (record { event = Do sid (MqGive desc taker); rule = None } ∷ h) o ≡ alive h o
unfolding alive opens
alive_given h sid taker desc o =
    ap (λ w. is_some w || any_below (λ d. gives_object o (held (record { event = Do sid (MqGive desc taker); rule = None } ∷ h) d)) (opens h)) (named_grows h (Do sid (MqGive desc taker)) o ∙ kept_all (named h o))
    ∙ ap (λ b. is_some (named h o) || b) (any_below_same _ _ (opens h) (λ d lt. ap (gives_object o) (held_given h sid taker desc d) ∙ given_gives sid taker desc d o (held h d)))
