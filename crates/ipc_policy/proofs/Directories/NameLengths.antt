-- In a legal history a bound name has at most the bytes that its family allows, and so has each name that is listed.
use Rattle.std.proofs.Common.{◌≡◌, ℕ, ◌≤◌, Bool, true, false, not, ◌&&◌, List, [], ◌∷◌, ◌++◌, length, map, find, cond, Option, Some, None, is_some, refl, sym, ap, subst, ◌∙◌, arith}
use Rattle.std.specs.Prelude.{filter, unwrap_or}
use Rattle.std.specs.Option.{option_map}
use Rattle.std.proofs.lemmas.Bool.{ltb-false}
use Rattle.std.proofs.lemmas.Slice.Eq.{bytes_eq-Decides}
use Rattle.ipc_terms.specs.Lists.{Each}
use Rattle.ipc_terms.specs.Names.{same_family, same_name, name_limit}
use Rattle.ipc_terms.specs.Lines.{lines, line_of, event_name}
use Rattle.ipc_terms.specs.declared.rule.Rule.{Rule}
use Rattle.ipc_terms.specs.declared.rule.Rule.TheVariants.{NameLong}
use Rattle.ipc_terms.specs.declared.binding.Binding.{Binding}
use Rattle.ipc_terms.specs.declared.line.Line.{Line}
use Rattle.ipc_terms.specs.declared.ids.Family.{Family}
use Rattle.ipc_terms.specs.declared.ids.Family.TheVariants.{Mq, Sem}
use Rattle.ipc_terms.specs.declared.call.Call.TheVariants.{MqOpen, SemOpen}
use Rattle.ipc_terms.specs.declared.record.Event.{Event}
use Rattle.ipc_terms.specs.declared.record.Event.TheVariants.{Hello, Do, Hangup, Tick}
use Rattle.ipc_policy.specs.declared.config.Config.{Config}
use Rattle.ipc_policy.specs.Decides.History.{History}
use Rattle.ipc_policy.specs.Decides.Names.{Opening, Naming, opening, unlinking, queue_opening, semaphore_opening, is_bound, creations}
use Rattle.ipc_policy.specs.Decides.Life.{bindings, names}
use Rattle.ipc_policy.specs.Decides.Rules.{forbids, name_long}
use Rattle.ipc_policy.specs.Follows.Grow.{is_new, names_after}
use Rattle.ipc_policy.specs.Decides.Verdict.{verdict, Legal}
use Rattle.ipc_policy.specs.Follows.Sizes.{EachNameIsShort}
use Rattle.ipc_policy.proofs.Lists.EachItem.{each_map, each_append, each_filter}
use Rattle.ipc_policy.proofs.Histories.Unforbidden.{unforbidden}
use Rattle.ipc_policy.proofs.Histories.Known.{same_is, bound_iff}
use Rattle.ipc_policy.proofs.Directories.Listing.{listed_is_bound}
use Rattle.ipc_policy.proofs.Lists.Pages.{take_le}
use Rattle.ipc_policy.proofs.Histories.Grown.{grows}
use Rattle.ipc_policy.proofs.Histories.Refused.{same_values}

-- the name has at most the bytes that the family allows
abbrev IsShort : Family → List ℕ → Type 0
IsShort f name = length name ≤ name_limit f

-- a longer name is refused
opened_short : (c : Config) (h : History) (e : Event) (asked : Opening) → None ≡ verdict c h e → opening e ≡ Some asked → IsShort asked.family asked.name
unfolding forbids name_long
opened_short c h (Do sid (MqOpen q)) asked legal k =
    let same : queue_opening sid q ≡ asked = cc in
    subst (λ (x : Opening). IsShort x.family x.name) same (ltb-false _ _ (unforbidden c h (Do sid (MqOpen q)) (sym legal) NameLong))
opened_short c h (Do sid (SemOpen q)) asked legal k =
    let same : semaphore_opening sid q ≡ asked = cc in
    subst (λ (x : Opening). IsShort x.family x.name) same (ltb-false _ _ (unforbidden c h (Do sid (SemOpen q)) (sym legal) NameLong))
opened_short c h (Do sid call) asked legal k = absurd cc
opened_short c h (Hello found) asked legal k = absurd cc
opened_short c h (Hangup sid) asked legal k = absurd cc
opened_short c h (Tick moment) asked legal k = absurd cc

names_left : (f : Family) (w : Option Naming) (was : List (List ℕ)) → Each (IsShort f) was → (o : Option Opening) → ((asked : Opening) → o ≡ Some asked → IsShort asked.family asked.name) → (is_bound' : Family → List ℕ → Bool) (e : Event) → opening e ≡ o → unlinking e ≡ w → Each (IsShort f) (names_after f e is_bound' was)
names_left f w was known None short is_bound' e k j = rw k (rw j (at w)) where
  at : (v : Option Naming) → Each (IsShort f) (elim v as (λ x. List (List ℕ)) [ None ↦ was | Some what ↦ filter (λ name. not (same_family what.family f && same_name name what.name)) was ])
  at None = known
  at (Some what) = each_filter (IsShort f) (IsShort f) (λ name. not (same_family what.family f && same_name name what.name)) was (λ x e' p. p) known
names_left f w was known (Some asked) short is_bound' e k j = rw k (at (is_new asked is_bound') (same_family asked.family f) refl) where
  at : (b d : Bool) → same_family asked.family f ≡ d → Each (IsShort f) (cond (b && d) (was ++ asked.name ∷ []) was)
  at true true q = each_append (IsShort f) was (asked.name ∷ []) known (subst (λ (g : Family). IsShort g asked.name) (same_is asked.family f q) (short asked refl), tt)
  at true false q = known
  at false d q = known

names_more : (c : Config) (h : History) (f : Family) → Each (IsShort f) (names h f) → (e : Event) (r : Option Rule) → r ≡ verdict c h e → Each (IsShort f) (names (record { event = e; rule = r } ∷ h) f)
names_more c h f known e (Some rule) legal = subst (λ (xs : List (List ℕ)). Each (IsShort f) xs) (sym ((same_values c h e rule).names f)) known
names_more c h f known e None legal = subst (λ (xs : List (List ℕ)). Each (IsShort f) xs) (sym ((grows c h e).names_of f)) (names_left f (unlinking e) (names h f) known (opening e) (λ asked k. opened_short c h e asked legal k) (is_bound h) e refl refl)

each_short : (c : Config) (h : History) (f : Family) → Legal c h → Each (IsShort f) (names h f)
unfolding names bindings creations
each_short c [] f legal = tt
each_short c (r ∷ h) f legal = names_more c h f (each_short c h f legal.1) r.event r.rule legal.0

-- of either family at most 256
limit_le : (f : Family) (n : ℕ) → n ≤ name_limit f → n ≤ 256
limit_le Mq n le = le
limit_le Sem n le = omega arith

pub names_short : (c : Config) (h : History) (f : Family) → Legal c h → Each (λ name. length name ≤ 256) (names h f)
names_short c h f legal = each_map (IsShort f) (λ name. length name ≤ 256) (names h f) (λ name le. limit_le f (length name) le) (each_short c h f legal)

-- the names that are bound are listed
found_has : (P : List ℕ → Type 0) (xs : List Binding) (name : List ℕ) → Each P (map (λ b. b.name) xs) → is_some (option_map (λ (b : Binding). b.object) (find (λ (b : Binding). same_name b.name name) xs)) ≡ true → P name
found_has P [] name each e = absurd cc
found_has P (x ∷ xs) name each e = at (same_name x.name name) refl (λ k. found_has P xs name each.1 k) e where
  at : (b : Bool) → same_name x.name name ≡ b → (is_some (option_map (λ (y : Binding). y.object) (find (λ (y : Binding). same_name y.name name) xs)) ≡ true → P name) → is_some (option_map (λ (y : Binding). y.object) (cond b (Some x) (find (λ (y : Binding). same_name y.name name) xs))) ≡ true → P name
  at true k rest j = subst P ((bytes_eq-Decides x.name name).0 k) each.0
  at false k rest j = rest j

pub bound_short : EachNameIsShort
unfolding names
bound_short c h f name legal e = found_has (IsShort f) (bindings h f) name (each_short c h f legal) (ap is_some (listed_is_bound h f name) ∙ sym (bound_iff h f name) ∙ e)

-- a line of the audit has the first 256 bytes of a name
pub lines_short : (h : History) → Each (λ (line : Line). length line.name ≤ 256) (lines h)
lines_short [] = tt
lines_short (r ∷ h) = each_append (λ (line : Line). length line.name ≤ 256) (lines h) (line_of (length h) r ∷ []) (lines_short h) (take_le 256 (unwrap_or (event_name r.event) []), tt)
