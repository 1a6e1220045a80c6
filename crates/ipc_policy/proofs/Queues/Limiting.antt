-- In a legal history a user's queues take no more bytes than the user's limit, where none was set, and than the greatest
-- limit in any case.
use Rattle.std.proofs.Common.{◌≡◌, ℕ, zero, suc, ◌+◌, ◌<◌, ◌≤◌, Bool, true, false, ◌&&◌, ◌||◌, eqb, cond, List, [], ◌∷◌, find, Option, Some, None, is_some, refl, sym, ap, subst, ◌∙◌, arith, add-one}
use Rattle.std.specs.Prelude.{nat_lt, unwrap_or, option_and_then}
use Rattle.std.specs.Option.{option_or, option_map, option_to_list}
use Rattle.std.proofs.lemmas.Bool.{eqb-true, eq-eqb, ne_eqb, or_left, or_right}
use Rattle.std.proofs.lemmas.Bool.Decides.{nat_tests}
use Rattle.std.proofs.lemmas.List.Folds.{find-append}
use Rattle.ipc_terms.specs.Flags.{has_create}
use Rattle.ipc_terms.specs.Names.{same_family, same_name}
use Rattle.ipc_terms.specs.Objects.{of_queue}
use Rattle.ipc_terms.specs.declared.binding.Binding.{Binding}
use Rattle.ipc_terms.specs.declared.ids.Uid.{Uid}
use Rattle.ipc_terms.specs.declared.ids.Family.{Family}
use Rattle.ipc_terms.specs.declared.rule.Rule.{Rule}
use Rattle.ipc_terms.specs.declared.rule.Rule.TheVariants.{ValueRange, ByteLimit}
use Rattle.ipc_terms.specs.declared.call.Attributes.{Attributes}
use Rattle.ipc_terms.specs.declared.call.Call.TheVariants.{MqOpen, MqGive, SemOpen, SetLimit}
use Rattle.ipc_terms.specs.declared.object.Object.{Object}
use Rattle.ipc_terms.specs.declared.object.Kind.{Kind}
use Rattle.ipc_terms.specs.declared.record.Event.{Event}
use Rattle.ipc_terms.specs.declared.record.Event.TheVariants.{Hello, Do, Hangup, Tick}
use Rattle.ipc_access.specs.declared.class.Cred.{Cred}
use Rattle.ipc_access.specs.declared.users.User.{User}
use Rattle.ipc_access.specs.Users.{cred_of}
use Rattle.ipc_policy.specs.declared.config.Config.{Config}
use Rattle.ipc_policy.specs.declared.config.Held.{Held}
use Rattle.ipc_terms.specs.declared.limits.TheConstants.{LIMIT_MAX}
use Rattle.ipc_policy.specs.Decides.History.{History, newest, unless, gathered_below, any_below, sum_below, is_some_and}
use Rattle.ipc_policy.specs.Decides.Sessions.{user, cred}
use Rattle.ipc_policy.specs.Decides.Names.{Opening, queue_opening, semaphore_opening, unlinks, is_bound, creating, creations, bound}
use Rattle.ipc_policy.specs.Decides.Objects.{kind_of, made_by, creation_of, makes, object}
use Rattle.ipc_policy.specs.Decides.Descriptions.{opens, held, held_as, opened, hands_over, ends_held}
use Rattle.ipc_policy.specs.Decides.Life.{named, binding_of, bindings, alive, gives_object}
use Rattle.ipc_policy.specs.Decides.Charges.{bytes_of, charge, charge_of, charged, sets_limit, limit}
use Rattle.ipc_policy.specs.Decides.Rules.{forbids, value_range, byte_limit, above_limit, queue_made}
use Rattle.ipc_policy.specs.Decides.Verdict.{verdict, Legal}
use Rattle.ipc_policy.specs.Follows.Grow.{is_new, alive_then, object_then, creations_after}
use Rattle.ipc_policy.specs.Follows.Laws.{WithinLimit}
use Rattle.ipc_policy.proofs.Holdings.Holding.{kept_some, held_below, nothing_handed}
use Rattle.ipc_policy.proofs.Lists.Gathering.{any_below_more, any_below_at}
use Rattle.ipc_policy.proofs.Directories.Listing.{listed_is_bound}
use Rattle.ipc_policy.proofs.Histories.Known.{object_below}
use Rattle.ipc_policy.proofs.Histories.Unforbidden.{unforbidden}
use Rattle.ipc_policy.proofs.Queues.Charging.{charged_grows}

-- a name that is bound to an object is the object's
named_last : (q : Binding → Bool) (f : Family) (n o : ℕ) (w : Option Opening) → option_map (λ (b : Binding). b.object) (find q (option_to_list (binding_of f n w))) ≡ Some o → (n ≡ o) × (is_some w ≡ true)
named_last q f n o None k = absurd cc
named_last q f n o (Some asked) k = (at (same_family asked.family f) k, refl) where
  passed : (t : Bool) → option_map (λ (b : Binding). b.object) (cond t (Some (record { name = asked.name; object = n })) None) ≡ Some o → n ≡ o
  passed true j = cc
  passed false j = absurd cc

  at : (b : Bool) → option_map (λ (b : Binding). b.object) (find q (option_to_list (cond b (Some (record { name = asked.name; object = n })) None))) ≡ Some o → n ≡ o
  at true j = passed (q (record { name = asked.name; object = n })) j
  at false j = absurd cc

named_found : (h : History) (q : Binding → Bool) (f : Family) (n o : ℕ) → option_map (λ (b : Binding). b.object) (find q (gathered_below (λ i. binding_of f i (named h i)) n)) ≡ Some o → is_some (named h o) ≡ true
named_found h q f zero o k = absurd cc
named_found h q f (suc n) o k =
    let all = find-append q (gathered_below (λ i. binding_of f i (named h i)) n) (option_to_list (binding_of f n (named h n))) in
    at (find q (gathered_below (λ i. binding_of f i (named h i)) n)) (named_found h q f n o) (ap (option_map (λ (b : Binding). b.object)) (sym all) ∙ k) where
      at : (w : Option Binding) → (option_map (λ (b : Binding). b.object) w ≡ Some o → is_some (named h o) ≡ true) → option_map (λ (b : Binding). b.object) (option_or w (find q (option_to_list (binding_of f n (named h n))))) ≡ Some o → is_some (named h o) ≡ true
      at (Some b) earlier j = earlier j
      at None earlier j = let last = named_last q f n o (named h n) j in subst (λ (i : ℕ). is_some (named h i) ≡ true) last.0 last.1

bound_named : (h : History) (f : Family) (name : List ℕ) (o : ℕ) → bound h f name ≡ Some o → is_some (named h o) ≡ true
unfolding bindings
bound_named h f name o k = named_found h (λ b. same_name b.name name) f (creations h) o (listed_is_bound h f name ∙ k)

-- what is alive after an event, and was there before it, was alive
named_alive : (h : History) (o : ℕ) → is_some (named h o) ≡ true → alive h o ≡ true
unfolding alive
named_alive h o k = or_left (is_some (named h o)) (any_below (λ d. gives_object o (held h d)) (opens h)) k

given_alive : (h : History) (o : ℕ) → any_below (λ d. gives_object o (held h d)) (opens h) ≡ true → alive h o ≡ true
unfolding alive
given_alive h o k = or_right (is_some (named h o)) (any_below (λ d. gives_object o (held h d)) (opens h)) k

either : {A : Type 0} (a b : Bool) → (a ≡ true → A) → (b ≡ true → A) → (a || b) ≡ true → A
either true b one two k = one refl
either false b one two k = two k

gives_kept : (o d : ℕ) (e : Event) (p : Held → Bool) (w : Option Held) → gives_object o (option_or (hands_over d e w) (unless p w)) ≡ true → gives_object o w ≡ true
gives_kept o d e p None k = rw (nothing_handed d e) at k
gives_kept o d (Do sid (MqGive desc taker)) p (Some x) k = at (eqb sid.0 x.session.0 && eqb desc.0 d) (p x) k where
  at : (b q : Bool) → gives_object o (option_or (cond b (Some (record x { session = taker })) None) (cond q None (Some x))) ≡ true → eqb x.object o ≡ true
  at true q j = j
  at false true j = absurd cc
  at false false j = j
gives_kept o d e p (Some x) k = at (p x) k where
  at : (b : Bool) → gives_object o (cond b None (Some x)) ≡ true → eqb x.object o ≡ true
  at true j = absurd cc
  at false j = j

-- what each description gives after an event that is no open
abbrev left_held : History → Event → ℕ → Option Held
left_held h e d = option_or (hands_over d e (held h d)) (unless (λ x. ends_held d x e) (held h d))

quiet_alive : (h : History) (e : Event) (o : ℕ) → (is_some (unless (λ asked. unlinks asked.family asked.name e) (named h o)) || any_below (λ d. gives_object o (left_held h e d)) (opens h)) ≡ true → alive h o ≡ true
quiet_alive h e o k = either (is_some (unless (λ asked. unlinks asked.family asked.name e) (named h o))) (any_below (λ d. gives_object o (left_held h e d)) (opens h))
    (λ n. named_alive h o (kept_some (λ asked. unlinks asked.family asked.name e) (named h o) n))
    (λ g. given_alive h o (any_below_more (λ d. gives_object o (left_held h e d)) (λ d. gives_object o (held h d)) (opens h) (λ d j. gives_kept o d e (λ x. ends_held d x e) (held h d) j) g))
    k

-- a number below a limit that is of a kind
record IsBelow (p : ℕ → Bool) (n : ℕ) : Type 0 where
  number : ℕ
  below : number < n
  is : p number ≡ true

one_below : (p : ℕ → Bool) (n : ℕ) → any_below p n ≡ true → IsBelow p n
one_below p zero k = absurd cc
one_below p (suc n) k = at (p n) refl (one_below p n) k where
  at : (b : Bool) → p n ≡ b → (any_below p n ≡ true → IsBelow p n) → (b || any_below p n) ≡ true → IsBelow p (suc n)
  at true e rest j = record { number = n; below = omega arith; is = e }
  at false e rest j = let x = rest j in let lt = x.below in record { number = x.number; below = omega arith; is = x.is }

-- an open gives no object that was there but the one to which its name is bound
opened_bound : (n o : ℕ) (create : Bool) (w : Option ℕ) → o < n → option_or w (cond create (Some n) None) ≡ Some o → w ≡ Some o
opened_bound n o create (Some i) lt k = k
opened_bound n o true None lt k = absurd (let same : n ≡ o = cc in omega arith)
opened_bound n o false None lt k = absurd cc

opened_named : (h : History) (asked : Opening) (o : ℕ) → o < creations h → opened h asked ≡ Some o → is_some (named h o) ≡ true
opened_named h asked o lt k = bound_named h asked.family asked.name o (opened_bound (creations h) o (has_create asked.flags) (bound h asked.family asked.name) lt k)

opened_alive : (h : History) (asked : Opening) (o d : ℕ) → o < creations h → d < opens h + 1 → gives_object o (option_or (cond (eqb (opens h) d) (option_map (held_as asked) (opened h asked)) None) (held h d)) ≡ true → alive h o ≡ true
opened_alive h asked o d lt below k = at (eqb (opens h) d) refl (opened h asked) refl k where
  earlier : (opens h ≡ d → ⊥) → gives_object o (held h d) ≡ true → alive h o ≡ true
  earlier other j = given_alive h o (any_below_at (λ i. gives_object o (held h i)) (opens h) d (omega arith) j)

  held_before : (w : Option Held) → held h d ≡ w → gives_object o w ≡ true → d < opens h
  held_before None e j = absurd cc
  held_before (Some x) e j = held_below h d (ap is_some e)

  at : (b : Bool) → eqb (opens h) d ≡ b → (w : Option ℕ) → opened h asked ≡ w → gives_object o (option_or (cond b (option_map (held_as asked) w) None) (held h d)) ≡ true → alive h o ≡ true
  at true e (Some i) is j = let same : i ≡ o = eqb-true i o j in named_alive h o (opened_named h asked o lt (is ∙ ap Some same))
  at true e None is j = let before = held_before (held h d) refl j in given_alive h o (any_below_at (λ i. gives_object o (held h i)) (opens h) d before j)
  at false e w is j = let before = held_before (held h d) refl j in given_alive h o (any_below_at (λ i. gives_object o (held h i)) (opens h) d before j)

new_other : (n o : ℕ) (b : Bool) (x y : Option Opening) → o < n → cond (b && eqb n o) x y ≡ y
new_other n o true x y lt = ap (λ t. cond t x y) (ne_eqb n o (λ (q : n ≡ o). absurd (omega arith)))
new_other n o false x y lt = refl

open_alive : (h : History) (asked : Opening) (o : ℕ) → o < creations h → (is_some (cond (is_new asked (is_bound h) && eqb (creations h) o) (Some asked) (named h o)) || any_below (λ d. gives_object o (option_or (cond (eqb (opens h) d) (option_map (held_as asked) (opened h asked)) None) (held h d))) (opens h + 1)) ≡ true → alive h o ≡ true
open_alive h asked o lt k = either (is_some (cond (is_new asked (is_bound h) && eqb (creations h) o) (Some asked) (named h o))) (any_below (λ d. gives_object o (option_or (cond (eqb (opens h) d) (option_map (held_as asked) (opened h asked)) None) (held h d))) (opens h + 1))
    (λ n. named_alive h o (sym (ap is_some (new_other (creations h) o (is_new asked (is_bound h)) (Some asked) (named h o) lt)) ∙ n))
    (λ g. let x = one_below _ (opens h + 1) g in opened_alive h asked o x.number lt x.below x.is)
    k

pub alive_before : (h : History) (e : Event) (o : ℕ) → o < creations h → alive_then e h o ≡ true → alive h o ≡ true
alive_before h (Hello found) o lt k = quiet_alive h (Hello found) o k
alive_before h (Do sid (MqOpen asked)) o lt k = open_alive h (queue_opening sid asked) o lt k
alive_before h (Do sid (SemOpen asked)) o lt k = open_alive h (semaphore_opening sid asked) o lt k
alive_before h (Do sid call) o lt k = quiet_alive h (Do sid call) o k
alive_before h (Hangup sid) o lt k = quiet_alive h (Hangup sid) o k
alive_before h (Tick moment) o lt k = quiet_alive h (Tick moment) o k

-- and it is what it was
made_other : (n o : ℕ) (b : Bool) (x y : Option Object) → o < n → cond (b && eqb n o) x y ≡ y
made_other n o true x y lt = ap (λ t. cond t x y) (ne_eqb n o (λ (q : n ≡ o). absurd (omega arith)))
made_other n o false x y lt = refl

pub object_before : (c : Config) (h : History) (e : Event) (o : ℕ) → o < creations h → object_then c e h o ≡ object c h o
object_before c h (Hello found) o lt = refl
object_before c h (Do sid (MqOpen asked)) o lt = made_other (creations h) o (is_new (queue_opening sid asked) (is_bound h)) _ (object c h o) lt
object_before c h (Do sid (SemOpen asked)) o lt = made_other (creations h) o (is_new (semaphore_opening sid asked) (is_bound h)) _ (object c h o) lt
object_before c h (Do sid call) o lt = refl
object_before c h (Hangup sid) o lt = refl
object_before c h (Tick moment) o lt = refl

-- so it takes no more than before
charge_less : (u : Uid) (now was : Bool) (made : Option Object) → (now ≡ true → was ≡ true) → charge u now made ≤ charge u was made
charge_less u true true made more = omega arith
charge_less u true false made more = absurd (let wrong = more refl in cc)
charge_less u false was made more = omega arith

charge_before : (c : Config) (h : History) (e : Event) (u : Uid) (o : ℕ) → o < creations h → charge u (alive_then e h o) (object_then c e h o) ≤ charge_of c h u o
unfolding charge_of
charge_before c h e u o lt = rw (object_before c h e o lt) (charge_less u (alive_then e h o) (alive h o) (object c h o) (alive_before h e o lt))

sum_below_le : (f g : ℕ → ℕ) (n : ℕ) → ((i : ℕ) → i < n → f i ≤ g i) → sum_below f n ≤ sum_below g n
sum_below_le f g zero less = omega arith
sum_below_le f g (suc n) less =
    let below = sum_below_le f g n (λ i lt. less i (omega arith)) in
    let last = less n (omega arith) in
    omega arith

charged_before : (c : Config) (h : History) (e : Event) (u : Uid) → sum_below (λ o. charge u (alive_then e h o) (object_then c e h o)) (creations h) ≤ charged c h u
unfolding charged
charged_before c h e u = sum_below_le _ _ (creations h) (λ o lt. charge_before c h e u o lt)

-- a new queue that is not above its creator's limit
no_charge : (u : Uid) (a : Bool) → charge u a None ≡ 0
no_charge u true = refl
no_charge u false = refl

same_uid : (u v : Uid) → u.0 ≡ v.0 → u ≡ v
same_uid u v e = ap (λ (n : ℕ). record { 0 = n }) e

-- who is found for a user ID has this ID, so there is a limit
cred_uid : (users : List User) (uid : Uid) (who : Cred) → cred_of users uid ≡ Some who → who.uid ≡ uid
cred_uid [] uid who k = absurd cc
cred_uid (x ∷ xs) uid who k = at (eqb x.cred.uid.0 uid.0) refl (cred_uid xs uid who) k where
  at : (b : Bool) → eqb x.cred.uid.0 uid.0 ≡ b → (cred_of xs uid ≡ Some who → who.uid ≡ uid) → option_map (λ (y : User). y.cred) (cond b (Some x) (find (λ (y : User). eqb y.cred.uid.0 uid.0) xs)) ≡ Some who → who.uid ≡ uid
  at true e rest j =
      let same : x.cred ≡ who = cc in
      ap (λ (w : Cred). w.uid) (sym same) ∙ same_uid x.cred.uid uid (eqb-true _ _ e)
  at false e rest j = rest j

limit_there : (c : Config) (h : History) (found : Option Uid) (who : Cred) → option_and_then (cred_of c.users) found ≡ Some who → is_some (limit c h who.uid) ≡ true
unfolding limit
limit_there c h None who k = absurd cc
limit_there c h (Some uid) who k = rw (cred_uid c.users uid who k, k) refl

pub caller_limited : (c : Config) (h : History) (s : ℕ) (who : Cred) → cred c h s ≡ Some who → is_some (limit c h who.uid) ≡ true
unfolding cred
caller_limited c h s who k = limit_there c h (user h s) who k

-- whether there is a limit does not depend on the history
pub limited_then : (c : Config) (h k : History) (u : Uid) → is_some (limit c h u) ≡ is_some (limit c k u)
unfolding limit
limited_then c h k u = at (cred_of c.users u) where
  at : (found : Option Cred) → is_some (option_map (λ (who : Cred). unwrap_or (newest (sets_limit u) h) who.limit) found) ≡ is_some (option_map (λ (who : Cred). unwrap_or (newest (sets_limit u) k) who.limit) found)
  at None = refl
  at (Some who) = refl

-- so there is one for the creator of each object
maker_limited : (c : Config) (h k : History) (asked : Opening) (found : Option Cred) (x : Object) → cred c h asked.session.0 ≡ found → option_map (made_by c asked) found ≡ Some x → is_some (limit c k x.creator) ≡ true
maker_limited c h k asked None x e is = absurd cc
maker_limited c h k asked (Some who) x e is =
    let same : made_by c asked who ≡ x = cc in
    subst (λ (y : Object). is_some (limit c k y.creator) ≡ true) same (limited_then c k h who.uid ∙ caller_limited c h asked.session.0 who e)

opener_limited : (c : Config) (h k : History) (w : Option Opening) (x : Object) → option_and_then (λ asked. option_map (made_by c asked) (cred c h asked.session.0)) w ≡ Some x → is_some (limit c k x.creator) ≡ true
opener_limited c h k None x is = absurd cc
opener_limited c h k (Some asked) x is = maker_limited c h k asked (cred c h asked.session.0) x refl is

creator_more : (c : Config) (h k : History) (o : ℕ) (e : Event) (r : Option Rule) (x : Object) → ((y : Object) → newest (makes c o) h ≡ Some y → is_some (limit c k y.creator) ≡ true) → newest (makes c o) (record { event = e; rule = r } ∷ h) ≡ Some x → is_some (limit c k x.creator) ≡ true
creator_more c h k o e (Some rule) x earlier is = earlier x is
creator_more c h k o e None x earlier is = at (makes c o e h) refl is where
  at : (w : Option Object) → makes c o e h ≡ w → option_or w (newest (makes c o) h) ≡ Some x → is_some (limit c k x.creator) ≡ true
  at None m j = earlier x j
  at (Some y) m j = opener_limited c h k (creation_of o e h) x (m ∙ j)

pub creator_limited : (c : Config) (k h : History) (o : ℕ) (x : Object) → object c h o ≡ Some x → is_some (limit c k x.creator) ≡ true
unfolding object
creator_limited c k [] o x is = absurd cc
creator_limited c k (r ∷ h) o x is = creator_more c h k o r.event r.rule x (λ y. creator_limited c k h o y) is

-- the limit of user u is not above a bound
abbrev Under : Config → History → Uid → ℕ → Type 0
Under c h u bound = (most : ℕ) → limit c h u ≡ Some most → most ≤ bound

bytes_within : (c : Config) (h : History) (u : Uid) (bound : ℕ) (who : Cred) → who.uid ≡ u → is_some (limit c h who.uid) ≡ true → Under c h u bound → charged c h u ≤ bound → (w : Option Attributes) → is_some_and (λ given. above_limit c h given who) w ≡ false → charged c h u + unwrap_or (option_map bytes_of w) 0 ≤ bound
bytes_within c h u bound who same there l k None ok = omega arith
bytes_within c h u bound who same there l k (Some given) ok =
    at (limit c h u) refl (subst (λ (v : Uid). is_some (limit c h v) ≡ true) same there) (subst (λ (v : Uid). is_some_and (λ (m : ℕ). nat_lt m (charged c h v + bytes_of given)) (limit c h v) ≡ false) same ok) where
      at : (w : Option ℕ) → limit c h u ≡ w → is_some w ≡ true → is_some_and (λ (m : ℕ). nat_lt m (charged c h u + bytes_of given)) w ≡ false → charged c h u + bytes_of given ≤ bound
      at None e some fits = absurd cc
      at (Some most) e some fits =
          let within : charged c h u + bytes_of given ≤ most = grind (arith, nat_tests) in
          let under : most ≤ bound = l most e in
          omega arith

new_within : (c : Config) (h : History) (u : Uid) (bound : ℕ) (kind : Kind) (a : Bool) (found : Option Cred) → ((who : Cred) → found ≡ Some who → is_some (limit c h who.uid) ≡ true) → Under c h u bound → charged c h u ≤ bound → is_some_and (λ given. is_some_and (above_limit c h given) found) (of_queue kind) ≡ false → charged c h u + charge u a (option_map (λ who. record { creator = who.uid; kind = kind }) found) ≤ bound
new_within c h u bound kind a None there l k ok = rw (no_charge u a) (omega arith)
new_within c h u bound kind false (Some who) there l k ok = omega arith
new_within c h u bound kind true (Some who) there l k ok = at (eqb who.uid.0 u.0) refl where
  at : (b : Bool) → eqb who.uid.0 u.0 ≡ b → charged c h u + cond b (unwrap_or (option_map bytes_of (of_queue kind)) 0) 0 ≤ bound
  at true e = bytes_within c h u bound who (same_uid who.uid u (eqb-true _ _ e)) (there who refl) l k (of_queue kind) ok
  at false e = omega arith

-- what an open takes of a user's bytes is within the limit
not_made : (c : Config) (h : History) (o : ℕ) → creations h ≤ o → object c h o ≡ None
not_made c h o le = at (object c h o) refl where
  at : (w : Option Object) → object c h o ≡ w → w ≡ None
  at None e = refl
  at (Some x) e = absurd (let lt = object_below c h o (ap is_some e) in omega arith)

or_none : {A : Type 0} (w : Option A) → option_or w None ≡ w
or_none None = refl
or_none (Some x) = refl

made_new : (n : ℕ) (x y : Option Object) (b : Bool) → b ≡ true → y ≡ None → cond (b && eqb n n) (option_or x y) y ≡ x
made_new n x y b new none = rw (new, none, eq-eqb n n refl) (or_none x)

abbrev Within : Config → History → Event → Uid → ℕ → Type 0
Within c h e u bound = sum_below (λ o. charge u (alive_then e h o) (object_then c e h o)) (creations_after e (is_bound h) (creations h)) ≤ bound

-- the event is this open
abbrev IsOpen : Config → History → Event → Opening → Type 0
IsOpen c h e asked = (creations_after e (is_bound h) (creations h) ≡ cond (is_new asked (is_bound h)) (creations h + 1) (creations h))
    × (object_then c e h (creations h) ≡ cond (is_new asked (is_bound h) && eqb (creations h) (creations h)) (option_or (option_map (made_by c asked) (cred c h asked.session.0)) (object c h (creations h))) (object c h (creations h)))

open_within : (c : Config) (h : History) (e : Event) (asked : Opening) (u : Uid) (bound : ℕ) → IsOpen c h e asked → Under c h u bound → charged c h u ≤ bound → (b : Bool) → is_new asked (is_bound h) ≡ b → (b && is_some_and (λ given. is_some_and (above_limit c h given) (cred c h asked.session.0)) (queue_made c asked)) ≡ false → Within c h e u bound
open_within c h e asked u bound is l k true new ok =
    let count : creations_after e (is_bound h) (creations h) ≡ creations h + 1 = is.0 ∙ rw new refl in
    let made : object_then c e h (creations h) ≡ option_map (made_by c asked) (cred c h asked.session.0) = is.1 ∙ made_new (creations h) (option_map (made_by c asked) (cred c h asked.session.0)) (object c h (creations h)) (is_new asked (is_bound h)) new (not_made c h (creations h) (omega arith)) in
    let before = charged_before c h e u in
    let last = new_within c h u bound (kind_of c asked.kind) (alive_then e h (creations h)) (cred c h asked.session.0) (caller_limited c h asked.session.0) l k ok in
    let all : sum_below (λ o. charge u (alive_then e h o) (object_then c e h o)) (creations h) + charge u (alive_then e h (creations h)) (object_then c e h (creations h)) ≤ bound = rw made (omega arith) in
    rw (count, add-one) all
open_within c h e asked u bound is l k false new ok =
    let count : creations_after e (is_bound h) (creations h) ≡ creations h = is.0 ∙ rw new refl in
    let before = charged_before c h e u in
    rw count (omega arith)

quiet_within : (c : Config) (h : History) (e : Event) (u : Uid) (bound : ℕ) → charged c h u ≤ bound → creations_after e (is_bound h) (creations h) ≡ creations h → Within c h e u bound
quiet_within c h e u bound k count = let before = charged_before c h e u in rw count (omega arith)

event_within : (c : Config) (h : History) (e : Event) (u : Uid) (bound : ℕ) → verdict c h e ≡ None → Under c h u bound → charged c h u ≤ bound → Within c h e u bound
unfolding forbids byte_limit creating
event_within c h (Hello found) u bound accepted l k = quiet_within c h (Hello found) u bound k refl
event_within c h (Do sid (MqOpen asked)) u bound accepted l k = open_within c h (Do sid (MqOpen asked)) (queue_opening sid asked) u bound (refl, refl) l k (is_new (queue_opening sid asked) (is_bound h)) refl (unforbidden c h (Do sid (MqOpen asked)) accepted ByteLimit)
event_within c h (Do sid (SemOpen asked)) u bound accepted l k = open_within c h (Do sid (SemOpen asked)) (semaphore_opening sid asked) u bound (refl, refl) l k (is_new (semaphore_opening sid asked) (is_bound h)) refl (unforbidden c h (Do sid (SemOpen asked)) accepted ByteLimit)
event_within c h (Do sid call) u bound accepted l k = quiet_within c h (Do sid call) u bound k refl
event_within c h (Hangup sid) u bound accepted l k = quiet_within c h (Hangup sid) u bound k refl
event_within c h (Tick moment) u bound accepted l k = quiet_within c h (Tick moment) u bound k refl

-- where no limit was set, none was set before
none_later : {A : Type 0} (x w : Option A) → option_or x w ≡ None → w ≡ None
none_later None w e = e
none_later (Some y) w e = absurd cc

limit_given : (c : Config) (h k : History) (u : Uid) → newest (sets_limit u) h ≡ None → newest (sets_limit u) k ≡ None → limit c h u ≡ limit c k u
unfolding limit
limit_given c h k u none none' = ap (λ (w : Option ℕ). option_map (λ who. unwrap_or w who.limit) (cred_of c.users u)) (none ∙ sym none')

refused_charged : (c : Config) (h : History) (e : Event) (rule : Rule) (u : Uid) → charged c (record { event = e; rule = Some rule } ∷ h) u ≡ charged c h u
unfolding charged charge_of alive object named held opens creations
refused_charged c h e rule u = refl

within_more : (c : Config) (h : History) (u : Uid) (bound : ℕ) → Under c h u bound → charged c h u ≤ bound → (e : Event) (r : Option Rule) → r ≡ verdict c h e → charged c (record { event = e; rule = r } ∷ h) u ≤ bound
within_more c h u bound l k e (Some rule) legal = rw (refused_charged c h e rule u) k
within_more c h u bound l k e None legal = rw (charged_grows c h e u) (event_within c h e u bound (sym legal) l k)

only_this : (most m : ℕ) (w : Option ℕ) → w ≡ Some most → w ≡ Some m → m ≤ most
only_this most m w e k = let same : most ≡ m = cc in omega arith

pub within_limit : WithinLimit
unfolding charged creations
within_limit c [] u most legal none l = omega arith
within_limit c (r ∷ h) u most legal none l =
    let earlier : newest (sets_limit u) h ≡ None = none_later _ _ none in
    let l' : limit c h u ≡ Some most = limit_given c h (r ∷ h) u earlier none ∙ l in
    within_more c h u most (λ m k. only_this most m (limit c h u) l' k) (within_limit c h u most legal.1 earlier l') r.event r.rule legal.0

-- a limit that was set is in its range
set_more : (c : Config) (h : History) (u : Uid) → ((m : ℕ) → newest (sets_limit u) h ≡ Some m → m ≤ LIMIT_MAX) → (e : Event) (r : Option Rule) → r ≡ verdict c h e → (m : ℕ) → newest (sets_limit u) (record { event = e; rule = r } ∷ h) ≡ Some m → m ≤ LIMIT_MAX
unfolding forbids value_range
set_more c h u known e (Some rule) legal m k = known m k
set_more c h u known (Hello found) None legal m k = known m k
set_more c h u known (Do sid (SetLimit uid bytes)) None legal m k = at (eqb uid.0 u.0) k where
  fits : nat_lt LIMIT_MAX bytes ≡ false
  fits = unforbidden c h (Do sid (SetLimit uid bytes)) (sym legal) ValueRange

  at : (b : Bool) → option_or (cond b (Some bytes) None) (newest (sets_limit u) h) ≡ Some m → m ≤ LIMIT_MAX
  at true j = let same : bytes ≡ m = cc in let most : bytes ≤ LIMIT_MAX = grind (arith, nat_tests, fits) in omega arith
  at false j = known m j
set_more c h u known (Do sid call) None legal m k = known m k
set_more c h u known (Hangup sid) None legal m k = known m k
set_more c h u known (Tick moment) None legal m k = known m k

set_le : (c : Config) (h : History) → Legal c h → (u : Uid) (m : ℕ) → newest (sets_limit u) h ≡ Some m → m ≤ LIMIT_MAX
set_le c [] legal u m k = absurd cc
set_le c (r ∷ h) legal u m k = set_more c h u (set_le c h legal.1 u) r.event r.rule legal.0 m k

-- where the limits of the user file are not above a bound, no limit is
abbrev pub FileUnder : Config → ℕ → Type 0
FileUnder c bound = (u : Uid) (who : Cred) → cred_of c.users u ≡ Some who → who.limit ≤ bound

pub limit_le : (c : Config) (bound : ℕ) → LIMIT_MAX ≤ bound → FileUnder c bound → (h : History) → Legal c h → (u : Uid) (most : ℕ) → limit c h u ≡ Some most → most ≤ bound
unfolding limit
limit_le c bound greatest file h legal u most k = at (cred_of c.users u) refl (newest (sets_limit u) h) refl k where
  at : (found : Option Cred) → cred_of c.users u ≡ found → (w : Option ℕ) → newest (sets_limit u) h ≡ w → option_map (λ who. unwrap_or w who.limit) found ≡ Some most → most ≤ bound
  at None e w f j = absurd cc
  at (Some who) e None f j = let same : who.limit ≡ most = cc in let under = file u who e in omega arith
  at (Some who) e (Some m) f j = let same : m ≡ most = cc in let under = set_le c h legal u m f in omega arith

-- and no user's queues take more than the bound
pub charged_le : (c : Config) (bound : ℕ) → LIMIT_MAX ≤ bound → FileUnder c bound → (h : History) → Legal c h → (u : Uid) → charged c h u ≤ bound
unfolding charged creations
charged_le c bound greatest file [] legal u = omega arith
charged_le c bound greatest file (r ∷ h) legal u = within_more c h u bound (limit_le c bound greatest file h legal.1 u) (charged_le c bound greatest file h legal.1 u) r.event r.rule legal.0
