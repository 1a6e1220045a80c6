-- What a name is bound to in a legal history.
use Rattle.std.proofs.Common.{◌≡◌, ℕ, ◌+◌, ◌<◌, Bool, true, false, eqb, cond, List, [], ◌∷◌, Option, Some, None, is_some, refl, sym, ap, arith}
use Rattle.std.specs.Prelude.{IsTrue, ◌==◌, option_and_then}
use Rattle.std.specs.Option.{option_or, option_map}
use Rattle.std.proofs.lemmas.Bool.{eqb-true, eqb-false}
use Rattle.ipc_terms.specs.declared.rule.Rule.{Rule}
use Rattle.ipc_terms.specs.declared.ids.Uid.{Uid}
use Rattle.ipc_terms.specs.declared.ids.Gid.{Gid}
use Rattle.ipc_terms.specs.declared.ids.Mode.{Mode}
use Rattle.ipc_terms.specs.declared.ids.Family.{Family}
use Rattle.ipc_terms.specs.declared.ids.Target.TheVariants.{Dir, Name}
use Rattle.ipc_terms.specs.declared.call.Call.TheVariants.{MqOpen, SemOpen, Chown}
use Rattle.ipc_terms.specs.declared.record.Event.{Event}
use Rattle.ipc_terms.specs.declared.record.Event.TheVariants.{Hello, Do, Hangup, Tick}
use Rattle.ipc_terms.specs.declared.facts.Facts.{Facts}
use Rattle.ipc_access.specs.declared.class.Cred.{Cred}
use Rattle.ipc_access.specs.Users.{cred_of}
use Rattle.ipc_policy.specs.declared.config.Config.{Config}
use Rattle.ipc_policy.specs.Decides.History.{History, newest, is_some_and}
use Rattle.ipc_policy.specs.Decides.Sessions.{user, live, cred, mask}
use Rattle.ipc_policy.specs.Decides.Names.{Opening, queue_opening, semaphore_opening, creating, creation, creations, bound}
use Rattle.ipc_policy.specs.Decides.Objects.{creation_of, makes, made_by, first_facts, sets_first, sets_owner, sets_group, sets_mode, owner_given, group_given, mode_given, means_object, object_bits, together, object, owner, group, mode, facts}
use Rattle.ipc_policy.specs.Decides.Verdict.{verdict, Legal}
use Rattle.ipc_policy.specs.Follows.Laws.{EachCallerIsKnown}
use Rattle.ipc_policy.proofs.Directories.Creating.{bound_below}
use Rattle.ipc_policy.proofs.Histories.Known.{known_user, live_user, object_below}
use Rattle.ipc_policy.proofs.Histories.Unforbidden.{caller_live}

-- a live session of a legal history has credentials
cred_at : (c : Config) (h : History) (s : ℕ) (w : Option Uid) → user h s ≡ w → is_some w ≡ true → ((uid : Uid) → user h s ≡ Some uid → is_some (cred_of c.users uid) ≡ true) → is_some (option_and_then (cred_of c.users) w) ≡ true
cred_at c h s None e k known = absurd cc
cred_at c h s (Some uid) e k known = known uid e

cred_known : (c : Config) (h : History) → Legal c h → (s : ℕ) → live h s ≡ true → is_some (cred c h s) ≡ true
unfolding cred
cred_known c h legal s k = cred_at c h s (user h s) refl (live_user c h legal s k) (known_user c h legal s)

pub caller_known : EachCallerIsKnown
caller_known c h sid call legal accepted = cred_known c h legal sid.0 (caller_live c h sid call accepted)

-- so an accepted creation fixes what it fixes
mapped_some : {A B : Type 0} (f : A → B) (w : Option A) → is_some w ≡ true → is_some (option_map f w) ≡ true
mapped_some f None e = e
mapped_some f (Some x) e = refl

not_made : (w : Option Opening) (b : Bool) → w ≡ None → is_some (cond b w None) ≡ true → ⊥
not_made None true none is = absurd cc
not_made (Some asked) true none is = absurd cc
not_made w false none is = absurd cc

made_open : {A : Type 0} (f : Opening → Cred → A) (who : Opening → Option Cred) (asked : Opening) (b d : Bool) → is_some (who asked) ≡ true → is_some (cond b (cond d (Some asked) None) None) ≡ true → is_some (option_and_then (λ a. option_map (f a) (who a)) (cond b (cond d (Some asked) None) None)) ≡ true
made_open f who asked true true known is = mapped_some (f asked) (who asked) known
made_open f who asked true false known is = absurd cc
made_open f who asked false d known is = absurd cc

-- what is said by each accepted creation of object o
abbrev SaidAtCreation : {A : Type 0} → Config → ℕ → (Event → History → Option A) → Type 0
SaidAtCreation c o says = (e : Event) (h : History) → Legal c h → None ≡ verdict c h e → is_some (creation_of o e h) ≡ true → is_some (says e h) ≡ true

said_at : {A : Type 0} (c : Config) (o : ℕ) (f : Opening → History → Cred → A) → SaidAtCreation c o (λ e h. option_and_then (λ asked. option_map (f asked h) (cred c h asked.session.0)) (creation_of o e h))
said_at c o f (Hello found) h legal accepted is = absurd (not_made None (eqb (creations h) o) refl is)
said_at c o f (Do sid (MqOpen asked)) h legal accepted is = made_open (λ a. f a h) (λ a. cred c h a.session.0) (queue_opening sid asked) (eqb (creations h) o) (creating h (queue_opening sid asked)) (caller_known c h sid (MqOpen asked) legal (sym accepted)) is
said_at c o f (Do sid (SemOpen asked)) h legal accepted is = made_open (λ a. f a h) (λ a. cred c h a.session.0) (semaphore_opening sid asked) (eqb (creations h) o) (creating h (semaphore_opening sid asked)) (caller_known c h sid (SemOpen asked) legal (sym accepted)) is
said_at c o f (Do sid call) h legal accepted is = absurd (not_made None (eqb (creations h) o) refl is)
said_at c o f (Hangup sid) h legal accepted is = absurd (not_made None (eqb (creations h) o) refl is)
said_at c o f (Tick moment) h legal accepted is = absurd (not_made None (eqb (creations h) o) refl is)

-- it is known of every object that was created
said_more : {A : Type 0} (n o : ℕ) (d : Bool) → eqb n o ≡ d → (w : Option Opening) (v was : Option A) → (is_some (cond d w None) ≡ true → is_some v ≡ true) → (o < n → is_some was ≡ true) → o < cond (is_some w) (n + 1) n → is_some (option_or v was) ≡ true
said_more n o d q w (Some x) was made known lt = refl
said_more n o d q None None was made known lt = known lt
said_more n o true q (Some asked) None was made known lt = absurd (let k = made refl in cc)
said_more n o false q (Some asked) None was made known lt = known (let ne = eqb-false n o q in let lt' : o < n + 1 = lt in omega arith)

said_next : {A : Type 0} (c : Config) (h : History) (o : ℕ) (says : Event → History → Option A) → SaidAtCreation c o says → Legal c h → (o < creations h → is_some (newest says h) ≡ true) → (e : Event) (r : Option Rule) → r ≡ verdict c h e → o < creations (record { event = e; rule = r } ∷ h) → is_some (newest says (record { event = e; rule = r } ∷ h)) ≡ true
unfolding creations
said_next c h o says said legal known e (Some rule) is lt = known lt
said_next c h o says said legal known e None is lt = said_more (creations h) o (eqb (creations h) o) refl (creation e h) (says e h) (newest says h) (said e h legal is) known lt

said : {A : Type 0} (c : Config) (h : History) → Legal c h → (o : ℕ) (says : Event → History → Option A) → SaidAtCreation c o says → o < creations h → is_some (newest says h) ≡ true
unfolding creations
said c [] legal o says at lt = absurd (omega arith)
said c (r ∷ h) legal o says at lt = said_next c h o says at legal.1 (said c h legal.1 o says at) r.event r.rule legal.0 lt

pub object_known : (c : Config) (h : History) → Legal c h → (o : ℕ) → o < creations h → is_some (object c h o) ≡ true
unfolding object
object_known c h legal o lt = said c h legal o (makes c o) (said_at c o (λ asked before. made_by c asked)) lt

-- every object of a legal history has an owner, a group and a mode
part_said : {A : Type 0} (f : Facts → A) (given : Option A) (w : Option Facts) → is_some w ≡ true → is_some (option_or given (option_map f w)) ≡ true
part_said f None w known = mapped_some f w known
part_said f (Some x) w known = refl

all_some : (u : Option Uid) (g : Option Gid) (m : Option Mode) → is_some u ≡ true → is_some g ≡ true → is_some m ≡ true → is_some (together u g m) ≡ true
all_some (Some x) (Some y) (Some z) one two three = refl
all_some None g m one two three = absurd cc
all_some (Some x) None m one two three = absurd cc
all_some (Some x) (Some y) None one two three = absurd cc

first_said : (c : Config) (o : ℕ) → SaidAtCreation c o (sets_first c o)
first_said c o = said_at c o (λ asked before. first_facts asked (mask before asked.session.0))

pub facts_known : (c : Config) (h : History) → Legal c h → (o : ℕ) → o < creations h → is_some (facts c h o) ≡ true
unfolding facts owner group mode
facts_known c h legal o lt =
    all_some _ _ _
    (said c h legal o (sets_owner c o) (λ e before l accepted is. part_said (λ at. at.owner) (owner_given (means_object (bound before) o) e) (sets_first c o e before) (first_said c o e before l accepted is)) lt)
    (said c h legal o (sets_group c o) (λ e before l accepted is. part_said (λ at. at.group) (group_given (means_object (bound before) o) e) (sets_first c o e before) (first_said c o e before l accepted is)) lt)
    (said c h legal o (sets_mode c o) (λ e before l accepted is. part_said (λ at. at.mode) (option_map object_bits (mode_given (means_object (bound before) o) e)) (sets_first c o e before) (first_said c o e before l accepted is)) lt)

pub bound_made : (c : Config) (h : History) (f : Family) (name : List ℕ) (o : ℕ) → Legal c h → bound h f name ≡ Some o → IsTrue (is_some (object c h o)) × IsTrue (is_some (facts c h o))
bound_made c h f name o legal e =
    let below = bound_below h f name o e in
    (object_known c h legal o below, facts_known c h legal o below)

-- a target that means an object is a name that is bound to it
named_at : (o : ℕ) (w : Option ℕ) → is_some_and (λ n. n == o) w ≡ true → w ≡ Some o
named_at o None e = absurd cc
named_at o (Some n) e = ap Some (eqb-true n o e)

pub meant_is_bound : (h : History) (o : ℕ) (f : Family) (name : List ℕ) → means_object (bound h) o (Name f name) ≡ true → bound h f name ≡ Some o
meant_is_bound h o f name e = named_at o (bound h f name) e

-- an owner is given only to what was created
owner_meant : (owner : Option Uid) (b : Bool) → is_some (cond b owner None) ≡ true → b ≡ true
owner_meant owner true e = refl
owner_meant owner false e = absurd cc

given_below : (h : History) (o : ℕ) (e : Event) → is_some (owner_given (means_object (bound h) o) e) ≡ true → o < creations h
given_below h o (Hello found) is = absurd cc
given_below h o (Do sid (Chown owner group (Dir family))) is = absurd cc
given_below h o (Do sid (Chown owner group (Name family name))) is = bound_below h family name o (meant_is_bound h o family name (owner_meant owner _ is))
given_below h o (Do sid call) is = absurd cc
given_below h o (Hangup sid) is = absurd cc
given_below h o (Tick moment) is = absurd cc

owner_at : (n o : ℕ) (given was : Option Uid) (f : Facts → Uid) (make : Opening → Option Facts) (w : Option Opening) (d : Bool) → eqb n o ≡ d → (is_some given ≡ true → o < n) → (is_some was ≡ true → o < n) → is_some (option_or (option_or given (option_map f (option_and_then make (cond d w None)))) was) ≡ true → o < cond (is_some w) (n + 1) n
owner_at n o (Some x) was f make None d q meant known is = meant refl
owner_at n o (Some x) was f make (Some asked) d q meant known is = let lt = meant refl in omega arith
owner_at n o None was f make None true q meant known is = known is
owner_at n o None was f make None false q meant known is = known is
owner_at n o None was f make (Some asked) true q meant known is = let same : n ≡ o = eqb-true n o q in omega arith
owner_at n o None was f make (Some asked) false q meant known is = let lt = known is in omega arith

owner_more : (c : Config) (h : History) (o : ℕ) → (is_some (owner c h o) ≡ true → o < creations h) → (e : Event) (r : Option Rule) → is_some (owner c (record { event = e; rule = r } ∷ h) o) ≡ true → o < creations (record { event = e; rule = r } ∷ h)
unfolding owner creations
owner_more c h o known e (Some rule) is = known is
owner_more c h o known e None is = owner_at (creations h) o (owner_given (means_object (bound h) o) e) (newest (sets_owner c o) h) (λ at. at.owner) _ (creation e h) (eqb (creations h) o) refl (given_below h o e) known is

owner_below : (c : Config) (h : History) (o : ℕ) → is_some (owner c h o) ≡ true → o < creations h
unfolding owner
owner_below c [] o is = absurd cc
owner_below c (r ∷ h) o is = owner_more c h o (owner_below c h o) r.event r.rule is

owned : (u : Option Uid) (g : Option Gid) (m : Option Mode) → is_some (together u g m) ≡ true → is_some u ≡ true
owned None g m is = is
owned (Some x) g m is = refl

pub facts_below : (c : Config) (h : History) (o : ℕ) → is_some (facts c h o) ≡ true → o < creations h
unfolding facts
facts_below c h o is = owner_below c h o (owned (owner c h o) (group c h o) (mode c h o) is)

-- in a legal history what an object is and who may do what with it are known together
alike : (a b : Bool) → (a ≡ true → b ≡ true) → (b ≡ true → a ≡ true) → a ≡ b
alike true b there back = sym (there refl)
alike false true there back = back refl
alike false false there back = refl

pub object_with_facts : (c : Config) (h : History) → Legal c h → (o : ℕ) → is_some (object c h o) ≡ is_some (facts c h o)
object_with_facts c h legal o = alike _ _ (λ is. facts_known c h legal o (object_below c h o is)) (λ is. object_known c h legal o (facts_below c h o is))
