-- The connections that are kept, and those that are gone: what a change of the former makes of all.
use Rattle.std.proofs.Common.{◌≡◌, ℕ, zero, suc, ◌+◌, ◌<◌, Bool, true, false, eqb, cond, List, [], ◌∷◌, ◌++◌, length, set, slice_get, Option, Some, None, is_some, refl, sym, ap, subst, ◌∙◌, arith}
use Rattle.std.specs.Prelude.{option_and_then, OnErr, OnOk, Result, Ok, Err}
use Rattle.std.specs.Result.{is_err}
use Rattle.std.proofs.lemmas.Bool.{eqb-false, eq-eqb, ne_eqb}
use Rattle.ipc_terms.specs.Lists.{changed}
use Rattle.ipc_terms.specs.declared.ids.Sid.{Sid}
use Rattle.ipc_terms.specs.declared.record.Event.{Event}
use Rattle.ipc_containers.specs.Slots.{at, emptied}
use Rattle.ipc_core.specs.Outboxes.{after_steps}
use Rattle.ipc_core.specs.CoreView.{CoreView}
use Rattle.ipc_hub.specs.declared.hub.Gone.{Gone}
use Rattle.ipc_hub.specs.declared.fed.HubFault.TheVariants.{Ended}
use Rattle.ipc_terms.specs.declared.rule.Rule.TheVariants.{BadKey as Refusal}
use Rattle.ipc_terms.specs.declared.call.Answer.{Answer}
use Rattle.ipc_terms.specs.declared.call.Answer.TheVariants.{Refused}
use Rattle.ipc_core.specs.Boxes.{box_at, taken}
use Rattle.ipc_hub.specs.Hub.{Connection, Hub, Takes, untaken, untaken_of, spell_answers, HasEnded, IsGone, core_after_take, fault_of_change}
use Rattle.ipc_hub.specs.Gone.{gone_at, all_from, all_of, IsAway, AreAway}
use Rattle.ipc_hub.proofs.HubLemmas.{forgot_untaken}
use Rattle.ipc_hub.proofs.GoneLemmas.{untaken_steps, ended_steps, still_none, ended_taken}

-- ---- slots

slot_of : (rows : List (Option Connection)) (i : ℕ) (x : Connection) → at rows i ≡ Some x → slice_get rows i ≡ Some (Some x)
slot_of rows i x e = by (slice_get rows i) e where
  by : (w : Option (Option Connection)) → option_and_then (λ (o : Option Connection). o) w ≡ Some x → w ≡ Some (Some x)
  by None k = absurd cc
  by (Some o) k = ap Some k

empty_slot : (rows : List (Option Connection)) (i : ℕ) → i < length rows → at rows i ≡ None → slice_get rows i ≡ Some None
empty_slot [] i lt e = absurd (omega arith)
empty_slot (x ∷ xs) zero lt e = ap Some e
empty_slot (x ∷ xs) (suc i) lt e = empty_slot xs i (omega arith) e

-- ---- all of them

pub as_many : (k : ℕ) (rows : List (Option Connection)) (gone : Gone) → length (all_from k rows gone) ≡ length rows
as_many k [] gone = refl
as_many k (None ∷ rows) gone = ap suc (as_many (k + 1) rows gone)
as_many k (Some x ∷ rows) gone = ap suc (as_many (k + 1) rows gone)

all_there : (k : ℕ) (rows : List (Option Connection)) (gone : Gone) (i : ℕ) (x : Connection) → slice_get rows i ≡ Some (Some x) → slice_get (all_from k rows gone) i ≡ Some x
all_there k [] gone i x e = absurd cc
all_there k (None ∷ rows) gone zero x e = absurd cc
all_there k (Some y ∷ rows) gone zero x e = cc
all_there k (None ∷ rows) gone (suc i) x e = all_there (k + 1) rows gone i x e
all_there k (Some y ∷ rows) gone (suc i) x e = all_there (k + 1) rows gone i x e

-- what is kept is there
pub kept_there : (rows : List (Option Connection)) (gone : Gone) (i : ℕ) (x : Connection) → at rows i ≡ Some x → slice_get (all_of rows gone) i ≡ Some x
kept_there rows gone i x e = all_there 0 rows gone i x (slot_of rows i x e)

all_gone : (k : ℕ) (rows : List (Option Connection)) (gone : Gone) (i n : ℕ) → n ≡ k + i → slice_get rows i ≡ Some None → slice_get (all_from k rows gone) i ≡ Some (gone_at gone n)
all_gone k [] gone i n at' e = absurd cc
all_gone k (None ∷ rows) gone zero n at' e = let same : k ≡ n = omega arith in ap (λ (m : ℕ). Some (gone_at gone m)) same
all_gone k (Some y ∷ rows) gone zero n at' e = absurd cc
all_gone k (None ∷ rows) gone (suc i) n at' e = all_gone (k + 1) rows gone i n (omega arith) e
all_gone k (Some y ∷ rows) gone (suc i) n at' e = all_gone (k + 1) rows gone i n (omega arith) e

-- what isn't kept was what it was when it went
pub gone_there : (rows : List (Option Connection)) (gone : Gone) (i : ℕ) → i < length (all_of rows gone) → at rows i ≡ None → slice_get (all_of rows gone) i ≡ Some (gone_at gone i)
gone_there rows gone i lt e = let many = as_many 0 rows gone in all_gone 0 rows gone i i (omega arith) (empty_slot rows i (omega arith) e)

pub away_at : (a : CoreView) (rows : List (Option Connection)) (gone : Gone) (i : ℕ) → AreAway a rows gone → i < length (all_of rows gone) → at rows i ≡ None → IsAway a (gone_at gone i)
away_at a rows gone i w lt e = let many = as_many 0 rows gone in w.each i (empty_slot rows i (omega arith) e)

-- ---- one is another

set_from : (k : ℕ) (rows : List (Option Connection)) (gone : Gone) (i : ℕ) (x y : Connection) → slice_get rows i ≡ Some (Some x) → all_from k (changed (λ o. Some y) rows i) gone ≡ set (all_from k rows gone) i y
set_from k [] gone i x y e = absurd cc
set_from k (None ∷ rows) gone zero x y e = absurd cc
set_from k (Some z ∷ rows) gone zero x y e = refl
set_from k (None ∷ rows) gone (suc i) x y e = ap (λ l. gone_at gone k ∷ l) (set_from (k + 1) rows gone i x y e)
set_from k (Some z ∷ rows) gone (suc i) x y e = ap (λ l. z ∷ l) (set_from (k + 1) rows gone i x y e)

pub kept_set : (rows : List (Option Connection)) (gone : Gone) (i : ℕ) (x y : Connection) → at rows i ≡ Some x → all_of (changed (λ o. Some y) rows i) gone ≡ set (all_of rows gone) i y
kept_set rows gone i x y e = set_from 0 rows gone i x y (slot_of rows i x e)

same_empty : (rows : List (Option Connection)) (i j : ℕ) (y : Connection) → slice_get (changed (λ o. Some y) rows i) j ≡ Some None → slice_get rows j ≡ Some None
same_empty [] i j y e = absurd cc
same_empty (o ∷ rows) zero zero y e = absurd cc
same_empty (o ∷ rows) zero (suc j) y e = e
same_empty (o ∷ rows) (suc i) zero y e = e
same_empty (o ∷ rows) (suc i) (suc j) y e = same_empty rows i j y e

-- ---- one more

pub kept_push : (k : ℕ) (rows : List (Option Connection)) (gone : Gone) (x : Connection) → all_from k (rows ++ Some x ∷ []) gone ≡ all_from k rows gone ++ x ∷ []
kept_push k [] gone x = refl
kept_push k (None ∷ rows) gone x = ap (λ l. gone_at gone k ∷ l) (kept_push (k + 1) rows gone x)
kept_push k (Some z ∷ rows) gone x = ap (λ l. z ∷ l) (kept_push (k + 1) rows gone x)

pushed_empty : (rows : List (Option Connection)) (j : ℕ) (x : Connection) → slice_get (rows ++ Some x ∷ []) j ≡ Some None → slice_get rows j ≡ Some None
pushed_empty [] zero x e = absurd cc
pushed_empty [] (suc j) x e = absurd cc
pushed_empty (o ∷ rows) zero x e = e
pushed_empty (o ∷ rows) (suc j) x e = pushed_empty rows j x e

-- ---- one goes

gone_other : (gone before : Gone) (n k : ℕ) (x : Connection) → ((m : ℕ) → gone_at gone m ≡ cond (eqb n m) x (gone_at before m)) → eqb n k ≡ false → gone_at gone k ≡ gone_at before k
gone_other gone before n k x is apart = is k ∙ ap (λ (b : Bool). cond b x (gone_at before k)) apart

-- whom a later number names
rest_same : (k : ℕ) (rows : List (Option Connection)) (gone before : Gone) (n : ℕ) (x : Connection) → ((m : ℕ) → gone_at gone m ≡ cond (eqb n m) x (gone_at before m)) → n < k → all_from k rows gone ≡ all_from k rows before
rest_same k [] gone before n x is lt = refl
rest_same k (None ∷ rows) gone before n x is lt =
    ap (λ y. y ∷ all_from (k + 1) rows gone) (gone_other gone before n k x is (ne_eqb n k (λ (q : n ≡ k). omega arith)))
    ∙ ap (λ l. gone_at before k ∷ l) (rest_same (k + 1) rows gone before n x is (omega arith))
rest_same k (Some z ∷ rows) gone before n x is lt = ap (λ l. z ∷ l) (rest_same (k + 1) rows gone before n x is (omega arith))

taken_from : (k : ℕ) (rows : List (Option Connection)) (gone before : Gone) (i n : ℕ) (x : Connection) → ((m : ℕ) → gone_at gone m ≡ cond (eqb n m) x (gone_at before m)) → n ≡ k + i → slice_get rows i ≡ Some (Some x) → all_from k (changed emptied rows i) gone ≡ all_from k rows before
taken_from k [] gone before i n x is at' e = absurd cc
taken_from k (None ∷ rows) gone before zero n x is at' e = absurd cc
taken_from k (Some z ∷ rows) gone before zero n x is at' e =
    let own : eqb n k ≡ true = eq-eqb n k (omega arith) in
    let same : x ≡ z = cc in
    ap (λ y. y ∷ all_from (k + 1) rows gone) (is k ∙ ap (λ (b : Bool). cond b x (gone_at before k)) own ∙ same)
    ∙ ap (λ l. z ∷ l) (rest_same (k + 1) rows gone before n x is (omega arith))
taken_from k (None ∷ rows) gone before (suc i) n x is at' e =
    ap (λ y. y ∷ all_from (k + 1) (changed emptied rows i) gone) (gone_other gone before n k x is (ne_eqb n k (λ (q : n ≡ k). omega arith)))
    ∙ ap (λ l. gone_at before k ∷ l) (taken_from (k + 1) rows gone before i n x is (omega arith) e)
taken_from k (Some z ∷ rows) gone before (suc i) n x is at' e = ap (λ l. z ∷ l) (taken_from (k + 1) rows gone before i n x is (omega arith) e)

pub kept_taken : (rows : List (Option Connection)) (gone before : Gone) (i : ℕ) (x : Connection) → ((m : ℕ) → gone_at gone m ≡ cond (eqb i m) x (gone_at before m)) → at rows i ≡ Some x → all_of (changed emptied rows i) gone ≡ all_of rows before
kept_taken rows gone before i x is e = taken_from 0 rows gone before i i x is (omega arith) (slot_of rows i x e)

emptied_at : (rows : List (Option Connection)) (i j : ℕ) → slice_get (changed emptied rows i) j ≡ Some None → (i ≡ j → ⊥) → slice_get rows j ≡ Some None
emptied_at [] i j e apart = absurd cc
emptied_at (o ∷ rows) zero zero e apart = absurd (apart refl)
emptied_at (o ∷ rows) zero (suc j) e apart = e
emptied_at (o ∷ rows) (suc i) zero e apart = e
emptied_at (o ∷ rows) (suc i) (suc j) e apart = emptied_at rows i j e (λ q. apart (ap suc q))

-- ---- who is away stays so

away_steps : (es : List Event) (a b : CoreView) (x : Connection) → b ≡ after_steps es a → IsAway a x → IsAway b x
away_steps es a b x now w = record {
  over = w.over;
  kept = w.kept;
  nothing = ap (λ (c : CoreView). untaken c x) now ∙ untaken_steps es a x w.nothing w.session;
  session = λ sid is. subst (λ (c : CoreView). HasEnded c sid) (sym now) (ended_steps es a sid (w.session sid is));
}

away_taken : (s : Option Sid) (a b : CoreView) (x : Connection) → b ≡ core_after_take a s → IsAway a x → IsAway b x
away_taken s a b x now w = record {
  over = w.over;
  kept = w.kept;
  nothing = ap (λ (c : CoreView). untaken c x) now ∙ still_none a s x w.nothing;
  session = λ sid is. ended_taken a b s sid now (w.session sid is);
}

pub none_away : (a : CoreView) (gone : Gone) → AreAway a [] gone
none_away a gone = record { each = λ i e. absurd cc }

-- events are stepped, and one that is kept is another
pub stepped_away : (es : List Event) (a b : CoreView) (rows : List (Option Connection)) (gone : Gone) (i : ℕ) (y : Connection) → b ≡ after_steps es a → AreAway a rows gone → AreAway b (changed (λ o. Some y) rows i) gone
stepped_away es a b rows gone i y now w = record { each = λ j e. away_steps es a b (gone_at gone j) now (w.each j (same_empty rows i j y e)) }

pub ticked_away : (es : List Event) (a b : CoreView) (rows : List (Option Connection)) (gone : Gone) → b ≡ after_steps es a → AreAway a rows gone → AreAway b rows gone
ticked_away es a b rows gone now w = record { each = λ j e. away_steps es a b (gone_at gone j) now (w.each j e) }

pub taken_away : (s : Option Sid) (a b : CoreView) (rows : List (Option Connection)) (gone : Gone) (i : ℕ) (y : Connection) → b ≡ core_after_take a s → AreAway a rows gone → AreAway b (changed (λ o. Some y) rows i) gone
taken_away s a b rows gone i y now w = record { each = λ j e. away_taken s a b (gone_at gone j) now (w.each j (same_empty rows i j y e)) }

pub pushed_away : (a : CoreView) (rows : List (Option Connection)) (gone : Gone) (x : Connection) → AreAway a rows gone → AreAway a (rows ++ Some x ∷ []) gone
pushed_away a rows gone x w = record { each = λ j e. w.each j (pushed_empty rows j x e) }

-- one is let go that is away
pub let_go_away : (a : CoreView) (rows : List (Option Connection)) (gone before : Gone) (i : ℕ) (x : Connection) → ((m : ℕ) → gone_at gone m ≡ cond (eqb i m) x (gone_at before m)) → IsAway a x → AreAway a rows before → AreAway a (changed emptied rows i) gone
let_go_away a rows gone before i x is own w = record { each = λ j e. by j e (eqb i j) refl } where
  by : (j : ℕ) → slice_get (changed emptied rows i) j ≡ Some None → (b : Bool) → eqb i j ≡ b → IsAway a (gone_at gone j)
  by j e true q = subst (λ (y : Connection). IsAway a y) (sym (is j ∙ ap (λ (b : Bool). cond b x (gone_at before j)) q)) own
  by j e false q = subst (λ (y : Connection). IsAway a y) (sym (is j ∙ ap (λ (b : Bool). cond b x (gone_at before j)) q)) (w.each j (emptied_at rows i j e (eqb-false i j q)))

-- ---- one that is not over is kept

pub open_is_kept : (a : CoreView) (rows : List (Option Connection)) (gone : Gone) (i : ℕ) → AreAway a rows gone → i < length (all_of rows gone) → fault_of_change (slice_get (all_of rows gone) i) ≡ None → at rows i ≡ None → ⊥
open_is_kept a rows gone i w lt none e =
    let over = (away_at a rows gone i w lt e).over in
    let there = gone_there rows gone i lt e in
    let faulty = sym (ap fault_of_change there) ∙ none in
    by (gone_at gone i).is_over over faulty where
      by : (b : Bool) → b ≡ true → cond b (Some Ended) None ≡ None → ⊥
      by true is k = absurd cc
      by false is k = absurd cc

none_long : (xs : List ℕ) → length xs ≡ 0 → xs ≡ []
none_long [] e = refl
none_long (x ∷ xs) e = absurd (omega arith)

-- one that is gone, and keeps no bytes, is away
pub away_of : (hub : Hub) (i : ℕ) (x : Connection) → slice_get hub.connections i ≡ Some x → x.is_over ≡ true → length x.kept ≡ 0 → IsGone hub i → IsAway hub.core x
away_of hub i x there over none g =
    let both : Some g.connection ≡ Some x = sym g.there ∙ there in
    let same : g.connection ≡ x = cc in
    record {
      over = over;
      kept = none_long x.kept none;
      nothing = ap (λ (y : Connection). untaken hub.core y) (sym same) ∙ g.nothing;
      session = λ sid is. g.session sid (ap (λ (y : Connection). y.session) same ∙ is);
    }

-- the oldest record is forgotten
pub forgot_away : (a b : CoreView) (n : ℕ) (rows : List (Option Connection)) (gone : Gone) → b ≡ record a { first = n } → AreAway a rows gone → AreAway b rows gone
forgot_away a b n rows gone now w = subst (λ (c : CoreView). AreAway c rows gone) (sym now) (record {
  each = λ i e. (
      let was = w.each i e in
      record {
        over = was.over;
        kept = was.kept;
        nothing = forgot_untaken a n (gone_at gone i) ∙ was.nothing;
        session = λ sid is. (let ended = was.session sid is in record { started = ended.started; ended = ended.ended });
      }
      );
})

pub some_within : {A : Type 0} (xs : List A) (i : ℕ) → i < length xs → is_some (slice_get xs i) ≡ true
some_within [] i lt = absurd (omega arith)
some_within (x ∷ xs) zero lt = refl
some_within (x ∷ xs) (suc i) lt = some_within xs i (omega arith)

-- what was lent comes back as it was
pub same_written : {A : Type 0} (rows : List (Option A)) (i : ℕ) (x y : A) → at rows i ≡ Some x → y ≡ x → changed (λ o. Some y) rows i ≡ rows
same_written [] i x y e same = refl
same_written (o ∷ rows) zero x y e same = ap (λ w. w ∷ rows) (ap Some same ∙ sym e)
same_written (o ∷ rows) (suc i) x y e same = ap (λ l. o ∷ l) (same_written rows i x y e same)

pub on_err : {T E P : Type 0} (r : Result T E) → P → OnErr r P
on_err (Ok x) p = tt
on_err (Err e) p = p

-- ---- who is away gives nothing

set_self : (xs : List Connection) (i : ℕ) (x y : Connection) → slice_get xs i ≡ Some x → y ≡ x → xs ≡ set xs i y
set_self [] i x y e same = refl
set_self (z ∷ zs) zero x y e same = ap (λ w. w ∷ zs) (let own : z ≡ x = cc in own ∙ sym same)
set_self (z ∷ zs) (suc i) x y e same = ap (λ l. z ∷ l) (set_self zs i x y e same)

taken_same : (boxes : List (List Answer)) (s : ℕ) → box_at boxes s ≡ [] → boxes ≡ changed taken boxes s
taken_same [] s none = refl
taken_same (box ∷ boxes) zero none = ap (λ b. b ∷ boxes) none
taken_same (box ∷ boxes) (suc s) none = ap (λ l. box ∷ l) (taken_same boxes s none)

unrefused : (a : CoreView) (x : Connection) → untaken a x ≡ [] → (x.has_refusal ≡ false) × (untaken_of a x.session ≡ [])
unrefused a x none = by x.has_refusal refl none where
  by : (b : Bool) → x.has_refusal ≡ b → cond b (Refused Refusal ∷ []) (untaken_of a x.session) ≡ [] → (x.has_refusal ≡ false) × (untaken_of a x.session ≡ [])
  by true is e = absurd cc
  by false is e = (is, e)

nothing_taken : (a : CoreView) (s : Option Sid) → untaken_of a s ≡ [] → a ≡ core_after_take a s
nothing_taken a None none = refl
nothing_taken a (Some sid) none = ap (λ (boxes : List (List Answer)). record a { untaken = boxes }) (taken_same a.untaken sid.0 none)

pub takes_nothing : (hub : Hub) (n : ℕ) (x : Connection) → slice_get hub.connections n ≡ Some x → IsAway hub.core x → Takes hub n [] hub
takes_nothing hub n x there away =
    let none = unrefused hub.core x away.nothing in
    record {
      before = x;
      changes = record { was = there; others = set_self hub.connections n x (record x { has_refusal = false }) there (ap (λ (b : Bool). record x { has_refusal = b }) (sym none.0)) };
      given = ap spell_answers away.nothing;
      core = nothing_taken hub.core x.session none.1;
      marked = refl;
    }

pub gone_of_away : (hub : Hub) (n : ℕ) (x : Connection) → slice_get hub.connections n ≡ Some x → IsAway hub.core x → IsGone hub n
gone_of_away hub n x there away = record { connection = x; there = there; over = away.over; nothing = away.nothing; session = away.session }

-- what holds of a result that is no error
pub ok_of : {T E : Type 0} (r : Result T E) (P : Type 0) → is_err r ≡ false → OnOk r P → P
ok_of (Ok x) P well p = p
ok_of (Err e) P well p = absurd cc
