-- What each call of a hub comes to, where the hub is seen as its parts.
use Rattle.std.proofs.Common.{◌≡◌, ℕ, true, false, List, [], ◌++◌, length, set, slice_get, Option, Some, None, refl, sym, ap, subst, ◌∙◌}
use Rattle.std.specs.Prelude.{IsSome, is_none}
use Rattle.ipc_core.specs.Outboxes.{after_steps}
use Rattle.ipc_wire.specs.Streams.{Cut, cut}
use Rattle.ipc_fields.specs.Field.{◌⊕◌}
use Rattle.ipc_hub.specs.declared.fed.Fed.{Fed}
use Rattle.ipc_hub.specs.declared.fed.Fed.TheVariants.{Full}
use Rattle.ipc_hub.specs.Hub.{Connection, Hub, untaken, untaken_at, spell_answers, hang_up_of, IsOutcome, core_after_take, Feeds, HangsUp, Takes}
use Rattle.ipc_hub.specs.MarkedCore.{MarkedView, Follows}
use Rattle.ipc_hub.specs.Sessions.{Stands}
use Rattle.ipc_hub.specs.Stepping.{Ends, IsWithin, is_full}
use Rattle.ipc_hub.proofs.HubMarks.{hub_view, changed_marks, has_none_refused, fed_silent, fed_stays, fed_full, fed_within, own_there, was_there, hung_up_silent}

-- a feed of connection n, which stands at place i
pub record FedAt (old new : Hub) (n : ℕ) (piece : List ℕ) (fed : Fed) (most : Option ℕ) : Type 0 where
  pub feeds : Feeds old n piece fed new
  pub full : fed ≡ Full → is_full most (length (untaken_at new n)) ≡ true
  pub within : IsWithin most (length (untaken_at old n)) (length (untaken_at new n))

pub fed_is : (old : Hub) (a b : MarkedView) (xs : List Connection) (i n : ℕ) (x y : Connection) (piece : List ℕ) (fed : Fed) (most : Option ℕ) → hub_view a xs ≡ old → i ≡ n → Stands a xs → slice_get xs i ≡ Some x → x.is_over ≡ false → IsOutcome fed a.core x (cut (is_none x.session) (x.kept ++ piece)) b.core y → Ends fed i most a x.session b y.session → FedAt old (hub_view b (set xs i y)) n piece fed most
fed_is old a b xs i n x y piece fed most is at w there open' h e = subst (λ (k : ℕ). FedAt old (hub_view b (set xs i y)) k piece fed most) at (subst (λ (o : Hub). FedAt o (hub_view b (set xs i y)) i piece fed most) is (record {
  feeds = record {
    before = x;
    later = y;
    changes = record { was = there; others = refl };
    open_before = open';
    outcome = h;
    marks = changed_marks a b xs i x y w there e.goes.follows (fed_silent fed most a b xs i x y c w there open' h e (fed_stays fed a b xs i x y (x.kept ++ piece) w there open' h));
  };
  full = λ k. ap (λ left. is_full most (length left)) (own_there b xs i x y there) ∙ fed_full fed i most a b x y c none h e k;
  within = subst (λ left. IsWithin most (length (untaken_at (hub_view a xs) i)) (length left)) (sym (own_there b xs i x y there)) (subst (λ left. IsWithin most (length left) (length (untaken b.core y))) (sym (was_there a xs i x there)) (fed_within fed i most a b x y c none h e));
})) where
  c : Cut
  c = cut (is_none x.session) (x.kept ++ piece)

  none : x.has_refusal ≡ false
  none = has_none_refused a xs i x w there open'

pub hung_up_is : (old : Hub) (a b : MarkedView) (xs : List Connection) (i n : ℕ) (x y : Connection) → hub_view a xs ≡ old → i ≡ n → Stands a xs → slice_get xs i ≡ Some x → x.is_over ≡ false → b.core ≡ after_steps (hang_up_of x.session) a.core → Follows a b → y ≡ record x { kept = []; is_over = true } → HangsUp old n (hub_view b (set xs i y))
hung_up_is old a b xs i n x y is at w there open' now f e = subst (λ (k : ℕ). HangsUp old k (hub_view b (set xs i y))) at (subst (λ (o : Hub). HangsUp o i (hub_view b (set xs i y))) is (record { before = x; changes = record { was = there; others = ap (set xs i) e }; open_before = open'; core = now; marks = changed_marks a b xs i x y w there f (hung_up_silent a b xs i x y w there f e) }))

-- what was untaken is taken
takes_of : (old : Hub) (a b : MarkedView) (xs : List Connection) (i n : ℕ) (x y : Connection) (bytes : List ℕ) → hub_view a xs ≡ old → i ≡ n → slice_get xs i ≡ Some x → b ≡ record a { core = core_after_take a.core x.session } → y ≡ record x { has_refusal = false } → spell_answers (untaken a.core x) ≡ Some bytes → Takes old n bytes (hub_view b (set xs i y))
takes_of old a b xs i n x y bytes is at there after e given = subst (λ (k : ℕ). Takes old k bytes (hub_view b (set xs i y))) at (subst (λ (o : Hub). Takes o i bytes (hub_view b (set xs i y))) is (record { before = x; changes = record { was = there; others = ap (set xs i) e }; given = given; core = ap (λ (z : MarkedView). z.core) after; marked = ap (λ (z : MarkedView). z.marked) after }))

pub discarded_is : (old : Hub) (a b : MarkedView) (xs : List Connection) (i n : ℕ) (x y : Connection) → hub_view a xs ≡ old → i ≡ n → slice_get xs i ≡ Some x → b ≡ record a { core = core_after_take a.core x.session } → y ≡ record x { has_refusal = false } → IsSome (spell_answers (untaken a.core x)) → (bytes : List ℕ) × Takes old n bytes (hub_view b (set xs i y))
discarded_is old a b xs i n x y is at there after e some = found (spell_answers (untaken a.core x)) refl some where
  found : (text : Option (List ℕ)) → spell_answers (untaken a.core x) ≡ text → IsSome text → (bytes : List ℕ) × Takes old n bytes (hub_view b (set xs i y))
  found None given k = (let wrong : false ≡ true = k in absurd cc)
  found (Some bytes) given k = (bytes, takes_of old a b xs i n x y bytes is at there after e given)

-- the spellings of what was untaken stand behind the old bytes
pub taken_is : (old : Hub) (a b : MarkedView) (xs : List Connection) (i n : ℕ) (x y : Connection) (out now : List ℕ) → hub_view a xs ≡ old → i ≡ n → slice_get xs i ≡ Some x → b ≡ record a { core = core_after_take a.core x.session } → y ≡ record x { has_refusal = false } → (Some out ⊕ spell_answers (untaken a.core x)) ≡ Some now → (bytes : List ℕ) × (now ≡ out ++ bytes) × Takes old n bytes (hub_view b (set xs i y))
taken_is old a b xs i n x y out now is at there after e put = found (spell_answers (untaken a.core x)) refl put where
  some_list : (v w : List ℕ) → Some v ≡ Some w → v ≡ w
  some_list v w k = cc

  found : (text : Option (List ℕ)) → spell_answers (untaken a.core x) ≡ text → (Some out ⊕ text) ≡ Some now → (bytes : List ℕ) × (now ≡ out ++ bytes) × Takes old n bytes (hub_view b (set xs i y))
  found None given k = absurd (none_is k) where
    none_is : None ≡ Some now → ⊥
    none_is q = absurd cc
  found (Some bytes) given k = (bytes, sym (some_list (out ++ bytes) now k), takes_of old a b xs i n x y bytes is at there after e given)
