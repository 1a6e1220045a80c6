-- What links are asked for, one moment after another.
use Rattle.std.proofs.Common.{◌≡◌, ◌⊎◌, inl, inr, ℕ, Bool, true, false, not, ◌||◌, ◌&&◌, eqb, cond, List, [], ◌∷◌, ◌++◌, length, slice_get, Option, Some, None, refl, sym, ap, subst, ◌∙◌}
use Rattle.std.specs.Prelude.{is_none, unwrap_or}
use Rattle.std.proofs.lemmas.Bool.{eqb-true, eq-eqb}
use Rattle.std.specs.declared.io.ErrorKind.{ErrorKind}
use Rattle.ipc_hub.specs.Hub.{Hub, is_over_at, untaken_at}
use Rattle.ipc_loop.specs.declared.ending.Ending.{Ending}
use Rattle.ipc_loop.specs.declared.ending.Ending.TheVariants.{NoMemory}
use Rattle.ipc_loop.specs.Moves.{Moved, LinkOpened, LinkGave, LinkTook, LinkClosed, NobodyCame, GaveNothing, TookNothing, GoOn, is_asked, is_offered, left_by}
use Rattle.ipc_loop.specs.Ports.{Port, new_port, port_at, with_port, left_of, unfed_of, is_all, stands_in, KeepsListed}
use Rattle.ipc_loop.specs.Standing.{IsListedSo, IsSettled}
use Rattle.ipc_loop.specs.Serving.{ServesPort, Serves, is_done, has_no_more}
use Rattle.ipc_loop.specs.Asking.{IsLeft, OffersNothing, how_many_left, has_left, may_be_read, may_be_written, IsServed, IsOffered, IsStillRead, IsStillWritten, TakesTurn, OffersPort, Refuses, Asks, AsksAll}
use Rattle.ipc_loop.proofs.MoveLemmas.{go_both, go_nowhere, or_or, or_left, or_right}
use Rattle.ipc_loop.proofs.PassingLemmas.{passes_stop}
use Rattle.ipc_loop.proofs.PortLemmas.{Slots, slot_set, slot_here, stands_both, pushed_port}

abbrev pub Moves : Type 0
Moves = Option (List Moved)

abbrev pub Ports : Type 0
Ports = ℕ → Option Port

-- ---- moves one after another

pub left_both : (i n : ℕ) (xs ys : List Moved) → left_by i n (xs ++ ys) ≡ left_by i (left_by i n xs) ys
left_both i n [] ys = refl
left_both i n (LinkOpened j ∷ xs) ys = left_both i n xs ys
left_both i n (LinkGave j bytes ∷ xs) ys = left_both i n xs ys
left_both i n (LinkTook j bytes left ∷ xs) ys = left_both i (cond (eqb j i) left n) xs ys
left_both i n (LinkClosed j ending ∷ xs) ys = left_both i n xs ys
left_both i n (NobodyCame kind ∷ xs) ys = left_both i n xs ys
left_both i n (GaveNothing j kind ∷ xs) ys = left_both i n xs ys
left_both i n (TookNothing j count kind ∷ xs) ys = left_both i (cond (eqb j i) count n) xs ys

pub asked_both : (i : ℕ) (xs ys : List Moved) → is_asked i (xs ++ ys) ≡ (is_asked i xs || is_asked i ys)
asked_both i [] ys = refl
asked_both i (LinkOpened j ∷ xs) ys = asked_both i xs ys
asked_both i (LinkGave j bytes ∷ xs) ys = or_or (eqb j i) (is_asked i xs) (is_asked i ys) (is_asked i (xs ++ ys)) (asked_both i xs ys)
asked_both i (LinkTook j bytes left ∷ xs) ys = asked_both i xs ys
asked_both i (LinkClosed j ending ∷ xs) ys = asked_both i xs ys
asked_both i (NobodyCame kind ∷ xs) ys = asked_both i xs ys
asked_both i (GaveNothing j kind ∷ xs) ys = or_or (eqb j i) (is_asked i xs) (is_asked i ys) (is_asked i (xs ++ ys)) (asked_both i xs ys)
asked_both i (TookNothing j count kind ∷ xs) ys = asked_both i xs ys

pub offered_both : (i n : ℕ) (xs ys : List Moved) → is_offered i n (xs ++ ys) ≡ (is_offered i n xs || is_offered i n ys)
offered_both i n [] ys = refl
offered_both i n (LinkOpened j ∷ xs) ys = offered_both i n xs ys
offered_both i n (LinkGave j bytes ∷ xs) ys = offered_both i n xs ys
offered_both i n (LinkTook j bytes left ∷ xs) ys = or_or _ (is_offered i n xs) (is_offered i n ys) (is_offered i n (xs ++ ys)) (offered_both i n xs ys)
offered_both i n (LinkClosed j ending ∷ xs) ys = offered_both i n xs ys
offered_both i n (NobodyCame kind ∷ xs) ys = offered_both i n xs ys
offered_both i n (GaveNothing j kind ∷ xs) ys = offered_both i n xs ys
offered_both i n (TookNothing j count kind ∷ xs) ys = or_or _ (is_offered i n xs) (is_offered i n ys) (is_offered i n (xs ++ ys)) (offered_both i n xs ys)

-- ---- what is left

pub is_left_both : (i : ℕ) (xs ys : List Moved) (a b c : Option (List ℕ)) → IsLeft i xs a b → IsLeft i ys b c → IsLeft i (xs ++ ys) a c
is_left_both i xs ys a b None x y = tt
is_left_both i xs ys a None (Some c) x y = absurd y
is_left_both i xs ys None (Some b) (Some c) x y = absurd x
is_left_both i xs ys (Some a) (Some b) (Some c) x y = y ∙ ap (λ (n : ℕ). left_by i n ys) x ∙ sym (left_both i (length a) xs ys)

pub is_left_same : (i : ℕ) (xs : List Moved) (a : Option (List ℕ)) → OffersNothing i xs → IsLeft i xs a a
is_left_same i xs None none = tt
is_left_same i xs (Some a) none = sym (none (length a))

pub refuses_both : (m₀ m₁ m₂ : Moves) (p₀ p₁ p₂ : Ports) → Refuses m₀ m₁ p₀ p₁ → Refuses m₁ m₂ p₁ p₂ → Refuses m₀ m₂ p₀ p₂
refuses_both m₀ m₁ m₂ p₀ p₁ p₂ a b = record {
  moved = a.moved ++ b.moved;
  went = go_both m₀ m₁ m₂ a.moved b.moved a.went b.went;
  left = λ i. is_left_both i a.moved b.moved (left_of (p₀ i)) (left_of (p₁ i)) (left_of (p₂ i)) (a.left i) (b.left i);
}

-- ---- who is served

pub served_first : (i : ℕ) (xs ys : List Moved) (p q : Option Port) → (unfed_of p ≡ None → unfed_of q ≡ None) → IsServed i xs p → IsServed i (xs ++ ys) q
served_first i xs ys p q ended (inl asked) = inl (or_left (is_asked i xs) (is_asked i ys) (is_asked i (xs ++ ys)) (asked_both i xs ys) asked)
served_first i xs ys p q ended (inr (inl offered)) = inr (inl (or_left (is_offered i 1048576 xs) (is_offered i 1048576 ys) (is_offered i 1048576 (xs ++ ys)) (offered_both i 1048576 xs ys) offered))
served_first i xs ys p q ended (inr (inr over)) = inr (inr (ended over))

pub served_second : (i : ℕ) (xs ys : List Moved) (q : Option Port) → IsServed i ys q → IsServed i (xs ++ ys) q
served_second i xs ys q (inl asked) = inl (or_right (is_asked i xs) (is_asked i ys) (is_asked i (xs ++ ys)) (asked_both i xs ys) asked)
served_second i xs ys q (inr (inl offered)) = inr (inl (or_right (is_offered i 1048576 xs) (is_offered i 1048576 ys) (is_offered i 1048576 (xs ++ ys)) (offered_both i 1048576 xs ys) offered))
served_second i xs ys q (inr (inr over)) = inr (inr over)

pub offered_first : (i : ℕ) (xs ys : List Moved) (p : Port) → IsOffered i xs p → IsOffered i (xs ++ ys) p
offered_first i xs ys p on = or_left (is_offered i (how_many_left p.left) xs) (is_offered i (how_many_left p.left) ys) (is_offered i (how_many_left p.left) (xs ++ ys)) (offered_both i (how_many_left p.left) xs ys) on

pub offered_second : (i : ℕ) (xs ys : List Moved) (p q : Port) → q.left ≡ p.left → IsOffered i ys q → IsOffered i (xs ++ ys) p
offered_second i xs ys p q same on = or_right (is_offered i (how_many_left p.left) xs) (is_offered i (how_many_left p.left) ys) (is_offered i (how_many_left p.left) (xs ++ ys)) (offered_both i (how_many_left p.left) xs ys) (ap (λ (x : Option (List ℕ)). is_offered i (how_many_left x) ys) (sym same) ∙ on)

not_either : (a b c : Bool) → c ≡ (a || b) → a ≡ false → b ≡ false → c ≡ false
not_either true b c e f g = absurd cc
not_either false b c e f g = e ∙ g

pub asks_both : (s t : List ℕ) (m₀ m₁ m₂ : Moves) (p₀ p₁ p₂ : Ports) → Asks s m₀ m₁ p₀ p₁ → Asks t m₁ m₂ p₁ p₂ → Asks (s ++ t) m₀ m₂ p₀ p₂
asks_both s t m₀ m₁ m₂ p₀ p₁ p₂ a b = record {
  moved = a.moved ++ b.moved;
  went = go_both m₀ m₁ m₂ a.moved b.moved a.went b.went;
  left = λ i. is_left_both i a.moved b.moved (left_of (p₀ i)) (left_of (p₁ i)) (left_of (p₂ i)) (a.left i) (b.left i);
  ended = λ i over. b.ended i (a.ended i over);
  offered = λ i port there may. begun i port (a.offered i port there may);
  asked = λ i port there may. first i (a.asked i port there may);
} where
  begun : (i : ℕ) (p : Port) → IsOffered i a.moved p ⊎ (IsStillWritten p (p₁ i) × (stands_in i s ≡ false)) → IsOffered i (a.moved ++ b.moved) p ⊎ (IsStillWritten p (p₂ i) × (stands_in i (s ++ t) ≡ false))
  begun i p (inl on) = inl (offered_first i a.moved b.moved p on)
  begun i p (inr ((q, (there, (may, same))), none)) = then (b.offered i q there may) where
    then : IsOffered i b.moved q ⊎ (IsStillWritten q (p₂ i) × (stands_in i t ≡ false)) → IsOffered i (a.moved ++ b.moved) p ⊎ (IsStillWritten p (p₂ i) × (stands_in i (s ++ t) ≡ false))
    then (inl on) = inl (offered_second i a.moved b.moved p q same on)
    then (inr ((r, (there', (may', same'))), none')) = inr ((r, (there', (may', same' ∙ same))), not_either (stands_in i s) (stands_in i t) (stands_in i (s ++ t)) (stands_both i s t) none none')

  first : (i : ℕ) → IsServed i a.moved (p₁ i) ⊎ (IsStillRead (p₁ i) × (stands_in i s ≡ false)) → IsServed i (a.moved ++ b.moved) (p₂ i) ⊎ (IsStillRead (p₂ i) × (stands_in i (s ++ t) ≡ false))
  first i (inl served) = inl (served_first i a.moved b.moved (p₁ i) (p₂ i) (b.ended i) served)
  first i (inr still) = second (b.asked i still.0.0 still.0.1.0 still.0.1.1) where
    second : IsServed i b.moved (p₂ i) ⊎ (IsStillRead (p₂ i) × (stands_in i t ≡ false)) → IsServed i (a.moved ++ b.moved) (p₂ i) ⊎ (IsStillRead (p₂ i) × (stands_in i (s ++ t) ≡ false))
    second (inl served) = inl (served_second i a.moved b.moved (p₂ i) served)
    second (inr more) = inr (more.0, not_either (stands_in i s) (stands_in i t) (stands_in i (s ++ t)) (stands_both i s t) still.1 more.1)

-- fewer had a turn
not_there : (a b : Bool) → (b ≡ true → a ≡ true) → a ≡ false → b ≡ false
not_there a true f e = let wrong : true ≡ false = sym (f refl) ∙ e in absurd cc
not_there a false f e = refl

pub asks_fewer : (s t : List ℕ) (m m' : Moves) (p p' : Ports) → ((i : ℕ) → stands_in i t ≡ true → stands_in i s ≡ true) → Asks s m m' p p' → Asks t m m' p p'
asks_fewer s t m m' p p' fewer a = record { moved = a.moved; went = a.went; left = a.left; ended = a.ended; offered = λ i port there may. still i port (a.offered i port there may); asked = λ i port there may. at i (a.asked i port there may) } where
  still : (i : ℕ) (q : Port) → IsOffered i a.moved q ⊎ (IsStillWritten q (p' i) × (stands_in i s ≡ false)) → IsOffered i a.moved q ⊎ (IsStillWritten q (p' i) × (stands_in i t ≡ false))
  still i q (inl on) = inl on
  still i q (inr more) = inr (more.0, not_there (stands_in i s) (stands_in i t) (fewer i) more.1)

  at : (i : ℕ) → IsServed i a.moved (p' i) ⊎ (IsStillRead (p' i) × (stands_in i s ≡ false)) → IsServed i a.moved (p' i) ⊎ (IsStillRead (p' i) × (stands_in i t ≡ false))
  at i (inl served) = inl served
  at i (inr still) = inr (still.0, not_there (stands_in i s) (stands_in i t) (fewer i) still.1)

-- who can be neither read nor written needs no turn
pub asks_gone : (k : ℕ) (t : List ℕ) (m m' : Moves) (p p' : Ports) → ((port : Port) → p' k ≡ Some port → may_be_read port ≡ true → ⊥) → ((port : Port) → p' k ≡ Some port → may_be_written port ≡ true → ⊥) → Asks t m m' p p' → Asks (t ++ k ∷ []) m m' p p'
asks_gone k t m m' p p' gone shut a = record { moved = a.moved; went = a.went; left = a.left; ended = a.ended; offered = λ i port there may. still i port (eqb k i) refl (a.offered i port there may); asked = λ i port there may. at i (eqb k i) refl (a.asked i port there may) } where
  still : (i : ℕ) (q : Port) (here : Bool) → eqb k i ≡ here → IsOffered i a.moved q ⊎ (IsStillWritten q (p' i) × (stands_in i t ≡ false)) → IsOffered i a.moved q ⊎ (IsStillWritten q (p' i) × (stands_in i (t ++ k ∷ []) ≡ false))
  still i q here is (inl on) = inl on
  still i q true is (inr more) = absurd (shut more.0.0 (ap p' (eqb-true k i is) ∙ more.0.1.0) more.0.1.1.0)
  still i q false is (inr more) = inr (more.0, not_either (stands_in i t) (stands_in i (k ∷ [])) (stands_in i (t ++ k ∷ [])) (stands_both i t (k ∷ [])) more.1 (ap (λ (b : Bool). cond b true false) is))

  at : (i : ℕ) (here : Bool) → eqb k i ≡ here → IsServed i a.moved (p' i) ⊎ (IsStillRead (p' i) × (stands_in i t ≡ false)) → IsServed i a.moved (p' i) ⊎ (IsStillRead (p' i) × (stands_in i (t ++ k ∷ []) ≡ false))
  at i here is (inl served) = inl served
  at i true is (inr still) = absurd (gone still.0.0 (ap p' (eqb-true k i is) ∙ still.0.1.0) still.0.1.1)
  at i false is (inr still) = inr (still.0, not_either (stands_in i t) (stands_in i (k ∷ [])) (stands_in i (t ++ k ∷ [])) (stands_both i t (k ∷ [])) still.1 (ap (λ (b : Bool). cond b true false) is))

-- nor does a link that is closed, or still to come
none_quiet : (k : ℕ) (xs : Slots) (test : Port → Bool) → ((port : Port) → slice_get xs k ≡ Some (Some port) → ⊥) → test new_port ≡ false → (port : Port) → port_at xs k ≡ Some port → test port ≡ true → ⊥
none_quiet k xs test none quiet port e on = at (slice_get xs k) refl e where
  at : (s : Option (Option Port)) → slice_get xs k ≡ s → unwrap_or s (Some new_port) ≡ Some port → ⊥
  at None is f = let same : new_port ≡ port = cc in let wrong : false ≡ true = sym quiet ∙ ap test same ∙ on in absurd cc
  at (Some None) is f = absurd cc
  at (Some (Some q)) is f = none q is

-- the same ports, told in another way
pub asks_so : (t : List ℕ) (m m' : Moves) (p q p' q' : Ports) → ((i : ℕ) → q i ≡ p i) → ((i : ℕ) → q' i ≡ p' i) → Asks t m m' p p' → Asks t m m' q q'
asks_so t m m' p q p' q' before later a = record {
  moved = a.moved;
  went = a.went;
  left = λ i. subst (λ (x : Option Port). IsLeft i a.moved (left_of x) (left_of (q' i))) (sym (before i)) (subst (λ (x : Option Port). IsLeft i a.moved (left_of (p i)) (left_of x)) (sym (later i)) (a.left i));
  ended = λ i over. ap unfed_of (later i) ∙ a.ended i (ap unfed_of (sym (before i)) ∙ over);
  offered = λ i port there may. subst (λ (x : Option Port). IsOffered i a.moved port ⊎ (IsStillWritten port x × (stands_in i t ≡ false))) (sym (later i)) (a.offered i port (sym (before i) ∙ there) may);
  asked = λ i port there may. subst (λ (x : Option Port). IsServed i a.moved x ⊎ (IsStillRead x × (stands_in i t ≡ false))) (sym (later i)) (a.asked i port (sym (before i) ∙ there) may);
}

pub refuses_so : (m m' : Moves) (p q p' q' : Ports) → ((i : ℕ) → q i ≡ p i) → ((i : ℕ) → q' i ≡ p' i) → Refuses m m' p p' → Refuses m m' q q'
refuses_so m m' p q p' q' before later a = record {
  moved = a.moved;
  went = a.went;
  left = λ i. subst (λ (x : Option Port). IsLeft i a.moved (left_of x) (left_of (q' i))) (sym (before i)) (subst (λ (x : Option Port). IsLeft i a.moved (left_of (p i)) (left_of x)) (sym (later i)) (a.left i));
}

-- links did nothing, or somebody came, or nobody
pub asks_none : (moved : List Moved) (m m' : Moves) (p : Ports) → GoOn m m' moved → ((i : ℕ) → OffersNothing i moved) → Asks [] m m' p p
asks_none moved m m' p went none = record {
  moved = moved;
  went = went;
  left = λ i. is_left_same i moved (left_of (p i)) (none i);
  ended = λ i over. over;
  offered = λ i port there may. inr ((port, (there, (may, refl))), refl);
  asked = λ i port there may. inr ((port, (there, may)), refl);
}

pub asked_nothing : (m : Moves) (p : Ports) → Asks [] m m p p
asked_nothing m p = asks_none [] m m p (go_nowhere m) (λ i n. refl)

pub refused_nothing : (m : Moves) (p : Ports) → Refuses m m p p
refused_nothing m p = record { moved = []; went = go_nowhere m; left = λ i. is_left_same i [] (left_of (p i)) (λ n. refl) }

-- a round: turns, and then what was answered
pub asks_all : (s t : List ℕ) (m₀ m₁ m₂ : Moves) (p₀ p₁ p₂ : Ports) → ((i : ℕ) → stands_in i t ≡ true → stands_in i s ≡ true) → ((i : ℕ) → unfed_of (p₁ i) ≡ None → unfed_of (p₂ i) ≡ None) → Asks s m₀ m₁ p₀ p₁ → Refuses m₁ m₂ p₁ p₂ → AsksAll t m₀ m₂ p₀ p₂
asks_all s t m₀ m₁ m₂ p₀ p₁ p₂ fewer ended a b = record {
  moved = a.moved ++ b.moved;
  went = go_both m₀ m₁ m₂ a.moved b.moved a.went b.went;
  left = λ i. is_left_both i a.moved b.moved (left_of (p₀ i)) (left_of (p₁ i)) (left_of (p₂ i)) (a.left i) (b.left i);
  offered = λ i port turn there may. still i port (fewer i turn) (a.offered i port there may);
  asked = λ i port turn there may. at i (fewer i turn) (a.asked i port there may);
} where
  still : (i : ℕ) (q : Port) → stands_in i s ≡ true → IsOffered i a.moved q ⊎ (IsStillWritten q (p₁ i) × (stands_in i s ≡ false)) → IsOffered i (a.moved ++ b.moved) q
  still i q turn (inl on) = offered_first i a.moved b.moved q on
  still i q turn (inr more) = let wrong : true ≡ false = sym turn ∙ more.1 in absurd cc

  at : (i : ℕ) → stands_in i s ≡ true → IsServed i a.moved (p₁ i) ⊎ (IsStillRead (p₁ i) × (stands_in i s ≡ false)) → IsServed i (a.moved ++ b.moved) (p₂ i)
  at i turn (inl served) = served_first i a.moved b.moved (p₁ i) (p₂ i) (ended i) served
  at i turn (inr still) = let wrong : true ≡ false = sym turn ∙ still.1 in absurd cc

-- ---- one port

-- a link that isn't read any more stays so
pub port_stops : (k : ℕ) (h h' : Hub) (m m' : Moves) (p p' : Port) → ServesPort k h m p h' m' p' → unfed_of (Some p) ≡ None → unfed_of (Some p') ≡ None
port_stops k h h' m m' p p' s over =
    let here : eqb k k ≡ true = eq-eqb k k refl in
    let served = s (λ i. None) in
    let stops : unfed_of (with_port (λ (i : ℕ). None) k (Some p') k) ≡ None = passes_stop (unfed_of (with_port (λ (i : ℕ). None) k (Some p) k)) (unfed_of (with_port (λ (i : ℕ). None) k (Some p') k)) _ _ (served.read k) (ap (λ (b : Bool). unfed_of (cond b (Some p) None)) here ∙ over) in
    ap (λ (b : Bool). unfed_of (cond b (Some p') None)) (sym here) ∙ stops

pub serves_stop : (h h' : Hub) (m m' : Moves) (p p' : Ports) → Serves h m p h' m' p' → (i : ℕ) → unfed_of (p i) ≡ None → unfed_of (p' i) ≡ None
serves_stop h h' m m' p p' s i over = passes_stop (unfed_of (p i)) (unfed_of (p' i)) _ _ (s.read i) over

-- a turn of link k's
pub turn_asks : (k : ℕ) (m m' : Moves) (p p' : Port) (o : Ports) → (unfed_of (Some p) ≡ None → unfed_of (Some p') ≡ None) → TakesTurn k m m' p p' → Asks (k ∷ []) m m' (with_port o k (Some p)) (with_port o k (Some p'))
turn_asks k m m' p p' o stops t = record {
  moved = t.moved;
  went = t.went;
  left = λ i. left_at i (eqb k i) refl (o i);
  ended = λ i. ended_at (eqb k i) (o i);
  offered = λ i port there may. offered_at i (eqb k i) refl (o i) port there may;
  asked = λ i port there may. asked_at i (eqb k i) refl (o i) port there may;
} where
  offered_at : (i : ℕ) (here : Bool) → eqb k i ≡ here → (x : Option Port) (port : Port) → cond here (Some p) x ≡ Some port → may_be_written port ≡ true → IsOffered i t.moved port ⊎ (IsStillWritten port (cond here (Some p') x) × (cond here true false ≡ false))
  offered_at i true is x port there may = let same : p ≡ port = cc in inl (subst (λ (q : Port). IsOffered i t.moved q) same (subst (λ (j : ℕ). IsOffered j t.moved p) (eqb-true k i is) (t.offered (ap may_be_written same ∙ may))))
  offered_at i false is x port there may = inr ((port, (there, (may, refl))), refl)

  left_at : (i : ℕ) (here : Bool) → eqb k i ≡ here → (x : Option Port) → IsLeft i t.moved (left_of (cond here (Some p) x)) (left_of (cond here (Some p') x))
  left_at i true is x = subst (λ (j : ℕ). IsLeft j t.moved p.left p'.left) (eqb-true k i is) t.left
  left_at i false is x = is_left_same i t.moved (left_of x) (t.others i is)

  ended_at : (here : Bool) (x : Option Port) → unfed_of (cond here (Some p) x) ≡ None → unfed_of (cond here (Some p') x) ≡ None
  ended_at true x over = stops over
  ended_at false x over = over

  asked_at : (i : ℕ) (here : Bool) → eqb k i ≡ here → (x : Option Port) (port : Port) → cond here (Some p) x ≡ Some port → may_be_read port ≡ true → IsServed i t.moved (cond here (Some p') x) ⊎ (IsStillRead (cond here (Some p') x) × (cond here true false ≡ false))
  asked_at i true is x port there may = let same : p ≡ port = cc in inl (subst (λ (j : ℕ). IsServed j t.moved (Some p')) (eqb-true k i is) (t.served (ap may_be_read same ∙ may)))
  asked_at i false is x port there may = inr ((port, (there, may)), refl)

pub offer_refuses : (k : ℕ) (m m' : Moves) (p p' : Port) (o : Ports) → OffersPort k m m' p p' → Refuses m m' (with_port o k (Some p)) (with_port o k (Some p'))
offer_refuses k m m' p p' o t = record { moved = t.moved; went = t.went; left = λ i. left_at i (eqb k i) refl (o i) } where
  left_at : (i : ℕ) (here : Bool) → eqb k i ≡ here → (x : Option Port) → IsLeft i t.moved (left_of (cond here (Some p) x)) (left_of (cond here (Some p') x))
  left_at i true is x = subst (λ (j : ℕ). IsLeft j t.moved p.left p'.left) (eqb-true k i is) t.left
  left_at i false is x = is_left_same i t.moved (left_of x) (t.others i is)

both_on : (w l w' l' : Bool) → (w && l) ≡ true → (w ≡ true → w' ≡ true) → l' ≡ l → (w' && l') ≡ true
both_on true true w' l' on writes same = ap (λ (b : Bool). b && l') (writes refl) ∙ same
both_on true false w' l' on writes same = absurd cc
both_on false l w' l' on writes same = absurd cc

-- nothing was asked of link k, whose port may still be read, or isn't read any more
pub quiet_asks : (k : ℕ) (m : Moves) (p p' : Port) (o : Ports) → p'.left ≡ p.left → (p.may_write ≡ true → p'.may_write ≡ true) → (unfed_of (Some p) ≡ None → unfed_of (Some p') ≡ None) → (may_be_read p ≡ true → (may_be_read p' ≡ true) ⊎ (unfed_of (Some p') ≡ None)) → Asks [] m m (with_port o k (Some p)) (with_port o k (Some p'))
quiet_asks k m p p' o same writes stops may = record {
  moved = [];
  went = go_nowhere m;
  left = λ i. left_at i (eqb k i) (o i);
  ended = λ i. ended_at (eqb k i) (o i);
  offered = λ i port there on. offered_at i (eqb k i) (o i) port there on;
  asked = λ i port there on. asked_at i (eqb k i) (o i) port there on;
} where
  written : (port : Port) → p ≡ port → may_be_written port ≡ true → may_be_written p' ≡ true
  written port is on = both_on p.may_write (has_left p.left) p'.may_write (has_left p'.left) (ap may_be_written is ∙ on) writes (ap has_left same)

  offered_at : (i : ℕ) (here : Bool) (x : Option Port) (port : Port) → cond here (Some p) x ≡ Some port → may_be_written port ≡ true → IsOffered i [] port ⊎ (IsStillWritten port (cond here (Some p') x) × (false ≡ false))
  offered_at i true x port there on = let is : p ≡ port = cc in inr ((p', (refl, (written port is on, same ∙ ap (λ (q : Port). q.left) is))), refl)
  offered_at i false x port there on = inr ((port, (there, (on, refl))), refl)

  left_at : (i : ℕ) (here : Bool) (x : Option Port) → IsLeft i [] (left_of (cond here (Some p) x)) (left_of (cond here (Some p') x))
  left_at i true x = subst (λ (y : Option (List ℕ)). IsLeft i [] p.left y) (sym same) (is_left_same i [] p.left (λ n. refl))
  left_at i false x = is_left_same i [] (left_of x) (λ n. refl)

  ended_at : (here : Bool) (x : Option Port) → unfed_of (cond here (Some p) x) ≡ None → unfed_of (cond here (Some p') x) ≡ None
  ended_at true x over = stops over
  ended_at false x over = over

  asked_at : (i : ℕ) (here : Bool) (x : Option Port) (port : Port) → cond here (Some p) x ≡ Some port → may_be_read port ≡ true → IsServed i [] (cond here (Some p') x) ⊎ (IsStillRead (cond here (Some p') x) × (false ≡ false))
  asked_at i true x port there on = let same' : p ≡ port = cc in either (may (ap may_be_read same' ∙ on)) where
    either : (may_be_read p' ≡ true) ⊎ (unfed_of (Some p') ≡ None) → IsServed i [] (Some p') ⊎ (IsStillRead (Some p') × (false ≡ false))
    either (inl on') = inr ((p', (refl, on')), refl)
    either (inr over) = inl (inr (inr over))
  asked_at i false x port there on = inr ((port, (there, on)), refl)

-- ---- a port that is settled

-- link k is closed, for which nothing is left
closed_asks : (k : ℕ) (e : Ending) (m m' : Moves) (p : Port) (o : Ports) → (may_be_written p ≡ true → ⊥) → GoOn m m' (LinkClosed k e ∷ []) → Asks [] m m' (with_port o k (Some p)) (with_port o k None)
closed_asks k e m m' p o none went = record {
  moved = LinkClosed k e ∷ [];
  went = went;
  left = λ i. left_at i (eqb k i) (o i);
  ended = λ i. ended_at (eqb k i) (o i);
  offered = λ i port there on. offered_at i (eqb k i) (o i) port there on;
  asked = λ i port there on. asked_at i (eqb k i) (o i) port there on;
} where
  offered_at : (i : ℕ) (here : Bool) (x : Option Port) (port : Port) → cond here (Some p) x ≡ Some port → may_be_written port ≡ true → IsOffered i (LinkClosed k e ∷ []) port ⊎ (IsStillWritten port (cond here None x) × (false ≡ false))
  offered_at i true x port there on = let is : p ≡ port = cc in absurd (none (ap may_be_written is ∙ on))
  offered_at i false x port there on = inr ((port, (there, (on, refl))), refl)

  left_at : (i : ℕ) (here : Bool) (x : Option Port) → IsLeft i (LinkClosed k e ∷ []) (left_of (cond here (Some p) x)) (left_of (cond here None x))
  left_at i true x = tt
  left_at i false x = is_left_same i (LinkClosed k e ∷ []) (left_of x) (λ n. refl)

  ended_at : (here : Bool) (x : Option Port) → unfed_of (cond here (Some p) x) ≡ None → unfed_of (cond here None x) ≡ None
  ended_at true x over = refl
  ended_at false x over = over

  asked_at : (i : ℕ) (here : Bool) (x : Option Port) (port : Port) → cond here (Some p) x ≡ Some port → may_be_read port ≡ true → IsServed i (LinkClosed k e ∷ []) (cond here None x) ⊎ (IsStillRead (cond here None x) × (false ≡ false))
  asked_at i true x port there on = inl (inr (inr refl))
  asked_at i false x port there on = inr ((port, (there, on)), refl)

-- nothing is left for a link that is done
pub done_unwritten : (h : Hub) (k : ℕ) (p : Port) → is_done h k p ≡ true → may_be_written p ≡ true → ⊥
done_unwritten h k p done may = at (is_over_at h k) p.left done may where
  none : (b : Bool) → (b && false) ≡ true → ⊥
  none true e = absurd cc
  none false e = absurd cc

  at : (over : Bool) (left : Option (List ℕ)) → (over && has_no_more (untaken_at h k) left) ≡ true → (p.may_write && has_left left) ≡ true → ⊥
  at true None d e = none p.may_write e
  at true (Some []) d e = none p.may_write e
  at true (Some (b ∷ bytes)) d e = absurd cc
  at false left d e = absurd cc

pub settled_asks : (k : ℕ) (t : List ℕ) (h' h'' : Hub) (m m' m'' : Moves) (p p' : Port) (xs ys : Slots) → slice_get xs k ≡ Some (Some p) → Asks t m m' (with_port (port_at xs) k (Some p)) (with_port (port_at xs) k (Some p')) → IsSettled h' m' xs k p' h'' m'' ys → Asks t m m'' (port_at xs) (port_at ys)
settled_asks k t h' h'' m m' m'' p p' xs ys there asks (inl put) =
    subst (λ (w : Moves). Asks t m w (port_at xs) (port_at ys)) (sym put.1)
    (asks_so t m m' (with_port (port_at xs) k (Some p)) (port_at xs) (with_port (port_at xs) k (Some p')) (port_at ys) (λ i. slot_here (Some new_port) xs k (Some p) i there) (λ i. ap (λ (zs : Slots). port_at zs i) put.2 ∙ slot_set (Some new_port) xs k (Some p) (Some p') i there) asks)
settled_asks k t h' h'' m m' m'' p p' xs ys there asks (inr gone) =
    asks_fewer (t ++ []) t m m'' (port_at xs) (port_at ys) (λ i on. stands_both i t [] ∙ ap (λ (b : Bool). b || false) on)
    (asks_both t [] m m' m'' (port_at xs) (with_port (port_at xs) k (Some p')) (port_at ys)
    (asks_so t m m' (with_port (port_at xs) k (Some p)) (port_at xs) (with_port (port_at xs) k (Some p')) (with_port (port_at xs) k (Some p')) (λ i. slot_here (Some new_port) xs k (Some p) i there) (λ i. refl) asks)
    (asks_so [] m' m'' (with_port (port_at xs) k (Some p')) (with_port (port_at xs) k (Some p')) (with_port (port_at xs) k None) (port_at ys) (λ i. refl) (λ i. ap (λ (zs : Slots). port_at zs i) gone.2 ∙ slot_set (Some new_port) xs k (Some p) None i there) (closed_asks k (unwrap_or p'.ending NoMemory) m' m'' p' (port_at xs) (done_unwritten h' k p' gone.0.done) gone.1)))

pub settled_refuses : (k : ℕ) (h' h'' : Hub) (m m' m'' : Moves) (p p' : Port) (xs ys : Slots) → slice_get xs k ≡ Some (Some p) → Refuses m m' (with_port (port_at xs) k (Some p)) (with_port (port_at xs) k (Some p')) → IsSettled h' m' xs k p' h'' m'' ys → Refuses m m'' (port_at xs) (port_at ys)
settled_refuses k h' h'' m m' m'' p p' xs ys there refuses (inl put) =
    subst (λ (w : Moves). Refuses m w (port_at xs) (port_at ys)) (sym put.1)
    (refuses_so m m' (with_port (port_at xs) k (Some p)) (port_at xs) (with_port (port_at xs) k (Some p')) (port_at ys) (λ i. slot_here (Some new_port) xs k (Some p) i there) (λ i. ap (λ (zs : Slots). port_at zs i) put.2 ∙ slot_set (Some new_port) xs k (Some p) (Some p') i there) refuses)
settled_refuses k h' h'' m m' m'' p p' xs ys there refuses (inr gone) =
    let closed = closed_asks k (unwrap_or p'.ending NoMemory) m' m'' p' (port_at xs) (done_unwritten h' k p' gone.0.done) gone.1 in
    refuses_both m m' m'' (port_at xs) (with_port (port_at xs) k (Some p')) (port_at ys)
    (refuses_so m m' (with_port (port_at xs) k (Some p)) (port_at xs) (with_port (port_at xs) k (Some p')) (with_port (port_at xs) k (Some p')) (λ i. slot_here (Some new_port) xs k (Some p) i there) (λ i. refl) refuses)
    (refuses_so m' m'' (with_port (port_at xs) k (Some p')) (with_port (port_at xs) k (Some p')) (with_port (port_at xs) k None) (port_at ys) (λ i. refl) (λ i. ap (λ (zs : Slots). port_at zs i) gone.2 ∙ slot_set (Some new_port) xs k (Some p) None i there) (record { moved = closed.moved; went = closed.went; left = closed.left }))

-- ---- lists of who gets a turn

pub listed_same : (xs ys : List ℕ) → ys ≡ xs → KeepsListed xs ys
listed_same xs ys same i on = ap (λ (zs : List ℕ). stands_in i zs) same ∙ on

pub listed_more : (xs ys : List ℕ) (n : ℕ) → ys ≡ xs ++ n ∷ [] → KeepsListed xs ys
listed_more xs ys n more i on = ap (λ (zs : List ℕ). stands_in i zs) more ∙ stands_both i xs (n ∷ []) ∙ ap (λ (b : Bool). b || stands_in i (n ∷ [])) on

pub listed_so : (k : ℕ) (was is : Bool) (xs ys : List ℕ) → IsListedSo k was xs is ys → KeepsListed xs ys
listed_so k was is xs ys (inl same) = listed_same xs ys same.1
listed_so k was is xs ys (inr more) = listed_more xs ys k more.2

pub listed_both : (xs ys zs : List ℕ) → KeepsListed xs ys → KeepsListed ys zs → KeepsListed xs zs
listed_both xs ys zs a b i on = b i (a i on)

-- number k, whose link has no port, had its turn
pub none_asks : (k : ℕ) (m : Moves) (xs : Slots) → ((port : Port) → slice_get xs k ≡ Some (Some port) → ⊥) → Asks (k ∷ []) m m (port_at xs) (port_at xs)
none_asks k m xs none = asks_gone k [] m m (port_at xs) (port_at xs) (none_quiet k xs may_be_read none refl) (none_quiet k xs may_be_written none refl) (asked_nothing m (port_at xs))

-- ---- accepting

pub same_asks : (m : Moves) (xs ys : Slots) → ys ≡ xs → Asks [] m m (port_at xs) (port_at ys)
same_asks m xs ys same = subst (λ (zs : Slots). Asks [] m m (port_at xs) (port_at zs)) (sym same) (asked_nothing m (port_at xs))

pub same_refuses : (m : Moves) (xs ys : Slots) → ys ≡ xs → Refuses m m (port_at xs) (port_at ys)
same_refuses m xs ys same = subst (λ (zs : Slots). Refuses m m (port_at xs) (port_at zs)) (sym same) (refused_nothing m (port_at xs))

pub nobody_asks : (m m' : Moves) (xs ys : Slots) (kind : ErrorKind) → ys ≡ xs → GoOn m m' (NobodyCame kind ∷ []) → Asks [] m m' (port_at xs) (port_at ys)
nobody_asks m m' xs ys kind same went = subst (λ (zs : Slots). Asks [] m m' (port_at xs) (port_at zs)) (sym same) (asks_none (NobodyCame kind ∷ []) m m' (port_at xs) went (λ i n. refl))

pub opened_asks : (n : ℕ) (m m' : Moves) (xs ys : Slots) → ys ≡ xs ++ Some new_port ∷ [] → GoOn m m' (LinkOpened n ∷ []) → Asks [] m m' (port_at xs) (port_at ys)
opened_asks n m m' xs ys more went =
    subst (λ (zs : Slots). Asks [] m m' (port_at xs) (port_at zs)) (sym more)
    (asks_so [] m m' (port_at xs) (port_at xs) (port_at xs) (port_at (xs ++ Some new_port ∷ [])) (λ i. refl) (λ i. pushed_port xs i) (asks_none (LinkOpened n ∷ []) m m' (port_at xs) went (λ i n'. refl)))

-- ---- turns one after another

-- who had a turn, or is still to have one
pub record Covers (start had rest : List ℕ) : Type 0 where
  pub each : (i : ℕ) → stands_in i start ≡ true → (stands_in i had || stands_in i rest) ≡ true

pub covers_all : (start : List ℕ) → Covers start [] start
covers_all start = record { each = λ i on. on }

reorder : (x y z : Bool) → (x || (y || z)) ≡ true → ((x || z) || y) ≡ true
reorder true y z e = refl
reorder false true true e = refl
reorder false true false e = refl
reorder false false true e = refl
reorder false false false e = absurd cc

pub covers_next : (start had rest rest' : List ℕ) (n : ℕ) → rest ≡ rest' ++ n ∷ [] → Covers start had rest → Covers start (had ++ n ∷ []) rest'
covers_next start had rest rest' n is c = record {
  each = λ i on.
      ap (λ (b : Bool). b || stands_in i rest') (stands_both i had (n ∷ []))
      ∙ reorder (stands_in i had) (stands_in i rest') (stands_in i (n ∷ [])) (ap (λ (b : Bool). stands_in i had || b) (sym (ap (λ (zs : List ℕ). stands_in i zs) is ∙ stands_both i rest' (n ∷ []))) ∙ c.each i on);
}

pub covers_over : (start had rest : List ℕ) → rest ≡ [] → Covers start had rest → KeepsListed start had
covers_over start had rest none c i on = or_false (stands_in i had) (ap (λ (zs : List ℕ). stands_in i had || stands_in i zs) (sym none) ∙ c.each i on) where
  or_false : (b : Bool) → (b || false) ≡ true → b ≡ true
  or_false true f = refl
  or_false false f = absurd cc

-- ---- what became ready

noted : (heard readable full all more ended : Bool) → (heard && (readable && (full && all))) ≡ true → (heard && ((readable || more || ended) && (full && all))) ≡ true
noted true true true true more ended e = refl
noted true true true false more ended e = absurd cc
noted true true false all more ended e = absurd cc
noted true false full all more ended e = absurd cc
noted false readable full all more ended e = absurd cc

pub noted_may : (p p' : Port) (more writable ended : Bool) → p' ≡ record p { may_read = p.may_read || more || ended; may_write = p.may_write || writable } → may_be_read p ≡ true → may_be_read p' ≡ true
noted_may p p' more writable ended is may = ap may_be_read is ∙ noted (is_none p.ending) p.may_read (not p.is_full) (is_all p.left) more ended may

pub noted_write : (p p' : Port) (more writable ended : Bool) → p' ≡ record p { may_read = p.may_read || more || ended; may_write = p.may_write || writable } → p.may_write ≡ true → p'.may_write ≡ true
noted_write p p' more writable ended is on = ap (λ (q : Port). q.may_write) is ∙ ap (λ (b : Bool). b || writable) on
