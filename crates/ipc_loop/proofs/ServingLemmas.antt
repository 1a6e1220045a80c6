-- What serving brings, one piece after another.
use Rattle.std.proofs.Common.{◌≡◌, ◌⊎◌, inl, inr, ◌&&◌, ℕ, zero, suc, ◌<◌, ◌≤◌, length, arith, Bool, true, false, ◌||◌, eqb, cond, List, [], ◌∷◌, ◌++◌, take, drop, Option, Some, None, refl, sym, ap, subst, ◌∙◌, append_assoc}
use Rattle.std.specs.Prelude.{is_none, is_some, unwrap_or, Result, Ok, Err, IfOk, OnOk, OnErr}
use Rattle.std.specs.declared.io.ErrorKind.{ErrorKind}
use Rattle.std.proofs.lemmas.List.{append-nil}
use Rattle.ipc_terms.specs.declared.call.Answer.{Answer}
use Rattle.ipc_hub.specs.Hub.{Hub, with_connection, IsGone, Feeds, HangsUp, Takes, Names, Ticks, Forgets, is_over_at, untaken_at, spell_answers}
use Rattle.ipc_hub.proofs.GoneLemmas.{stays_gone}
use Rattle.std.proofs.lemmas.Bool.{eqb-true, eq-eqb}
use Rattle.ipc_hub.specs.Laws.{Call, Opened, TookPiece, HungUp, Gave, Named, Ticked, Forgot, Makes, MakesAll, stream_of, output_of}
use Rattle.ipc_loop.specs.declared.ending.Ending.{Ending}
use Rattle.ipc_loop.specs.declared.ending.Ending.TheVariants as ending
use Rattle.ipc_hub.specs.declared.fed.Fed.{Fed}
use Rattle.ipc_hub.specs.declared.fed.Fed.TheVariants.{Done, Short, Full, Over}
use Rattle.ipc_hub.specs.declared.fed.End.TheVariants as end
use Rattle.ipc_hub.specs.declared.fed.HubFault.{HubFault}
use Rattle.ipc_loop.specs.Moves.{Moved, LinkOpened, LinkGave, LinkClosed, NobodyCame, GaveNothing, GoOn, Adds, read_of, written_of, comes_to_its_end, opened_in, closed_as, is_fault, fails_to_give, fails_to_take}
use Rattle.ipc_loop.specs.Ports.{Port, port_at, with_port, left_of, unfed_of}
use Rattle.ipc_loop.specs.Serving.{PassesOn, ServesOpening, Serves, ServesPort, Offers, Writes, FeedsPort, KeepsPortMarks, LetsGo, HasWhy, DropsForAReason, is_shown, may_drop, why_of, has_no_more, ends_at_a_feed, ends_connection, is_fed_so}
use Rattle.ipc_loop.proofs.MoveLemmas.{stream_both, output_both, read_both, written_both, end_both, over_both, opened_both, go_both, go_nowhere, makes_both, adds_nothing, adds_read, adds_piece, adds_refused_read, failed_here, waited_here, give_both, take_both, first_of, closed_both, is_end, same_here, bytes_here}
use Rattle.ipc_loop.proofs.OwingLemmas.{marks_keep, same_keep, takes_spelled}
use Rattle.ipc_loop.proofs.ClosingLemmas.{gives_nothing}
use Rattle.ipc_loop.proofs.WhyLemmas.{whys_both, why_same, why_closed, why_shut, why_once, why_drops, why_ends, why_cuts, why_stays, why_more, drops_same, drops_cut, first_none, first_some}
use Rattle.ipc_loop.proofs.PassingLemmas.{passes_nothing, passes_end, passes_part, passes_away, passes_whole, passes_both, passes_stop}

abbrev pub Ports : Type 0
Ports = ℕ → Option Port

abbrev pub Moves : Type 0
Moves = Option (List Moved)

not_there : (x : Option Port) → why_of x ≡ None → x ≡ None
not_there None e = refl
not_there (Some p) e = absurd cc

undropped : (x : Option Port) (left : List ℕ) → left_of x ≡ Some left → DropsForAReason x
undropped None left e = tt
undropped (Some p) left e = λ none. let wrong : None ≡ Some left = sym none ∙ e in absurd cc

pub opening_both : (n₀ n₁ : List ℕ) (h₀ h₁ h₂ : Hub) (m₀ m₁ m₂ : Moves) (p₀ p₁ p₂ : Ports) → ServesOpening n₀ h₀ m₀ p₀ h₁ m₁ p₁ → ServesOpening n₁ h₁ m₁ p₁ h₂ m₂ p₂ → ServesOpening (n₀ ++ n₁) h₀ m₀ p₀ h₂ m₂ p₂
opening_both n₀ n₁ h₀ h₁ h₂ m₀ m₁ m₂ p₀ p₁ p₂ a b = record {
  calls = a.calls ++ b.calls;
  moved = a.moved ++ b.moved;
  made = makes_both a.calls b.calls h₀ h₁ h₂ a.made b.made;
  went = go_both m₀ m₁ m₂ a.moved b.moved a.went b.went;
  opens = opened_both a.moved b.moved ∙ ap (λ (t : List ℕ). t ++ opened_in b.moved) a.opens ∙ ap (λ (t : List ℕ). n₀ ++ t) b.opens;
  read = λ i.
      subst (λ (t : List ℕ). PassesOn (unfed_of (p₀ i)) t (stream_of i (a.calls ++ b.calls)) (unfed_of (p₂ i))) (sym (read_both i a.moved b.moved))
      (subst (λ (t : List ℕ). PassesOn (unfed_of (p₀ i)) (read_of i a.moved ++ read_of i b.moved) t (unfed_of (p₂ i))) (sym (stream_both i a.calls b.calls))
      (passes_both (unfed_of (p₀ i)) (unfed_of (p₁ i)) (unfed_of (p₂ i)) _ _ _ _ (a.read i) (b.read i)));
  written = λ i.
      subst (λ (t : List ℕ). PassesOn (left_of (p₀ i)) t (written_of i (a.moved ++ b.moved)) (left_of (p₂ i))) (sym (output_both i a.calls b.calls))
      (subst (λ (t : List ℕ). PassesOn (left_of (p₀ i)) (output_of i a.calls ++ output_of i b.calls) t (left_of (p₂ i))) (sym (written_both i a.moved b.moved))
      (passes_both (left_of (p₀ i)) (left_of (p₁ i)) (left_of (p₂ i)) _ _ _ _ (a.written i) (b.written i)));
  unread = λ i e. read_both i a.moved b.moved ∙ ap (λ (t : List ℕ). t ++ read_of i b.moved) (a.unread i e) ∙ b.unread i (passes_stop (unfed_of (p₀ i)) (unfed_of (p₁ i)) _ _ (a.read i) e);
  ended = λ i e. either i (comes_to_its_end i a.moved) refl (sym (end_both i a.moved b.moved) ∙ e);
  over = λ i e. fault i (ends_at_a_feed i a.calls) refl (sym (over_both i a.calls b.calls) ∙ e);
  fails = λ i e. failed i (fails_to_give i a.moved) refl (sym (give_both i a.moved b.moved) ∙ e);
  refuses = λ i e. refused i (fails_to_take i a.moved) refl (sym (take_both i a.moved b.moved) ∙ e);
  why = λ i. whys_both i a.calls b.calls a.moved b.moved (why_of (p₀ i)) (why_of (p₁ i)) (why_of (p₂ i)) (a.why i) (b.why i);
  drops = λ i d. b.drops i (a.drops i d);
  closes = λ i e left is had. closes_at i e left had (closed_as i a.moved) refl (sym (closed_both i a.moved b.moved) ∙ is);
  closed = λ i left. b.closed i (a.closed i left);
} where
  -- of two moments, in which link i may be closed; all that it was to take then
  all_took : (i : ℕ) (left : List ℕ) → written_of i a.moved ++ written_of i b.moved ≡ left ++ (output_of i a.calls ++ output_of i b.calls) → written_of i (a.moved ++ b.moved) ≡ left ++ output_of i (a.calls ++ b.calls)
  all_took i left e = written_both i a.moved b.moved ∙ e ∙ ap (λ (t : List ℕ). left ++ t) (sym (output_both i a.calls b.calls))

  first_closed : (i : ℕ) (e : Ending) (left : List ℕ) → left_of (p₀ i) ≡ Some left → closed_as i a.moved ≡ Some e → (may_drop e ≡ true) ⊎ (written_of i a.moved ≡ left ++ output_of i a.calls) → (may_drop e ≡ true) ⊎ (written_of i (a.moved ++ b.moved) ≡ left ++ output_of i (a.calls ++ b.calls))
  first_closed i e left had is (inl drops) = inl drops
  first_closed i e left had is (inr took) =
      let shut : p₁ i ≡ None = not_there (p₁ i) (why_shut (is_shown i a.calls a.moved) (why_of (p₀ i)) (why_of (p₁ i)) (closed_as i a.moved) e (a.why i) is) in
      let gone : IsGone h₁ i = a.closed i (λ none. let wrong : None ≡ Some left = sym (ap left_of none) ∙ had in absurd cc) shut in
      let more : (written_of i b.moved ≡ []) × (left_of (p₂ i) ≡ None) = subst (λ (x : Option (List ℕ)). PassesOn x (output_of i b.calls) (written_of i b.moved) (left_of (p₂ i))) (ap left_of shut) (b.written i) in
      inr (all_took i left (ap (λ (t : List ℕ). written_of i a.moved ++ t) more.0 ∙ append-nil (written_of i a.moved) ∙ took ∙ ap (λ (t : List ℕ). left ++ t) (sym (append-nil (output_of i a.calls))) ∙ ap (λ (t : List ℕ). left ++ (output_of i a.calls ++ t)) (sym (gives_nothing b.calls h₁ h₂ i b.made gone))))

  then_closed : (i : ℕ) (e : Ending) (left : List ℕ) → left_of (p₀ i) ≡ Some left → closed_as i b.moved ≡ Some e → (x : Option Port) → p₁ i ≡ x → (may_drop e ≡ true) ⊎ (written_of i (a.moved ++ b.moved) ≡ left ++ output_of i (a.calls ++ b.calls))
  then_closed i e left had is None there = absurd (why_once (is_shown i b.calls b.moved) (why_of (p₂ i)) (closed_as i b.moved) e (subst (λ (x : Option Port). HasWhy (is_shown i b.calls b.moved) (why_of x) (closed_as i b.moved) (why_of (p₂ i))) there (b.why i)) is)
  then_closed i e left had is (Some p) there = at p.left refl where
    at : (rest : Option (List ℕ)) → p.left ≡ rest → (may_drop e ≡ true) ⊎ (written_of i (a.moved ++ b.moved) ≡ left ++ output_of i (a.calls ++ b.calls))
    at None cut =
        let why : (f : Ending) × ((p.ending ≡ Some f) × (may_drop f ≡ true)) = subst (λ (x : Option Port). DropsForAReason x) there (a.drops i (undropped (p₀ i) left had)) cut in
        inl (why_drops (is_shown i b.calls b.moved) (why_of (p₂ i)) (closed_as i b.moved) why.0 e (subst (λ (x : Option Ending). HasWhy (is_shown i b.calls b.moved) (Some x) (closed_as i b.moved) (why_of (p₂ i))) why.1.0 (subst (λ (x : Option Port). HasWhy (is_shown i b.calls b.moved) (why_of x) (closed_as i b.moved) (why_of (p₂ i))) there (b.why i))) is why.1.1)
    at (Some rest) more = last (b.closes i e rest is (ap left_of there ∙ more)) where
      last : (may_drop e ≡ true) ⊎ (written_of i b.moved ≡ rest ++ output_of i b.calls) → (may_drop e ≡ true) ⊎ (written_of i (a.moved ++ b.moved) ≡ left ++ output_of i (a.calls ++ b.calls))
      last (inl drops) = inl drops
      last (inr took) =
          let passed : left ++ output_of i a.calls ≡ written_of i a.moved ++ rest = subst (λ (x : Option (List ℕ)). PassesOn (Some left) (output_of i a.calls) (written_of i a.moved) x) (ap left_of there ∙ more) (subst (λ (x : Option (List ℕ)). PassesOn x (output_of i a.calls) (written_of i a.moved) (left_of (p₁ i))) had (a.written i)) in
          inr (all_took i left (ap (λ (t : List ℕ). written_of i a.moved ++ t) took ∙ sym (append_assoc (written_of i a.moved) rest (output_of i b.calls)) ∙ ap (λ (t : List ℕ). t ++ output_of i b.calls) (sym passed) ∙ append_assoc left (output_of i a.calls) (output_of i b.calls)))

  closes_at : (i : ℕ) (e : Ending) (left : List ℕ) → left_of (p₀ i) ≡ Some left → (c : Option Ending) → closed_as i a.moved ≡ c → first_of (closed_as i a.moved) (closed_as i b.moved) ≡ Some e → (may_drop e ≡ true) ⊎ (written_of i (a.moved ++ b.moved) ≡ left ++ output_of i (a.calls ++ b.calls))
  closes_at i e left had None is all = then_closed i e left had (sym (first_none (closed_as i a.moved) (closed_as i b.moved) is) ∙ all) (p₁ i) refl
  closes_at i e left had (Some f) is all =
      let same : closed_as i a.moved ≡ Some e = is ∙ sym (first_some (closed_as i a.moved) (closed_as i b.moved) f is) ∙ all in
      first_closed i e left had same (a.closes i e left same had)

  either : (i : ℕ) (x : Bool) → comes_to_its_end i a.moved ≡ x → (x || comes_to_its_end i b.moved) ≡ true → unfed_of (p₂ i) ≡ None
  either i true f e = passes_stop (unfed_of (p₁ i)) (unfed_of (p₂ i)) _ _ (b.read i) (a.ended i f)
  either i false f e = b.ended i e

  fault : (i : ℕ) (x : Bool) → ends_at_a_feed i a.calls ≡ x → (x || ends_at_a_feed i b.calls) ≡ true → unfed_of (p₂ i) ≡ None
  fault i true f e = passes_stop (unfed_of (p₁ i)) (unfed_of (p₂ i)) _ _ (b.read i) (a.over i f)
  fault i false f e = b.over i e

  failed : (i : ℕ) (x : Bool) → fails_to_give i a.moved ≡ x → (x || fails_to_give i b.moved) ≡ true → unfed_of (p₂ i) ≡ None
  failed i true f e = passes_stop (unfed_of (p₁ i)) (unfed_of (p₂ i)) _ _ (b.read i) (a.fails i f)
  failed i false f e = b.fails i e

  refused : (i : ℕ) (x : Bool) → fails_to_take i a.moved ≡ x → (x || fails_to_take i b.moved) ≡ true → left_of (p₂ i) ≡ None
  refused i true f e = passes_stop (left_of (p₁ i)) (left_of (p₂ i)) _ _ (b.written i) (a.refuses i f)
  refused i false f e = b.refuses i e

pub serves_both : (h₀ h₁ h₂ : Hub) (m₀ m₁ m₂ : Moves) (p₀ p₁ p₂ : Ports) → Serves h₀ m₀ p₀ h₁ m₁ p₁ → Serves h₁ m₁ p₁ h₂ m₂ p₂ → Serves h₀ m₀ p₀ h₂ m₂ p₂
serves_both h₀ h₁ h₂ m₀ m₁ m₂ p₀ p₁ p₂ a b = opening_both [] [] h₀ h₁ h₂ m₀ m₁ m₂ p₀ p₁ p₂ a b

-- the same, where the ports are told in another way
pub opening_so : (n : List ℕ) (h h' : Hub) (m m' : Moves) (p q p' q' : Ports) → ((i : ℕ) → q i ≡ p i) → ((i : ℕ) → q' i ≡ p' i) → ServesOpening n h m p h' m' p' → ServesOpening n h m q h' m' q'
opening_so n h h' m m' p q p' q' before later a = record {
  calls = a.calls;
  moved = a.moved;
  made = a.made;
  went = a.went;
  opens = a.opens;
  read = λ i. subst (λ (x : Option Port). PassesOn (unfed_of x) (read_of i a.moved) (stream_of i a.calls) (unfed_of (q' i))) (sym (before i)) (subst (λ (x : Option Port). PassesOn (unfed_of (p i)) (read_of i a.moved) (stream_of i a.calls) (unfed_of x)) (sym (later i)) (a.read i));
  written = λ i. subst (λ (x : Option Port). PassesOn (left_of x) (output_of i a.calls) (written_of i a.moved) (left_of (q' i))) (sym (before i)) (subst (λ (x : Option Port). PassesOn (left_of (p i)) (output_of i a.calls) (written_of i a.moved) (left_of x)) (sym (later i)) (a.written i));
  unread = λ i e. a.unread i (ap unfed_of (sym (before i)) ∙ e);
  ended = λ i e. ap unfed_of (later i) ∙ a.ended i e;
  over = λ i e. ap unfed_of (later i) ∙ a.over i e;
  fails = λ i e. ap unfed_of (later i) ∙ a.fails i e;
  refuses = λ i e. ap left_of (later i) ∙ a.refuses i e;
  why = λ i. subst (λ (x : Option Port). HasWhy (is_shown i a.calls a.moved) (why_of x) (closed_as i a.moved) (why_of (q' i))) (sym (before i)) (subst (λ (x : Option Port). HasWhy (is_shown i a.calls a.moved) (why_of (p i)) (closed_as i a.moved) (why_of x)) (sym (later i)) (a.why i));
  drops = λ i d. subst (λ (x : Option Port). DropsForAReason x) (sym (later i)) (a.drops i (subst (λ (x : Option Port). DropsForAReason x) (before i) d));
  closes = λ i e left is had. a.closes i e left is (ap left_of (sym (before i)) ∙ had);
  closed = λ i left none. a.closed i (λ e. left (before i ∙ e)) (sym (later i) ∙ none);
}

pub serves_so : (h h' : Hub) (m m' : Moves) (p q p' q' : Ports) → ((i : ℕ) → q i ≡ p i) → ((i : ℕ) → q' i ≡ p' i) → Serves h m p h' m' p' → Serves h m q h' m' q'
serves_so h h' m m' p q p' q' before later a = opening_so [] h h' m m' p q p' q' before later a

-- ---- one port

abbrev pub unfed_with : Option Ending → Option (List ℕ)
unfed_with ending = cond (is_none ending) (Some []) None

pub port_both : (k : ℕ) (h₀ h₁ h₂ : Hub) (m₀ m₁ m₂ : Moves) (p₀ p₁ p₂ : Port) → ServesPort k h₀ m₀ p₀ h₁ m₁ p₁ → ServesPort k h₁ m₁ p₁ h₂ m₂ p₂ → ServesPort k h₀ m₀ p₀ h₂ m₂ p₂
port_both k h₀ h₁ h₂ m₀ m₁ m₂ p₀ p₁ p₂ a b others = serves_both h₀ h₁ h₂ m₀ m₁ m₂ (with_port others k (Some p₀)) (with_port others k (Some p₁)) (with_port others k (Some p₂)) (a others) (b others)

-- the same, where moves and ports are told in another way
pub port_so : (k : ℕ) (h h' : Hub) (m m' n' : Moves) (p p' q' : Port) → n' ≡ m' → q' ≡ p' → ServesPort k h m p h' m' p' → ServesPort k h m p h' n' q'
port_so k h h' m m' n' p p' q' moved same s = subst (λ (x : Port). ServesPort k h m p h' n' x) (sym same) (subst (λ (w : Moves). ServesPort k h m p h' w p') (sym moved) s)

-- the hub made these calls, and link k moved so
pub serve_port : (k : ℕ) (h h' : Hub) (m m' : Moves) (p p' : Port) (calls : List Call) (gave fed out took : List ℕ) (ended over : Bool)
    → MakesAll calls h h' → (adds : Adds m m' k gave took ended)
    → ((i : ℕ) → stream_of i calls ≡ cond (eqb k i) fed []) → ((i : ℕ) → output_of i calls ≡ cond (eqb k i) out []) → ((i : ℕ) → ends_at_a_feed i calls ≡ cond (eqb k i) over false)
    → PassesOn (unfed_of (Some p)) gave fed (unfed_of (Some p')) → PassesOn p.left out took p'.left
    → (unfed_of (Some p) ≡ None → gave ≡ []) → (ended ≡ true → unfed_of (Some p') ≡ None) → (over ≡ true → unfed_of (Some p') ≡ None)
    → (fails_to_give k adds.moved ≡ true → unfed_of (Some p') ≡ None) → (fails_to_take k adds.moved ≡ true → p'.left ≡ None)
    → HasWhy (is_shown k calls adds.moved) (Some p.ending) None (Some p'.ending) → (DropsForAReason (Some p) → DropsForAReason (Some p'))
    → ServesPort k h m p h' m' p'
serve_port k h h' m m' p p' calls gave fed out took ended over made adds stream output ends passes writes quiet stops faults fails refuses why drops others = record {
  calls = calls;
  moved = adds.moved;
  made = made;
  went = adds.went;
  opens = adds.opened;
  read = λ i. read_at (eqb k i) (others i) _ _ (adds.read i) (stream i);
  written = λ i. written_at (eqb k i) (others i) _ _ (output i) (adds.written i);
  unread = λ i e. adds.read i ∙ unread_at (eqb k i) (others i) e;
  ended = λ i e. ended_at (eqb k i) (others i) (sym (adds.end i) ∙ e);
  over = λ i e. over_at (eqb k i) (others i) (sym (ends i) ∙ e);
  fails = λ i e. fails_at i (eqb k i) refl (others i) e;
  refuses = λ i e. refuses_at i (eqb k i) refl (others i) e;
  why = λ i. why_at i (eqb k i) refl (others i);
  drops = λ i. drops_at (eqb k i) (others i);
  closes = λ i e left is had. let wrong : None ≡ Some e = sym (adds.closed i) ∙ is in absurd cc;
  closed = λ i left. closed_at i (eqb k i) (others i) left;
} where
  why_at : (i : ℕ) (here : Bool) → eqb k i ≡ here → (o : Option Port) → HasWhy (is_shown i calls adds.moved) (why_of (cond here (Some p) o)) (closed_as i adds.moved) (why_of (cond here (Some p') o))
  why_at i true is o = subst (λ (c : Option Ending). HasWhy (is_shown i calls adds.moved) (Some p.ending) c (Some p'.ending)) (sym (adds.closed i)) (subst (λ (j : ℕ). HasWhy (is_shown j calls adds.moved) (Some p.ending) None (Some p'.ending)) (eqb-true k i is) why)
  why_at i false is o = why_same (is_shown i calls adds.moved) (why_of o) (closed_as i adds.moved) (adds.closed i)

  drops_at : (here : Bool) (o : Option Port) → DropsForAReason (cond here (Some p) o) → DropsForAReason (cond here (Some p') o)
  drops_at true o d = drops d
  drops_at false o d = d

  closed_at : (i : ℕ) (here : Bool) (o : Option Port) → (cond here (Some p) o ≡ None → IsGone h i) → cond here (Some p') o ≡ None → IsGone h' i
  closed_at i true o left none = absurd cc
  closed_at i false o left none = stays_gone calls h h' i made (left none)

  read_at : (here : Bool) (o : Option Port) (x s : List ℕ) → x ≡ cond here gave [] → s ≡ cond here fed [] → PassesOn (unfed_of (cond here (Some p) o)) x s (unfed_of (cond here (Some p') o))
  read_at true o x s e f = subst (λ (t : List ℕ). PassesOn (unfed_of (Some p)) t s (unfed_of (Some p'))) (sym e) (subst (λ (t : List ℕ). PassesOn (unfed_of (Some p)) gave t (unfed_of (Some p'))) (sym f) passes)
  read_at false o x s e f = subst (λ (t : List ℕ). PassesOn (unfed_of o) t s (unfed_of o)) (sym e) (subst (λ (t : List ℕ). PassesOn (unfed_of o) [] t (unfed_of o)) (sym f) (passes_nothing (unfed_of o)))

  written_at : (here : Bool) (o : Option Port) (x s : List ℕ) → x ≡ cond here out [] → s ≡ cond here took [] → PassesOn (left_of (cond here (Some p) o)) x s (left_of (cond here (Some p') o))
  written_at true o x s e f = subst (λ (t : List ℕ). PassesOn p.left t s p'.left) (sym e) (subst (λ (t : List ℕ). PassesOn p.left out t p'.left) (sym f) writes)
  written_at false o x s e f = subst (λ (t : List ℕ). PassesOn (left_of o) t s (left_of o)) (sym e) (subst (λ (t : List ℕ). PassesOn (left_of o) [] t (left_of o)) (sym f) (passes_nothing (left_of o)))

  unread_at : (here : Bool) (o : Option Port) → unfed_of (cond here (Some p) o) ≡ None → cond here gave [] ≡ []
  unread_at true o e = quiet e
  unread_at false o e = refl

  ended_at : (here : Bool) (o : Option Port) → cond here ended false ≡ true → unfed_of (cond here (Some p') o) ≡ None
  ended_at true o e = stops e
  ended_at false o e = absurd cc

  fails_at : (i : ℕ) (here : Bool) → eqb k i ≡ here → (o : Option Port) → fails_to_give i adds.moved ≡ true → unfed_of (cond here (Some p') o) ≡ None
  fails_at i true is o e = fails (ap (λ (j : ℕ). fails_to_give j adds.moved) (eqb-true k i is) ∙ e)
  fails_at i false is o e = let wrong : false ≡ true = sym (adds.fails i is) ∙ e in absurd cc

  refuses_at : (i : ℕ) (here : Bool) → eqb k i ≡ here → (o : Option Port) → fails_to_take i adds.moved ≡ true → left_of (cond here (Some p') o) ≡ None
  refuses_at i true is o e = refuses (ap (λ (j : ℕ). fails_to_take j adds.moved) (eqb-true k i is) ∙ e)
  refuses_at i false is o e = let wrong : false ≡ true = sym (adds.refuses i is) ∙ e in absurd cc

  over_at : (here : Bool) (o : Option Port) → cond here over false ≡ true → unfed_of (cond here (Some p') o) ≡ None
  over_at true o e = faults e
  over_at false o e = absurd cc

-- why the link isn't read any more says what becomes of what it gave
why_unfed : (shown : Ending → Bool) (x y : Option Ending) → HasWhy shown (Some x) None (Some y) → PassesOn (unfed_with x) [] [] (unfed_with y)
why_unfed shown None None why = refl
why_unfed shown None (Some e) why = passes_end (Some [])
why_unfed shown (Some e) None (f, (stands, inl here)) = absurd cc
why_unfed shown (Some e) None (f, (stands, inr gone)) = absurd cc
why_unfed shown (Some e) (Some f) why = (refl, refl)

-- the hub did nothing, and the port wrote
pub writes_serve : (k : ℕ) (h : Hub) (m m' : Moves) (p p' : Port) → Writes k m m' p [] p' → ServesPort k h m p h m' p'
writes_serve k h m m' p p' w = serve_port k h h m m' p p' [] [] [] [] w.took false false refl w.added (λ i. same_here (eqb k i) []) (λ i. same_here (eqb k i) []) (λ i. same_here (eqb k i) false) (why_unfed _ p.ending p'.ending w.why) w.left (λ e. refl) (λ e. absurd cc) (λ e. absurd cc) w.fails w.refuses w.why w.drops

-- the link was offered what was left, and took so much; or the write failed
pub offered_writes : (k : ℕ) (m m' : Moves) (p p' : Port) (left : List ℕ) (n : ℕ) → Offers k m m' left (Some n) → p.left ≡ Some left → p'.left ≡ Some (drop n left) → p'.ending ≡ p.ending → Writes k m m' p [] p'
offered_writes k m m' p p' left n offers was now is = record {
  took = take n left;
  added = offers.added;
  left = subst (λ (x : Option (List ℕ)). PassesOn x [] (take n left) p'.left) (sym was) (subst (λ (x : Option (List ℕ)). PassesOn (Some left) [] (take n left) x) (sym now) (passes_part left n));
  fails = λ e. (let wrong : false ≡ true = sym offers.unasked ∙ e in absurd cc);
  refuses = λ e. (let wrong : false ≡ true = sym (offers.took n refl) ∙ e in absurd cc);
  why = why_stays (is_shown k [] offers.added.moved) p.ending p'.ending is;
  drops = λ d none. let wrong : Some (drop n left) ≡ None = sym now ∙ none in absurd cc;
}

pub cut_writes : (k : ℕ) (m m' : Moves) (p p' : Port) (left : List ℕ) → Offers k m m' left None → p'.left ≡ None → p'.ending ≡ Some ending.WriteFailed → Writes k m m' p [] p'
cut_writes k m m' p p' left offers now is = record {
  took = [];
  added = offers.added;
  left = subst (λ (x : Option (List ℕ)). PassesOn p.left [] [] x) (sym now) (passes_end p.left);
  fails = λ e. (let wrong : false ≡ true = sym offers.unasked ∙ e in absurd cc);
  refuses = λ e. now;
  why = why_cuts (is_shown k [] offers.added.moved) p.ending p'.ending ending.WriteFailed is refl (offers.failed refl);
  drops = drops_cut p p' ending.WriteFailed is refl;
}

-- nothing was written either
pub rests_serve : (k : ℕ) (h : Hub) (m m' : Moves) (p p' : Port) → (adds : Adds m m' k [] [] false) → p'.left ≡ p.left → (fails_to_give k adds.moved ≡ true → unfed_of (Some p') ≡ None) → fails_to_take k adds.moved ≡ false → HasWhy (is_shown k [] adds.moved) (Some p.ending) None (Some p'.ending) → ServesPort k h m p h m' p'
rests_serve k h m m' p p' adds same fails takes why = writes_serve k h m m' p p' (record { took = []; added = adds; fails = fails; refuses = λ e. (let wrong : false ≡ true = sym takes ∙ e in absurd cc); left = subst (λ (x : Option (List ℕ)). PassesOn p.left [] [] x) (sym same) (passes_nothing p.left); why = why; drops = drops_same (is_shown k [] adds.moved) p p' same why })

-- what shows without the call that gave bytes shows with it
shown_gave : (k : ℕ) (bytes : List ℕ) (moved : List Moved) (e : Ending) → is_shown k [] moved e ≡ true → is_shown k (Gave k bytes ∷ []) moved e ≡ true
shown_gave k bytes moved ending.Closed on = on
shown_gave k bytes moved ending.ReadFailed on = on
shown_gave k bytes moved ending.WriteFailed on = on
shown_gave k bytes moved (ending.Wire fault) on = on
shown_gave k bytes moved ending.BadKey on = on
shown_gave k bytes moved ending.NoMemory on = on
shown_gave k bytes moved ending.TooMuchUnfinished on = on

-- the hub gave what the port was to write
pub gave_serve : (k : ℕ) (h h' : Hub) (m m' : Moves) (p p' : Port) (bytes : List ℕ) → Takes h k bytes h' → Writes k m m' p bytes p' → ServesPort k h m p h' m' p'
gave_serve k h h' m m' p p' bytes takes w = serve_port k h h' m m' p p' (Gave k bytes ∷ []) [] [] bytes w.took false false (h', (takes, refl)) w.added (λ i. same_here (eqb k i) []) (λ i. bytes_here (eqb k i) bytes) (λ i. same_here (eqb k i) false) (why_unfed _ p.ending p'.ending w.why) w.left (λ e. refl) (λ e. absurd cc) (λ e. absurd cc) w.fails w.refuses
    (why_more (is_shown k [] w.added.moved) (is_shown k (Gave k bytes ∷ []) w.added.moved) (Some p.ending) (Some p'.ending) None (shown_gave k bytes w.added.moved) w.why) w.drops

pub is_heard : (p : Port) → p.ending ≡ None → unfed_of (Some p) ≡ Some []
is_heard p e = rw e refl

-- what shows without moves shows with them
shown_moved : (k : ℕ) (calls : List Call) (moved : List Moved) (e : Ending) → is_shown k calls [] e ≡ true → is_shown k calls moved e ≡ true
shown_moved k calls moved ending.Closed on = absurd cc
shown_moved k calls moved ending.ReadFailed on = absurd cc
shown_moved k calls moved ending.WriteFailed on = absurd cc
shown_moved k calls moved (ending.Wire fault) on = on
shown_moved k calls moved ending.BadKey on = on
shown_moved k calls moved ending.NoMemory on = on
shown_moved k calls moved ending.TooMuchUnfinished on = on

-- a piece that the link gave, if any, was fed
pub feeds_serve : (k : ℕ) (h h' : Hub) (m m' : Moves) (p p' : Port) (piece : List ℕ) → p.ending ≡ None → (adds : Adds m m' k piece [] false) → fails_to_give k adds.moved ≡ false → fails_to_take k adds.moved ≡ false → FeedsPort k h p piece h' p' → ServesPort k h m p h' m' p'
feeds_serve k h h' m m' p p' piece on adds gives takes f =
    serve_port k h h' m m' p p' f.calls piece f.fed [] [] false f.over f.made adds f.stream (λ i. f.output i ∙ same_here (eqb k i) []) f.ends f.passes
    (subst (λ (x : Option (List ℕ)). PassesOn p.left [] [] x) (sym f.left) (passes_nothing p.left))
    (λ e. let wrong : Some [] ≡ None = sym (is_heard p on) ∙ e in absurd cc) (λ e. absurd cc) f.stops (λ e. let wrong : false ≡ true = sym gives ∙ e in absurd cc) (λ e. let wrong : false ≡ true = sym takes ∙ e in absurd cc)
    (why_more (is_shown k f.calls []) (is_shown k f.calls adds.moved) (Some p.ending) (Some p'.ending) None (shown_moved k f.calls adds.moved) f.why)
    (drops_same (is_shown k f.calls []) p p' f.left f.why)

-- the connection was hung up
pub hung_serve : (k : ℕ) (h h' : Hub) (m : Moves) (p p' : Port) → HangsUp h k h' → p'.left ≡ p.left → p'.ending ≡ p.ending → ServesPort k h m p h' m p'
hung_serve k h h' m p p' hung left is =
    let why = why_stays (is_shown k (HungUp k ∷ []) []) p.ending p'.ending is in
    serve_port k h h' m m p p' (HungUp k ∷ []) [] [] [] [] false false (h', (hung, refl)) (adds_nothing m m k (go_nowhere m)) (λ i. same_here (eqb k i) []) (λ i. same_here (eqb k i) []) (λ i. same_here (eqb k i) false)
    (why_unfed _ p.ending p'.ending why)
    (subst (λ (x : Option (List ℕ)). PassesOn p.left [] [] x) (sym left) (passes_nothing p.left)) (λ e. refl) (λ e. absurd cc) (λ e. absurd cc) (λ e. absurd cc) (λ e. absurd cc) why (drops_same (is_shown k (HungUp k ∷ []) []) p p' left why)

-- what is left of the stream of a link that is read is nothing
only_nothing : (p : Port) (left : List ℕ) → unfed_of (Some p) ≡ Some left → left ≡ []
only_nothing p left e = at (is_none p.ending) e where
  at : (b : Bool) → cond b (Some []) None ≡ Some left → left ≡ []
  at true f = cc
  at false f = absurd cc

pub is_ended : (p : Port) → is_some p.ending ≡ true → unfed_of (Some p) ≡ None
is_ended p e = at p.ending e where
  at : (x : Option Ending) → is_some x ≡ true → unfed_with x ≡ None
  at None f = absurd cc
  at (Some ending) f = refl

feed_here : (k i : ℕ) (piece : List ℕ) (fed : Fed) → ends_at_a_feed i (TookPiece k piece fed ∷ []) ≡ cond (eqb k i) (ends_connection fed) false
feed_here k i piece Done = same_here (eqb k i) false
feed_here k i piece Short = same_here (eqb k i) false
feed_here k i piece Full = same_here (eqb k i) false
feed_here k i piece (Over end) = refl

-- why a link isn't read any more shows where its piece was fed
shown_fed : (k : ℕ) (piece : List ℕ) (fed : Fed) (e : Ending) → is_fed_so (Ok fed) e ≡ true → is_shown k (TookPiece k piece fed ∷ []) [] e ≡ true
shown_fed k piece (Over (end.Wire fault)) (ending.Wire fault') on = feed_here k k piece (Over (end.Wire fault)) ∙ ap (λ (b : Bool). cond b true false) (eq-eqb k k refl)
shown_fed k piece (Over end.BadKey) ending.BadKey on = feed_here k k piece (Over end.BadKey) ∙ ap (λ (b : Bool). cond b true false) (eq-eqb k k refl)
shown_fed k piece fed ending.NoMemory on = refl
shown_fed k piece fed ending.TooMuchUnfinished on = refl
shown_fed k piece fed e on = absurd cc

shown_unfed : (k : ℕ) (fault : HubFault) (e : Ending) → is_fed_so (Err fault) e ≡ true → is_shown k [] [] e ≡ true
shown_unfed k fault ending.NoMemory on = refl
shown_unfed k fault ending.TooMuchUnfinished on = refl
shown_unfed k fault e on = absurd cc

why_fed : (shown : Ending → Bool) (before after : Option Ending) → before ≡ None → ((e : Ending) → after ≡ Some e → shown e ≡ true) → HasWhy shown (Some before) None (Some after)
why_fed shown before after on shows = subst (λ (x : Option Ending). HasWhy shown (Some x) None (Some after)) (sym on) (at after refl) where
  at : (x : Option Ending) → after ≡ x → HasWhy shown (Some None) None (Some x)
  at None is = inl (refl, refl)
  at (Some e) is = inr (e, (shows e is, inl (refl, refl)))

-- a piece was fed; or it wasn't, and the link has come to its end
pub fed_port : (k : ℕ) (h h' : Hub) (p p' : Port) (piece : List ℕ) (r : Result Fed HubFault) → p.ending ≡ None → IfOk r (λ fed. Feeds h k piece fed h') → OnErr r (h' ≡ h) → OnErr r (is_some p'.ending ≡ true) → IfOk r (λ fed. ends_connection fed ≡ true → is_some p'.ending ≡ true) → ((e : Ending) → p'.ending ≡ Some e → is_fed_so r e ≡ true) → p'.left ≡ p.left → FeedsPort k h p piece h' p'
fed_port k h h' p p' piece (Ok fed) on ok err end fault why left = record {
  calls = TookPiece k piece fed ∷ [];
  made = (h', (ok, refl));
  fed = piece;
  stream = λ i. bytes_here (eqb k i) piece;
  output = λ i. refl;
  passes = subst (λ (x : Option (List ℕ)). PassesOn x piece piece (unfed_of (Some p'))) (sym (is_heard p on)) (passes_whole piece (unfed_of (Some p')) (only_nothing p'));
  over = ends_connection fed;
  ends = λ i. feed_here k i piece fed;
  stops = λ e. is_ended p' (fault e);
  why = why_fed (is_shown k (TookPiece k piece fed ∷ []) []) p.ending p'.ending on (λ e is. shown_fed k piece fed e (why e is));
  left = left;
}
fed_port k h h' p p' piece (Err error) on ok err end fault why left = record {
  calls = [];
  made = err;
  fed = [];
  stream = λ i. same_here (eqb k i) [];
  output = λ i. refl;
  passes = subst (λ (x : Option (List ℕ)). PassesOn x piece [] (unfed_of (Some p'))) (sym (is_heard p on)) (subst (λ (x : Option (List ℕ)). PassesOn (Some []) piece [] x) (sym (is_ended p' end)) (piece, refl));
  over = false;
  ends = λ i. same_here (eqb k i) false;
  stops = λ e. absurd cc;
  why = why_fed (is_shown k [] []) p.ending p'.ending on (λ e is. shown_unfed k error e (why e is));
  left = left;
}

pub fed_marks : (k : ℕ) (h h' : Hub) (p p' : Port) (piece : List ℕ) (r : Result Fed HubFault) → IfOk r (λ fed. Feeds h k piece fed h') → OnErr r (h' ≡ h) → p'.left ≡ p.left → KeepsPortMarks k h p h' p'
fed_marks k h h' p p' piece (Ok fed) ok err left = marks_keep k h h' p p' ok.marks left
fed_marks k h h' p p' piece (Err fault) ok err left = subst (λ (x : Hub). KeepsPortMarks k h p x p') (sym err) (same_keep k h p p' left)

-- the link gave nothing, which is its end
pub ends_serve : (k : ℕ) (h : Hub) (m m' : Moves) (p p' : Port) → GoOn m m' (LinkGave k [] ∷ []) → p'.left ≡ p.left → p'.ending ≡ Some (unwrap_or p.ending ending.Closed) → ServesPort k h m p h m' p'
ends_serve k h m m' p p' went left is =
    let end : is_some p'.ending ≡ true = ap (λ (x : Option Ending). is_some x) is in
    let why = why_ends (is_shown k [] (LinkGave k [] ∷ [])) p.ending p'.ending ending.Closed is (ap (λ (b : Bool). cond b true false) (eq-eqb k k refl)) in
    serve_port k h h m m' p p' [] [] [] [] [] true false refl (adds_read m m' k [] went) (λ i. same_here (eqb k i) []) (λ i. same_here (eqb k i) []) (λ i. same_here (eqb k i) false)
    (subst (λ (x : Option (List ℕ)). PassesOn (unfed_of (Some p)) [] [] x) (sym (is_ended p' end)) (passes_end (unfed_of (Some p))))
    (subst (λ (x : Option (List ℕ)). PassesOn p.left [] [] x) (sym left) (passes_nothing p.left)) (λ e. refl) (λ e. is_ended p' end) (λ e. absurd cc) (λ e. absurd cc) (λ e. absurd cc) why (drops_same (is_shown k [] (LinkGave k [] ∷ [])) p p' left why)

-- a read failed
pub fails_serve : (k : ℕ) (h : Hub) (m m' : Moves) (p p' : Port) (kind : ErrorKind) → GoOn m m' (GaveNothing k kind ∷ []) → is_fault kind ≡ true → p'.left ≡ p.left → p'.ending ≡ Some (unwrap_or p.ending ending.ReadFailed) → ServesPort k h m p h m' p'
fails_serve k h m m' p p' kind went fault left is = rests_serve k h m m' p p' (adds_refused_read m m' k kind went) left (λ e. is_ended p' (ap (λ (x : Option Ending). is_some x) is)) refl (why_ends (is_shown k [] (GaveNothing k kind ∷ [])) p.ending p'.ending ending.ReadFailed is (failed_here k kind fault))

-- a read would have waited, or a signal came
pub waits_serve : (k : ℕ) (h : Hub) (m m' : Moves) (p p' : Port) (kind : ErrorKind) → GoOn m m' (GaveNothing k kind ∷ []) → is_fault kind ≡ false → p'.left ≡ p.left → p'.ending ≡ p.ending → ServesPort k h m p h m' p'
waits_serve k h m m' p p' kind went other left is = rests_serve k h m m' p p' (adds_refused_read m m' k kind went) left (λ e. let wrong : false ≡ true = sym (waited_here k kind other) ∙ e in absurd cc) refl (why_stays (is_shown k [] (GaveNothing k kind ∷ [])) p.ending p'.ending is)

-- a read gave nothing
pub unread_serve : (k : ℕ) (h : Hub) (m m' : Moves) (p p' : Port) (kind : ErrorKind) → GoOn m m' (GaveNothing k kind ∷ []) → p'.left ≡ p.left → (is_fault kind ≡ true → p'.ending ≡ Some (unwrap_or p.ending ending.ReadFailed)) → (is_fault kind ≡ false → p'.ending ≡ p.ending) → ServesPort k h m p h m' p'
unread_serve k h m m' p p' kind went left fault other = at (is_fault kind) refl where
  at : (b : Bool) → is_fault kind ≡ b → ServesPort k h m p h m' p'
  at true e = fails_serve k h m m' p p' kind went e left (fault e)
  at false e = waits_serve k h m m' p p' kind went e left (other e)

-- nothing was asked of the link, which isn't read any more for a bound or for want of memory
pub bound_serve : (k : ℕ) (h : Hub) (m m' : Moves) (p p' : Port) (e : Ending) → GoOn m m' [] → is_shown k [] [] e ≡ true → p'.left ≡ p.left → p'.ending ≡ Some (unwrap_or p.ending e) → ServesPort k h m p h m' p'
bound_serve k h m m' p p' e went on left is = rests_serve k h m m' p p' (adds_nothing m m' k went) left (λ f. absurd cc) refl (why_ends (is_shown k [] []) p.ending p'.ending e is on)

pub stays_serve : (k : ℕ) (h : Hub) (m m' : Moves) (p p' : Port) → GoOn m m' [] → p'.left ≡ p.left → p'.ending ≡ p.ending → ServesPort k h m p h m' p'
stays_serve k h m m' p p' went left is = rests_serve k h m m' p p' (adds_nothing m m' k went) left (λ f. absurd cc) refl (why_stays (is_shown k [] []) p.ending p'.ending is)

-- the link gave a piece, which was fed
pub piece_serve : (k : ℕ) (h h' : Hub) (m m' : Moves) (p p' : Port) (piece : List ℕ) → GoOn m m' (LinkGave k piece ∷ []) → is_end piece ≡ false → p.ending ≡ None → FeedsPort k h p piece h' p' → ServesPort k h m p h' m' p'
piece_serve k h h' m m' p p' piece went more on fed = feeds_serve k h h' m m' p p' piece on (adds_piece m m' k piece went more) refl refl fed

same_last : (xs : List Moved) (x y : Moved) → xs ++ x ∷ [] ≡ xs ++ y ∷ [] → x ≡ y
same_last [] x y e = cc
same_last (z ∷ zs) x y e = let tails : zs ++ x ∷ [] ≡ zs ++ y ∷ [] = cc in same_last zs x y tails

-- a read that would wait gave nothing
pub waits_gave_none : (k : ℕ) (m m' : Moves) (kind : ErrorKind) → GoOn m m' (GaveNothing k kind ∷ []) → (before : List Moved) (byte : ℕ) (bytes : List ℕ) → m ≡ Some before → m' ≡ Some (before ++ LinkGave k (byte ∷ bytes) ∷ []) → ⊥
waits_gave_none k m m' kind went before byte bytes was now =
    let other : before ++ LinkGave k (byte ∷ bytes) ∷ [] ≡ before ++ GaveNothing k kind ∷ [] = subst (λ (x : Moves). GoOn (Some before) x (GaveNothing k kind ∷ [])) now (subst (λ (x : Moves). GoOn x m' (GaveNothing k kind ∷ [])) was went) in
    let wrong : LinkGave k (byte ∷ bytes) ≡ GaveNothing k kind = same_last before (LinkGave k (byte ∷ bytes)) (GaveNothing k kind) other in
    absurd cc

pub marks_refed : (k : ℕ) (h h' : Hub) (p q p' : Port) → q.left ≡ p.left → KeepsPortMarks k h q h' p' → KeepsPortMarks k h p h' p'
marks_refed k h h' p q p' left keeps others i owed = keeps others i (same_keep k h p q left others i owed)

pub hang_port : (k : ℕ) (h h' : Hub) (p p' : Port) (r : Result Unit HubFault) → OnOk r (HangsUp h k h') → OnErr r (h' ≡ h) → p'.left ≡ p.left → p'.ending ≡ p.ending → (m : Moves) → ServesPort k h m p h' m p'
hang_port k h h' p p' (Ok u) ok err left ending m = hung_serve k h h' m p p' ok left ending
hang_port k h h' p p' (Err fault) ok err left ending m = subst (λ (x : Hub). ServesPort k h m p x m p') (sym err) (stays_serve k h m m p p' (go_nowhere m) left ending)

pub hang_marks : (k : ℕ) (h h' : Hub) (p p' : Port) (r : Result Unit HubFault) → OnOk r (HangsUp h k h') → OnErr r (h' ≡ h) → p'.left ≡ p.left → KeepsPortMarks k h p h' p'
hang_marks k h h' p p' (Ok u) ok err left = marks_keep k h h' p p' ok.marks left
hang_marks k h h' p p' (Err fault) ok err left = subst (λ (x : Hub). KeepsPortMarks k h p x p') (sym err) (same_keep k h p p' left)

-- ---- the hub alone

-- it made a call that neither takes nor gives bytes
pub call_serves : (call : Call) (h h' : Hub) (m : Moves) (p : Ports) → Makes call h h' → ((i : ℕ) → stream_of i (call ∷ []) ≡ []) → ((i : ℕ) → output_of i (call ∷ []) ≡ []) → ((i : ℕ) → ends_at_a_feed i (call ∷ []) ≡ false) → Serves h m p h' m p
call_serves call h h' m p made stream output goes_on = record {
  calls = call ∷ [];
  moved = [];
  made = (h', (made, refl));
  went = go_nowhere m;
  opens = refl;
  read = λ i. subst (λ (t : List ℕ). PassesOn (unfed_of (p i)) [] t (unfed_of (p i))) (sym (stream i)) (passes_nothing (unfed_of (p i)));
  written = λ i. subst (λ (t : List ℕ). PassesOn (left_of (p i)) t [] (left_of (p i))) (sym (output i)) (passes_nothing (left_of (p i)));
  unread = λ i e. refl;
  ended = λ i e. absurd cc;
  over = λ i e. let wrong : false ≡ true = sym (goes_on i) ∙ e in absurd cc;
  fails = λ i e. absurd cc;
  refuses = λ i e. absurd cc;
  why = λ i. why_same _ (why_of (p i)) None refl;
  drops = λ i d. d;
  closes = λ i e left is had. absurd cc;
  closed = λ i left none. stays_gone (call ∷ []) h h' i (h', (made, refl)) (left none);
}

-- the hub did nothing, and links neither gave nor took anything
nothing_passed : (opened : List ℕ) (moved : List Moved) (h : Hub) (m m' : Moves) (p : Ports) → GoOn m m' moved → opened_in moved ≡ opened → ((i : ℕ) → read_of i moved ≡ []) → ((i : ℕ) → written_of i moved ≡ []) → ((i : ℕ) → comes_to_its_end i moved ≡ false) → ((i : ℕ) → closed_as i moved ≡ None) → ((i : ℕ) → fails_to_give i moved ≡ false) → ((i : ℕ) → fails_to_take i moved ≡ false) → ServesOpening opened h m p h m' p
nothing_passed opened moved h m m' p went opens gave took ended closed gives takes = record {
  calls = [];
  moved = moved;
  made = refl;
  went = went;
  opens = opens;
  read = λ i. subst (λ (came : List ℕ). PassesOn (unfed_of (p i)) came [] (unfed_of (p i))) (sym (gave i)) (passes_nothing (unfed_of (p i)));
  written = λ i. subst (λ (passed : List ℕ). PassesOn (left_of (p i)) [] passed (left_of (p i))) (sym (took i)) (passes_nothing (left_of (p i)));
  unread = λ i e. gave i;
  ended = λ i e. (let wrong : false ≡ true = sym (ended i) ∙ e in absurd cc);
  over = λ i e. absurd cc;
  fails = λ i e. (let wrong : false ≡ true = sym (gives i) ∙ e in absurd cc);
  refuses = λ i e. (let wrong : false ≡ true = sym (takes i) ∙ e in absurd cc);
  why = λ i. why_same _ (why_of (p i)) (closed_as i moved) (closed i);
  drops = λ i d. d;
  closes = λ i e left is had. (let wrong : None ≡ Some e = sym (closed i) ∙ is in absurd cc);
  closed = λ i left. left;
}

pub went_nowhere : (h : Hub) (m m' : Moves) (p : Ports) → GoOn m m' [] → Serves h m p h m' p
went_nowhere h m m' p went = nothing_passed [] [] h m m' p went refl (λ i. refl) (λ i. refl) (λ i. refl) (λ i. refl) (λ i. refl) (λ i. refl)

-- nobody came
pub nobody_serves : (h : Hub) (m m' : Moves) (p : Ports) (kind : ErrorKind) → GoOn m m' (NobodyCame kind ∷ []) → Serves h m p h m' p
nobody_serves h m m' p kind went = nothing_passed [] (NobodyCame kind ∷ []) h m m' p went refl (λ i. refl) (λ i. refl) (λ i. refl) (λ i. refl) (λ i. refl) (λ i. refl)

-- link k is opened
pub link_opened : (k : ℕ) (h : Hub) (m m' : Moves) (p : Ports) → GoOn m m' (LinkOpened k ∷ []) → ServesOpening (k ∷ []) h m p h m' p
link_opened k h m m' p went = nothing_passed (k ∷ []) (LinkOpened k ∷ []) h m m' p went refl (λ i. refl) (λ i. refl) (λ i. refl) (λ i. refl) (λ i. refl) (λ i. refl)

pub served_nothing : (h : Hub) (m : Moves) (p : Ports) → Serves h m p h m p
served_nothing h m p = went_nowhere h m m p (go_nowhere m)

pub ticked_serves : (moment : ℕ) (h h' : Hub) (m : Moves) (p : Ports) → Ticks h moment h' → Serves h m p h' m p
ticked_serves moment h h' m p made = call_serves (Ticked moment) h h' m p made (λ i. refl) (λ i. refl) (λ i. refl)

pub forgot_serves : (h h' : Hub) (m : Moves) (p : Ports) → Forgets h h' → Serves h m p h' m p
forgot_serves h h' m p made = call_serves Forgot h h' m p made (λ i. refl) (λ i. refl) (λ i. refl)

pub opened_serves : (h h' : Hub) (m : Moves) (p : Ports) → h' ≡ with_connection h → Serves h m p h' m p
opened_serves h h' m p made = call_serves Opened h h' m p made (λ i. refl) (λ i. refl) (λ i. refl)

pub named_serves : (k : ℕ) (h h' : Hub) (m : Moves) (p : Ports) → Names h k h' → Serves h m p h' m p
named_serves k h h' m p made = call_serves (Named k) h h' m p made (λ i. refl) (λ i. refl) (λ i. refl)

-- what is done has nothing left, and nothing untaken, unless it is cut
and_second : (x y : Bool) → (x && y) ≡ true → y ≡ true
and_second true y e = e
and_second false y e = absurd cc

none_of : (xs : List Answer) → length xs ≡ 0 → xs ≡ []
none_of [] e = refl
none_of (x ∷ xs) e = absurd cc

nothing_more : (untaken : List Answer) (left : List ℕ) → has_no_more untaken (Some left) ≡ true → (untaken ≡ []) × (left ≡ [])
nothing_more untaken [] e = (none_of untaken (eqb-true (length untaken) 0 e), refl)
nothing_more untaken (byte ∷ left) e = absurd cc

-- link k is closed and told why, and what its connection gave is dropped
pub closed_serves : (k : ℕ) (h h' : Hub) (m m' : Moves) (o : Ports) (p : Port) → LetsGo h k p h' → GoOn m m' (LinkClosed k (unwrap_or p.ending ending.NoMemory) ∷ []) → Serves h m (with_port o k (Some p)) h' m' (with_port o k None)
closed_serves k h h' m m' o p lets went = record {
  calls = Gave k lets.bytes ∷ [];
  moved = LinkClosed k (unwrap_or p.ending ending.NoMemory) ∷ [];
  made = (h', (lets.dropped, refl));
  went = went;
  opens = refl;
  read = λ i. read_at (eqb k i) (o i);
  written = λ i. written_at (eqb k i) (o i);
  unread = λ i e. refl;
  ended = λ i e. absurd cc;
  over = λ i e. absurd cc;
  fails = λ i e. absurd cc;
  refuses = λ i e. absurd cc;
  why = λ i. why_at i (eqb k i) (o i);
  drops = λ i. drops_at (eqb k i) (o i);
  closes = λ i e left is had. closes_at (eqb k i) (o i) e left is had;
  closed = λ i left. closed_at i (eqb k i) refl (o i) left;
} where
  read_at : (here : Bool) (x : Option Port) → PassesOn (unfed_of (cond here (Some p) x)) [] [] (unfed_of (cond here None x))
  read_at true x = passes_end (unfed_of (Some p))
  read_at false x = passes_nothing (unfed_of x)

  written_at : (here : Bool) (x : Option Port) → PassesOn (left_of (cond here (Some p) x)) (cond here (lets.bytes ++ []) []) [] (left_of (cond here None x))
  written_at true x = passes_away p.left (lets.bytes ++ [])
  written_at false x = passes_nothing (left_of x)

  shown : ℕ → Ending → Bool
  shown i e = is_shown i (Gave k lets.bytes ∷ []) (LinkClosed k (unwrap_or p.ending ending.NoMemory) ∷ []) e

  why_at : (i : ℕ) (here : Bool) (x : Option Port) → HasWhy (shown i) (why_of (cond here (Some p) x)) (cond here (Some (unwrap_or p.ending ending.NoMemory)) None) (why_of (cond here None x))
  why_at i true x = why_closed (shown i) p.ending refl
  why_at i false x = why_same (shown i) (why_of x) None refl

  drops_at : (here : Bool) (x : Option Port) → DropsForAReason (cond here (Some p) x) → DropsForAReason (cond here None x)
  drops_at true x d = tt
  drops_at false x d = d

  closes_at : (here : Bool) (x : Option Port) (e : Ending) (left : List ℕ) → cond here (Some (unwrap_or p.ending ending.NoMemory)) None ≡ Some e → left_of (cond here (Some p) x) ≡ Some left → (may_drop e ≡ true) ⊎ ([] ≡ left ++ cond here (lets.bytes ++ []) [])
  closes_at true x e left is had =
      let none = nothing_more (untaken_at h k) left (subst (λ (y : Option (List ℕ)). has_no_more (untaken_at h k) y ≡ true) had (and_second (is_over_at h k) (has_no_more (untaken_at h k) p.left) lets.done)) in
      let spelled : Some [] ≡ Some lets.bytes = sym (ap (λ (xs : List Answer). spell_answers xs) none.0) ∙ takes_spelled h h' k lets.bytes lets.dropped in
      let gave : lets.bytes ≡ [] = cc in
      inr (sym (ap (λ (t : List ℕ). t ++ (lets.bytes ++ [])) none.1 ∙ ap (λ (t : List ℕ). t ++ []) gave))
  closes_at false x e left is had = absurd cc

  closed_at : (i : ℕ) (here : Bool) → eqb k i ≡ here → (x : Option Port) → (cond here (Some p) x ≡ None → IsGone h i) → cond here None x ≡ None → IsGone h' i
  closed_at i true is x left none = subst (λ (j : ℕ). IsGone h' j) (eqb-true k i is) lets.gone
  closed_at i false is x left none = stays_gone (Gave k lets.bytes ∷ []) h h' i (h', (lets.dropped, refl)) (left none)

-- the same moves, told in another way
pub moved_so : (h h' : Hub) (m m' n n' : Moves) (p p' : Ports) → m ≡ n → n' ≡ m' → Serves h m p h' m' p' → Serves h n p h' n' p'
moved_so h h' m m' n n' p p' before later s = subst (λ (w : Moves). Serves h w p h' n' p') before (subst (λ (w : Moves). Serves h m p h' w p') (sym later) s)

-- ---- ports that stay

pub not_some : (x : Option Ending) → false ≡ is_some x → x ≡ None
not_some None e = refl
not_some (Some ending) e = absurd cc

pub not_end : (n : ℕ) (xs : List ℕ) → 0 < n → n ≤ length xs → is_end (take n xs) ≡ false
not_end n [] some within = absurd (omega arith)
not_end zero (x ∷ xs) some within = absurd (omega arith)
not_end (suc n) (x ∷ xs) some within = refl

pub same_serves : (h : Hub) (m : Moves) (xs ys : List (Option Port)) → ys ≡ xs → Serves h m (port_at xs) h m (port_at ys)
same_serves h m xs ys same = subst (λ (zs : List (Option Port)). Serves h m (port_at xs) h m (port_at zs)) (sym same) (served_nothing h m (port_at xs))
