-- What a link is offered and asked for in a turn.
use Rattle.std.proofs.Common.{◌≡◌, inl, inr, ℕ, zero, suc, ◌≤◌, ◌<◌, ◌+◌, ◌-◌, arith, Bool, true, false, not, ◌||◌, ◌&&◌, eqb, leb, cond, List, [], ◌∷◌, ◌++◌, length, take, drop, Option, Some, None, refl, sym, ap, subst, ◌∙◌}
use Rattle.std.specs.Prelude.{is_none, is_some}
use Rattle.std.proofs.lemmas.Bool.{eqb-true, eq-eqb, leb-true, leb-false}
use Rattle.std.specs.declared.io.ErrorKind.{ErrorKind}
use Rattle.ipc_hub.specs.Hub.{Hub}
use Rattle.ipc_loop.specs.declared.ending.Ending.{Ending}
use Rattle.ipc_loop.specs.Moves.{Moved, LinkGave, LinkTook, GaveNothing, TookNothing, GoOn, is_fault, is_asked, is_offered, left_by}
use Rattle.ipc_loop.specs.Ports.{Port, with_port, left_of, unfed_of, is_all}
use Rattle.ipc_loop.specs.Serving.{ServesPort, Offers}
use Rattle.ipc_loop.specs.Asking.{IsLeft, HasLeft, OffersNothing, how_many_left, has_left, may_be_read, may_be_written, IsServed, IsOffered, TakesTurn, OffersPort, Reads, Flushes, FlushesAll, KeepsAllButLeft}
use Rattle.ipc_loop.proofs.MoveLemmas.{go_both, go_nowhere, adds_write, adds_refused_write, refused_here, untaken_here}
use Rattle.ipc_loop.proofs.PassingLemmas.{passes_stop}
use Rattle.ipc_loop.proofs.ServingLemmas.{is_ended}
use Rattle.ipc_loop.proofs.AskingLemmas.{left_both, asked_both, offered_both, offered_first, is_left_both}

abbrev Moves : Type 0
Moves = Option (List Moved)

-- ---- one offer

parts : (bytes : List ℕ) (count : ℕ) → count ≤ length bytes → length (take count bytes) + (length bytes - count) ≡ length bytes
parts [] zero le = refl
parts [] (suc count) le = absurd (omega arith)
parts (b ∷ bytes) zero le = omega arith
parts (b ∷ bytes) (suc count) le = let rest : length (take count bytes) + (length bytes - count) ≡ length bytes = parts bytes count (omega arith) in omega arith

le_true : (n m : ℕ) → n ≤ m → leb n m ≡ true
le_true n m le = at (leb n m) refl where
  at : (b : Bool) → leb n m ≡ b → b ≡ true
  at true e = refl
  at false e = absurd (omega (arith, leb-false n m e))

here_so : (k : ℕ) (b : Bool) → b ≡ true → ((cond (eqb k k) b false) || false) ≡ true
here_so k b e = ap (λ (h : Bool). cond h b false || false) (eq-eqb k k refl) ∙ ap (λ (x : Bool). x || false) e

pub took_offers : (k : ℕ) (m m' : Moves) (bytes : List ℕ) (count : ℕ) → count ≤ length bytes → GoOn m m' (LinkTook k (take count bytes) (length bytes - count) ∷ []) → Offers k m m' bytes (Some count)
took_offers k m m' bytes count le went = record {
  added = adds_write m m' k (take count bytes) (length bytes - count) went;
  failed = λ e. absurd cc;
  took = λ c is. refl;
  unasked = refl;
  offered = λ n few. here_so k (leb n (length (take count bytes) + (length bytes - count))) (le_true n (length (take count bytes) + (length bytes - count)) (omega (arith, parts bytes count le, few)));
  left = λ c n is. (let same : count ≡ c = cc in ap (λ (h : Bool). cond h (length bytes - count) n) (eq-eqb k k refl) ∙ ap (λ (x : ℕ). length bytes - x) same);
  others = λ i other n. ap (λ (h : Bool). cond h (length bytes - count) n) other;
}

pub refused_offers : (k : ℕ) (m m' : Moves) (bytes : List ℕ) (kind : ErrorKind) → GoOn m m' (TookNothing k (length bytes) kind ∷ []) → is_fault kind ≡ true → Offers k m m' bytes None
refused_offers k m m' bytes kind went fault = record {
  added = adds_refused_write m m' k (length bytes) kind went;
  failed = λ e. refused_here k (length bytes) kind fault;
  took = λ c is. absurd cc;
  unasked = refl;
  offered = λ n few. here_so k (leb n (length bytes)) (le_true n (length bytes) few);
  left = λ c n is. absurd cc;
  others = λ i other n. ap (λ (h : Bool). cond h (length bytes) n) other;
}

pub waited_offers : (k : ℕ) (m m' : Moves) (bytes : List ℕ) (kind : ErrorKind) → GoOn m m' (TookNothing k (length bytes) kind ∷ []) → is_fault kind ≡ false → Offers k m m' bytes (Some 0)
waited_offers k m m' bytes kind went other = record {
  added = adds_refused_write m m' k (length bytes) kind went;
  failed = λ e. absurd cc;
  took = λ c is. untaken_here k (length bytes) kind other;
  unasked = refl;
  offered = λ n few. here_so k (leb n (length bytes)) (le_true n (length bytes) few);
  left = λ c n is. (let same : 0 ≡ c = cc in let none : length bytes ≡ length bytes - 0 = omega arith in ap (λ (h : Bool). cond h (length bytes) n) (eq-eqb k k refl) ∙ none ∙ ap (λ (x : ℕ). length bytes - x) same);
  others = λ i other n. ap (λ (h : Bool). cond h (length bytes) n) other;
}

-- ---- a flush

pub flushes_none : (k : ℕ) (m : Moves) (p : Port) → ((b : ℕ) (bytes : List ℕ) → p.left ≡ Some (b ∷ bytes) → p.may_write ≡ false) → Flushes k m m p p
flushes_none k m p idle = record { moved = []; went = go_nowhere m; others = λ i other n. refl; cut = λ e. e; offered = at } where
  at : (left : List ℕ) → p.left ≡ Some left → FlushesAll k [] left p p
  at [] is = (refl, refl)
  at (b ∷ bytes) is = inl (idle b bytes is, (refl, refl))

left_after : (k : ℕ) (moved : List Moved) (bytes : List ℕ) (count n : ℕ) (left : Option (List ℕ)) → left ≡ Some (drop count bytes) → left_by k n moved ≡ length bytes - count → HasLeft k n moved left
left_after k moved bytes count n left is by = subst (λ (x : Option (List ℕ)). HasLeft k n moved x) (sym is) (dropped bytes count ∙ sym by) where
  dropped : (xs : List ℕ) (c : ℕ) → length (drop c xs) ≡ length xs - c
  dropped [] zero = refl
  dropped [] (suc c) = omega arith
  dropped (x ∷ xs) zero = omega arith
  dropped (x ∷ xs) (suc c) = let rest : length (drop c xs) ≡ length xs - c = dropped xs c in omega arith

pub flushes_some : (k : ℕ) (m m' : Moves) (p p' : Port) (b : ℕ) (bytes : List ℕ) (count : ℕ) → Offers k m m' (b ∷ bytes) (Some count) → p.left ≡ Some (b ∷ bytes) → p'.left ≡ Some (drop count (b ∷ bytes)) → Flushes k m m' p p'
flushes_some k m m' p p' b bytes count o was now = record {
  moved = o.added.moved;
  went = o.added.went;
  others = o.others;
  cut = λ e. let wrong : None ≡ Some (b ∷ bytes) = sym e ∙ was in absurd cc;
  offered = λ left is. (let same : b ∷ bytes ≡ left = cc in subst (λ (xs : List ℕ). FlushesAll k o.added.moved xs p p') same (inr (o.offered, λ n. left_after k o.added.moved (b ∷ bytes) count n p'.left now (o.left count n refl))));
}

pub flushes_cut : (k : ℕ) (m m' : Moves) (p p' : Port) (b : ℕ) (bytes : List ℕ) → Offers k m m' (b ∷ bytes) None → p.left ≡ Some (b ∷ bytes) → p'.left ≡ None → Flushes k m m' p p'
flushes_cut k m m' p p' b bytes o was now = record {
  moved = o.added.moved;
  went = o.added.went;
  others = o.others;
  cut = λ e. now;
  offered = λ left is. (let same : b ∷ bytes ≡ left = cc in subst (λ (xs : List ℕ). FlushesAll k o.added.moved xs p p') same (inr (o.offered, λ n. subst (λ (x : Option (List ℕ)). HasLeft k n o.added.moved x) (sym now) tt)));
}

left_is : (k n : ℕ) (moved : List Moved) (left : List ℕ) (left' : Option (List ℕ)) → n ≡ length left → HasLeft k n moved left' → IsLeft k moved (Some left) left'
left_is k n moved left None e h = tt
left_is k n moved left (Some left') e h = h ∙ ap (λ (x : ℕ). left_by k x moved) e

flush_left : (k : ℕ) (m m' : Moves) (p p' : Port) (f : Flushes k m m' p p') → IsLeft k f.moved p.left p'.left
flush_left k m m' p p' f = at p.left refl where
  at : (x : Option (List ℕ)) → p.left ≡ x → IsLeft k f.moved x p'.left
  at None e = subst (λ (y : Option (List ℕ)). IsLeft k f.moved None y) (sym (f.cut e)) tt
  at (Some []) e =
      let none = f.offered [] e in
      let same : p'.left ≡ Some [] = ap (λ (q : Port). q.left) none.1 ∙ e in
      subst (λ (y : Option (List ℕ)). IsLeft k f.moved (Some []) y) (sym same) (subst (λ (ms : List Moved). 0 ≡ left_by k 0 ms) (sym none.0) refl)
  at (Some (b ∷ bytes)) e = more (f.offered (b ∷ bytes) e) where
    more : FlushesAll k f.moved (b ∷ bytes) p p' → IsLeft k f.moved (Some (b ∷ bytes)) p'.left
    more (inl idle) =
        let same : p'.left ≡ Some (b ∷ bytes) = ap (λ (q : Port). q.left) idle.1.1 ∙ e in
        subst (λ (y : Option (List ℕ)). IsLeft k f.moved (Some (b ∷ bytes)) y) (sym same) (subst (λ (ms : List Moved). length (b ∷ bytes) ≡ left_by k (length (b ∷ bytes)) ms) (sym idle.1.0) refl)
    more (inr all) = left_is k (length (b ∷ bytes)) f.moved (b ∷ bytes) p'.left refl (all.1 (length (b ∷ bytes)))

all_is : (left : Option (List ℕ)) → is_all left ≡ true → left ≡ Some []
all_is None e = absurd cc
all_is (Some []) e = refl
all_is (Some (b ∷ bytes)) e = absurd cc

-- what may be read has nothing left
record IsReadable (p : Port) : Type 0 where
  heard : p.ending ≡ None
  readable : p.may_read ≡ true
  stepped : p.is_full ≡ false
  written : p.left ≡ Some []

readable_of : (p : Port) → may_be_read p ≡ true → IsReadable p
readable_of p may = record {
  heard = none_of p.ending (first (is_none p.ending) _ may);
  readable = first p.may_read _ (second (is_none p.ending) _ may);
  stepped = off p.is_full (first (not p.is_full) _ (second p.may_read _ (second (is_none p.ending) _ may)));
  written = all_is p.left (second (not p.is_full) _ (second p.may_read _ (second (is_none p.ending) _ may)));
} where
  first : (x y : Bool) → (x && y) ≡ true → x ≡ true
  first true y e = refl
  first false y e = absurd cc

  second : (x y : Bool) → (x && y) ≡ true → y ≡ true
  second true y e = e
  second false y e = absurd cc

  none_of : (x : Option Ending) → is_none x ≡ true → x ≡ None
  none_of None e = refl
  none_of (Some e') e = absurd cc

  off : (x : Bool) → not x ≡ true → x ≡ false
  off true e = absurd cc
  off false e = refl

-- ---- a turn, and answers

-- what was left is offered, where it may be
flush_offered : (k : ℕ) (m m' : Moves) (p p' : Port) (f : Flushes k m m' p p') → may_be_written p ≡ true → IsOffered k f.moved p
flush_offered k m m' p p' f may = at p.may_write p.left refl refl may where
  at : (w : Bool) (x : Option (List ℕ)) → p.may_write ≡ w → p.left ≡ x → (w && has_left x) ≡ true → is_offered k (how_many_left p.left) f.moved ≡ true
  at false x w is on = absurd cc
  at true None w is on = absurd cc
  at true (Some []) w is on = absurd cc
  at true (Some (b ∷ bytes)) w is on = ap (λ (y : Option (List ℕ)). is_offered k (how_many_left y) f.moved) is ∙ more (f.offered (b ∷ bytes) is) where
    more : FlushesAll k f.moved (b ∷ bytes) p p' → is_offered k (length (b ∷ bytes)) f.moved ≡ true
    more (inl idle) = let wrong : true ≡ false = sym w ∙ idle.0 in absurd cc
    more (inr all) = all.0 (length (b ∷ bytes)) (omega arith)

-- bytes are left behind the first flush
pub flush_turn : (k : ℕ) (m m' : Moves) (p p' : Port) → Flushes k m m' p p' → is_all p'.left ≡ false → TakesTurn k m m' p p'
flush_turn k m m' p p' f unwritten = record {
  moved = f.moved;
  went = f.went;
  others = f.others;
  left = flush_left k m m' p p' f;
  offered = flush_offered k m m' p p' f;
  served = λ may. (let r = readable_of p may in let none = f.offered [] r.written in let wrong : true ≡ false = sym (ap is_all (ap (λ (q : Port). q.left) none.1 ∙ r.written)) ∙ unwritten in absurd cc);
}

pub flush_offers : (k : ℕ) (m m' : Moves) (p p' : Port) → Flushes k m m' p p' → OffersPort k m m' p p'
flush_offers k m m' p p' f = record { moved = f.moved; went = f.went; others = f.others; left = flush_left k m m' p p' f }

-- what is taken behind a flush that wrote all, and offered by the next; between, links are asked for more, and offered nothing
record Turn (k : ℕ) (m₀ m₁ m₂ m₃ : Moves) (p p₁ p₂ p₃ p₄ : Port) : Type 0 where
  first : Flushes k m₀ m₁ p p₁
  written : is_all p₁.left ≡ true
  writable : p₁.left ≡ Some [] → p₁.may_write ≡ true
  taken : KeepsAllButLeft p₁ p₂
  same_write : p₂.may_write ≡ p₁.may_write
  reads : Reads k m₁ m₂ p₂
  idle : (left : List ℕ) → p₂.left ≡ Some left → 1048576 ≤ length left → p₃ ≡ p₂
  cut : p₂.left ≡ None → p₃.left ≡ None
  stops : unfed_of (Some p₂) ≡ None → unfed_of (Some p₄) ≡ None
  still_write : p₃.may_write ≡ p₂.may_write
  last : Flushes k m₂ m₃ p₃ p₄

may_write_last : (k : ℕ) (m₀ m₁ m₂ m₃ : Moves) (p p₁ p₂ p₃ p₄ : Port) → Turn k m₀ m₁ m₂ m₃ p p₁ p₂ p₃ p₄ → p₃.may_write ≡ true
may_write_last k m₀ m₁ m₂ m₃ p p₁ p₂ p₃ p₄ t = t.still_write ∙ t.same_write ∙ t.writable (all_is p₁.left t.written)

turn_moved : (k : ℕ) (m₀ m₁ m₂ m₃ : Moves) (p p₁ p₂ p₃ p₄ : Port) → Turn k m₀ m₁ m₂ m₃ p p₁ p₂ p₃ p₄ → List Moved
turn_moved k m₀ m₁ m₂ m₃ p p₁ p₂ p₃ p₄ t = t.first.moved ++ (t.reads.moved ++ t.last.moved)

-- nothing was left before the last flush but what was taken
last_left : (k : ℕ) (m₀ m₁ m₂ m₃ : Moves) (p p₁ p₂ p₃ p₄ : Port) (t : Turn k m₀ m₁ m₂ m₃ p p₁ p₂ p₃ p₄) → IsLeft k (t.reads.moved ++ t.last.moved) (Some []) p₄.left
last_left k m₀ m₁ m₂ m₃ p p₁ p₂ p₃ p₄ t = at p₃.left refl where
  quiet : left_by k 0 t.reads.moved ≡ 0
  quiet = t.reads.none k 0

  none_left : p₄.left ≡ None → IsLeft k (t.reads.moved ++ t.last.moved) (Some []) p₄.left
  none_left e = subst (λ (y : Option (List ℕ)). IsLeft k (t.reads.moved ++ t.last.moved) (Some []) y) (sym e) tt

  at : (x : Option (List ℕ)) → p₃.left ≡ x → IsLeft k (t.reads.moved ++ t.last.moved) (Some []) p₄.left
  at None e = none_left (t.last.cut e)
  at (Some []) e =
      let none = t.last.offered [] e in
      let same : p₄.left ≡ Some [] = ap (λ (q : Port). q.left) none.1 ∙ e in
      subst (λ (y : Option (List ℕ)). IsLeft k (t.reads.moved ++ t.last.moved) (Some []) y) (sym same)
      (sym (left_both k 0 t.reads.moved t.last.moved ∙ ap (λ (ms : List Moved). left_by k (left_by k 0 t.reads.moved) ms) none.0 ∙ quiet))
  at (Some (b ∷ bytes)) e = more (t.last.offered (b ∷ bytes) e) where
    more : FlushesAll k t.last.moved (b ∷ bytes) p₃ p₄ → IsLeft k (t.reads.moved ++ t.last.moved) (Some []) p₄.left
    more (inl idle) = let wrong : true ≡ false = sym (may_write_last k m₀ m₁ m₂ m₃ p p₁ p₂ p₃ p₄ t) ∙ idle.0 in absurd cc
    more (inr all) = left_at p₄.left (all.1 (left_by k 0 t.reads.moved)) where
      left_at : (y : Option (List ℕ)) → HasLeft k (left_by k 0 t.reads.moved) t.last.moved y → IsLeft k (t.reads.moved ++ t.last.moved) (Some []) y
      left_at None h = tt
      left_at (Some left) h = h ∙ sym (left_both k 0 t.reads.moved t.last.moved)

turn_left : (k : ℕ) (m₀ m₁ m₂ m₃ : Moves) (p p₁ p₂ p₃ p₄ : Port) (t : Turn k m₀ m₁ m₂ m₃ p p₁ p₂ p₃ p₄) → IsLeft k (turn_moved k m₀ m₁ m₂ m₃ p p₁ p₂ p₃ p₄ t) p.left p₄.left
unfolding turn_moved
turn_left k m₀ m₁ m₂ m₃ p p₁ p₂ p₃ p₄ t =
    is_left_both k t.first.moved (t.reads.moved ++ t.last.moved) p.left p₁.left p₄.left (flush_left k m₀ m₁ p p₁ t.first)
    (subst (λ (x : Option (List ℕ)). IsLeft k (t.reads.moved ++ t.last.moved) x p₄.left) (sym (all_is p₁.left t.written)) (last_left k m₀ m₁ m₂ m₃ p p₁ p₂ p₃ p₄ t))

none_both : (i : ℕ) (xs ys : List Moved) → OffersNothing i xs → OffersNothing i ys → OffersNothing i (xs ++ ys)
none_both i xs ys f g n = left_both i n xs ys ∙ g (left_by i n xs) ∙ f n

turn_others : (k : ℕ) (m₀ m₁ m₂ m₃ : Moves) (p p₁ p₂ p₃ p₄ : Port) (t : Turn k m₀ m₁ m₂ m₃ p p₁ p₂ p₃ p₄) (i : ℕ) → eqb k i ≡ false → OffersNothing i (turn_moved k m₀ m₁ m₂ m₃ p p₁ p₂ p₃ p₄ t)
unfolding turn_moved
turn_others k m₀ m₁ m₂ m₃ p p₁ p₂ p₃ p₄ t i other = none_both i t.first.moved (t.reads.moved ++ t.last.moved) (t.first.others i other) (none_both i t.reads.moved t.last.moved (t.reads.none i) (t.last.others i other))

in_the_middle : (a b c : Bool) → b ≡ true → (a || (b || c)) ≡ true
in_the_middle true b c e = refl
in_the_middle false true c e = refl
in_the_middle false false c e = absurd cc

at_the_end : (a b c : Bool) → c ≡ true → (a || (b || c)) ≡ true
at_the_end true b c e = refl
at_the_end false true c e = refl
at_the_end false false c e = e

turn_served : (k : ℕ) (m₀ m₁ m₂ m₃ : Moves) (p p₁ p₂ p₃ p₄ : Port) (t : Turn k m₀ m₁ m₂ m₃ p p₁ p₂ p₃ p₄) → may_be_read p ≡ true → IsServed k (turn_moved k m₀ m₁ m₂ m₃ p p₁ p₂ p₃ p₄ t) (Some p₄)
unfolding turn_moved
turn_served k m₀ m₁ m₂ m₃ p p₁ p₂ p₃ p₄ t may = taken_at t.taken where
  r : IsReadable p
  r = readable_of p may

  begun : p₁ ≡ p
  begun = (t.first.offered [] r.written).1

  is_over : is_some p₂.ending ≡ true → IsServed k (t.first.moved ++ (t.reads.moved ++ t.last.moved)) (Some p₄)
  is_over ended = inr (inr (t.stops (is_ended p₂ ended)))

  -- with so much left for it
  open_with : (left : List ℕ) → p₂.left ≡ Some left → p₂.ending ≡ None → p₂.may_read ≡ true → p₂.is_full ≡ false → IsServed k (t.first.moved ++ (t.reads.moved ++ t.last.moved)) (Some p₄)
  open_with left is heard readable stepped = few (leb 1048576 (length left)) refl where
    few : (b : Bool) → leb 1048576 (length left) ≡ b → IsServed k (t.first.moved ++ (t.reads.moved ++ t.last.moved)) (Some p₄)
    few false e =
        let asked : is_asked k t.reads.moved ≡ true = t.reads.asked left heard is (omega (arith, leb-false 1048576 (length left) e)) readable stepped in
        inl (asked_both k t.first.moved (t.reads.moved ++ t.last.moved) ∙ ap (λ (b : Bool). is_asked k t.first.moved || b) (asked_both k t.reads.moved t.last.moved) ∙ in_the_middle (is_asked k t.first.moved) (is_asked k t.reads.moved) (is_asked k t.last.moved) asked)
    few true e = much left is where
      le : 1048576 ≤ length left
      le = omega (arith, leb-true 1048576 (length left) e)

      much : (xs : List ℕ) → p₂.left ≡ Some xs → IsServed k (t.first.moved ++ (t.reads.moved ++ t.last.moved)) (Some p₄)
      much [] is' = let same : left ≡ [] = cc in let none : length left ≡ 0 = ap (λ (ys : List ℕ). length ys) same in absurd (omega (arith, le, none))
      much (b ∷ bytes) is' =
          let same : left ≡ b ∷ bytes = cc in
          let still : p₃.left ≡ Some (b ∷ bytes) = ap (λ (q : Port). q.left) (t.idle left is le) ∙ is' in
          offered (t.last.offered (b ∷ bytes) still) (ap (λ (ys : List ℕ). length ys) same) where
            offered : FlushesAll k t.last.moved (b ∷ bytes) p₃ p₄ → length left ≡ length (b ∷ bytes) → IsServed k (t.first.moved ++ (t.reads.moved ++ t.last.moved)) (Some p₄)
            offered (inl idle) long = let wrong : true ≡ false = sym (may_write_last k m₀ m₁ m₂ m₃ p p₁ p₂ p₃ p₄ t) ∙ idle.0 in absurd cc
            offered (inr all) long =
                let all' : is_offered k 1048576 t.last.moved ≡ true = all.0 1048576 (omega (arith, le, long)) in
                inr (inl (offered_both k 1048576 t.first.moved (t.reads.moved ++ t.last.moved) ∙ ap (λ (b : Bool). is_offered k 1048576 t.first.moved || b) (offered_both k 1048576 t.reads.moved t.last.moved) ∙ at_the_end (is_offered k 1048576 t.first.moved) (is_offered k 1048576 t.reads.moved) (is_offered k 1048576 t.last.moved) all'))

  taken_at : KeepsAllButLeft p₁ p₂ → IsServed k (t.first.moved ++ (t.reads.moved ++ t.last.moved)) (Some p₄)
  taken_at (inl same) =
      let is : p₂ ≡ p = same ∙ begun in
      open_with [] (ap (λ (q : Port). q.left) is ∙ r.written) (ap (λ (q : Port). q.ending) is ∙ r.heard) (ap (λ (q : Port). q.may_read) is ∙ r.readable) (ap (λ (q : Port). q.is_full) is ∙ r.stepped)
  taken_at (inr (inl more)) =
      open_with more.0 (ap (λ (q : Port). q.left) more.1) (ap (λ (q : Port). q.ending) more.1 ∙ ap (λ (q : Port). q.ending) begun ∙ r.heard) (ap (λ (q : Port). q.may_read) more.1 ∙ ap (λ (q : Port). q.may_read) begun ∙ r.readable) (ap (λ (q : Port). q.is_full) more.1 ∙ ap (λ (q : Port). q.is_full) begun ∙ r.stepped)
  taken_at (inr (inr cut)) = is_over cut.1

-- a whole turn
pub whole_turn : (k : ℕ) (m₀ m₁ m₂ m₃ : Moves) (p p₁ p₂ p₃ p₄ : Port) → Flushes k m₀ m₁ p p₁ → is_all p₁.left ≡ true → (p₁.left ≡ Some [] → p₁.may_write ≡ true) → KeepsAllButLeft p₁ p₂ → p₂.may_write ≡ p₁.may_write
    → Reads k m₁ m₂ p₂ → ((left : List ℕ) → p₂.left ≡ Some left → 1048576 ≤ length left → p₃ ≡ p₂) → (p₂.left ≡ None → p₃.left ≡ None) → (unfed_of (Some p₂) ≡ None → unfed_of (Some p₄) ≡ None) → p₃.may_write ≡ p₂.may_write
    → Flushes k m₂ m₃ p₃ p₄ → TakesTurn k m₀ m₃ p p₄
unfolding turn_moved
whole_turn k m₀ m₁ m₂ m₃ p p₁ p₂ p₃ p₄ first written writable taken same_write reads idle cut stops still_write last =
    let t : Turn k m₀ m₁ m₂ m₃ p p₁ p₂ p₃ p₄ = record { first = first; written = written; writable = writable; taken = taken; same_write = same_write; reads = reads; idle = idle; cut = cut; stops = stops; still_write = still_write; last = last } in
    record {
      moved = first.moved ++ (reads.moved ++ last.moved);
      went = go_both m₀ m₁ m₃ first.moved (reads.moved ++ last.moved) first.went (go_both m₁ m₂ m₃ reads.moved last.moved reads.went last.went);
      others = turn_others k m₀ m₁ m₂ m₃ p p₁ p₂ p₃ p₄ t;
      left = turn_left k m₀ m₁ m₂ m₃ p p₁ p₂ p₃ p₄ t;
      offered = λ may. offered_first k first.moved (reads.moved ++ last.moved) p (flush_offered k m₀ m₁ p p₁ first may);
      served = turn_served k m₀ m₁ m₂ m₃ p p₁ p₂ p₃ p₄ t;
    }

-- the same, where no link is asked for more
pub whole_offer : (k : ℕ) (m₀ m₁ m₂ : Moves) (p p₁ p₂ p₃ : Port) → Flushes k m₀ m₁ p p₁ → is_all p₁.left ≡ true → (p₁.left ≡ Some [] → p₁.may_write ≡ true) → p₂.may_write ≡ p₁.may_write → Flushes k m₁ m₂ p₂ p₃ → OffersPort k m₀ m₂ p p₃
whole_offer k m₀ m₁ m₂ p p₁ p₂ p₃ first written writable same_write last = record {
  moved = first.moved ++ last.moved;
  went = go_both m₀ m₁ m₂ first.moved last.moved first.went last.went;
  others = λ i other. none_both i first.moved last.moved (first.others i other) (last.others i other);
  left = is_left_both k first.moved last.moved p.left p₁.left p₃.left (flush_left k m₀ m₁ p p₁ first) (subst (λ (x : Option (List ℕ)). IsLeft k last.moved x p₃.left) (sym (all_is p₁.left written)) (at p₂.left refl));
} where
  at : (x : Option (List ℕ)) → p₂.left ≡ x → IsLeft k last.moved (Some []) p₃.left
  at None e = subst (λ (y : Option (List ℕ)). IsLeft k last.moved (Some []) y) (sym (last.cut e)) tt
  at (Some []) e = subst (λ (y : Option (List ℕ)). IsLeft k last.moved y p₃.left) e (flush_left k m₁ m₂ p₂ p₃ last)
  at (Some (b ∷ bytes)) e = more (last.offered (b ∷ bytes) e) where
    more : FlushesAll k last.moved (b ∷ bytes) p₂ p₃ → IsLeft k last.moved (Some []) p₃.left
    more (inl idle) = let wrong : true ≡ false = sym (same_write ∙ writable (all_is p₁.left written)) ∙ idle.0 in absurd cc
    more (inr all) = left_is k 0 last.moved [] p₃.left refl (all.1 0)

-- the end of a turn, in which no link is offered anything
pub turn_then : (k : ℕ) (m m' : Moves) (p p' p'' : Port) → TakesTurn k m m' p p' → p''.left ≡ p'.left → (unfed_of (Some p') ≡ None → unfed_of (Some p'') ≡ None) → TakesTurn k m m' p p''
turn_then k m m' p p' p'' t left stops = record {
  moved = t.moved;
  went = t.went;
  others = t.others;
  left = subst (λ (x : Option (List ℕ)). IsLeft k t.moved p.left x) (sym left) t.left;
  offered = t.offered;
  served = λ may. at (t.served may);
} where
  at : IsServed k t.moved (Some p') → IsServed k t.moved (Some p'')
  at (inl asked) = inl asked
  at (inr (inl offered)) = inr (inl offered)
  at (inr (inr over)) = inr (inr (stops over))

-- ---- a read

pub gave_reads : (k : ℕ) (m m' : Moves) (p : Port) (bytes : List ℕ) → GoOn m m' (LinkGave k bytes ∷ []) → Reads k m m' p
gave_reads k m m' p bytes went = record { moved = LinkGave k bytes ∷ []; went = went; none = λ i n. refl; asked = λ left heard is few readable stepped. ap (λ (b : Bool). b || false) (eq-eqb k k refl) }

pub refused_reads : (k : ℕ) (m m' : Moves) (p : Port) (kind : ErrorKind) → GoOn m m' (GaveNothing k kind ∷ []) → Reads k m m' p
refused_reads k m m' p kind went = record { moved = GaveNothing k kind ∷ []; went = went; none = λ i n. refl; asked = λ left heard is few readable stepped. ap (λ (b : Bool). b || false) (eq-eqb k k refl) }

-- nothing is read where requests are to be stepped, or nothing may be read, or too much is left
pub no_reads : (k : ℕ) (m : Moves) (p : Port) → ((left : List ℕ) → p.ending ≡ None → p.left ≡ Some left → length left < 1048576 → p.may_read ≡ true → p.is_full ≡ false → ⊥) → Reads k m m p
no_reads k m p never = record { moved = []; went = go_nowhere m; none = λ i n. refl; asked = λ left heard is few readable stepped. absurd (never left heard is few readable stepped) }

-- a port that took what it was answered may be read as it might before
pub reads_after : (k : ℕ) (m m' : Moves) (p p' : Port) → Reads k m m' p' → p ≡ p' → Reads k m m' p
reads_after k m m' p p' r same = subst (λ (q : Port). Reads k m m' q) (sym same) r

pub port_cuts : (k : ℕ) (h h' : Hub) (m m' : Moves) (p p' : Port) → ServesPort k h m p h' m' p' → p.left ≡ None → p'.left ≡ None
port_cuts k h h' m m' p p' s none =
    let here : eqb k k ≡ true = eq-eqb k k refl in
    let served = s (λ i. None) in
    let stops : left_of (with_port (λ (i : ℕ). None) k (Some p') k) ≡ None = passes_stop (left_of (with_port (λ (i : ℕ). None) k (Some p) k)) (left_of (with_port (λ (i : ℕ). None) k (Some p') k)) _ _ (served.written k) (ap (λ (b : Bool). left_of (cond b (Some p) None)) here ∙ none) in
    ap (λ (b : Bool). left_of (cond b (Some p') None)) (sym here) ∙ stops

-- ---- whether a port may be written

or_true : (b : Bool) → (b || true) ≡ true
or_true true = refl
or_true false = refl

pub writable_of : (is_cut : Bool) (left : List ℕ) (may_write : Bool) → (is_cut || (not (eqb (length left) 0) || may_write)) ≡ true → cond is_cut None (Some left) ≡ Some [] → may_write ≡ true
writable_of true left may_write e is = absurd cc
writable_of false left may_write e is =
    let none : left ≡ [] = cc in
    at may_write (subst (λ (xs : List ℕ). (not (eqb (length xs) 0) || may_write) ≡ true) none e) where
      at : (b : Bool) → (not (eqb 0 0) || b) ≡ true → b ≡ true
      at true f = refl
      at false f = absurd cc

-- what a link took leaves a port that may be written, where nothing is left
pub rest_writable : (is_cut : Bool) (left rest : List ℕ) (count : ℕ) (was now : Bool) → rest ≡ drop count left → eqb (length left) 0 ≡ false → was ≡ true → (0 < count → now ≡ was) → (is_cut || (not (eqb (length rest) 0) || now)) ≡ true
rest_writable is_cut left rest zero was now e some on same = ap (λ (xs : List ℕ). is_cut || (not (eqb (length xs) 0) || now)) (e ∙ all left) ∙ ap (λ (b : Bool). is_cut || (not b || now)) some ∙ or_true is_cut where
  all : (xs : List ℕ) → drop 0 xs ≡ xs
  all [] = refl
  all (x ∷ xs) = refl
rest_writable is_cut left rest (suc count) was now e some on same = ap (λ (b : Bool). is_cut || (not (eqb (length rest) 0) || b)) (same (omega arith) ∙ on) ∙ ap (λ (b : Bool). is_cut || b) (or_true (not (eqb (length rest) 0))) ∙ or_true is_cut

-- bytes are left where their number isn't 0
pub none_there : (left : List ℕ) (b : ℕ) (bytes : List ℕ) → eqb (length left) 0 ≡ true → left ≡ b ∷ bytes → ⊥
none_there left b bytes e is = let none : length left ≡ 0 = eqb-true (length left) 0 e in let some : length left ≡ length (b ∷ bytes) = ap (λ (xs : List ℕ). length xs) is in absurd (omega (arith, none, some))

pub flushes_offer : (k : ℕ) (m m' : Moves) (p p' : Port) (left : List ℕ) (count : ℕ) → eqb (length left) 0 ≡ false → Offers k m m' left (Some count) → p.left ≡ Some left → p'.left ≡ Some (drop count left) → Flushes k m m' p p'
flushes_offer k m m' p p' [] count some o was now = absurd cc
flushes_offer k m m' p p' (b ∷ bytes) count some o was now = flushes_some k m m' p p' b bytes count o was now

pub flushes_refused : (k : ℕ) (m m' : Moves) (p p' : Port) (left : List ℕ) → eqb (length left) 0 ≡ false → Offers k m m' left None → p.left ≡ Some left → p'.left ≡ None → Flushes k m m' p p'
flushes_refused k m m' p p' [] some o was now = absurd cc
flushes_refused k m m' p p' (b ∷ bytes) some o was now = flushes_cut k m m' p p' b bytes o was now
