-- What moves and calls come to, one after another.
use Rattle.std.proofs.Common.{◌≡◌, ℕ, Bool, true, false, ◌||◌, eqb, cond, List, [], ◌∷◌, ◌++◌, Option, Some, None, refl, sym, ap, subst, ◌∙◌, append_assoc}
use Rattle.std.proofs.lemmas.List.{append-nil}
use Rattle.std.proofs.lemmas.Bool.{eq-eqb}
use Rattle.std.specs.declared.io.ErrorKind.{ErrorKind}
use Rattle.ipc_hub.specs.Hub.{Hub}
use Rattle.ipc_hub.specs.Laws.{Call, Opened, TookPiece, HungUp, Gave, Named, Ticked, Forgot, MakesAll, stream_of, output_of}
use Rattle.ipc_hub.specs.declared.fed.Fed.TheVariants.{Done, Short, Full, Over}
use Rattle.ipc_loop.specs.declared.ending.Ending.{Ending}
use Rattle.ipc_loop.specs.declared.ending.Ending.TheVariants as ending
use Rattle.ipc_loop.specs.Serving.{ends_at_a_feed, is_shown}
use Rattle.ipc_loop.specs.Moves.{Moved, LinkOpened, LinkGave, LinkTook, LinkClosed, NobodyCame, GaveNothing, TookNothing, GoOn, Adds, read_of, written_of, comes_to_its_end, opened_in, closed_as, is_fault, fails_to_give, fails_to_take}

more_or_less : (b : Bool) (p s t st : List ℕ) → st ≡ s ++ t → cond b (p ++ st) st ≡ cond b (p ++ s) s ++ t
more_or_less true p s t st e = ap (λ (x : List ℕ). p ++ x) e ∙ sym (append_assoc p s t)
more_or_less false p s t st e = e

pub stream_both : (i : ℕ) (xs ys : List Call) → stream_of i (xs ++ ys) ≡ stream_of i xs ++ stream_of i ys
stream_both i [] ys = refl
stream_both i (Opened ∷ xs) ys = stream_both i xs ys
stream_both i (TookPiece j piece fed ∷ xs) ys = more_or_less (eqb j i) piece (stream_of i xs) (stream_of i ys) (stream_of i (xs ++ ys)) (stream_both i xs ys)
stream_both i (HungUp j ∷ xs) ys = stream_both i xs ys
stream_both i (Gave j bytes ∷ xs) ys = stream_both i xs ys
stream_both i (Named j ∷ xs) ys = stream_both i xs ys
stream_both i (Ticked moment ∷ xs) ys = stream_both i xs ys
stream_both i (Forgot ∷ xs) ys = stream_both i xs ys

pub output_both : (i : ℕ) (xs ys : List Call) → output_of i (xs ++ ys) ≡ output_of i xs ++ output_of i ys
output_both i [] ys = refl
output_both i (Opened ∷ xs) ys = output_both i xs ys
output_both i (TookPiece j piece fed ∷ xs) ys = output_both i xs ys
output_both i (HungUp j ∷ xs) ys = output_both i xs ys
output_both i (Gave j bytes ∷ xs) ys = more_or_less (eqb j i) bytes (output_of i xs) (output_of i ys) (output_of i (xs ++ ys)) (output_both i xs ys)
output_both i (Named j ∷ xs) ys = output_both i xs ys
output_both i (Ticked moment ∷ xs) ys = output_both i xs ys
output_both i (Forgot ∷ xs) ys = output_both i xs ys

pub read_both : (i : ℕ) (xs ys : List Moved) → read_of i (xs ++ ys) ≡ read_of i xs ++ read_of i ys
read_both i [] ys = refl
read_both i (LinkOpened j ∷ xs) ys = read_both i xs ys
read_both i (LinkGave j piece ∷ xs) ys = more_or_less (eqb j i) piece (read_of i xs) (read_of i ys) (read_of i (xs ++ ys)) (read_both i xs ys)
read_both i (LinkTook j bytes left ∷ xs) ys = read_both i xs ys
read_both i (LinkClosed j ending ∷ xs) ys = read_both i xs ys
read_both i (NobodyCame kind ∷ xs) ys = read_both i xs ys
read_both i (GaveNothing j kind ∷ xs) ys = read_both i xs ys
read_both i (TookNothing j count kind ∷ xs) ys = read_both i xs ys

pub written_both : (i : ℕ) (xs ys : List Moved) → written_of i (xs ++ ys) ≡ written_of i xs ++ written_of i ys
written_both i [] ys = refl
written_both i (LinkOpened j ∷ xs) ys = written_both i xs ys
written_both i (LinkGave j bytes ∷ xs) ys = written_both i xs ys
written_both i (LinkClosed j ending ∷ xs) ys = written_both i xs ys
written_both i (NobodyCame kind ∷ xs) ys = written_both i xs ys
written_both i (GaveNothing j kind ∷ xs) ys = written_both i xs ys
written_both i (TookNothing j count kind ∷ xs) ys = written_both i xs ys
written_both i (LinkTook j piece left ∷ xs) ys = more_or_less (eqb j i) piece (written_of i xs) (written_of i ys) (written_of i (xs ++ ys)) (written_both i xs ys)

true_or : (b : Bool) (x y z : Bool) → z ≡ (x || y) → cond b true z ≡ (cond b true x || y)
true_or true x y z e = refl
true_or false x y z e = e

pub end_both : (i : ℕ) (xs ys : List Moved) → comes_to_its_end i (xs ++ ys) ≡ (comes_to_its_end i xs || comes_to_its_end i ys)
end_both i [] ys = refl
end_both i (LinkOpened j ∷ xs) ys = end_both i xs ys
end_both i (LinkGave j [] ∷ xs) ys = true_or (eqb j i) (comes_to_its_end i xs) (comes_to_its_end i ys) (comes_to_its_end i (xs ++ ys)) (end_both i xs ys)
end_both i (LinkGave j (b ∷ bytes) ∷ xs) ys = end_both i xs ys
end_both i (LinkTook j bytes left ∷ xs) ys = end_both i xs ys
end_both i (LinkClosed j ending ∷ xs) ys = end_both i xs ys
end_both i (NobodyCame kind ∷ xs) ys = end_both i xs ys
end_both i (GaveNothing j kind ∷ xs) ys = end_both i xs ys
end_both i (TookNothing j count kind ∷ xs) ys = end_both i xs ys

pub opened_both : (xs ys : List Moved) → opened_in (xs ++ ys) ≡ opened_in xs ++ opened_in ys
opened_both [] ys = refl
opened_both (LinkOpened j ∷ xs) ys = ap (λ (t : List ℕ). j ∷ t) (opened_both xs ys)
opened_both (LinkGave j bytes ∷ xs) ys = opened_both xs ys
opened_both (LinkTook j bytes left ∷ xs) ys = opened_both xs ys
opened_both (LinkClosed j ending ∷ xs) ys = opened_both xs ys
opened_both (NobodyCame kind ∷ xs) ys = opened_both xs ys
opened_both (GaveNothing j kind ∷ xs) ys = opened_both xs ys
opened_both (TookNothing j count kind ∷ xs) ys = opened_both xs ys

-- the first of two, if there is one
abbrev pub first_of : {A : Type 0} → Option A → Option A → Option A
first_of None other = other
first_of (Some x) other = Some x

some_or : {A : Type 0} (b : Bool) (x : A) (o p q : Option A) → q ≡ first_of o p → cond b (Some x) q ≡ first_of (cond b (Some x) o) p
some_or true x o p q e = refl
some_or false x o p q e = e

pub closed_both : (i : ℕ) (xs ys : List Moved) → closed_as i (xs ++ ys) ≡ first_of (closed_as i xs) (closed_as i ys)
closed_both i [] ys = refl
closed_both i (LinkOpened j ∷ xs) ys = closed_both i xs ys
closed_both i (LinkGave j bytes ∷ xs) ys = closed_both i xs ys
closed_both i (LinkTook j bytes left ∷ xs) ys = closed_both i xs ys
closed_both i (LinkClosed j ending ∷ xs) ys = some_or (eqb j i) ending (closed_as i xs) (closed_as i ys) (closed_as i (xs ++ ys)) (closed_both i xs ys)
closed_both i (NobodyCame kind ∷ xs) ys = closed_both i xs ys
closed_both i (GaveNothing j kind ∷ xs) ys = closed_both i xs ys
closed_both i (TookNothing j count kind ∷ xs) ys = closed_both i xs ys

pub or_left : (a b c : Bool) → c ≡ (a || b) → a ≡ true → c ≡ true
or_left true b c e on = e
or_left false b c e on = absurd cc

pub or_right : (a b c : Bool) → c ≡ (a || b) → b ≡ true → c ≡ true
or_right true b c e on = e
or_right false b c e on = e ∙ on

pub or_or : (b x y z : Bool) → z ≡ (x || y) → (b || z) ≡ ((b || x) || y)
or_or true x y z e = refl
or_or false x y z e = e

pub give_both : (i : ℕ) (xs ys : List Moved) → fails_to_give i (xs ++ ys) ≡ (fails_to_give i xs || fails_to_give i ys)
give_both i [] ys = refl
give_both i (LinkOpened j ∷ xs) ys = give_both i xs ys
give_both i (LinkGave j bytes ∷ xs) ys = give_both i xs ys
give_both i (LinkTook j bytes left ∷ xs) ys = give_both i xs ys
give_both i (LinkClosed j ending ∷ xs) ys = give_both i xs ys
give_both i (NobodyCame kind ∷ xs) ys = give_both i xs ys
give_both i (GaveNothing j kind ∷ xs) ys = or_or (cond (eqb j i) (is_fault kind) false) (fails_to_give i xs) (fails_to_give i ys) (fails_to_give i (xs ++ ys)) (give_both i xs ys)
give_both i (TookNothing j count kind ∷ xs) ys = give_both i xs ys

pub take_both : (i : ℕ) (xs ys : List Moved) → fails_to_take i (xs ++ ys) ≡ (fails_to_take i xs || fails_to_take i ys)
take_both i [] ys = refl
take_both i (LinkOpened j ∷ xs) ys = take_both i xs ys
take_both i (LinkGave j bytes ∷ xs) ys = take_both i xs ys
take_both i (LinkTook j bytes left ∷ xs) ys = take_both i xs ys
take_both i (LinkClosed j ending ∷ xs) ys = take_both i xs ys
take_both i (NobodyCame kind ∷ xs) ys = take_both i xs ys
take_both i (GaveNothing j kind ∷ xs) ys = take_both i xs ys
take_both i (TookNothing j count kind ∷ xs) ys = or_or (cond (eqb j i) (is_fault kind) false) (fails_to_take i xs) (fails_to_take i ys) (fails_to_take i (xs ++ ys)) (take_both i xs ys)

pub over_both : (i : ℕ) (xs ys : List Call) → ends_at_a_feed i (xs ++ ys) ≡ (ends_at_a_feed i xs || ends_at_a_feed i ys)
over_both i [] ys = refl
over_both i (Opened ∷ xs) ys = over_both i xs ys
over_both i (TookPiece j piece Done ∷ xs) ys = over_both i xs ys
over_both i (TookPiece j piece Short ∷ xs) ys = over_both i xs ys
over_both i (TookPiece j piece Full ∷ xs) ys = over_both i xs ys
over_both i (TookPiece j piece (Over end) ∷ xs) ys = true_or (eqb j i) (ends_at_a_feed i xs) (ends_at_a_feed i ys) (ends_at_a_feed i (xs ++ ys)) (over_both i xs ys)
over_both i (HungUp j ∷ xs) ys = over_both i xs ys
over_both i (Gave j bytes ∷ xs) ys = over_both i xs ys
over_both i (Named j ∷ xs) ys = over_both i xs ys
over_both i (Ticked moment ∷ xs) ys = over_both i xs ys
over_both i (Forgot ∷ xs) ys = over_both i xs ys

pub shown_both : (i : ℕ) (cs ds : List Call) (xs ys : List Moved) (e : Ending) → is_shown i (cs ++ ds) (xs ++ ys) e ≡ (is_shown i cs xs e || is_shown i ds ys e)
shown_both i cs ds xs ys ending.Closed = end_both i xs ys
shown_both i cs ds xs ys ending.ReadFailed = give_both i xs ys
shown_both i cs ds xs ys ending.WriteFailed = take_both i xs ys
shown_both i cs ds xs ys (ending.Wire fault) = over_both i cs ds
shown_both i cs ds xs ys ending.BadKey = over_both i cs ds
shown_both i cs ds xs ys ending.NoMemory = refl
shown_both i cs ds xs ys ending.TooMuchUnfinished = refl

pub go_both : (u v w : Option (List Moved)) (a b : List Moved) → GoOn u v a → GoOn v w b → GoOn u w (a ++ b)
go_both None v w a b x y = tt
go_both (Some xs) None w a b x y = absurd x
go_both (Some xs) (Some ys) None a b x y = y
go_both (Some xs) (Some ys) (Some zs) a b x y = y ∙ ap (λ (t : List Moved). t ++ b) x ∙ append_assoc xs a b

pub go_nowhere : (u : Option (List Moved)) → GoOn u u []
go_nowhere None = tt
go_nowhere (Some xs) = sym (append-nil xs)

pub makes_both : (xs ys : List Call) (a b c : Hub) → MakesAll xs a b → MakesAll ys b c → MakesAll (xs ++ ys) a c
makes_both [] ys a b c first second = subst (λ (z : Hub). MakesAll ys z c) first second
makes_both (x ∷ xs) ys a b c first second = (first.0, (first.1.0, makes_both xs ys first.0 b c first.1.1 second))

-- ---- one move, and none

pub same_here : {A : Type 0} (here : Bool) (x : A) → x ≡ cond here x x
same_here true x = refl
same_here false x = refl

-- moves by which no link gives or takes anything
abbrev adds_quiet : (m m' : Option (List Moved)) (k : ℕ) (moved : List Moved) → GoOn m m' moved → ((i : ℕ) → read_of i moved ≡ []) → ((i : ℕ) → written_of i moved ≡ []) → ((i : ℕ) → comes_to_its_end i moved ≡ false) → opened_in moved ≡ [] → ((i : ℕ) → closed_as i moved ≡ None) → ((i : ℕ) → eqb k i ≡ false → fails_to_give i moved ≡ false) → ((i : ℕ) → eqb k i ≡ false → fails_to_take i moved ≡ false) → Adds m m' k [] [] false
adds_quiet m m' k moved went gave took ended opened closed fails refuses = record {
  moved = moved;
  went = went;
  read = λ i. gave i ∙ same_here (eqb k i) [];
  written = λ i. took i ∙ same_here (eqb k i) [];
  end = λ i. ended i ∙ same_here (eqb k i) false;
  opened = opened;
  fails = fails;
  refuses = refuses;
  closed = closed;
}

abbrev pub adds_nothing : (m m' : Option (List Moved)) (k : ℕ) → GoOn m m' [] → Adds m m' k [] [] false
adds_nothing m m' k went = adds_quiet m m' k [] went (λ i. refl) (λ i. refl) (λ i. refl) refl (λ i. refl) (λ i other. refl) (λ i other. refl)

pub bytes_here : (here : Bool) (bytes : List ℕ) → cond here (bytes ++ []) [] ≡ cond here bytes []
bytes_here true bytes = append-nil bytes
bytes_here false bytes = refl

abbrev pub adds_write : (m m' : Option (List Moved)) (k : ℕ) (bytes : List ℕ) (left : ℕ) → GoOn m m' (LinkTook k bytes left ∷ []) → Adds m m' k [] bytes false
adds_write m m' k bytes left went = record {
  moved = LinkTook k bytes left ∷ [];
  went = went;
  read = λ i. same_here (eqb k i) [];
  written = λ i. bytes_here (eqb k i) bytes;
  end = λ i. same_here (eqb k i) false;
  opened = refl;
  fails = λ i other. refl;
  refuses = λ i other. refl;
  closed = λ i. refl;
}

-- whether these bytes are the end of a stream
abbrev pub is_end : List ℕ → Bool
is_end [] = true
is_end (byte ∷ bytes) = false

pub end_here : (k i : ℕ) (bytes : List ℕ) → comes_to_its_end i (LinkGave k bytes ∷ []) ≡ cond (eqb k i) (is_end bytes) false
end_here k i [] = refl
end_here k i (byte ∷ bytes) = same_here (eqb k i) false

abbrev pub adds_read : (m m' : Option (List Moved)) (k : ℕ) (bytes : List ℕ) → GoOn m m' (LinkGave k bytes ∷ []) → Adds m m' k bytes [] (is_end bytes)
adds_read m m' k bytes went = record {
  moved = LinkGave k bytes ∷ [];
  went = went;
  read = λ i. bytes_here (eqb k i) bytes;
  written = λ i. same_here (eqb k i) [];
  end = λ i. end_here k i bytes;
  opened = refl;
  fails = λ i other. refl;
  refuses = λ i other. refl;
  closed = λ i. refl;
}

-- a piece isn't the end of a stream
abbrev pub adds_piece : (m m' : Option (List Moved)) (k : ℕ) (bytes : List ℕ) → GoOn m m' (LinkGave k bytes ∷ []) → is_end bytes ≡ false → Adds m m' k bytes [] false
adds_piece m m' k bytes went more = record {
  moved = LinkGave k bytes ∷ [];
  went = went;
  read = λ i. bytes_here (eqb k i) bytes;
  written = λ i. same_here (eqb k i) [];
  end = λ i. end_here k i bytes ∙ ap (λ (b : Bool). cond (eqb k i) b false) more;
  opened = refl;
  fails = λ i other. refl;
  refuses = λ i other. refl;
  closed = λ i. refl;
}

-- what fails for one link doesn't for another
pub fault_elsewhere : (here : Bool) (kind : ErrorKind) → here ≡ false → (cond here (is_fault kind) false || false) ≡ false
fault_elsewhere here kind other = ap (λ (b : Bool). cond b (is_fault kind) false || false) other

-- what was asked of link k in vain adds nothing
abbrev pub adds_refused_read : (m m' : Option (List Moved)) (k : ℕ) (kind : ErrorKind) → GoOn m m' (GaveNothing k kind ∷ []) → Adds m m' k [] [] false
adds_refused_read m m' k kind went = adds_quiet m m' k (GaveNothing k kind ∷ []) went (λ i. refl) (λ i. refl) (λ i. refl) refl (λ i. refl) (λ i other. fault_elsewhere (eqb k i) kind other) (λ i other. refl)

abbrev pub adds_refused_write : (m m' : Option (List Moved)) (k count : ℕ) (kind : ErrorKind) → GoOn m m' (TookNothing k count kind ∷ []) → Adds m m' k [] [] false
adds_refused_write m m' k count kind went = adds_quiet m m' k (TookNothing k count kind ∷ []) went (λ i. refl) (λ i. refl) (λ i. refl) refl (λ i. refl) (λ i other. refl) (λ i other. fault_elsewhere (eqb k i) kind other)

pub failed_here : (k : ℕ) (kind : ErrorKind) → is_fault kind ≡ true → fails_to_give k (GaveNothing k kind ∷ []) ≡ true
failed_here k kind fault = ap (λ (b : Bool). cond b (is_fault kind) false || false) (eq-eqb k k refl) ∙ ap (λ (b : Bool). b || false) fault

pub refused_here : (k count : ℕ) (kind : ErrorKind) → is_fault kind ≡ true → fails_to_take k (TookNothing k count kind ∷ []) ≡ true
refused_here k count kind fault = ap (λ (b : Bool). cond b (is_fault kind) false || false) (eq-eqb k k refl) ∙ ap (λ (b : Bool). b || false) fault

pub waited_here : (k : ℕ) (kind : ErrorKind) → is_fault kind ≡ false → fails_to_give k (GaveNothing k kind ∷ []) ≡ false
waited_here k kind other = ap (λ (b : Bool). cond b (is_fault kind) false || false) (eq-eqb k k refl) ∙ ap (λ (b : Bool). b || false) other

pub untaken_here : (k count : ℕ) (kind : ErrorKind) → is_fault kind ≡ false → fails_to_take k (TookNothing k count kind ∷ []) ≡ false
untaken_here k count kind other = ap (λ (b : Bool). cond b (is_fault kind) false || false) (eq-eqb k k refl) ∙ ap (λ (b : Bool). b || false) other
