-- What comes of listening, one moment after another.
use Rattle.std.proofs.Common.{◌≡◌, ◌⊎◌, inl, inr, ℕ, ◌+◌, ◌≤◌, Bool, true, false, ◌||◌, List, [], ◌∷◌, ◌++◌, length, Option, Some, None, Result, Ok, Err, refl, sym, ap, subst, ◌∙◌, arith}
use Rattle.std.specs.Prelude.{is_some, OnOk, IfErr}
use Rattle.std.specs.IoError.{error_kind}
use Rattle.std.specs.declared.io.Error.{Error}
use Rattle.std.specs.declared.io.ErrorKind.{ErrorKind}
use Rattle.std.specs.declared.io.ErrorKind.TheVariants.{OutOfMemory}
use Rattle.ipc_loop.specs.declared.accepting.Accepting.{Accepting}
use Rattle.ipc_loop.specs.declared.accepting.Bounds.{Bounds}
use Rattle.ipc_loop.specs.Moves.{Moved, LinkOpened, LinkGave, LinkTook, LinkClosed, NobodyCame, GaveNothing, TookNothing, GoOn, opened_in}
use Rattle.ipc_loop.specs.Ports.{new_port, how_many_open, OnlyCloses}
use Rattle.ipc_loop.specs.Bounds.{are_all}
use Rattle.ipc_loop.specs.Listening.{Refusal, Nobody, Again, Failed, refusal_of, is_nobody, is_again, is_failed, how_often_asked, nobody_comes, Listens, HasNoRoom, Comes, behind_refusal}
use Rattle.ipc_loop.proofs.MoveLemmas.{go_both, go_nowhere, opened_both, or_or, or_left, or_right}
use Rattle.ipc_loop.proofs.PortLemmas.{Slots}
use Rattle.ipc_loop.proofs.OpeningLemmas.{one_more, closes_fewer}

abbrev pub Moves : Type 0
Moves = Option (List Moved)

-- ---- moves one after another

often_both : (xs ys : List Moved) → how_often_asked (xs ++ ys) ≡ how_often_asked xs + how_often_asked ys
often_both [] ys = omega arith
often_both (LinkOpened j ∷ xs) ys = let rest : how_often_asked (xs ++ ys) ≡ how_often_asked xs + how_often_asked ys = often_both xs ys in omega (arith, rest)
often_both (LinkGave j bytes ∷ xs) ys = often_both xs ys
often_both (LinkTook j bytes left ∷ xs) ys = often_both xs ys
often_both (LinkClosed j ending ∷ xs) ys = often_both xs ys
often_both (NobodyCame kind ∷ xs) ys = let rest : how_often_asked (xs ++ ys) ≡ how_often_asked xs + how_often_asked ys = often_both xs ys in omega (arith, rest)
often_both (GaveNothing j kind ∷ xs) ys = often_both xs ys
often_both (TookNothing j count kind ∷ xs) ys = often_both xs ys

nobody_both : (reason : Refusal → Bool) (xs ys : List Moved) → nobody_comes reason (xs ++ ys) ≡ (nobody_comes reason xs || nobody_comes reason ys)
nobody_both reason [] ys = refl
nobody_both reason (LinkOpened j ∷ xs) ys = nobody_both reason xs ys
nobody_both reason (LinkGave j bytes ∷ xs) ys = nobody_both reason xs ys
nobody_both reason (LinkTook j bytes left ∷ xs) ys = nobody_both reason xs ys
nobody_both reason (LinkClosed j ending ∷ xs) ys = nobody_both reason xs ys
nobody_both reason (NobodyCame kind ∷ xs) ys = or_or (reason (refusal_of kind)) (nobody_comes reason xs) (nobody_comes reason ys) (nobody_comes reason (xs ++ ys)) (nobody_both reason xs ys)
nobody_both reason (GaveNothing j kind ∷ xs) ys = nobody_both reason xs ys
nobody_both reason (TookNothing j count kind ∷ xs) ys = nobody_both reason xs ys

length_both : {A : Type 0} (xs ys : List A) → length (xs ++ ys) ≡ length xs + length ys
length_both [] ys = omega arith
length_both (x ∷ xs) ys = let rest : length (xs ++ ys) ≡ length xs + length ys = length_both xs ys in omega (arith, rest)

opens_more : (xs ys : List Moved) → length (opened_in (xs ++ ys)) ≡ length (opened_in xs) + length (opened_in ys)
opens_more xs ys = ap (λ (ns : List ℕ). length ns) (opened_both xs ys) ∙ length_both (opened_in xs) (opened_in ys)

-- ---- the host is asked again and again

-- it was asked n times at least, and all who came have their ports
pub record Tried (n : ℕ) (m m' : Moves) (xs ys : Slots) : Type 0 where
  pub moved : List Moved
  pub went : GoOn m m' moved
  pub often : n ≤ how_often_asked moved
  pub opened : how_many_open ys ≡ how_many_open xs + length (opened_in moved)

pub tried_never : (m : Moves) (xs : Slots) → Tried 0 m m xs xs
tried_never m xs = record { moved = []; went = go_nowhere m; often = omega arith; opened = omega arith }

tried_opened : (n i : ℕ) (m₀ m₁ m₂ : Moves) (xs ys zs : Slots) → Tried n m₀ m₁ xs ys → GoOn m₁ m₂ (LinkOpened i ∷ []) → zs ≡ ys ++ Some new_port ∷ [] → Tried (n + 1) m₀ m₂ xs zs
tried_opened n i m₀ m₁ m₂ xs ys zs t went more = record {
  moved = t.moved ++ LinkOpened i ∷ [];
  went = go_both m₀ m₁ m₂ t.moved (LinkOpened i ∷ []) t.went went;
  often = omega (arith, t.often, often_both t.moved (LinkOpened i ∷ []));
  opened = (let all : how_many_open zs ≡ how_many_open ys + 1 = ap (λ (ws : Slots). how_many_open ws) more ∙ one_more ys new_port in omega (arith, all, t.opened, opens_more t.moved (LinkOpened i ∷ [])));
}

tried_nobody : (n : ℕ) (kind : ErrorKind) (m₀ m₁ m₂ : Moves) (xs ys zs : Slots) → Tried n m₀ m₁ xs ys → GoOn m₁ m₂ (NobodyCame kind ∷ []) → zs ≡ ys → Tried (n + 1) m₀ m₂ xs zs
tried_nobody n kind m₀ m₁ m₂ xs ys zs t went same = record {
  moved = t.moved ++ NobodyCame kind ∷ [];
  went = go_both m₀ m₁ m₂ t.moved (NobodyCame kind ∷ []) t.went went;
  often = omega (arith, t.often, often_both t.moved (NobodyCame kind ∷ []));
  opened = (let all : how_many_open zs ≡ how_many_open ys = ap (λ (ws : Slots). how_many_open ws) same in omega (arith, all, t.opened, opens_more t.moved (NobodyCame kind ∷ [])));
}

-- another is asked for at once only where somebody came, a signal did, or somebody went again
pub tried_again : (n : ℕ) (r : Result Unit Error) (m₀ m₁ m₂ : Moves) (xs ys zs : Slots) → IfErr r (λ e. true ≡ is_again (refusal_of (error_kind e))) → Tried n m₀ m₁ xs ys → Comes m₁ m₂ ys zs r → Tried (n + 1) m₀ m₂ xs zs
tried_again n (Ok u) m₀ m₁ m₂ xs ys zs again t comes = tried_opened n comes.0 m₀ m₁ m₂ xs ys zs t comes.1.0 comes.1.1
tried_again n (Err e) m₀ m₁ m₂ xs ys zs again t comes = at comes.1 where
  at : GoOn m₁ m₂ (NobodyCame (error_kind e) ∷ []) ⊎ ((error_kind e ≡ OutOfMemory) × (m₂ ≡ m₁)) → Tried (n + 1) m₀ m₂ xs zs
  at (inl went) = tried_nobody n (error_kind e) m₀ m₁ m₂ xs ys zs t went comes.0
  at (inr short) = let wrong : true ≡ false = again ∙ ap (λ (kind : ErrorKind). is_again (refusal_of kind)) short.0 in absurd cc

-- and then nothing changes
pub again_same : (r : Result Unit Error) (a a' : Accepting) → OnOk r (a' ≡ a) → IfErr r (λ e. true ≡ is_again (refusal_of (error_kind e))) → IfErr r (λ e. a' ≡ behind_refusal (refusal_of (error_kind e)) (error_kind e) a) → a' ≡ a
again_same (Ok u) a a' ok again now = ok
again_same (Err e) a a' ok again now = at (refusal_of (error_kind e)) again now where
  at : (refusal : Refusal) → true ≡ is_again refusal → a' ≡ behind_refusal refusal (error_kind e) a → a' ≡ a
  at Again on is = is
  at Nobody on is = absurd cc
  at Failed on is = absurd cc

-- ---- where it isn't asked again

pub listens_full : (b : Bounds) (n : ℕ) (m m' : Moves) (xs ys : Slots) (may may' : Bool) (pausing : Option ErrorKind) → pausing ≡ None → may' ≡ may → (may' ≡ true → HasNoRoom b ys) → Tried n m m' xs ys → Listens b may m m' xs ys may' pausing
listens_full b n m m' xs ys may may' pausing none same full t = record {
  moved = t.moved;
  went = t.went;
  stops = λ on off. (let wrong : true ≡ false = sym on ∙ sym same ∙ off in absurd cc);
  asked = λ on. at (full on);
  failed = λ kind is. (let wrong : None ≡ Some kind = sym none ∙ is in absurd cc);
} where
  at : HasNoRoom b ys → (b.most ≤ how_many_open xs + length (opened_in t.moved)) ⊎ ((are_all b.stop_after (length ys) ≡ true) ⊎ ((64 ≤ how_often_asked t.moved) ⊎ (is_some pausing ≡ true)))
  at (inl most) = inl (omega (arith, most, t.opened))
  at (inr all) = inr (inl all)

pub listens_often : (b : Bounds) (n : ℕ) (m m' : Moves) (xs ys : Slots) (may may' : Bool) (pausing : Option ErrorKind) → pausing ≡ None → may' ≡ may → 64 ≤ n → Tried n m m' xs ys → Listens b may m m' xs ys may' pausing
listens_often b n m m' xs ys may may' pausing none same often t = record {
  moved = t.moved;
  went = t.went;
  stops = λ on off. (let wrong : true ≡ false = sym on ∙ sym same ∙ off in absurd cc);
  asked = λ on. inr (inr (inl (omega (arith, often, t.often))));
  failed = λ kind is. (let wrong : None ≡ Some kind = sym none ∙ is in absurd cc);
}

-- nobody came, for a reason for which nobody is asked for again
refused : (b : Bounds) (n : ℕ) (kind : ErrorKind) (refusal : Refusal) (m₀ m₁ m₂ : Moves) (xs ys zs : Slots) (a a' : Accepting) → refusal_of kind ≡ refusal → is_again refusal ≡ false → a.pausing ≡ None → a' ≡ behind_refusal refusal kind a → zs ≡ ys → Tried n m₀ m₁ xs ys → GoOn m₁ m₂ (NobodyCame kind ∷ []) ⊎ ((kind ≡ OutOfMemory) × (m₂ ≡ m₁)) → Listens b a.may_accept m₀ m₂ xs zs a'.may_accept a'.pausing
unfolding tried_nobody
refused b n kind Nobody m₀ m₁ m₂ xs ys zs a a' is off none now same t (inl went) =
    let t' = tried_nobody n kind m₀ m₁ m₂ xs ys zs t went same in
    record {
      moved = t'.moved;
      went = t'.went;
      stops = λ on stopped. or_right (nobody_comes is_nobody t.moved) (nobody_comes is_nobody (NobodyCame kind ∷ [])) (nobody_comes is_nobody t'.moved) (nobody_both is_nobody t.moved (NobodyCame kind ∷ [])) (ap (λ (r : Refusal). is_nobody r || false) is);
      asked = λ on. (let wrong : false ≡ true = sym (ap (λ (x : Accepting). x.may_accept) now) ∙ on in absurd cc);
      failed = λ kind' is'. (let wrong : None ≡ Some kind' = sym (ap (λ (x : Accepting). x.pausing) now ∙ none) ∙ is' in absurd cc);
    }
refused b n kind Nobody m₀ m₁ m₂ xs ys zs a a' is off none now same t (inr short) = let wrong : Failed ≡ Nobody = sym (ap refusal_of short.0) ∙ is in absurd cc
refused b n kind Again m₀ m₁ m₂ xs ys zs a a' is off none now same t how = absurd cc
refused b n kind Failed m₀ m₁ m₂ xs ys zs a a' is off none now same t (inl went) =
    let t' = tried_nobody n kind m₀ m₁ m₂ xs ys zs t went same in
    record {
      moved = t'.moved;
      went = t'.went;
      stops = λ on stopped. (let wrong : true ≡ false = sym on ∙ sym (ap (λ (x : Accepting). x.may_accept) now) ∙ stopped in absurd cc);
      asked = λ on. inr (inr (inr (ap (λ (x : Accepting). is_some x.pausing) now)));
      failed = λ kind' is'. inr (or_right (nobody_comes is_failed t.moved) (nobody_comes is_failed (NobodyCame kind ∷ [])) (nobody_comes is_failed t'.moved) (nobody_both is_failed t.moved (NobodyCame kind ∷ [])) (ap (λ (r : Refusal). is_failed r || false) is));
    }
refused b n kind Failed m₀ m₁ m₂ xs ys zs a a' is off none now same t (inr short) = record {
  moved = t.moved;
  went = subst (λ (w : Moves). GoOn m₀ w t.moved) (sym short.1) t.went;
  stops = λ on stopped. (let wrong : true ≡ false = sym on ∙ sym (ap (λ (x : Accepting). x.may_accept) now) ∙ stopped in absurd cc);
  asked = λ on. inr (inr (inr (ap (λ (x : Accepting). is_some x.pausing) now)));
  failed = λ kind' is'. (let here : Some kind ≡ Some kind' = sym (ap (λ (x : Accepting). x.pausing) now) ∙ is' in let same' : kind ≡ kind' = cc in inl (sym same' ∙ short.0));
}

pub listens_refused : (b : Bounds) (n : ℕ) (r : Result Unit Error) (m₀ m₁ m₂ : Moves) (xs ys zs : Slots) (a a' : Accepting) → OnOk r (false ≡ true) → IfErr r (λ e. false ≡ is_again (refusal_of (error_kind e))) → IfErr r (λ e. a' ≡ behind_refusal (refusal_of (error_kind e)) (error_kind e) a) → a.pausing ≡ None → Tried n m₀ m₁ xs ys → Comes m₁ m₂ ys zs r → Listens b a.may_accept m₀ m₂ xs zs a'.may_accept a'.pausing
listens_refused b n (Ok u) m₀ m₁ m₂ xs ys zs a a' ok again now none t comes = absurd cc
listens_refused b n (Err e) m₀ m₁ m₂ xs ys zs a a' ok again now none t comes =
    refused b n (error_kind e) (refusal_of (error_kind e)) m₀ m₁ m₂ xs ys zs a a' refl (sym again) none now comes.0 t comes.1

-- ---- a round

either_side : (a b c all : ℕ) → all ≡ a + (b + c) → b ≤ all
either_side a b c all e = omega (arith, e)

-- before and behind, links are closed alone
pub listens_within : (b : Bounds) (m₀ m₁ m₂ m₃ : Moves) (xs ys zs ws : Slots) (before later : List Moved) (may may₁ may' : Bool) (pausing : Option ErrorKind) → OnlyCloses xs ys → OnlyCloses zs ws → GoOn m₀ m₁ before → GoOn m₂ m₃ later → (may ≡ true → may₁ ≡ true) → Listens b may₁ m₁ m₂ ys zs may' pausing → Listens b may m₀ m₃ xs ws may' pausing
listens_within b m₀ m₁ m₂ m₃ xs ys zs ws before later may may₁ may' pausing closes closes' went went' on l = record {
  moved = before ++ (l.moved ++ later);
  went = go_both m₀ m₁ m₃ before (l.moved ++ later) went (go_both m₁ m₂ m₃ l.moved later l.went went');
  stops = λ was off. at_last (nobody_comes is_nobody before) (nobody_comes is_nobody l.moved) (nobody_comes is_nobody later) (nobody_comes is_nobody (l.moved ++ later)) (nobody_comes is_nobody (before ++ (l.moved ++ later))) (nobody_both is_nobody before (l.moved ++ later)) (nobody_both is_nobody l.moved later) (l.stops (on was) off);
  asked = λ now. at (l.asked now);
  failed = λ kind is. why (l.failed kind is);
} where
  at_last : (x y z yz all : Bool) → all ≡ (x || yz) → yz ≡ (y || z) → y ≡ true → all ≡ true
  at_last x y z yz all e f on' = or_right x yz all e (or_left y z yz f on')

  at : (b.most ≤ how_many_open ys + length (opened_in l.moved)) ⊎ ((are_all b.stop_after (length zs) ≡ true) ⊎ ((64 ≤ how_often_asked l.moved) ⊎ (is_some pausing ≡ true))) → (b.most ≤ how_many_open xs + length (opened_in (before ++ (l.moved ++ later)))) ⊎ ((are_all b.stop_after (length ws) ≡ true) ⊎ ((64 ≤ how_often_asked (before ++ (l.moved ++ later))) ⊎ (is_some pausing ≡ true)))
  at (inl most) = inl (omega (arith, most, closes_fewer xs ys closes, opens_more before (l.moved ++ later), opens_more l.moved later))
  at (inr (inl all)) = inr (inl (ap (λ (n : ℕ). are_all b.stop_after n) closes'.count ∙ all))
  at (inr (inr (inl often))) = inr (inr (inl (omega (arith, often, often_both before (l.moved ++ later), often_both l.moved later))))
  at (inr (inr (inr pauses))) = inr (inr (inr pauses))

  why : {kind : ErrorKind} → (kind ≡ OutOfMemory) ⊎ (nobody_comes is_failed l.moved ≡ true) → (kind ≡ OutOfMemory) ⊎ (nobody_comes is_failed (before ++ (l.moved ++ later)) ≡ true)
  why (inl short) = inl short
  why (inr failed) = inr (at_last (nobody_comes is_failed before) (nobody_comes is_failed l.moved) (nobody_comes is_failed later) (nobody_comes is_failed (l.moved ++ later)) (nobody_comes is_failed (before ++ (l.moved ++ later))) (nobody_both is_failed before (l.moved ++ later)) (nobody_both is_failed l.moved later) failed)
