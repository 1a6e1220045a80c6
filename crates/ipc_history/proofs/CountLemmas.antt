-- A record more is counted once.
use Rattle.std.proofs.Common.{◌≡◌, ℕ, suc, ◌+◌, ◌-◌, ◌^◌, ◌<◌, ◌≤◌, Bool, true, false, cond, eqb, List, [], ◌∷◌, length, get_or, set, sym, ap, ◌∙◌, subst, arith}
use Rattle.std.specs.Prelude.{min}
use Rattle.std.proofs.lemmas.Bool.{eqb-true, eq-eqb}
use Rattle.std.proofs.lemmas.List.{get_or-set_same, get_or-set_other}
use Rattle.ipc_terms.specs.declared.record.Record.{Record}
use Rattle.ipc_log.specs.Fields.{verdict_code}
use Rattle.ipc_history.specs.declared.counts.Counts.{Counts}
use Rattle.ipc_history.specs.Counts.{how_many, is_call, is_session, is_refused_hello, is_end, calls, sessions, refused_hellos, ends, with_verdict, AreCounts}

abbrev most : ℕ
most = 2 ^ 64 - 1

at_most_more : (b : Bool) (n m : ℕ) → n ≤ m → cond b (n + 1) n ≤ suc m
at_most_more true n m le = omega arith
at_most_more false n m le = omega arith

how_many_within : (test : Record → Bool) (h : List Record) → how_many test h ≤ length h
how_many_within test [] = omega arith
how_many_within test (r ∷ older) = at_most_more (test r) (how_many test older) (length older) (how_many_within test older)

raised_is : (b : Bool) (count n : ℕ) → count ≡ n → n < 2 ^ 63 → cond b (min (count + 1) most) count ≡ cond b (n + 1) n
raised_is true count n is small = omega (arith, is)
raised_is false count n is small = is

-- a count goes on with the test of the newest
more : (test : Record → Bool) (r : Record) (h : List Record) (count : ℕ) → length h < 2 ^ 63 → count ≡ how_many test h
    → cond (test r) (min (count + 1) most) count ≡ how_many test (r ∷ h)
more test r h count short is = raised_is (test r) count (how_many test h) is (omega (arith, how_many_within test h, short))

-- ---- verdicts

-- of a list of counts one is raised
verdict_more : (v : List ℕ) (k code n : ℕ) (same : Bool) → eqb k code ≡ same → k < length v → get_or v code 0 ≡ n → n < 2 ^ 63
    → get_or (set v k (min (get_or v k 0 + 1) most)) code 0 ≡ cond same (n + 1) n
verdict_more v k code n true e within is small =
    let here : k ≡ code = eqb-true k code e in
    let count : get_or v k 0 ≡ n = ap (λ (i : ℕ). get_or v i 0) here ∙ is in
    let raised : min (get_or v k 0 + 1) most ≡ n + 1 = omega (arith, count, small) in
    subst (λ (i : ℕ). get_or (set v k (min (get_or v k 0 + 1) most)) i 0 ≡ n + 1) here (get_or-set_same v k (min (get_or v k 0 + 1) most) 0 within ∙ raised)
verdict_more v k code n false e within is small =
    get_or-set_other v k code (min (get_or v k 0 + 1) most) 0 (λ same. (let wrong : false ≡ true = sym e ∙ eq-eqb k code (sym same) in absurd cc)) ∙ is

-- ---- all of them

pub none_counted : (counts : Counts) → counts.calls ≡ 0 → counts.sessions ≡ 0 → counts.refused_hellos ≡ 0 → counts.ended ≡ 0 → ((code : ℕ) → code < 34 → get_or counts.verdicts code 0 ≡ 0) → AreCounts counts []
unfolding calls sessions refused_hellos ends with_verdict
none_counted counts none_called none_began none_refused none_ended none_said =
    record { calls_are = none_called; sessions_are = none_began; refused_are = none_refused; ended_are = none_ended; verdicts_are = none_said }

pub one_counted : (old new : Counts) (r : Record) (h : List Record) (k raised : ℕ) → k < length old.verdicts → length h < 2 ^ 63 → AreCounts old h
    → new.calls ≡ cond (is_call r) (min (old.calls + 1) most) old.calls
    → new.sessions ≡ cond (is_session r) (min (old.sessions + 1) most) old.sessions
    → new.refused_hellos ≡ cond (is_refused_hello r) (min (old.refused_hellos + 1) most) old.refused_hellos
    → new.ended ≡ cond (is_end r) (min (old.ended + 1) most) old.ended
    → k ≡ verdict_code r.rule → raised ≡ min (get_or old.verdicts k 0 + 1) most → new.verdicts ≡ set old.verdicts k raised
    → AreCounts new (r ∷ h)
unfolding calls sessions refused_hellos ends with_verdict
one_counted old new r h k raised within short are called began refused ended code is said =
    record {
      calls_are = called ∙ more is_call r h old.calls short are.calls_are;
      sessions_are = began ∙ more is_session r h old.sessions short are.sessions_are;
      refused_are = refused ∙ more is_refused_hello r h old.refused_hellos short are.refused_are;
      ended_are = ended ∙ more is_end r h old.ended short are.ended_are;
      verdicts_are = λ i below. ap (λ (v : List ℕ). get_or v i 0) (said ∙ ap (λ (n : ℕ). set old.verdicts k n) is)
          ∙ verdict_more old.verdicts k i (how_many (λ x. eqb (verdict_code x.rule) i) h) (eqb (verdict_code r.rule) i) (ap (λ (n : ℕ). eqb n i) code)
          within (are.verdicts_are i below) (omega (arith, how_many_within (λ x. eqb (verdict_code x.rule) i) h, short));
    }
