-- A history is a list of records, the newest first. What came before a record is the list behind it.
-- A question about a history is asked in one of three ways: what does the newest accepted event
-- that says something about it say; what did the newest one begin, unless a later one ended it;
-- and how many accepted events are of a kind. Queues, semaphores and the time alone are asked event by event.
-- Refused events say, begin and end nothing.
use Rattle.std.specs.Prelude.{Bool, false, ℕ, zero, suc, ◌+◌, ◌&&◌, ◌||◌, ◌==◌, List, [], ◌∷◌, ◌++◌, length, Option, Some, None, is_none, if◌then◌else◌}
use Rattle.std.specs.Option.{option_or, option_to_list}
pub use Rattle.ipc_terms.specs.History.{History, record_at}
use Rattle.ipc_terms.specs.declared.rule.Rule.{Rule}
use Rattle.ipc_terms.specs.declared.record.Event.{Event}
use Rattle.ipc_terms.specs.declared.record.Record.{Record}

abbrev pub is_accepted : Record → Bool
is_accepted r = is_none r.rule

-- the history with one more event, which is accepted
abbrev pub after_accepted : History → Event → History
after_accepted h e = record { event = e; rule = None } ∷ h

-- the history with one more event, which the rule refuses
abbrev pub after_refused : History → Event → Rule → History
after_refused h e rule = record { event = e; rule = Some rule } ∷ h

-- what came before the record of a place
abbrev pub before_at : ℕ → History → History
before_at place [] = []
before_at place (r ∷ before) = if length before == place then before else before_at place before

-- what the newest accepted event that says something says; an event is read with what came before it
abbrev pub newest : {A : Type 0} → (Event → History → Option A) → History → Option A
newest says [] = None
newest says (r ∷ before) =
    option_or (if is_accepted r then says r.event before else None) (newest says before)

-- how many accepted events are of a kind; an event is read with what came before it
abbrev pub how_many : (Event → History → Bool) → History → ℕ
how_many is_one [] = 0
how_many is_one (r ∷ before) =
    if is_accepted r && is_one r.event before then how_many is_one before + 1 else how_many is_one before

-- there is one, and this holds of it
abbrev pub is_some_and : {A : Type 0} → (A → Bool) → Option A → Bool
is_some_and test None = false
is_some_and test (Some x) = test x

-- what is left of it unless it was ended
abbrev pub unless : {A : Type 0} → (A → Bool) → Option A → Option A
unless ends None = None
unless ends (Some x) = if ends x then None else Some x

-- what the newest accepted event that begins something begins, unless a later accepted event ends it;
-- an event is read with what came before it, and what it begins may be made of what there was just before
abbrev pub unended_from : {A : Type 0} → (Event → History → Option A → Option A) → (A → Event → History → Bool) → History → Option A
unended_from begins ends [] = None
unended_from begins ends (r ∷ before) =
    if is_accepted r
    then option_or (begins r.event before (unended_from begins ends before)) (unless (λ x. ends x r.event before) (unended_from begins ends before))
    else unended_from begins ends before

-- the same, where what begins is not made of what there was
abbrev pub unended : {A : Type 0} → (Event → History → Option A) → (A → Event → History → Bool) → History → Option A
unended begins ends h = unended_from (λ e before was. begins e before) ends h

-- how many numbers below a limit are of a kind
abbrev pub how_many_below : (ℕ → Bool) → ℕ → ℕ
how_many_below is_one zero = 0
how_many_below is_one (suc n) = if is_one n then how_many_below is_one n + 1 else how_many_below is_one n

-- the sum of what the numbers below a limit give
abbrev pub sum_below : (ℕ → ℕ) → ℕ → ℕ
sum_below give zero = 0
sum_below give (suc n) = sum_below give n + give n

-- whether a number below a limit is of a kind
abbrev pub any_below : (ℕ → Bool) → ℕ → Bool
any_below is_one zero = false
any_below is_one (suc n) = is_one n || any_below is_one n

-- what the numbers below a limit give, in their order
abbrev pub gathered_below : {A : Type 0} → (ℕ → Option A) → ℕ → List A
gathered_below give zero = []
gathered_below give (suc n) = gathered_below give n ++ option_to_list (give n)

-- what the least number below a limit that gives something gives
abbrev pub first_below : {A : Type 0} → (ℕ → Option A) → ℕ → Option A
first_below give zero = None
first_below give (suc n) = option_or (first_below give n) (give n)
