-- How many requests a feed steps.
use Rattle.std.proofs.Common.{◌≡◌, ◌⊎◌, inl, inr, ◌+◌, ◌-◌, arith, ℕ, List, [], ◌∷◌, length, map, take, Option, Some, None, refl, sym, ap, subst, ◌∙◌}
use Rattle.std.specs.Prelude.{min, Result, Ok, Err, IfOk, OnErr}
use Rattle.std.proofs.lemmas.List.{length-map}
use Rattle.ipc_terms.specs.declared.ids.Sid.{Sid}
use Rattle.ipc_terms.specs.declared.record.Event.{Event}
use Rattle.ipc_core.specs.CoreView.{CoreView}
use Rattle.ipc_core.specs.Outboxes.{after_step, after_steps}
use Rattle.ipc_wire.specs.declared.request.Request.{Request}
use Rattle.ipc_wire.specs.Streams.{Cut}
use Rattle.ipc_hub.specs.Hub.{Connection, Hub, Feeds, IsOutcome, Steps, StepsAll, StepsSome, EndsAtFault, EndsAtHello, events_of, event_of, session_or_next, session_after, hang_up_of}
use Rattle.ipc_hub.specs.declared.fed.Fed.{Fed}
use Rattle.ipc_hub.specs.declared.fed.Fed.TheVariants.{Done, Short, Full, Over}
use Rattle.ipc_hub.specs.declared.fed.End.TheVariants.{Wire, BadKey}
use Rattle.ipc_hub.specs.declared.fed.HubFault.{HubFault}
use Rattle.ipc_loop.specs.Requests.{requests_among, StepsRequests}

-- each step adds one record
grows : (es : List Event) (a : CoreView) → length (after_steps es a).history ≡ length a.history + length es
grows [] a = omega arith
grows (e ∷ es) a = let more = grows es (after_step e a) in omega (arith, more)

many : (a : CoreView) (session : Option Sid) (requests : List Request) → length (events_of a session requests) ≡ length requests
many a session requests = length-map requests (event_of a (session_or_next a session))

recorded : (a b : CoreView) (session : Option Sid) (requests : List Request) → b ≡ after_steps (events_of a session requests) a → length requests ≡ length b.history - length a.history
recorded a b session requests now =
    let more : length b.history ≡ length a.history + length (events_of a session requests) = ap (λ (x : CoreView). length x.history) now ∙ grows (events_of a session requests) a in
    omega (arith, more, many a session requests)

-- nothing but requests is stepped
alone : (h h' : Hub) (session : Option Sid) (requests : List Request) → h'.core ≡ after_steps (events_of h.core session requests) h.core → StepsRequests (length h'.core.history - length h.core.history) h h'
alone h h' session requests now = record { session = session; requests = requests; counted = recorded h.core h'.core session requests now; behind = []; hang_up = inl refl; core = now }

hangs_up : (session : Option Sid) → (hang_up_of session ≡ []) ⊎ ((sid : Sid) × (hang_up_of session ≡ hang_up_of (Some sid)))
hangs_up None = inl refl
hangs_up (Some sid) = inr (sid, refl)

none_of : (a : CoreView) (session : Option Sid) (requests : List Request) → session_after a session requests ≡ None → requests ≡ []
none_of a session [] e = refl
none_of a session (first ∷ requests) e = absurd cc

-- behind a fault the session is hung up, if there is one
fault_counts : (a middle b : CoreView) (session later : Option Sid) (requests : List Request) → later ≡ session_after a session requests → middle ≡ after_steps (events_of a session requests) a → b ≡ after_steps (hang_up_of later) middle → length requests ≡ length b.history - length a.history - 1
fault_counts a middle b session None requests is steps hung =
    let none : length requests ≡ 0 = ap (λ (xs : List Request). length xs) (none_of a session requests (sym is)) in
    let same : length b.history ≡ length middle.history = ap (λ (x : CoreView). length x.history) hung in
    let before : length requests ≡ length middle.history - length a.history = recorded a middle session requests steps in
    omega (arith, none, same, before)
fault_counts a middle b session (Some sid) requests is steps hung =
    let more : length middle.history ≡ length a.history + length (events_of a session requests) = ap (λ (x : CoreView). length x.history) steps ∙ grows (events_of a session requests) a in
    let last : length b.history ≡ length middle.history + 1 = ap (λ (x : CoreView). length x.history) hung ∙ grows (hang_up_of (Some sid)) middle in
    omega (arith, more, last, many a session requests)

first_of : (f : Request → Event) (requests : List Request) → take 1 (map f requests) ≡ map f (take 1 requests)
first_of f [] = refl
first_of f (request ∷ requests) = refl

outcome_counts : (h h' : Hub) (x y : Connection) (c : Cut) (fed : Fed) → IsOutcome fed h.core x c h'.core y → StepsRequests (requests_among (length h'.core.history - length h.core.history) (Ok fed)) h h'
outcome_counts h h' x y c Done o = alone h h' x.session c.requests o.steps.core
outcome_counts h h' x y c Short o = alone h h' x.session o.done o.steps.core
outcome_counts h h' x y c Full o = alone h h' x.session o.done o.steps.core
outcome_counts h h' x y c (Over (Wire fault)) o = record {
  session = x.session;
  requests = c.requests;
  counted = fault_counts h.core o.middle h'.core x.session y.session c.requests o.steps.session_is o.steps.core o.hung_up;
  behind = hang_up_of y.session;
  hang_up = hangs_up y.session;
  core = o.hung_up ∙ ap (after_steps (hang_up_of y.session)) o.steps.core;
}
outcome_counts h h' x y c (Over BadKey) o = alone h h' x.session (take 1 c.requests) (o.core ∙ ap (λ (es : List Event). after_steps es h.core) (first_of (event_of h.core (session_or_next h.core x.session)) c.requests))

pub feed_counts : (k : ℕ) (h h' : Hub) (piece : List ℕ) (r : Result Fed HubFault) → IfOk r (λ fed. Feeds h k piece fed h') → OnErr r (h' ≡ h) → StepsRequests (requests_among (length h'.core.history - length h.core.history) r) h h'
feed_counts k h h' piece (Ok fed) ok err = outcome_counts h h' ok.before ok.later _ fed ok.outcome
feed_counts k h h' piece (Err fault) ok err = alone h h' None [] (ap (λ (x : Hub). x.core) err)
