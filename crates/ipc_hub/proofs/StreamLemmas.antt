-- Whatever calls a hub makes, the trail has of a session the calls of its connection's stream.
use Rattle.std.proofs.Common.{◌≡◌, ℕ, ◌<◌, ◌≤◌, Bool, true, false, ◌&&◌, eqb, cond, List, [], ◌∷◌, ◌++◌, map, take, set, slice_get, Option, Some, None, refl, sym, ap, subst, ◌∙◌, append_assoc, arith}
use Rattle.std.specs.Prelude.{is_none}
use Rattle.std.proofs.lemmas.Bool.{eq-eqb, ne_eqb}
use Rattle.std.proofs.lemmas.List.{append-nil}
use Rattle.ipc_terms.specs.declared.ids.Sid.{Sid}
use Rattle.ipc_terms.specs.declared.record.Event.{Event}
use Rattle.ipc_terms.specs.declared.record.Event.TheVariants.{Tick}
use Rattle.ipc_policy.specs.declared.config.Config.{Config}
use Rattle.ipc_policy.specs.Decides.Sessions.{hellos}
use Rattle.ipc_state.specs.Ranges.{first_bad}
use Rattle.ipc_core.specs.Outboxes.{after_step, after_steps}
use Rattle.ipc_core.specs.CoreView.{CoreView}
use Rattle.ipc_fields.specs.declared.fault.WireFault.{WireFault}
use Rattle.ipc_wire.specs.declared.request.Request.{Request}
use Rattle.ipc_wire.specs.declared.request.Request.TheVariants as request
use Rattle.ipc_wire.specs.Requests.{is_hello_request, same, request_with}
use Rattle.ipc_wire.specs.Streams.{Cut, cut, after, still_first, is_in_order}
use Rattle.ipc_wire.proofs.CutLemmas.{cuts_alike}
use Rattle.ipc_wire.proofs.OrderLemmas.{one_hello}
use Rattle.ipc_hub.specs.declared.fed.Fed.{Fed}
use Rattle.ipc_hub.specs.declared.fed.Fed.TheVariants.{Done, Short, Full, Over}
use Rattle.ipc_hub.specs.declared.fed.End.TheVariants.{Wire, BadKey}
use Rattle.ipc_hub.specs.Hub.{Connection, Hub, new_hub, with_connection, session_or_next, event_of, events_of, hang_up_of, is_hello_refused, session_after, IsOutcome, core_after_take, ChangesOnly, Feeds, HangsUp, Takes, Names, Ticks, Forgets}
use Rattle.ipc_hub.specs.Laws.{Call, Opened, TookPiece, HungUp, Gave, Named, Ticked, Forgot, Makes, stream_of, call_in, calls_of, as_stepped, AreStepped, IsStepped, EachStreamIsStepped}
use Rattle.ipc_hub.proofs.LawLemmas.{cut_any_way, after_both}
use Rattle.ipc_hub.proofs.SessionSteps.{hellos_later}
use Rattle.ipc_hub.proofs.StepLemmas.{first_kept}
use Rattle.ipc_hub.proofs.SessionLemmas.{ChangesSessions, Which, Own, Other, AfterOpening, Fresh, Stood, which_now, after_opening, none_before, fresh_has_none, get_set, calls_no_hello, cut_order}
use Rattle.ipc_hub.proofs.HubLemmas.{same_history, forgot_marks}
use Rattle.ipc_hub.proofs.CallLists.{nothing_more, along_calls}
use Rattle.ipc_hub.proofs.RunLemmas.{IsWell, fed_change, hung_up_change, taken_change, opened_well, fed_well, hung_up_well, take_well, named_well, ticked_well, forgot_well, new_well}

-- ---- the calls of a session among events

abbrev calls_in : ℕ → List Event → List Request
calls_in s [] = []
calls_in s (e ∷ es) = call_in s e ++ calls_in s es

calls_after : (es : List Event) (a b : CoreView) (s : ℕ) → b ≡ after_steps es a → calls_of s b.history ≡ calls_of s a.history ++ calls_in s es
calls_after [] a b s now = ap (λ (z : CoreView). calls_of s z.history) now ∙ sym (append-nil (calls_of s a.history))
calls_after (e ∷ es) a b s now = calls_after es (after_step e a) b s now ∙ append_assoc (calls_of s a.history) (call_in s e) (calls_in s es)

first_after : (es : List Event) (a b : CoreView) → b ≡ after_steps es a → b.first ≡ a.first
first_after es a b now = ap (λ (z : CoreView). z.first) now ∙ first_kept es a

no_call_in : (t : Option Sid) (s : ℕ) → calls_in s (hang_up_of t) ≡ []
no_call_in None s = refl
no_call_in (Some sid) s = refl

other_call : (a : CoreView) (t : Sid) (s : ℕ) (q : Request) → (t.0 ≡ s → ⊥) → call_in s (event_of a t q) ≡ []
other_call a t s (request.Hello key) ne = refl
other_call a t s (request.Do call) ne = let k : eqb t.0 s ≡ false = ne_eqb t.0 s ne in rw k refl

-- requests of another session
other_calls : (a : CoreView) (t : Sid) (s : ℕ) (qs : List Request) → (t.0 ≡ s → ⊥) → calls_in s (map (event_of a t) qs) ≡ []
other_calls a t s [] ne = refl
other_calls a t s (q ∷ qs) ne = ap (λ (ps : List Request). ps ++ calls_in s (map (event_of a t) qs)) (other_call a t s q ne) ∙ other_calls a t s qs ne

both_true : (a b : Bool) → (a && b) ≡ true → (a ≡ true) × (b ≡ true)
both_true true b e = (refl, e)
both_true false b e = absurd cc

own_call : (a : CoreView) (t : Sid) (s : ℕ) (q : Request) → t.0 ≡ s → same (is_hello_request q) false ≡ true → call_in s (event_of a t q) ≡ as_stepped a.first q ∷ []
unfolding request_with
own_call a t s (request.Hello key) is later = absurd (let wrong : false ≡ true = later in cc)
own_call a t s (request.Do call) is later = let k : eqb t.0 s ≡ true = eq-eqb t.0 s is in rw k refl

-- calls of the session itself
own_calls : (a : CoreView) (t : Sid) (s : ℕ) (qs : List Request) → t.0 ≡ s → is_in_order false qs ≡ true → calls_in s (map (event_of a t) qs) ≡ map (as_stepped a.first) qs
own_calls a t s [] is order = refl
own_calls a t s (q ∷ qs) is order =
    let k = both_true (same (is_hello_request q) false) (is_in_order false qs) order in
    ap (λ (ps : List Request). ps ++ calls_in s (map (event_of a t) qs)) (own_call a t s q is k.0) ∙ ap (λ (ps : List Request). as_stepped a.first q ∷ ps) (own_calls a t s qs is k.1)

hello_is : (q : Request) → same (is_hello_request q) true ≡ true → (key : List ℕ) × (q ≡ request.Hello key)
hello_is (request.Hello key) e = (key, refl)
hello_is (request.Do call) e = absurd (let wrong : false ≡ true = sym (ap (λ b. same b true) (calls_no_hello call)) ∙ e in cc)

-- ---- calls as they stand in the trail

all_stepped : (first : ℕ) (qs : List Request) → AreStepped first qs (map (as_stepped first) qs)
all_stepped first [] = tt
all_stepped first (q ∷ qs) = ((first, (omega arith, refl)), all_stepped first qs)

both_stepped : (first : ℕ) (asked stepped more later : List Request) → AreStepped first asked stepped → AreStepped first more later → AreStepped first (asked ++ more) (stepped ++ later)
both_stepped first [] [] more later h k = k
both_stepped first [] (p ∷ ps) more later h k = absurd h
both_stepped first (q ∷ qs) [] more later h k = absurd h
both_stepped first (q ∷ qs) (p ∷ ps) more later h k = (h.0, both_stepped first qs ps more later h.1 k)

-- more is forgotten
later_stepped : (m n : ℕ) (asked stepped : List Request) → m ≤ n → AreStepped m asked stepped → AreStepped n asked stepped
later_stepped m n [] [] le h = tt
later_stepped m n [] (p ∷ ps) le h = absurd h
later_stepped m n (q ∷ qs) [] le h = absurd h
later_stepped m n (q ∷ qs) (p ∷ ps) le h = ((h.0.0, ((let within = h.0.1.0 in omega arith), h.0.1.1)), later_stepped m n qs ps le h.1)

-- the trail has the same calls of the session
kept_stepped : (a b : CoreView) (s : ℕ) (asked : List Request) → a.first ≤ b.first → calls_of s b.history ≡ calls_of s a.history → AreStepped a.first asked (calls_of s a.history) → AreStepped b.first asked (calls_of s b.history)
kept_stepped a b s asked le same' h = subst (λ (qs : List Request). AreStepped b.first asked qs) (sym same') (later_stepped a.first b.first asked (calls_of s a.history) le h)

-- ---- what a feed steps of a stream

record Stepping (a : CoreView) (x : Connection) (w : List ℕ) (b : CoreView) (y : Connection) : Type 0 where
  done : List Request
  others : Cut
  whole : cut (is_none x.session) w ≡ after done others
  kept : y.is_over ≡ false → others ≡ cut (is_none y.session) y.kept
  session : y.session ≡ session_after a x.session done
  calls : (s : ℕ) → calls_of s b.history ≡ calls_of s a.history ++ calls_in s (events_of a x.session done)
  first : b.first ≡ a.first

-- a hello that is refused adds no call
record Refusing (a : CoreView) (x : Connection) (b : CoreView) (y : Connection) : Type 0 where
  none : x.session ≡ None
  session : y.session ≡ None
  over : y.is_over ≡ true
  calls : (s : ℕ) → calls_of s b.history ≡ calls_of s a.history
  first : b.first ≡ a.first

data Split (a : CoreView) (x : Connection) (w : List ℕ) (b : CoreView) (y : Connection) : Type 0 where
  Goes : Stepping a x w b y → Split a x w b y
  Ends : Refusing a x b y → Split a x w b y

first_is : (a : CoreView) (s : Option Sid) (qs : List Request) → still_first (is_none s) qs ≡ is_none (session_after a s qs)
first_is a s [] = refl
first_is a s (q ∷ qs) = refl

-- behind the requests of the whole frames nothing stands but the rest
rest_is : (first : Bool) (w : List ℕ) → cut first w ≡ after (cut first w).requests (cut (still_first first (cut first w).requests) (cut first w).rest)
rest_is first w =
    let c = cut first w in
    sym (ap (cut first) (append-nil w)) ∙ cuts_alike first w [] ∙ ap (λ (v : List ℕ). after c.requests (cut (still_first first c.requests) v)) (append-nil c.rest)

all_done : (a b : CoreView) (x y : Connection) (w : List ℕ) → IsOutcome Done a x (cut (is_none x.session) w) b y → Stepping a x w b y
all_done a b x y w h =
    let c = cut (is_none x.session) w in
    let first : still_first (is_none x.session) c.requests ≡ is_none y.session = first_is a x.session c.requests ∙ ap is_none (sym h.steps.session_is) in
    record {
      done = c.requests;
      others = cut (is_none y.session) c.rest;
      whole = rest_is (is_none x.session) w ∙ ap (λ b. after c.requests (cut b c.rest)) first;
      kept = λ on. ap (cut (is_none y.session)) (sym (ap (λ (z : Connection). z.kept) h.connection));
      session = h.steps.session_is;
      calls = λ s. calls_after (events_of a x.session c.requests) a b s h.steps.core;
      first = first_after (events_of a x.session c.requests) a b h.steps.core;
    }

some_done : (a b : CoreView) (x y : Connection) (w : List ℕ) → IsOutcome Short a x (cut (is_none x.session) w) b y → Stepping a x w b y
some_done a b x y w h = record {
  done = h.done;
  others = cut (is_none y.session) y.kept;
  whole = h.others;
  kept = λ on. refl;
  session = h.steps.session_is;
  calls = λ s. calls_after (events_of a x.session h.done) a b s h.steps.core;
  first = first_after (events_of a x.session h.done) a b h.steps.core;
}

fault_done : (fault : WireFault) (a b : CoreView) (x y : Connection) (w : List ℕ) → IsOutcome (Over (Wire fault)) a x (cut (is_none x.session) w) b y → Stepping a x w b y
fault_done fault a b x y w h =
    let c = cut (is_none x.session) w in
    let events = events_of a x.session c.requests in
    record {
      done = c.requests;
      others = record { requests = []; rest = c.rest; fault = c.fault };
      whole = ap (λ (qs : List Request). record { requests = qs; rest = c.rest; fault = c.fault }) (sym (append-nil c.requests));
      kept = λ on. absurd (let wrong : true ≡ false = sym (ap (λ (z : Connection). z.is_over) h.connection) ∙ on in cc);
      session = h.steps.session_is;
      calls = λ s. calls_after (hang_up_of y.session) h.middle b s h.hung_up ∙ ap (λ (qs : List Request). calls_of s h.middle.history ++ qs) (no_call_in y.session s) ∙ append-nil (calls_of s h.middle.history) ∙ calls_after events a h.middle s h.steps.core;
      first = first_after (hang_up_of y.session) h.middle b h.hung_up ∙ first_after events a h.middle h.steps.core;
    }

hello_refused : (a b : CoreView) (x y : Connection) (w : List ℕ) → IsOutcome (Over BadKey) a x (cut (is_none x.session) w) b y → Refusing a x b y
hello_refused a b x y w h = at x.session refl (cut (is_none x.session) w).requests refl where
  at : (s : Option Sid) → x.session ≡ s → (qs : List Request) → (cut (is_none x.session) w).requests ≡ qs → Refusing a x b y
  at (Some sid) is qs e = absurd (let wrong : false ≡ true = sym (ap (λ z. is_hello_refused a z (cut (is_none x.session) w).requests) is) ∙ h.refused in cc)
  at None is [] e = absurd (let wrong : false ≡ true = sym (ap (λ z. is_hello_refused a z (cut (is_none x.session) w).requests) is ∙ ap (is_hello_refused a None) e) ∙ h.refused in cc)
  at None is (q ∷ qs) e =
      let order : is_in_order (is_none x.session) (q ∷ qs) ≡ true = ap (is_in_order (is_none x.session)) (sym e) ∙ one_hello (is_none x.session) w in
      let k = both_true (same (is_hello_request q) true) (is_in_order false qs) (ap (λ z. is_in_order (is_none z) (q ∷ qs)) (sym is) ∙ order) in
      let hello = hello_is q k.0 in
      let events : take 1 (events_of a x.session (cut (is_none x.session) w).requests) ≡ event_of a (session_or_next a None) q ∷ [] = ap (λ z. take 1 (events_of a z (cut (is_none x.session) w).requests)) is ∙ ap (λ ps. take 1 (events_of a None ps)) e in
      record {
        none = is;
        session = ap (λ (z : Connection). z.session) h.connection ∙ is;
        over = ap (λ (z : Connection). z.is_over) h.connection;
        calls = λ s. calls_after (event_of a (session_or_next a None) q ∷ []) a b s (h.core ∙ ap (λ es. after_steps es a) events) ∙ ap (λ p. calls_of s a.history ++ (call_in s (event_of a (session_or_next a None) p) ++ [])) hello.1 ∙ append-nil (calls_of s a.history);
        first = first_after (take 1 (events_of a x.session (cut (is_none x.session) w).requests)) a b h.core;
      }

split : (fed : Fed) (a b : CoreView) (x y : Connection) (w : List ℕ) → IsOutcome fed a x (cut (is_none x.session) w) b y → Split a x w b y
split Done a b x y w h = Goes (all_done a b x y w h)
split Short a b x y w h = Goes (some_done a b x y w h)
split Full a b x y w h = Goes (some_done a b x y w h)
split (Over (Wire fault)) a b x y w h = Goes (fault_done fault a b x y w h)
split (Over BadKey) a b x y w h = Ends (hello_refused a b x y w h)

-- ---- what a call at a connection does to what was stepped

record ChangesStream (a : CoreView) (x : Connection) (b : CoreView) (y : Connection) (piece : List ℕ) : Type 0 where
  first : b.first ≡ a.first
  unstarted : ((s : ℕ) → hellos a.history ≤ s → calls_of s a.history ≡ []) → (s : ℕ) → hellos b.history ≤ s → calls_of s b.history ≡ []
  others : (s : ℕ) → s < hellos a.history → ((own : Sid) → x.session ≡ Some own → own.0 ≡ s → ⊥) → calls_of s b.history ≡ calls_of s a.history
  silent : (stream : List ℕ) → y.session ≡ None → y.is_over ≡ false → (x.session ≡ None) × (x.is_over ≡ false) × (cut true stream ≡ cut true x.kept → cut true (stream ++ piece) ≡ cut true y.kept)
  same : (sid : Sid) (stream : List ℕ) → x.session ≡ Some sid → IsStepped a x sid stream → IsStepped b y sid (stream ++ piece)
  starts : (sid : Sid) (stream : List ℕ) → x.session ≡ None → y.session ≡ Some sid → (x.is_over ≡ false) × (calls_of sid.0 a.history ≡ [] → cut true stream ≡ cut true x.kept → IsStepped b y sid (stream ++ piece))

caller_differs : (a : CoreView) (o : Option Sid) (s : ℕ) → s < hellos a.history → ((own : Sid) → o ≡ Some own → own.0 ≡ s → ⊥) → (session_or_next a o).0 ≡ s → ⊥
caller_differs a None s lt ne q = let k : hellos a.history ≡ s = q in omega arith
caller_differs a (Some own) s lt ne q = ne own refl q

same_session : (s t : Sid) → Some s ≡ Some t → s ≡ t
same_session s t e = cc

stepping_changes : (a b : CoreView) (x y : Connection) (piece : List ℕ) → x.is_over ≡ false → ChangesSessions a x b y → Stepping a x (x.kept ++ piece) b y → ChangesStream a x b y piece
stepping_changes a b x y piece on m h = record {
  first = h.first;
  unstarted = λ all s le. h.calls s ∙ ap (λ (qs : List Request). qs ++ calls_in s (events_of a x.session h.done)) (all s (let k = m.later in omega arith)) ∙ none_new s le h.done refl;
  others = λ s lt ne. h.calls s ∙ ap (λ (qs : List Request). calls_of s a.history ++ qs) (other_calls a (session_or_next a x.session) s h.done (caller_differs a x.session s lt ne)) ∙ append-nil (calls_of s a.history);
  silent = λ stream none still. at_silent stream none still h.done refl;
  same = λ sid stream own st. at_same sid stream own st;
  starts = λ sid stream none own. (on, λ unheard e. at_start sid stream none own unheard e h.done refl);
} where
  none_new : (s : ℕ) → hellos b.history ≤ s → (qs : List Request) → h.done ≡ qs → calls_in s (events_of a x.session h.done) ≡ []
  none_new s le [] e = ap (λ ps. calls_in s (events_of a x.session ps)) e
  none_new s le (q ∷ qs) e =
      let own : y.session ≡ Some (session_or_next a x.session) = h.session ∙ ap (session_after a x.session) e in
      let lt : (session_or_next a x.session).0 < hellos b.history = (m.own (session_or_next a x.session) own).started in
      other_calls a (session_or_next a x.session) s h.done (λ (same' : (session_or_next a x.session).0 ≡ s). omega arith)

  at_silent : (stream : List ℕ) → y.session ≡ None → y.is_over ≡ false → (qs : List Request) → h.done ≡ qs → (x.session ≡ None) × (x.is_over ≡ false) × (cut true stream ≡ cut true x.kept → cut true (stream ++ piece) ≡ cut true y.kept)
  at_silent stream none still [] e =
      let none' : x.session ≡ None = sym (h.session ∙ ap (session_after a x.session) e) ∙ none in
      (none', on, λ k. cut_any_way true stream x.kept piece [] k ∙ sym (ap (λ (o : Option Sid). cut (is_none o) (x.kept ++ piece)) none') ∙ h.whole ∙ ap (λ (qs : List Request). after qs h.others) e ∙ h.kept still ∙ ap (λ (o : Option Sid). cut (is_none o) y.kept) none)
  at_silent stream none still (q ∷ qs) e = absurd (let wrong : ◌≡◌ {A = Option Sid} None (Some (session_or_next a x.session)) = sym none ∙ h.session ∙ ap (session_after a x.session) e in cc)

  stepped_by : (sid : Sid) (asked stepped : List Request) → calls_of sid.0 b.history ≡ stepped → AreStepped a.first asked stepped → AreStepped b.first asked (calls_of sid.0 b.history)
  stepped_by sid asked stepped calls k = subst (λ (n : ℕ). AreStepped n asked (calls_of sid.0 b.history)) (sym h.first) (subst (λ (qs : List Request). AreStepped a.first asked qs) (sym calls) k)

  order : is_in_order (is_none x.session) h.done ≡ true
  order = cut_order (is_none x.session) (x.kept ++ piece) h.done h.others h.whole

  at_same : (sid : Sid) (stream : List ℕ) → x.session ≡ Some sid → IsStepped a x sid stream → IsStepped b y sid (stream ++ piece)
  at_same sid stream own st =
      let before : List Request = request.Hello st.key ∷ st.asked in
      let calls : calls_of sid.0 b.history ≡ calls_of sid.0 a.history ++ map (as_stepped a.first) h.done = h.calls sid.0 ∙ ap (λ (qs : List Request). calls_of sid.0 a.history ++ qs) (own_calls a (session_or_next a x.session) sid.0 h.done (ap (λ (o : Option Sid). (session_or_next a o).0) own) (ap (λ (o : Option Sid). is_in_order (is_none o) h.done) (sym own) ∙ order)) in
      record {
        key = st.key;
        asked = st.asked ++ h.done;
        stepped = stepped_by sid (st.asked ++ h.done) (calls_of sid.0 a.history ++ map (as_stepped a.first) h.done) calls (both_stepped a.first st.asked (calls_of sid.0 a.history) h.done (map (as_stepped a.first) h.done) st.stepped (all_stepped a.first h.done));
        others = h.others;
        whole =
            cut_any_way true stream x.kept piece before (st.whole ∙ ap (after before) (st.kept on))
            ∙ ap (after before) (ap (λ (o : Option Sid). cut (is_none o) (x.kept ++ piece)) (sym own) ∙ h.whole)
            ∙ sym (after_both before h.done h.others);
        kept = λ still. h.kept still ∙ ap (λ (o : Option Sid). cut (is_none o) y.kept) (m.stays sid own);
      }

  at_start : (sid : Sid) (stream : List ℕ) → x.session ≡ None → y.session ≡ Some sid → calls_of sid.0 a.history ≡ [] → cut true stream ≡ cut true x.kept → (qs : List Request) → h.done ≡ qs → IsStepped b y sid (stream ++ piece)
  at_start sid stream none own unheard k [] e = absurd (let wrong : ◌≡◌ {A = Option Sid} None (Some sid) = sym none ∙ sym (h.session ∙ ap (session_after a x.session) e) ∙ own in cc)
  at_start sid stream none own unheard k (q ∷ qs) e =
      let t : Sid = session_or_next a x.session in
      let same' : t ≡ sid = same_session t sid (sym (h.session ∙ ap (session_after a x.session) e) ∙ own) in
      let number : t.0 ≡ sid.0 = ap (λ (v : Sid). v.0) same' in
      let front = both_true (same (is_hello_request q) true) (is_in_order false qs) (ap (λ (o : Option Sid). is_in_order (is_none o) (q ∷ qs)) (sym none) ∙ ap (is_in_order (is_none x.session)) (sym e) ∙ order) in
      let hello = hello_is q front.0 in
      let calls : calls_of sid.0 b.history ≡ map (as_stepped a.first) qs = h.calls sid.0 ∙ ap (λ (ps : List Request). ps ++ calls_in sid.0 (events_of a x.session h.done)) unheard ∙ ap (λ ps. calls_in sid.0 (events_of a x.session ps)) e ∙ ap (λ p. call_in sid.0 (event_of a t p) ++ calls_in sid.0 (map (event_of a t) qs)) hello.1 ∙ own_calls a t sid.0 qs number front.1 in
      let done : h.done ≡ request.Hello hello.0 ∷ qs = e ∙ ap (λ p. p ∷ qs) hello.1 in
      record {
        key = hello.0;
        asked = qs;
        stepped = stepped_by sid qs (map (as_stepped a.first) qs) calls (all_stepped a.first qs);
        others = h.others;
        whole = cut_any_way true stream x.kept piece [] k ∙ sym (ap (λ (o : Option Sid). cut (is_none o) (x.kept ++ piece)) none) ∙ h.whole ∙ ap (λ (ps : List Request). after ps h.others) done;
        kept = λ still. h.kept still ∙ ap (λ (o : Option Sid). cut (is_none o) y.kept) own;
      }

refusing_changes : (a b : CoreView) (x y : Connection) (piece : List ℕ) → ChangesSessions a x b y → Refusing a x b y → ChangesStream a x b y piece
refusing_changes a b x y piece m r = record {
  first = r.first;
  unstarted = λ all s le. r.calls s ∙ all s (let k = m.later in omega arith);
  others = λ s lt ne. r.calls s;
  silent = λ stream none still. absurd (let wrong : true ≡ false = sym r.over ∙ still in cc);
  same = λ sid stream own st. absurd (let wrong : ◌≡◌ {A = Option Sid} None (Some sid) = sym r.none ∙ own in cc);
  starts = λ sid stream none own. absurd (let wrong : ◌≡◌ {A = Option Sid} None (Some sid) = sym r.session ∙ own in cc);
}

-- nothing is stepped
quiet_changes : (a b : CoreView) (x y : Connection) → ChangesSessions a x b y → b.first ≡ a.first → ((s : ℕ) → calls_of s b.history ≡ calls_of s a.history) → y.session ≡ x.session → (y.is_over ≡ false → (x.is_over ≡ false) × (y.kept ≡ x.kept)) → ChangesStream a x b y []
quiet_changes a b x y m first' calls session open' = record {
  first = first';
  unstarted = λ all s le. calls s ∙ all s (let k = m.later in omega arith);
  others = λ s lt ne. calls s;
  silent = λ stream none still. (sym session ∙ none, (open' still).0, λ e. ap (cut true) (append-nil stream) ∙ e ∙ ap (cut true) (sym (open' still).1));
  same = λ sid stream own st. record {
    key = st.key;
    asked = st.asked;
    stepped = kept_stepped a b sid.0 st.asked (omega arith) (calls sid.0) st.stepped;
    others = st.others;
    whole = ap (cut true) (append-nil stream) ∙ st.whole;
    kept = λ still. st.kept (open' still).0 ∙ ap (cut false) (sym (open' still).1);
  };
  starts = λ sid stream none own. absurd (let wrong : ◌≡◌ {A = Option Sid} None (Some sid) = sym none ∙ sym session ∙ own in cc);
}

split_changes : (a b : CoreView) (x y : Connection) (piece : List ℕ) → x.is_over ≡ false → ChangesSessions a x b y → Split a x (x.kept ++ piece) b y → ChangesStream a x b y piece
split_changes a b x y piece on m (Goes h) = stepping_changes a b x y piece on m h
split_changes a b x y piece on m (Ends r) = refusing_changes a b x y piece m r

-- ---- hubs along their calls

record IsStreamed (hub : Hub) (i : ℕ) (stream : List ℕ) : Type 0 where
  well : IsWell hub
  unstarted : (s : ℕ) → hellos hub.core.history ≤ s → calls_of s hub.core.history ≡ []
  absent : slice_get hub.connections i ≡ None → stream ≡ []
  silent : (x : Connection) → slice_get hub.connections i ≡ Some x → x.session ≡ None → x.is_over ≡ false → cut true stream ≡ cut true x.kept
  spoken : (x : Connection) (sid : Sid) → slice_get hub.connections i ≡ Some x → x.session ≡ Some sid → IsStepped hub.core x sid stream

-- a call at connection j
changed_streamed : (old new : Hub) (j : ℕ) (x y : Connection) (piece : List ℕ) (i : ℕ) (stream : List ℕ) → IsWell new → ChangesOnly old new j x y → ChangesSessions old.core x new.core y → ChangesStream old.core x new.core y piece → IsStreamed old i stream → IsStreamed new i (stream ++ cond (eqb j i) piece [])
changed_streamed old new j x y piece i stream well only m o h = record {
  well = well;
  unstarted = o.unstarted h.unstarted;
  absent = λ e. at_absent (eqb j i) refl (sym (ap (λ (zs : List Connection). slice_get zs i) only.others ∙ get_set old.connections j x y i only.was) ∙ e);
  silent = λ z e none on. at_silent z none on (which_now old new j x y i z only e);
  spoken = λ z sid e own. at_spoken z sid own (which_now old new j x y i z only e);
} where
  own_piece : j ≡ i → stream ++ cond (eqb j i) piece [] ≡ stream ++ piece
  own_piece e = let k : eqb j i ≡ true = eq-eqb j i e in rw k refl

  no_piece : eqb j i ≡ false → stream ++ cond (eqb j i) piece [] ≡ stream
  no_piece k = ap (λ b. stream ++ cond b piece []) k ∙ append-nil stream

  was_at : j ≡ i → slice_get old.connections i ≡ Some x
  was_at e = subst (λ (n : ℕ). slice_get old.connections n ≡ Some x) e only.was

  at_absent : (b : Bool) → eqb j i ≡ b → cond b (Some y) (slice_get old.connections i) ≡ None → (stream ++ cond (eqb j i) piece []) ≡ []
  at_absent true k e = absurd cc
  at_absent false k e = no_piece k ∙ h.absent e

  at_silent : (z : Connection) → z.session ≡ None → z.is_over ≡ false → Which old.connections j y i z → cut true (stream ++ cond (eqb j i) piece []) ≡ cut true z.kept
  at_silent z none on (Own e is) =
      let k = o.silent stream (ap (λ (v : Connection). v.session) is ∙ none) (ap (λ (v : Connection). v.is_over) is ∙ on) in
      ap (cut true) (own_piece e) ∙ k.2 (h.silent x (was_at e) k.0 k.1) ∙ ap (λ (v : Connection). cut true v.kept) is
  at_silent z none on (Other ne e) = ap (cut true) (no_piece (ne_eqb j i ne)) ∙ h.silent z e none on

  -- the connection had no session before, or this one
  at_own : (sid : Sid) → j ≡ i → y.session ≡ Some sid → (s : Option Sid) → x.session ≡ s → IsStepped new.core y sid (stream ++ piece)
  at_own sid e own None none =
      let k = o.starts sid stream none own in
      let number : sid.0 ≡ hellos old.core.history = m.starts none sid own in
      k.1 (h.unstarted sid.0 (let n = number in omega arith)) (h.silent x (was_at e) none k.0)
  at_own sid e own (Some was) is =
      let same' : was ≡ sid = same_session _ _ (sym (m.stays was is) ∙ own) in
      let is' : x.session ≡ Some sid = is ∙ ap Some same' in
      o.same sid stream is' (h.spoken x sid (was_at e) is')

  same_sid : (s t : Sid) → s.0 ≡ t.0 → s ≡ t
  same_sid s t q = ap (λ (n : ℕ). record { 0 = n }) q

  at_other : (z : Connection) (sid : Sid) → z.session ≡ Some sid → (j ≡ i → ⊥) → slice_get old.connections i ≡ Some z → IsStepped new.core z sid stream
  at_other z sid own ne e =
      let st = h.spoken z sid e own in
      let lt : sid.0 < hellos old.core.history = (h.well.sessions.own i z sid e own).started in
      let calls = o.others sid.0 lt (λ other is same'. ne (h.well.sessions.apart j i x z sid only.was e (is ∙ ap Some (same_sid other sid same')) own)) in
      let same' = o.first in
      record { key = st.key; asked = st.asked; stepped = kept_stepped old.core new.core sid.0 st.asked (omega arith) calls st.stepped; others = st.others; whole = st.whole; kept = st.kept }

  at_spoken : (z : Connection) (sid : Sid) → z.session ≡ Some sid → Which old.connections j y i z → IsStepped new.core z sid (stream ++ cond (eqb j i) piece [])
  at_spoken z sid own (Own e is) = subst (λ (bytes : List ℕ). IsStepped new.core z sid bytes) (sym (own_piece e)) (subst (λ (v : Connection). IsStepped new.core v sid (stream ++ piece)) is (at_own sid e (ap (λ (v : Connection). v.session) is ∙ own) x.session refl))
  at_spoken z sid own (Other ne e) = subst (λ (bytes : List ℕ). IsStepped new.core z sid bytes) (sym (no_piece (ne_eqb j i ne))) (at_other z sid own ne e)

-- a connection that is opened
opened_streamed : (old new : Hub) (i : ℕ) (stream : List ℕ) → new ≡ with_connection old → IsStreamed old i stream → IsStreamed new i stream
opened_streamed old new i stream is h = subst (λ (z : Hub). IsStreamed z i stream) (sym is) (record {
  well = opened_well old (with_connection old) refl h.well;
  unstarted = h.unstarted;
  absent = λ e. h.absent (none_before old.connections i e);
  silent = λ x e none on. at_silent x none on (after_opening old.connections i x e);
  spoken = λ x sid e own. at_spoken x sid own (after_opening old.connections i x e);
}) where
  at_silent : (x : Connection) → x.session ≡ None → x.is_over ≡ false → AfterOpening old.connections i x → cut true stream ≡ cut true x.kept
  at_silent x none on (Fresh past is') = ap (cut true) (h.absent past) ∙ ap (λ (v : Connection). cut true v.kept) is'
  at_silent x none on (Stood e) = h.silent x e none on

  at_spoken : (x : Connection) (sid : Sid) → x.session ≡ Some sid → AfterOpening old.connections i x → IsStepped old.core x sid stream
  at_spoken x sid own (Fresh past is') = absurd (fresh_has_none x sid is' own)
  at_spoken x sid own (Stood e) = h.spoken x sid e own

-- a connection that is named
named_streamed : (old new : Hub) (j i : ℕ) (stream : List ℕ) → Names old j new → IsStreamed old i stream → IsStreamed new i stream
named_streamed old new j i stream f h = subst (λ (z : Hub). IsStreamed z i stream) (sym f.now) (record { well = named_well old (record old { marked = set old.marked j false }) j (record { was = f.was; now = refl }) h.well; unstarted = h.unstarted; absent = h.absent; silent = h.silent; spoken = h.spoken })

-- a tick, which is no call of any session
ticked_streamed : (old new : Hub) (moment i : ℕ) (stream : List ℕ) → Ticks old moment new → IsStreamed old i stream → IsStreamed new i stream
ticked_streamed old new moment i stream t h = record {
  well = ticked_well old new moment t h.well;
  unstarted = λ s le. (let more = later in calls s ∙ h.unstarted s (omega arith));
  absent = λ e. h.absent (there ∙ e);
  silent = λ x e none on. h.silent x (there ∙ e) none on;
  spoken = λ x sid e own. (let st = h.spoken x sid (there ∙ e) own in let first' = first_after (Tick moment ∷ []) old.core new.core t.core in record { key = st.key; asked = st.asked; stepped = kept_stepped old.core new.core sid.0 st.asked (omega arith) (calls sid.0) st.stepped; others = st.others; whole = st.whole; kept = st.kept });
} where
  there : slice_get old.connections i ≡ slice_get new.connections i
  there = ap (λ (zs : List Connection). slice_get zs i) (sym t.connections)

  calls : (s : ℕ) → calls_of s new.core.history ≡ calls_of s old.core.history
  calls s = calls_after (Tick moment ∷ []) old.core new.core s t.core ∙ append-nil (calls_of s old.core.history)

  later : hellos old.core.history ≤ hellos new.core.history
  later = subst (λ (z : CoreView). hellos old.core.history ≤ hellos z.history) (sym t.core) (hellos_later (Tick moment ∷ []) old.core)

-- records that are forgotten
forgot_streamed : (old new : Hub) (i : ℕ) (stream : List ℕ) → Forgets old new → IsStreamed old i stream → IsStreamed new i stream
forgot_streamed old new i stream f h = subst (λ (z : Hub). IsStreamed z i stream) (sym f.now) (record {
  well = forgot_well old (record old { core = record old.core { first = new.core.first } }) (record { now = refl; later = f.later; marks = forgot_marks old new.core.first }) h.well;
  unstarted = h.unstarted;
  absent = h.absent;
  silent = h.silent;
  spoken = λ x sid e own. (let st = h.spoken x sid e own in record { key = st.key; asked = st.asked; stepped = later_stepped old.core.first new.core.first st.asked (calls_of sid.0 old.core.history) f.later st.stepped; others = st.others; whole = st.whole; kept = st.kept });
})

-- ---- each call

nothing_came : (hub : Hub) (i : ℕ) (stream : List ℕ) (b : Bool) → IsStreamed hub i (stream ++ cond b [] []) → IsStreamed hub i stream
nothing_came hub i stream true h = subst (λ (bytes : List ℕ). IsStreamed hub i bytes) (append-nil stream) h
nothing_came hub i stream false h = subst (λ (bytes : List ℕ). IsStreamed hub i bytes) (append-nil stream) h

fed_streamed : (old new : Hub) (j : ℕ) (piece : List ℕ) (fed : Fed) (i : ℕ) (stream : List ℕ) → Feeds old j piece fed new → IsStreamed old i stream → IsStreamed new i (stream ++ cond (eqb j i) piece [])
fed_streamed old new j piece fed i stream f h =
    let m = fed_change old new j piece fed h.well f in
    let s = split fed old.core new.core f.before f.later (f.before.kept ++ piece) f.outcome in
    changed_streamed old new j f.before f.later piece i stream (fed_well old new j piece fed h.well f) f.changes m (split_changes old.core new.core f.before f.later piece f.open_before m s) h

hung_up_streamed : (old new : Hub) (j i : ℕ) (stream : List ℕ) → HangsUp old j new → IsStreamed old i stream → IsStreamed new i stream
hung_up_streamed old new j i stream f h =
    let x = f.before in
    let m = hung_up_change old new j h.well f in
    let calls = λ (s : ℕ). calls_after (hang_up_of x.session) old.core new.core s f.core ∙ ap (λ (qs : List Request). calls_of s old.core.history ++ qs) (no_call_in x.session s) ∙ append-nil (calls_of s old.core.history) in
    nothing_came new i stream (eqb j i) (changed_streamed old new j x (record x { kept = []; is_over = true }) [] i stream (hung_up_well old new j h.well f) f.changes m (quiet_changes old.core new.core x (record x { kept = []; is_over = true }) m (first_after (hang_up_of x.session) old.core new.core f.core) calls refl (λ still. absurd (let wrong : true ≡ false = still in cc))) h)

taken_first : (a : CoreView) (s : Option Sid) → (core_after_take a s).first ≡ a.first
taken_first a None = refl
taken_first a (Some sid) = refl

taken_streamed : (old new : Hub) (j : ℕ) (bytes : List ℕ) (i : ℕ) (stream : List ℕ) → Takes old j bytes new → IsStreamed old i stream → IsStreamed new i stream
taken_streamed old new j bytes i stream f h =
    let x = f.before in
    let m = taken_change old new j bytes h.well f in
    let calls = λ (s : ℕ). ap (λ (z : CoreView). calls_of s z.history) f.core ∙ ap (calls_of s) (same_history old.core x.session) in
    nothing_came new i stream (eqb j i) (changed_streamed old new j x (record x { has_refusal = false }) [] i stream (take_well old new j bytes h.well f) f.changes m (quiet_changes old.core new.core x (record x { has_refusal = false }) m (ap (λ (z : CoreView). z.first) f.core ∙ taken_first old.core x.session) calls refl (λ still. (still, refl))) h)

-- what one call brings of the stream
abbrev brought_by : ℕ → Call → List ℕ
brought_by i (TookPiece j piece fed) = cond (eqb j i) piece []
brought_by i call = []

stream_is : (i : ℕ) (call : Call) (calls : List Call) → stream_of i (call ∷ calls) ≡ brought_by i call ++ stream_of i calls
stream_is i Opened calls = refl
stream_is i (HungUp j) calls = refl
stream_is i (Gave j bytes) calls = refl
stream_is i (Named j) calls = refl
stream_is i (Ticked moment) calls = refl
stream_is i Forgot calls = refl
stream_is i (TookPiece j piece fed) calls = at (eqb j i) where
  at : (b : Bool) → cond b (piece ++ stream_of i calls) (stream_of i calls) ≡ cond b piece [] ++ stream_of i calls
  at true = refl
  at false = refl

call_streamed : (i : ℕ) (call : Call) (old new : Hub) (stream : List ℕ) → Makes call old new → IsStreamed old i stream → IsStreamed new i (stream ++ brought_by i call)
call_streamed i Opened old new stream made h = nothing_more (λ (z : Hub) (bytes : List ℕ). IsStreamed z i bytes) new stream (opened_streamed old new i stream made h)
call_streamed i (TookPiece j piece fed) old new stream made h = fed_streamed old new j piece fed i stream made h
call_streamed i (HungUp j) old new stream made h = nothing_more (λ (z : Hub) (bytes : List ℕ). IsStreamed z i bytes) new stream (hung_up_streamed old new j i stream made h)
call_streamed i (Gave j bytes) old new stream made h = nothing_more (λ (z : Hub) (bytes : List ℕ). IsStreamed z i bytes) new stream (taken_streamed old new j bytes i stream made h)
call_streamed i (Named j) old new stream made h = nothing_more (λ (z : Hub) (bytes : List ℕ). IsStreamed z i bytes) new stream (named_streamed old new j i stream made h)
call_streamed i (Ticked moment) old new stream made h = nothing_more (λ (z : Hub) (bytes : List ℕ). IsStreamed z i bytes) new stream (ticked_streamed old new moment i stream made h)
call_streamed i Forgot old new stream made h = nothing_more (λ (z : Hub) (bytes : List ℕ). IsStreamed z i bytes) new stream (forgot_streamed old new i stream made h)

new_streamed : (c : Config) (i : ℕ) → first_bad c.limits ≡ None → IsStreamed (new_hub c) i []
new_streamed c i range = record { well = new_well c range; unstarted = λ s le. refl; absent = λ e. refl; silent = λ x e none on. absurd cc; spoken = λ x sid e own. absurd cc }

pub each_stream : EachStreamIsStepped
each_stream c calls hub i x sid range made there own = (along_calls (λ (z : Hub) (bytes : List ℕ). IsStreamed z i bytes) (brought_by i) (stream_of i) refl (stream_is i) (call_streamed i) calls (new_hub c) hub [] made (new_streamed c i range)).spoken x sid there own
