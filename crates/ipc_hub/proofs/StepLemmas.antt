-- Requests are stepped one by one, and what is left is cut into the others.
use Rattle.std.proofs.Common.{◌≡◌, ℕ, ◌+◌, ◌-◌, ◌≤◌, Bool, true, false, not, cond, List, [], ◌∷◌, ◌++◌, length, take, drop, Option, Some, None, Result, Ok, Err, refl, sym, ap, ◌∙◌, arith}
use Rattle.std.specs.Prelude.{is_none, is_some}
use Rattle.std.proofs.lemmas.List.{map_push, append-nil, drop-drop}
use Rattle.ipc_terms.specs.declared.ids.Sid.{Sid}
use Rattle.ipc_terms.specs.declared.record.Event.{Event}
use Rattle.ipc_terms.specs.declared.record.Event.TheVariants as event
use Rattle.ipc_access.specs.Users.{user_of_key}
use Rattle.ipc_policy.specs.declared.config.Config.{Config}
use Rattle.ipc_core.specs.Outboxes.{after_step, after_steps}
use Rattle.ipc_core.specs.CoreView.{CoreView}
use Rattle.ipc_core.proofs.BoxSteps.{steps_more}
use Rattle.ipc_fields.specs.declared.fault.WireFault.{WireFault}
use Rattle.ipc_fields.proofs.FrontLemmas.{front_some, rest_behind}
use Rattle.ipc_wire.specs.declared.request.Request.{Request}
use Rattle.ipc_wire.specs.declared.request.Request.TheVariants as request
use Rattle.ipc_wire.specs.Requests.{request_at}
use Rattle.ipc_wire.specs.Streams.{front, Cut, cut, cut_by, after}
use Rattle.ipc_wire.proofs.CutLemmas.{cut_is, goes_on}
use Rattle.ipc_hub.specs.declared.fed.Fed.{Fed}
use Rattle.ipc_hub.specs.declared.fed.Fed.TheVariants.{Done, Short, Full, Over}
use Rattle.ipc_hub.specs.declared.fed.End.{End}
use Rattle.ipc_hub.specs.declared.fed.End.TheVariants.{Wire, BadKey}
use Rattle.ipc_hub.specs.Hub.{Connection}
use Rattle.ipc_hub.specs.Hub.{session_or_next, from_kept, event_of, events_of, is_hello_refused, Steps, IsOutcome}
use Rattle.ipc_hub.specs.Stepping.{StepsFront, RefusesHello, StepsFrames, IsEnd, connection_after}

-- events leave the configuration
pub config_kept : (es : List Event) (a : CoreView) → (after_steps es a).config ≡ a.config
config_kept [] a = refl
config_kept (e ∷ es) a = config_kept es (after_step e a)

pub first_kept : (es : List Event) (a : CoreView) → (after_steps es a).first ≡ a.first
first_kept [] a = refl
first_kept (e ∷ es) a = first_kept es (after_step e a)

-- a request as an event, of the session that a connection calls by
abbrev event_at : CoreView → Option Sid → Request → Event
event_at a s q = event_of a (session_or_next a s) q

-- it depends on nothing of the core that steps change
same_event : (a b : CoreView) (sid : Sid) (q : Request) → b.config ≡ a.config → b.first ≡ a.first → event_of b sid q ≡ event_of a sid q
same_event a b sid (request.Hello key) config first = ap (λ (c : Config). event.Hello (user_of_key c.users key)) config
same_event a b sid (request.Do call) config first = ap (λ (n : ℕ). event.Do sid (from_kept n call)) first

pub none_stepped : (a : CoreView) (s : Option Sid) → Steps a s [] a s
none_stepped a None = record { accepted = refl; core = refl; session_is = refl }
none_stepped a (Some sid) = record { accepted = refl; core = refl; session_is = refl }

-- only the first may be refused
refused_front : (a : CoreView) (s : Option Sid) (q : Request) (ps qs : List Request) → is_hello_refused a s (q ∷ ps) ≡ is_hello_refused a s (q ∷ qs)
refused_front a None q ps qs = refl
refused_front a (Some sid) q ps qs = refl

first_stepped : (a b d : CoreView) (s t : Option Sid) (q : Request) → b ≡ a → t ≡ s → is_hello_refused b t (q ∷ []) ≡ false → d ≡ after_step (event_at b t q) b → Steps a s (q ∷ []) d (Some (session_or_next b t))
first_stepped a b d s t q same own accepted now = record {
  accepted = sym (ap (λ z. is_hello_refused z t (q ∷ [])) same ∙ ap (λ z. is_hello_refused a z (q ∷ [])) own) ∙ accepted;
  core = now ∙ ap (λ z. after_step (event_at z t q) z) same ∙ ap (λ z. after_step (event_at a z q) a) own;
  session_is = ap (λ z. Some (session_or_next z t)) same ∙ ap (λ z. Some (session_or_next a z)) own;
}

-- one request more
more_stepped : (a b d : CoreView) (s t : Option Sid) (qs : List Request) (q : Request) → Steps a s qs b t → is_hello_refused b t (q ∷ []) ≡ false → d ≡ after_step (event_at b t q) b → Steps a s (qs ++ q ∷ []) d (Some (session_or_next b t))
more_stepped a b d s t [] q h accepted now = first_stepped a b d s t q h.core h.session_is accepted now
more_stepped a b d s t (p ∷ ps) q h accepted now =
    let own : session_or_next b t ≡ session_or_next a s = ap (session_or_next b) h.session_is in
    let same : b.config ≡ a.config = ap (λ (z : CoreView). z.config) h.core ∙ config_kept (events_of a s (p ∷ ps)) a in
    let first : b.first ≡ a.first = ap (λ (z : CoreView). z.first) h.core ∙ first_kept (events_of a s (p ∷ ps)) a in
    let event : event_at b t q ≡ event_at a s q = same_event a b (session_or_next b t) q same first ∙ ap (λ sid. event_of a sid q) own in
    record {
      accepted = refused_front a s p (ps ++ q ∷ []) ps ∙ h.accepted;
      core =
          now
          ∙ ap (λ e. after_step e b) event
          ∙ ap (after_step (event_at a s q)) h.core
          ∙ sym (steps_more (events_of a s (p ∷ ps)) (event_at a s q) a)
          ∙ ap (λ es. after_steps es a) (sym (map_push (event_of a (session_or_next a s)) (p ∷ ps) q));
      session_is = ap Some own;
    }

pub none_front : (a : CoreView) (s : Option Sid) (w : List ℕ) → StepsFront a s w a s w
none_front a s w = record { done = []; steps = none_stepped a s; others = refl }

-- what a step says of the session
accepted_is : (a : CoreView) (t : Option Sid) (q : Request) (sid : Sid) → ◌≡◌ {A = Option Sid} (Some sid) (cond (is_hello_refused a t (q ∷ [])) None (Some (session_or_next a t))) → (is_hello_refused a t (q ∷ []) ≡ false) × (sid ≡ session_or_next a t)
accepted_is a t q sid e = at (is_hello_refused a t (q ∷ [])) e where
  at : (b : Bool) → ◌≡◌ {A = Option Sid} (Some sid) (cond b None (Some (session_or_next a t))) → (b ≡ false) × (sid ≡ session_or_next a t)
  at true k = absurd cc
  at false k = (refl, cc)

refused_is : (a : CoreView) (t : Option Sid) (q : Request) → ◌≡◌ {A = Option Sid} None (cond (is_hello_refused a t (q ∷ [])) None (Some (session_or_next a t))) → is_hello_refused a t (q ∷ []) ≡ true
refused_is a t q e = at (is_hello_refused a t (q ∷ [])) e where
  at : (b : Bool) → ◌≡◌ {A = Option Sid} None (cond b None (Some (session_or_next a t))) → b ≡ true
  at true k = refl
  at false k = absurd cc

-- a request in front was stepped and not refused
pub front_on : (a b d : CoreView) (s t : Option Sid) (w rest r : List ℕ) (q : Request) (sid : Sid) → StepsFront a s w b t rest → front (is_none t) rest ≡ Ok (Some (q, r)) → ◌≡◌ {A = Option Sid} (Some sid) (cond (is_hello_refused b t (q ∷ [])) None (Some (session_or_next b t))) → d ≡ after_step (event_at b t q) b → StepsFront a s w d (Some sid) r
front_on a b d s t w rest r q sid h found session now =
    let k = accepted_is b t q sid session in
    record {
      done = h.done ++ q ∷ [];
      steps = rw k.1 (more_stepped a b d s t h.done q h.steps k.0 now);
      others = sym (goes_on h.done (is_none t) rest q r (cut (is_none s) w) found (sym h.others));
    }

-- what stands in front of the rest
pub cut_waits : (first : Bool) (w : List ℕ) → front first w ≡ Ok None → cut first w ≡ record { requests = []; rest = w; fault = None }
cut_waits first w e = cut_is first w ∙ ap (cut_by (cut false) w) e

pub cut_fails : (first : Bool) (w : List ℕ) (f : WireFault) → front first w ≡ Err f → cut first w ≡ record { requests = []; rest = w; fault = Some f }
cut_fails first w f e = cut_is first w ∙ ap (cut_by (cut false) w) e

cut_finds : (first : Bool) (w r : List ℕ) (q : Request) → front first w ≡ Ok (Some (q, r)) → (cut first w).requests ≡ q ∷ (cut false r).requests
cut_finds first w r q e = ap (λ (c : Cut). c.requests) (cut_is first w ∙ ap (cut_by (cut false) w) e)

-- only where nothing was stepped may a request be refused
refused_at : (a b d : CoreView) (s t : Option Sid) (w rest r : List ℕ) (q : Request) (qs : List Request) → Steps a s qs b t → cut (is_none s) w ≡ after qs (cut (is_none t) rest) → front (is_none t) rest ≡ Ok (Some (q, r)) → is_hello_refused b t (q ∷ []) ≡ true → d ≡ after_step (event_at b t q) b → RefusesHello a s w d t
refused_at a b d s (Some sid) w rest r q qs h others found refused now = absurd cc
refused_at a b d s None w rest r q (p ∷ ps) h others found refused now = absurd (let e = h.session_is in cc)
refused_at a b d s None w rest r q [] h others found refused now =
    let requests : (cut (is_none s) w).requests ≡ q ∷ (cut false r).requests = ap (λ (c : Cut). c.requests) others ∙ cut_finds true rest r q found in
    record {
      refused = ap (is_hello_refused a s) requests ∙ refused_front a s q (cut false r).requests [] ∙ sym (ap (λ z. is_hello_refused z None (q ∷ [])) h.core ∙ ap (λ z. is_hello_refused a z (q ∷ [])) h.session_is) ∙ refused;
      core = now ∙ ap (λ z. after_step (event_at z None q) z) h.core ∙ ap (λ z. after_step (event_at a z q) a) h.session_is ∙ sym (ap (λ ps. after_steps (take 1 (events_of a s ps)) a) requests);
      session = h.session_is;
    }

pub hello_refused : (a b d : CoreView) (s t : Option Sid) (w rest r : List ℕ) (q : Request) → StepsFront a s w b t rest → front (is_none t) rest ≡ Ok (Some (q, r)) → ◌≡◌ {A = Option Sid} None (cond (is_hello_refused b t (q ∷ [])) None (Some (session_or_next b t))) → d ≡ after_step (event_at b t q) b → RefusesHello a s w d t
hello_refused a b d s t w rest r q h found session now = refused_at a b d s t w rest r q h.done h.steps h.others found (refused_is b t q session) now

-- ---- where the rest stands

pub all_left : (w : List ℕ) → IsEnd w w
all_left w = record { within = omega arith; dropped = ap (λ n. drop n w) (sub_self (length w)) } where
  sub_self : (n : ℕ) → 0 ≡ n - n
  sub_self n = omega arith

pub left_behind : (first : Bool) (w rest r : List ℕ) (q : Request) → IsEnd rest w → front first rest ≡ Ok (Some (q, r)) → IsEnd r w
left_behind first w rest r q h found =
    let i = front_some (request_at first) rest q r found in
    let k = rest_behind rest i.body r i.body_is in
    let less : length r ≤ length rest = k.0 in
    let within : length rest ≤ length w = h.within in
    let sum : (length w - length rest) + (length rest - length r) ≡ length w - length r = omega arith in
    record {
      within = omega arith;
      dropped = sym k.1 ∙ ap (drop (length rest - length r)) h.dropped ∙ drop-drop (length rest - length r) (length w - length rest) w ∙ ap (λ n. drop n w) sum;
    }

-- ---- what became of a piece

all_cut : (w : List ℕ) (s t : Option Sid) (rest : List ℕ) (qs : List Request) (fault : Option WireFault) → cut (is_none s) w ≡ after qs (cut (is_none t) rest) → cut (is_none t) rest ≡ record { requests = []; rest = rest; fault = fault } → cut (is_none s) w ≡ record { requests = qs; rest = rest; fault = fault }
all_cut w s t rest qs fault others none = others ∙ ap (after qs) none ∙ ap (λ (ps : List Request). record { requests = ps; rest = rest; fault = fault }) (append-nil qs)

all_stepped : (a b : CoreView) (s t : Option Sid) (qs : List Request) (c : Cut) (rest : List ℕ) (fault : Option WireFault) → Steps a s qs b t → c ≡ record { requests = qs; rest = rest; fault = fault } → Steps a s c.requests b t
all_stepped a b s t qs c rest fault h e = let is : c.requests ≡ qs = ap (λ (z : Cut). z.requests) e in rw is h

pub outcome_is : (fed : Fed) (a b : CoreView) (x : Connection) (w : List ℕ) (t : Option Sid) (rest : List ℕ) → StepsFrames fed a x.session w b t rest → IsOutcome fed a x (cut (is_none x.session) w) b (connection_after fed (record x { kept = rest; session = t }))
outcome_is Done a b x w t rest (frames, none) =
    let e = all_cut w x.session t rest frames.done None frames.others none in
    record {
      steps = all_stepped a b x.session t frames.done (cut (is_none x.session) w) rest None frames.steps e;
      no_fault = ap (λ (z : Cut). z.fault) e;
      connection = ap (λ k. record x { kept = k; session = t }) (sym (ap (λ (z : Cut). z.rest) e));
    }
outcome_is Short a b x w t rest frames = record { done = frames.done; steps = frames.steps; others = frames.others; connection = refl }
outcome_is Full a b x w t rest frames = record { done = frames.done; steps = frames.steps; others = frames.others; connection = refl }
outcome_is (Over (Wire fault)) a b x w t rest over =
    let frames = over.frames in
    let e = all_cut w x.session t rest frames.done (Some fault) frames.others over.fault_is in
    record {
      middle = over.middle;
      steps = all_stepped a over.middle x.session t frames.done (cut (is_none x.session) w) rest (Some fault) frames.steps e;
      hung_up = over.hung_up;
      fault_is = ap (λ (z : Cut). z.fault) e;
      connection = refl;
    }
outcome_is (Over BadKey) a b x w t rest h = record { refused = h.refused; core = h.core; connection = ap (λ s. record x { kept = []; session = s; has_refusal = true; is_over = true }) h.session }

-- the code's test for the first request
pub at_front : (s : Option Sid) (b : Bool) (w : List ℕ) (x : Result (Option (Request × List ℕ)) WireFault) → is_some s ≡ not b → front b w ≡ x → front (is_none s) w ≡ x
at_front None true w x e f = f
at_front None false w x e f = absurd (let k : false ≡ true = e in cc)
at_front (Some sid) true w x e f = absurd (let k : true ≡ false = e in cc)
at_front (Some sid) false w x e f = f

-- ---- a connection that is over

-- no session is left where the hello was refused
pub end_session : (end : End) (a b : CoreView) (s t : Option Sid) (w rest : List ℕ) → StepsFrames (Over end) a s w b t rest → end ≡ BadKey → t ≡ None
end_session (Wire fault) a b s t w rest h e = absurd cc
end_session BadKey a b s t w rest h e = at s refl where
  at : (v : Option Sid) → s ≡ v → t ≡ None
  at None is = h.session ∙ is
  at (Some sid) is = absurd (let wrong : false ≡ true = sym (ap (λ v. is_hello_refused a v (cut (is_none s) w).requests) is) ∙ h.refused in cc)

-- nothing is kept of it
pub end_alike : (end : End) (x y : Connection) → y.session ≡ x.session → y.has_refusal ≡ x.has_refusal → connection_after (Over end) y ≡ connection_after (Over end) x
end_alike (Wire fault) x y same refusal = ap (λ s. record { kept = []; session = s; has_refusal = y.has_refusal; is_over = true }) same ∙ ap (λ r. record { kept = []; session = x.session; has_refusal = r; is_over = true }) refusal
end_alike BadKey x y same refusal = ap (λ s. record { kept = []; session = s; has_refusal = true; is_over = true }) same

pub session_kept : (fed : Fed) (x : Connection) → (connection_after fed x).session ≡ x.session
session_kept Done x = refl
session_kept Short x = refl
session_kept Full x = refl
session_kept (Over (Wire fault)) x = refl
session_kept (Over BadKey) x = refl
