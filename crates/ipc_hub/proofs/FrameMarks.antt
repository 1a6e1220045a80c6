-- Stepping frames marks whom it answers, and stops in time.
use Rattle.std.proofs.Common.{◌≡◌, ℕ, ◌+◌, ◌≤◌, true, false, cond, [], ◌∷◌, Option, Some, None, refl, sym, ap, ◌∙◌, arith}
use Rattle.std.specs.Prelude.{is_none, unwrap_or}
use Rattle.std.proofs.lemmas.Bool.{leb-false}
use Rattle.ipc_terms.specs.declared.ids.Sid.{Sid}
use Rattle.ipc_terms.specs.declared.call.Call.{Call}
use Rattle.ipc_core.specs.CoreView.{CoreView}
use Rattle.ipc_wire.specs.declared.request.Request.{Request}
use Rattle.ipc_wire.specs.declared.request.Request.TheVariants as request
use Rattle.ipc_wire.specs.Requests.{is_hello_request, same}
use Rattle.ipc_hub.specs.declared.fed.Fed.{Fed}
use Rattle.ipc_hub.specs.declared.fed.Fed.TheVariants.{Full, Over}
use Rattle.ipc_hub.specs.declared.fed.End.TheVariants.{BadKey}
use Rattle.ipc_hub.specs.Hub.{session_or_next, is_hello_refused}
use Rattle.ipc_hub.specs.Marking.{is_set}
use Rattle.ipc_hub.specs.MarkedCore.{MarkedView, IsOwned, Follows, GainsAtMostTwo}
use Rattle.ipc_hub.specs.Stepping.{Starts, Goes, Ends, IsWithin, is_full, count_of}
use Rattle.ipc_hub.proofs.MarkedLemmas.{follows_self, follows_both, owned_later}
use Rattle.ipc_hub.proofs.HubLemmas.{has_session}

pub none_starts : (m : MarkedView) (i : ℕ) (s : Option Sid) → Starts m i s s
none_starts m i s = record {
  marked = λ none sid e. absurd (let wrong : ◌≡◌ {A = Option Sid} None (Some sid) = sym none ∙ e in cc);
  owner = λ none sid e. absurd (let wrong : ◌≡◌ {A = Option Sid} None (Some sid) = sym none ∙ e in cc);
}

no_more : (most : Option ℕ) (n : ℕ) → IsWithin most n n
no_more None n = tt
no_more (Some most) n = omega arith

pub none_goes : (i : ℕ) (most : Option ℕ) (m : MarkedView) (s : Option Sid) → Goes i most m s m s
none_goes i most m s = record { follows = follows_self m; starts = none_starts m i s; within = no_more most (count_of m s) }

-- two more, where not as many are untaken as are allowed
two_more : (most : Option ℕ) (old before now : ℕ) → IsWithin most old before → is_full most before ≡ false → now ≤ before + 2 → IsWithin most old now
two_more None old before now h off le = tt
two_more (Some most) old before now h off le = let lt = leb-false most before off in omega arith

starts_on : (a b : MarkedView) (i : ℕ) (s t u : Option Sid) → Follows a b → Starts a i s t → ((sid : Sid) → t ≡ Some sid → u ≡ Some sid) → Starts b i t u → Starts b i s u
starts_on a b i s t u f h stays k = record {
  marked = λ none sid e. marked_at none sid e t refl;
  owner = λ none sid e. owner_at none sid e t refl;
} where
  marked_at : s ≡ None → (sid : Sid) → u ≡ Some sid → (w : Option Sid) → t ≡ w → is_set b.marked i ≡ true
  marked_at none sid e None is = k.marked is sid e
  marked_at none sid e (Some own) is = f.kept i (h.marked none own is)

  owner_at : s ≡ None → (sid : Sid) → u ≡ Some sid → (w : Option Sid) → t ≡ w → IsOwned b sid.0 i
  owner_at none sid e None is = k.owner is sid e
  owner_at none sid e (Some own) is = owned_later a b sid.0 i f (h.owner none sid (is ∙ sym (stays own is) ∙ e))

-- a request more
pub request_goes : (i : ℕ) (most : Option ℕ) (a b c : MarkedView) (s t : Option Sid) (q : Request) (sid : Sid) → Goes i most a s b t → is_full most (count_of b t) ≡ false → ◌≡◌ {A = Option Sid} (Some sid) (cond (is_hello_refused b.core t (q ∷ [])) None (Some (session_or_next b.core t))) → Follows b c → Starts c i t (Some sid) → count_of c (Some sid) ≤ count_of b t + 2 → Goes i most a s c (Some sid)
request_goes i most a b c s t q sid h off session f k le = record {
  follows = follows_both a b c h.follows f;
  starts = starts_on b c i s t (Some sid) f h.starts (λ own e. stays t own e session) k;
  within = two_more most (count_of a s) (count_of b t) (count_of c (Some sid)) h.within off le;
} where
  stays : (w : Option Sid) (own : Sid) → w ≡ Some own → ◌≡◌ {A = Option Sid} (Some sid) (cond (is_hello_refused b.core w (q ∷ [])) None (Some (session_or_next b.core w))) → Some sid ≡ Some own
  stays None own e k = absurd (let wrong : ◌≡◌ {A = Option Sid} None (Some own) = e in cc)
  stays (Some was) own e k = k ∙ e

-- ---- at the end

pub full_ends : (i : ℕ) (most : Option ℕ) (a b : MarkedView) (s t : Option Sid) → Goes i most a s b t → is_full most (count_of b t) ≡ true → Ends Full i most a s b t
full_ends i most a b s t h on = record { goes = h; refused = λ e. absurd (let wrong : Full ≡ Over BadKey = e in cc); full = λ e. on }

pub plain_ends : (fed : Fed) (i : ℕ) (most : Option ℕ) (a b : MarkedView) (s t : Option Sid) → (fed ≡ Over BadKey → ⊥) → (fed ≡ Full → ⊥) → Goes i most a s b t → Ends fed i most a s b t
plain_ends fed i most a b s t other other' h = record { goes = h; refused = λ e. absurd (other e); full = λ e. absurd (other' e) }

-- the session is hung up
count_more : (a b : MarkedView) (t : Option Sid) → GainsAtMostTwo a.core b.core → count_of b t ≤ count_of a t + 2
count_more a b None few = omega arith
count_more a b (Some sid) few = few sid.0

pub hung_up_goes : (i : ℕ) (most : Option ℕ) (a b c : MarkedView) (s t : Option Sid) → Goes i most a s b t → is_full most (count_of b t) ≡ false → Follows b c → GainsAtMostTwo b.core c.core → Goes i most a s c t
hung_up_goes i most a b c s t h off f few = record {
  follows = follows_both a b c h.follows f;
  starts = starts_on b c i s t t f h.starts (λ own e. e) (none_starts c i t);
  within = two_more most (count_of a s) (count_of b t) (count_of c t) h.within off (count_more b c t few);
}

-- the hello is refused, so there is no session
no_session : (a : CoreView) (t : Option Sid) (q : Request) → ◌≡◌ {A = Option Sid} None (cond (is_hello_refused a t (q ∷ [])) None (Some (session_or_next a t))) → t ≡ None
no_session a None q e = refl
no_session a (Some sid) q e = absurd (let wrong : ◌≡◌ {A = Option Sid} None (Some sid) = e in cc)

pub refused_ends : (i : ℕ) (most : Option ℕ) (a b c : MarkedView) (s t : Option Sid) (q : Request) → Goes i most a s b t → is_full most (count_of b t) ≡ false → ◌≡◌ {A = Option Sid} None (cond (is_hello_refused b.core t (q ∷ [])) None (Some (session_or_next b.core t))) → Follows b c → is_set c.marked i ≡ true → Ends (Over BadKey) i most a s c t
refused_ends i most a b c s t q h off session f on = record {
  goes = record {
    follows = follows_both a b c h.follows f;
    starts = starts_on b c i s t t f h.starts (λ own e. e) (none_starts c i t);
    within = two_more most (count_of a s) (count_of b t) (count_of c t) h.within off (none_left t (no_session b.core t q session));
  };
  refused = λ e. on;
  full = λ e. absurd (let wrong : Over BadKey ≡ Full = e in cc);
} where
  none_left : (w : Option Sid) → w ≡ None → count_of c w ≤ count_of b w + 2
  none_left None e = omega arith
  none_left (Some sid) e = absurd cc

-- ---- a call, which only a connection with a session makes

pub call_starts : (m : MarkedView) (i : ℕ) (s : Option Sid) (q : Request) (c : Call) (sid : Sid) → q ≡ request.Do c → same (is_hello_request q) (is_none s) ≡ true → Starts m i s (Some sid)
call_starts m i s q c sid is may =
    let own = has_session q c s is may in
    record { marked = λ none t e. absurd (differ own.0 (sym own.1 ∙ none)); owner = λ none t e. absurd (differ own.0 (sym own.1 ∙ none)) } where
      differ : (t : Sid) → ◌≡◌ {A = Option Sid} (Some t) None → ⊥
      differ t e = absurd cc

pub call_few : (m n : MarkedView) (s : Option Sid) (q : Request) (c : Call) (sid none : Sid) → q ≡ request.Do c → same (is_hello_request q) (is_none s) ≡ true → sid ≡ unwrap_or s none → GainsAtMostTwo m.core n.core → count_of n (Some sid) ≤ count_of m s + 2
call_few m n s q c sid none is may e few =
    let own = has_session q c s is may in
    let same' : sid ≡ own.0 = e ∙ ap (λ (w : Option Sid). unwrap_or w none) own.1 in
    let k : count_of m s ≡ count_of m (Some sid) = ap (count_of m) (own.1 ∙ ap Some (sym same')) in
    let le : count_of n (Some sid) ≤ count_of m (Some sid) + 2 = few sid.0 in
    omega arith
