-- A stream is cut alike in whatever pieces it comes.
use Rattle.std.proofs.Common.{◌≡◌, ℕ, zero, suc, ◌+◌, ◌-◌, ◌<◌, ◌≤◌, Bool, false, List, [], ◌∷◌, ◌++◌, length, take, drop, Some, None, Ok, Err, refl, sym, ap, subst, ◌∙◌, append_assoc, arith}
use Rattle.std.specs.Int.{w32, from_be_bytes}
use Rattle.std.proofs.lemmas.List.{append-nil, drop-drop, length-drop, nil_from_length}
use Rattle.ipc_fields.specs.declared.fault.WireFault.{WireFault}
use Rattle.ipc_wire.specs.declared.request.Request.{Request}
use Rattle.ipc_wire.specs.Requests.{request_at}
use Rattle.ipc_fields.specs.Frame.{body_at}
use Rattle.ipc_wire.specs.Streams.{front, Cut, after, cut_by, cut_within, cut, still_first, Stream, stream_after, Feeds}
use Rattle.ipc_fields.proofs.FrontLemmas.{Framed, front_some, front_grow, front_err, rest_is, body_at_some}

abbrev Front : Type 0
Front = Framed (Request × List ℕ)

-- a request leaves less
pub front-shorter : (first : Bool) (w : List ℕ) (q : Request) (r : List ℕ) → front first w ≡ Ok (Some (q, r)) → length r < length w
front-shorter first w q r e =
    let i = front_some (request_at first) w q r e in
    (rest_is w i.body r i.body_is).1

front-nil : (first : Bool) → front first [] ≡ Ok None
unfolding body_at
front-nil first = refl

-- with as many steps as there are bytes, more steps change nothing
steps_by : (n m : ℕ) (first : Bool) (w : List ℕ) (f : Front) → front first w ≡ f → ((q : Request) (r : List ℕ) → f ≡ Ok (Some (q, r)) → cut_within n false r ≡ cut_within m false r) → cut_by (cut_within n false) w f ≡ cut_by (cut_within m false) w f
steps_by n m first w (Err f) e h = refl
steps_by n m first w (Ok None) e h = refl
steps_by n m first w (Ok (Some x)) e h = ap (λ (c : Cut). after (x.0 ∷ []) c) (h x.0 x.1 refl)

no_steps : (m : ℕ) (first : Bool) (w : List ℕ) → length w ≤ 0 → cut_within m first w ≡ cut_within 0 first w
unfolding cut_within
no_steps zero first w le = refl
no_steps (suc m) first w le =
    let nil : w ≡ [] = nil_from_length w (omega arith) in
    rw nil (ap (cut_by (cut_within m false) []) (front-nil first))

enough : (n m : ℕ) (first : Bool) (w : List ℕ) → length w ≤ n → length w ≤ m → cut_within n first w ≡ cut_within m first w
unfolding cut_within
enough zero m first w a b = sym (no_steps m first w a)
enough (suc n) zero first w a b = no_steps (suc n) first w b
enough (suc n) (suc m) first w a b = steps_by n m first w (front first w) refl (λ q r e.
    let less = front-shorter first w q r e in
    enough n m false r (omega arith) (omega arith))

behind : (first : Bool) (w : List ℕ) (f : Front) → front first w ≡ f → cut_by (cut_within (length w) false) w f ≡ cut_by (cut false) w f
unfolding cut
behind first w (Err f) e = refl
behind first w (Ok None) e = refl
behind first w (Ok (Some x)) e =
    let less = front-shorter first w x.0 x.1 e in
    ap (λ (c : Cut). after (x.0 ∷ []) c) (enough (length w) (length x.1) false x.1 (omega arith) (omega arith))

-- front, and then what is behind it
pub cut_is : (first : Bool) (w : List ℕ) → cut first w ≡ cut_by (cut false) w (front first w)
unfolding cut cut_within
cut_is first w = enough (length w) (suc (length w)) first w (omega arith) (omega arith) ∙ behind first w (front first w) refl

-- ---- the loop

-- what has come of a cut, and what is to come
pub goes_on : (qs : List Request) (first : Bool) (w : List ℕ) (q : Request) (r : List ℕ) (total : Cut) → front first w ≡ Ok (Some (q, r)) → after qs (cut first w) ≡ total → after (qs ++ q ∷ []) (cut false r) ≡ total
goes_on qs first w q r total e so_far =
    let one : cut first w ≡ after (q ∷ []) (cut false r) = cut_is first w ∙ ap (cut_by (cut false) w) e in
    let regrouped : after (qs ++ q ∷ []) (cut false r) ≡ after qs (after (q ∷ []) (cut false r)) = ap (λ (x : List Request). record { requests = x; rest = (cut false r).rest; fault = (cut false r).fault }) (append_assoc qs (q ∷ []) (cut false r).requests) in
    regrouped ∙ ap (after qs) (sym one) ∙ so_far

pub waits : (qs : List Request) (first : Bool) (w : List ℕ) (total : Cut) → front first w ≡ Ok None → after qs (cut first w) ≡ total → total ≡ record { requests = qs; rest = w; fault = None }
waits qs first w total e so_far =
    let one : cut first w ≡ record { requests = []; rest = w; fault = None } = cut_is first w ∙ ap (cut_by (cut false) w) e in
    sym so_far ∙ ap (after qs) one ∙ ap (λ (x : List Request). record { requests = x; rest = w; fault = None }) (append-nil qs)

pub fails : (qs : List Request) (first : Bool) (w : List ℕ) (f : WireFault) (total : Cut) → front first w ≡ Err f → after qs (cut first w) ≡ total → total ≡ record { requests = qs; rest = w; fault = Some f }
fails qs first w f total e so_far =
    let one : cut first w ≡ record { requests = []; rest = w; fault = Some f } = cut_is first w ∙ ap (cut_by (cut false) w) e in
    sym so_far ∙ ap (after qs) one ∙ ap (λ (x : List Request). record { requests = x; rest = w; fault = Some f }) (append-nil qs)

-- ---- what is kept

pub record IsSuffix (r w : List ℕ) : Type 0 where
  pub taken : ℕ
  pub within : taken ≤ length w
  pub rest_is : r ≡ drop taken w

all_left : (w : List ℕ) → IsSuffix w w
all_left w = record { taken = 0; within = omega arith; rest_is = refl }

left_by : (first : Bool) (w : List ℕ) (q : Request) (r s : List ℕ) → front first w ≡ Ok (Some (q, r)) → IsSuffix s r → IsSuffix s w
left_by first w q r s e h =
    let i = front_some (request_at first) w q r e in
    let n : ℕ = from_be_bytes w32 (take 4 w) in
    let f = body_at_some w i.body r i.body_is in
    let k = (rest_is w i.body r i.body_is).0 in
    let len : length r ≡ length w - (4 + n) = ap length k ∙ length-drop (4 + n) w in
    record {
      taken = 4 + n + h.taken;
      within = omega (arith, f.header, f.body.whole, length-drop 4 w, h.within, len);
      rest_is = h.rest_is ∙ ap (drop h.taken) k ∙ drop-drop h.taken (4 + n) w;
    }

left_after : (n : ℕ) (first : Bool) (w : List ℕ) (f : Front) → front first w ≡ f → ((q : Request) (r : List ℕ) → f ≡ Ok (Some (q, r)) → IsSuffix (cut_within n false r).rest r) → IsSuffix (cut_by (cut_within n false) w f).rest w
left_after n first w (Err f) e h = all_left w
left_after n first w (Ok None) e h = all_left w
left_after n first w (Ok (Some x)) e h = left_by first w x.0 x.1 (cut_within n false x.1).rest e (h x.0 x.1 refl)

left_within : (n : ℕ) (first : Bool) (w : List ℕ) → IsSuffix (cut_within n first w).rest w
unfolding cut_within
left_within zero first w = all_left w
left_within (suc n) first w = left_after n first w (front first w) refl (λ q r e. left_within n false r)

-- the rest of a cut stands at the end
pub rest_left : (first : Bool) (w : List ℕ) → IsSuffix (cut first w).rest w
unfolding cut
rest_left first w = left_within (length w) first w

-- so it is what stays when as much is dropped as it is shorter
pub rest_dropped : (first : Bool) (w : List ℕ) (c : Cut) → cut first w ≡ c → (length c.rest ≤ length w) × (drop (length w - length c.rest) w ≡ c.rest)
rest_dropped first w c e =
    let h : IsSuffix c.rest w = subst (λ (x : Cut). IsSuffix x.rest w) e (rest_left first w) in
    let len : length c.rest ≡ length w - h.taken = ap length h.rest_is ∙ length-drop h.taken w in
    let k : length w - length c.rest ≡ h.taken = omega (arith, h.within) in
    (omega arith, ap (λ (n : ℕ). drop n w) k ∙ sym h.rest_is)

-- so the cut is known by what is kept of it
pub rest_kept : (first : Bool) (w : List ℕ) (c : Cut) (n : ℕ) (kept : List ℕ) → cut first w ≡ c → n ≡ length w → kept ≡ drop (n - length c.rest) w → cut first w ≡ record c { rest = kept }
rest_kept first w c n kept e len k =
    let rest : c.rest ≡ kept = sym (rest_dropped first w c e).1 ∙ ap (λ (m : ℕ). drop (m - length c.rest) w) (sym len) ∙ sym k in
    e ∙ ap (λ (l : List ℕ). record c { rest = l }) rest

-- ---- a stream in two pieces

-- cutting w, and then its rest and v, gives together what cutting w and v gives
abbrev pub CutsAlike : Bool → List ℕ → List ℕ → Type 0
CutsAlike first w v = cut first (w ++ v) ≡ after (cut first w).requests (cut (still_first first (cut first w).requests) ((cut first w).rest ++ v))

never_first : (qs : List Request) → still_first false qs ≡ false
never_first [] = refl
never_first (q ∷ qs) = refl

-- what is cut from c on, and then v
abbrev joined : Bool → Cut → List ℕ → Cut
joined first c v = after c.requests (cut (still_first first c.requests) (c.rest ++ v))

alike_from : (first : Bool) (w v : List ℕ) (f : Front) → front first w ≡ f → ((q : Request) (r : List ℕ) → f ≡ Ok (Some (q, r)) → CutsAlike false r v) → cut first (w ++ v) ≡ joined first (cut_by (cut false) w f) v
alike_from first w v (Err f) e h = refl
alike_from first w v (Ok None) e h = refl
alike_from first w v (Ok (Some x)) e h =
    let grown : front first (w ++ v) ≡ Ok (Some (x.0, x.1 ++ v)) = front_grow (request_at first) w v x.0 x.1 e in
    let c = cut false x.1 in
    let rest : cut false (x.1 ++ v) ≡ after c.requests (cut false (c.rest ++ v)) = h x.0 x.1 refl ∙ ap (λ (b : Bool). after c.requests (cut b (c.rest ++ v))) (never_first c.requests) in
    cut_is first (w ++ v) ∙ ap (cut_by (cut false) (w ++ v)) grown ∙ ap (after (x.0 ∷ [])) rest

alike_within : (n : ℕ) (first : Bool) (w v : List ℕ) → length w < n → CutsAlike first w v
alike_within zero first w v lt = absurd (omega arith)
alike_within (suc n) first w v lt =
    let behind : (q : Request) (r : List ℕ) → front first w ≡ Ok (Some (q, r)) → CutsAlike false r v = λ q r e. (let less = front-shorter first w q r e in alike_within n false r v (omega arith)) in
    subst (λ (c : Cut). cut first (w ++ v) ≡ joined first c v) (sym (cut_is first w)) (alike_from first w v (front first w) refl behind)

pub cuts_alike : (first : Bool) (w v : List ℕ) → CutsAlike first w v
cuts_alike first w v = alike_within (suc (length w)) first w v (omega arith)

-- ---- a fault is for good

-- what the fault leaves when more comes
abbrev pub with_more : Cut → List ℕ → Cut
with_more c v = record { requests = c.requests; rest = c.rest ++ v; fault = c.fault }

stays_from : (first : Bool) (w v : List ℕ) (g : WireFault) (f : Front) → front first w ≡ f → ((q : Request) (r : List ℕ) → f ≡ Ok (Some (q, r)) → (cut false r).fault ≡ Some g → cut false (r ++ v) ≡ with_more (cut false r) v)
    → (cut_by (cut false) w f).fault ≡ Some g → cut first (w ++ v) ≡ with_more (cut_by (cut false) w f) v
stays_from first w v g (Err d) e h fault = cut_is first (w ++ v) ∙ ap (cut_by (cut false) (w ++ v)) (front_err (request_at first) w v d e)
stays_from first w v g (Ok None) e h fault = absurd cc
stays_from first w v g (Ok (Some x)) e h fault =
    cut_is first (w ++ v) ∙ ap (cut_by (cut false) (w ++ v)) (front_grow (request_at first) w v x.0 x.1 e) ∙ ap (after (x.0 ∷ [])) (h x.0 x.1 refl fault)

stays_within : (n : ℕ) (first : Bool) (w v : List ℕ) (g : WireFault) → length w < n → (cut first w).fault ≡ Some g → cut first (w ++ v) ≡ with_more (cut first w) v
stays_within zero first w v g lt fault = absurd (omega arith)
stays_within (suc n) first w v g lt fault =
    let behind : (q : Request) (r : List ℕ) → front first w ≡ Ok (Some (q, r)) → (cut false r).fault ≡ Some g → cut false (r ++ v) ≡ with_more (cut false r) v = λ q r e k. (let less = front-shorter first w q r e in stays_within n false r v g (omega arith) k) in
    subst (λ (c : Cut). c.fault ≡ Some g → cut first (w ++ v) ≡ with_more c v) (sym (cut_is first w)) (stays_from first w v g (front first w) refl behind) fault

pub fault_stays : (first : Bool) (w v : List ℕ) (g : WireFault) → (cut first w).fault ≡ Some g → cut first (w ++ v) ≡ with_more (cut first w) v
fault_stays first w v g fault = stays_within (suc (length w)) first w v g (omega arith) fault
