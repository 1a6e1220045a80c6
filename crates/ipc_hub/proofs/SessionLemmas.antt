-- Each call of a hub leaves each session to its own connection.
use Rattle.std.proofs.Common.{◌≡◌, ℕ, zero, suc, ◌+◌, ◌<◌, ◌≤◌, Bool, true, false, not, ◌&&◌, eqb, cond, List, [], ◌∷◌, ◌++◌, length, take, set, slice_get, Option, Some, None, refl, sym, ap, subst, ◌∙◌, arith}
use Rattle.std.specs.Prelude.{is_none, is_some, unwrap_or}
use Rattle.std.specs.Option.{option_or}
use Rattle.std.proofs.lemmas.Bool.{eqb-true, eqb-false, ne_eqb}
use Rattle.ipc_terms.specs.declared.ids.Sid.{Sid}
use Rattle.ipc_terms.specs.declared.rule.Rule.{Rule}
use Rattle.ipc_terms.specs.declared.call.Call.{Call}
use Rattle.ipc_terms.specs.declared.call.Call.TheVariants as call
use Rattle.ipc_terms.specs.declared.record.Event.{Event}
use Rattle.ipc_terms.specs.declared.record.Event.TheVariants as event
use Rattle.ipc_terms.proofs.Lists.{slice_get_push, slice_past, eqb_suc}
use Rattle.ipc_policy.specs.Decides.Sessions.{hellos, live}
use Rattle.ipc_policy.specs.Decides.Verdict.{verdict}
use Rattle.ipc_core.specs.Outboxes.{after_step, after_steps}
use Rattle.ipc_core.specs.CoreView.{CoreView}
use Rattle.ipc_wire.specs.declared.request.Request.{Request}
use Rattle.ipc_wire.specs.declared.request.Request.TheVariants as request
use Rattle.ipc_wire.specs.Requests.{is_hello_request, same, request_with}
use Rattle.ipc_wire.specs.Streams.{Cut, cut, after, is_in_order}
use Rattle.ipc_wire.proofs.OrderLemmas.{one_hello}
use Rattle.ipc_hub.specs.declared.fed.Fed.{Fed}
use Rattle.ipc_hub.specs.declared.fed.Fed.TheVariants.{Done, Short, Full, Over}
use Rattle.ipc_hub.specs.declared.fed.End.TheVariants.{Wire, BadKey}
use Rattle.ipc_hub.specs.Hub.{Connection, Hub, ChangesOnly, new_connection}
use Rattle.ipc_hub.specs.Hub.{event_of, events_of, is_hello_refused, session_after, hang_up_of, Steps, IsOutcome}
use Rattle.ipc_hub.specs.Sessions.{IsSessionOf, EachHasItsOwn}
use Rattle.ipc_hub.proofs.SessionSteps.{hellos_later, live_later, events_hang_no_up, hello_lives, hello_counts, hang_up_ends}

-- ---- requests that are stepped

-- no session but the one that starts is touched
pub record KeepsSessions (a : CoreView) (s : Option Sid) (b : CoreView) (t : Option Sid) : Type 0 where
  pub later : hellos a.history ≤ hellos b.history
  pub others : (n : ℕ) → n < hellos a.history → live b.history n ≡ live a.history n
  pub stays : (sid : Sid) → s ≡ Some sid → t ≡ Some sid
  pub starts : s ≡ None → (sid : Sid) → t ≡ Some sid → (sid.0 ≡ hellos a.history) × (sid.0 < hellos b.history) × (live b.history sid.0 ≡ true)

-- a call is no hello
pub calls_no_hello : (call' : Call) → is_hello_request (request.Do call') ≡ false
unfolding request_with
calls_no_hello (call.Umask mask) = refl
calls_no_hello (call.MqOpen asked) = refl
calls_no_hello (call.MqClose desc) = refl
calls_no_hello (call.MqUnlink name) = refl
calls_no_hello (call.MqSend desc priority bytes) = refl
calls_no_hello (call.MqReceive desc size) = refl
calls_no_hello (call.MqTimedSend desc priority deadline bytes) = refl
calls_no_hello (call.MqTimedReceive desc size deadline) = refl
calls_no_hello (call.MqGetattr desc) = refl
calls_no_hello (call.MqSetattr desc nonblock) = refl
calls_no_hello (call.MqNotify desc on) = refl
calls_no_hello (call.MqGive desc taker) = refl
calls_no_hello (call.SemOpen asked) = refl
calls_no_hello (call.SemClose desc) = refl
calls_no_hello (call.SemUnlink name) = refl
calls_no_hello (call.SemPost desc) = refl
calls_no_hello (call.SemWait desc) = refl
calls_no_hello (call.SemTimedWait desc deadline) = refl
calls_no_hello (call.SemTryWait desc) = refl
calls_no_hello (call.SemGetvalue desc) = refl
calls_no_hello (call.ListNames family start count) = refl
calls_no_hello (call.StatName target) = refl
calls_no_hello (call.Chmod mode target) = refl
calls_no_hello (call.Chown owner group target) = refl
calls_no_hello (call.SetLimit uid bytes) = refl
calls_no_hello call.Interrupt = refl
calls_no_hello (call.Audit start count) = refl

-- the first request is a hello, and it was accepted
hello_first : (a b : CoreView) (q : Request) (qs : List Request) → same (is_hello_request q) true ≡ true → is_hello_refused a None (q ∷ qs) ≡ false → b ≡ after_steps (events_of a None (q ∷ qs)) a → (hellos a.history < hellos b.history) × (live b.history (hellos a.history) ≡ true)
unfolding request_with
hello_first a b (request.Hello key) qs is accepted now =
    let sid : Sid = record { 0 = hellos a.history } in
    let e : Event = event_of a sid (request.Hello key) in
    let fine : verdict a.config a.history e ≡ None = none_is (verdict a.config a.history e) accepted in
    let more : hellos (after_step e a).history ≡ hellos a.history + 1 = hello_counts a key sid fine in
    let rest : List Event = events_of a None qs in
    let le : hellos (after_step e a).history ≤ hellos (after_steps rest (after_step e a)).history = hellos_later rest (after_step e a) in
    let on : live (after_steps rest (after_step e a)).history (hellos a.history) ≡ true = live_later rest (after_step e a) (hellos a.history) (omega arith) (events_hang_no_up a None qs (hellos a.history)) ∙ hello_lives a key sid fine in
    let same' : b ≡ after_steps rest (after_step e a) = now in
    (subst (λ (z : CoreView). hellos a.history < hellos z.history) (sym same') (omega arith), ap (λ (z : CoreView). live z.history (hellos a.history)) same' ∙ on) where
      none_is : (w : Option Rule) → is_some w ≡ false → w ≡ None
      none_is None k = refl
      none_is (Some rule) k = absurd cc
hello_first a b (request.Do call') qs is accepted now = absurd (let k : false ≡ true = sym (ap (λ b. same b true) (calls_no_hello call')) ∙ is in cc)

some_is : {A : Type 0} (x y : A) → Some x ≡ Some y → x ≡ y
some_is x y e = cc

in_front : (a b : Bool) → (a && b) ≡ true → a ≡ true
in_front true b e = refl
in_front false b e = absurd cc

kept_by : (a b : CoreView) (s t : Option Sid) (qs : List Request) → Steps a s qs b t → is_in_order (is_none s) qs ≡ true → KeepsSessions a s b t
kept_by a b s t qs h order = record {
  later = subst (λ (z : CoreView). hellos a.history ≤ hellos z.history) (sym h.core) (hellos_later (events_of a s qs) a);
  others = λ n lt. ap (λ (z : CoreView). live z.history n) h.core ∙ live_later (events_of a s qs) a n lt (events_hang_no_up a s qs n);
  stays = λ sid e. h.session_is ∙ stays_at s qs sid e;
  starts = λ e sid k. starts_at s qs h order e sid k;
} where
  stays_at : (s : Option Sid) (qs : List Request) (sid : Sid) → s ≡ Some sid → session_after a s qs ≡ Some sid
  stays_at s [] sid e = e
  stays_at s (q ∷ qs) sid e = ap (λ w. Some (unwrap_or w (record { 0 = hellos a.history }))) e

  starts_at : (s : Option Sid) (qs : List Request) → Steps a s qs b t → is_in_order (is_none s) qs ≡ true → s ≡ None → (sid : Sid) → t ≡ Some sid → (sid.0 ≡ hellos a.history) × (sid.0 < hellos b.history) × (live b.history sid.0 ≡ true)
  starts_at (Some own) qs g order e sid k = absurd cc
  starts_at None [] g order e sid k = absurd (let wrong : ◌≡◌ {A = Option Sid} None (Some sid) = sym g.session_is ∙ k in cc)
  starts_at None (q ∷ qs) g order e sid k =
      let is : sid ≡ record { 0 = hellos a.history } = some_is _ _ (sym k ∙ g.session_is) in
      let number : sid.0 ≡ hellos a.history = ap (λ (z : Sid). z.0) is in
      let first = hello_first a b q qs (in_front _ _ order) g.accepted g.core in
      let lt : hellos a.history < hellos b.history = first.0 in
      (number, omega arith, ap (live b.history) number ∙ first.1)

order_front : (first : Bool) (ps qs : List Request) → is_in_order first (ps ++ qs) ≡ true → is_in_order first ps ≡ true
order_front first [] qs e = refl
order_front first (p ∷ ps) qs e = both (same (is_hello_request p) first) (is_in_order false (ps ++ qs)) (is_in_order false ps) e (order_front false ps qs) where
  both : (a b c : Bool) → (a && b) ≡ true → (b ≡ true → c ≡ true) → (a && c) ≡ true
  both true b c k f = f k
  both false b c k f = absurd cc

pub cut_order : (first : Bool) (w : List ℕ) (done : List Request) (rest : Cut) → cut first w ≡ after done rest → is_in_order first done ≡ true
cut_order first w done rest e = order_front first done rest.requests (ap (λ (c : Cut). is_in_order first c.requests) (sym e) ∙ one_hello first w)

-- ---- what a call does to sessions, its own and others

pub record ChangesSessions (a : CoreView) (x : Connection) (b : CoreView) (y : Connection) : Type 0 where
  pub later : hellos a.history ≤ hellos b.history
  pub others : (n : ℕ) → n < hellos a.history → ((sid : Sid) → x.session ≡ Some sid → sid.0 ≡ n → ⊥) → live b.history n ≡ live a.history n
  pub own : (sid : Sid) → y.session ≡ Some sid → IsSessionOf b y sid
  pub stays : (sid : Sid) → x.session ≡ Some sid → y.session ≡ Some sid
  pub starts : x.session ≡ None → (sid : Sid) → y.session ≡ Some sid → sid.0 ≡ hellos a.history
  pub refused : y.has_refusal ≡ true → (y.session ≡ None) × (y.is_over ≡ true)

-- what is known of a connection that is not over
pub record IsOpen (a : CoreView) (x : Connection) : Type 0 where
  pub own : (sid : Sid) → x.session ≡ Some sid → IsSessionOf a x sid
  pub refused : x.has_refusal ≡ true → (x.session ≡ None) × (x.is_over ≡ true)
  pub is : x.is_over ≡ false

never_refused : (a : CoreView) (x : Connection) → IsOpen a x → x.has_refusal ≡ true → ⊥
never_refused a x o e = let k : true ≡ false = sym (o.refused e).1 ∙ o.is in cc

-- its session is live
lives_on : (a b : CoreView) (x : Connection) (t : Option Sid) → IsOpen a x → KeepsSessions a x.session b t → (sid : Sid) → t ≡ Some sid → (sid.0 < hellos b.history) × (live b.history sid.0 ≡ true)
lives_on a b x t o k sid e = at x.session refl where
  at : (s : Option Sid) → x.session ≡ s → (sid.0 < hellos b.history) × (live b.history sid.0 ≡ true)
  at None is = let new = k.starts is sid e in (new.1, new.2)
  at (Some was) is =
      let same' : was ≡ sid = some_is _ _ (sym (k.stays was is) ∙ e) in
      let old = o.own sid (is ∙ ap Some same') in
      let le = k.later in
      let lt : sid.0 < hellos a.history = old.started in
      (omega arith, k.others sid.0 lt ∙ old.live_is ∙ ap not o.is)

-- a connection that goes on
pub goes_on : (a b : CoreView) (x : Connection) (t : Option Sid) (kept : List ℕ) → IsOpen a x → KeepsSessions a x.session b t → ChangesSessions a x b (record x { kept = kept; session = t })
goes_on a b x t kept o k = record {
  later = k.later;
  others = λ n lt ne. k.others n lt;
  own = λ sid e. (let on = lives_on a b x t o k sid e in record { started = on.0; live_is = on.1 ∙ sym (ap not o.is) });
  stays = k.stays;
  starts = λ none sid e. (k.starts none sid e).0;
  refused = λ e. absurd (never_refused a x o e);
}

-- a connection whose session is hung up
others_stay : (b d : CoreView) (t : Option Sid) (n : ℕ) → d ≡ after_steps (hang_up_of t) b → n < hellos b.history → ((sid : Sid) → t ≡ Some sid → sid.0 ≡ n → ⊥) → live d.history n ≡ live b.history n
others_stay b d None n now lt ne = ap (λ (z : CoreView). live z.history n) now
others_stay b d (Some sid) n now lt ne =
    let other : eqb sid.0 n ≡ false = ne_eqb _ _ (ne sid refl) in
    ap (λ (z : CoreView). live z.history n) now ∙ live_later (event.Hangup sid ∷ []) b n lt (other, tt)

ended : (b d : CoreView) (t : Option Sid) (sid : Sid) → d ≡ after_steps (hang_up_of t) b → t ≡ Some sid → live b.history sid.0 ≡ true → live d.history sid.0 ≡ false
ended b d None sid now e on = absurd cc
ended b d (Some own) sid now e on =
    let same' : own ≡ sid = some_is own sid e in
    let on' : live b.history own.0 ≡ true = ap (λ (z : Sid). live b.history z.0) same' ∙ on in
    ap (λ (z : Sid). live d.history z.0) (sym same') ∙ ap (λ (z : CoreView). live z.history own.0) now ∙ hang_up_ends b.config b.history own on'

pub hangs_up : (a b d : CoreView) (x : Connection) (t : Option Sid) (kept : List ℕ) → IsOpen a x → KeepsSessions a x.session b t → d ≡ after_steps (hang_up_of t) b → ChangesSessions a x d (record x { kept = kept; session = t; is_over = true })
hangs_up a b d x t kept o k now = record {
  later = let le = k.later in let le' = more in omega arith;
  others = λ n lt ne. (let le = k.later in others_stay b d t n now (omega arith) (λ sid e is. other n lt ne x.session refl sid e is) ∙ k.others n lt);
  own = λ sid e. (let on = lives_on a b x t o k sid e in let le = more in let lt = on.0 in record { started = omega arith; live_is = ended b d t sid now e on.1 });
  stays = k.stays;
  starts = λ none sid e. (k.starts none sid e).0;
  refused = λ e. absurd (never_refused a x o e);
} where
  more : hellos b.history ≤ hellos d.history
  more = subst (λ (z : CoreView). hellos b.history ≤ hellos z.history) (sym now) (hellos_later (hang_up_of t) b)

  other : (n : ℕ) → n < hellos a.history → ((sid : Sid) → x.session ≡ Some sid → sid.0 ≡ n → ⊥) → (s : Option Sid) → x.session ≡ s → (sid : Sid) → t ≡ Some sid → sid.0 ≡ n → ⊥
  other n lt ne None is sid e at = let new : sid.0 ≡ hellos a.history = (k.starts is sid e).0 in omega arith
  other n lt ne (Some own) is sid e at = ne own is (ap (λ (z : Sid). z.0) (some_is _ _ (sym (k.stays own is) ∙ e)) ∙ at)

-- nothing is stepped
pub none_kept : (a : CoreView) (s : Option Sid) → KeepsSessions a s a s
none_kept a s = record {
  later = omega arith;
  others = λ n lt. refl;
  stays = λ sid e. e;
  starts = λ none sid e. absurd (let wrong : ◌≡◌ {A = Option Sid} None (Some sid) = sym none ∙ e in cc);
}

-- a hello is refused
refuses : (a b : CoreView) (x : Connection) (qs : List Request) → IsOpen a x → (s : Option Sid) → x.session ≡ s → is_hello_refused a s qs ≡ true → b ≡ after_steps (take 1 (events_of a s qs)) a → ChangesSessions a x b (record x { kept = []; has_refusal = true; is_over = true })
refuses a b x qs o (Some sid) is refused now = absurd cc
refuses a b x [] o None is refused now = absurd cc
refuses a b x (q ∷ qs) o None is refused now = record {
  later = subst (λ (z : CoreView). hellos a.history ≤ hellos z.history) (sym now) (hellos_later (events_of a None (q ∷ [])) a);
  others = λ n lt ne. ap (λ (z : CoreView). live z.history n) now ∙ live_later (events_of a None (q ∷ [])) a n lt (events_hang_no_up a None (q ∷ []) n);
  own = λ sid e. absurd (let wrong : ◌≡◌ {A = Option Sid} None (Some sid) = sym is ∙ e in cc);
  stays = λ sid e. e;
  starts = λ none sid e. absurd (let wrong : ◌≡◌ {A = Option Sid} None (Some sid) = sym none ∙ e in cc);
  refused = λ e. (is, refl);
}

stepped_kept : (a b : CoreView) (x : Connection) (w : List ℕ) (t : Option Sid) (done : List Request) (rest : Cut) → Steps a x.session done b t → cut (is_none x.session) w ≡ after done rest → KeepsSessions a x.session b t
stepped_kept a b x w t done rest h e = kept_by a b x.session t done h (cut_order (is_none x.session) w done rest e)

changed_to : (a b : CoreView) (x y z : Connection) → y ≡ z → ChangesSessions a x b z → ChangesSessions a x b y
changed_to a b x y z e h = subst (λ (v : Connection). ChangesSessions a x b v) (sym e) h

-- a piece that is fed
pub fed_changes : (fed : Fed) (a b : CoreView) (x y : Connection) (w : List ℕ) → IsOpen a x → IsOutcome fed a x (cut (is_none x.session) w) b y → ChangesSessions a x b y
fed_changes Done a b x y w o h = changed_to a b x y _ h.connection (goes_on a b x y.session _ o (kept_by a b x.session y.session _ h.steps (one_hello (is_none x.session) w)))
fed_changes Short a b x y w o h = changed_to a b x y _ h.connection (goes_on a b x y.session y.kept o (stepped_kept a b x w y.session h.done _ h.steps h.others))
fed_changes Full a b x y w o h = changed_to a b x y _ h.connection (goes_on a b x y.session y.kept o (stepped_kept a b x w y.session h.done _ h.steps h.others))
fed_changes (Over (Wire fault)) a b x y w o h = changed_to a b x y _ h.connection (hangs_up a h.middle b x y.session [] o (kept_by a h.middle x.session y.session _ h.steps (one_hello (is_none x.session) w)) h.hung_up)
fed_changes (Over BadKey) a b x y w o h = changed_to a b x y _ h.connection (refuses a b x _ o x.session refl h.refused h.core)

-- ---- all connections

pub get_set : {A : Type 0} (xs : List A) (i : ℕ) (x y : A) (j : ℕ) → slice_get xs i ≡ Some x → slice_get (set xs i y) j ≡ cond (eqb i j) (Some y) (slice_get xs j)
get_set [] i x y j e = absurd cc
get_set (z ∷ zs) zero x y zero e = refl
get_set (z ∷ zs) zero x y (suc j) e = let other : eqb 0 (suc j) ≡ false = ne_eqb 0 (suc j) (λ (q : 0 ≡ suc j). omega arith) in rw other refl
get_set (z ∷ zs) (suc i) x y zero e = let other : eqb (suc i) 0 ≡ false = ne_eqb (suc i) 0 (λ (q : suc i ≡ 0). omega arith) in rw other refl
get_set (z ∷ zs) (suc i) x y (suc j) e = get_set zs i x y j e ∙ ap (λ b. cond b (Some y) (slice_get zs j)) (sym (eqb_suc i j))

-- the connection of a number is the one that changed_to, or another
pub data Which (xs : List Connection) (i : ℕ) (y : Connection) (j : ℕ) (z : Connection) : Type 0 where
  Own : i ≡ j → y ≡ z → Which xs i y j z
  Other : (i ≡ j → ⊥) → slice_get xs j ≡ Some z → Which xs i y j z

pub which : (xs : List Connection) (i : ℕ) (x y : Connection) (j : ℕ) (z : Connection) → slice_get xs i ≡ Some x → slice_get (set xs i y) j ≡ Some z → Which xs i y j z
which xs i x y j z there e = at (eqb i j) refl (sym (get_set xs i x y j there) ∙ e) where
  at : (b : Bool) → eqb i j ≡ b → cond b (Some y) (slice_get xs j) ≡ Some z → Which xs i y j z
  at true k f = Own (eqb-true _ _ k) (some_is _ _ f)
  at false k f = Other (eqb-false _ _ k) f

-- of a hub of which another call changes one
pub which_now : (old new : Hub) (i : ℕ) (x y : Connection) (j : ℕ) (z : Connection) → ChangesOnly old new i x y → slice_get new.connections j ≡ Some z → Which old.connections i y j z
which_now old new i x y j z only e = which old.connections i x y j z only.was (sym (ap (λ (zs : List Connection). slice_get zs j) only.others) ∙ e)

pub changed_all : (a b : CoreView) (xs : List Connection) (i : ℕ) (x y : Connection) → EachHasItsOwn a xs → slice_get xs i ≡ Some x → ChangesSessions a x b y → EachHasItsOwn b (set xs i y)
changed_all a b xs i x y all there m = record {
  own = λ j z sid e k. own_at j z sid k (which xs i x y j z there e);
  apart = λ j n z u sid e f k l. apart_at j n z u sid k l (which xs i x y j z there e) (which xs i x y n u there f);
  refused = λ j z e k. refused_at j z k (which xs i x y j z there e);
} where
  own_at : (j : ℕ) (z : Connection) (sid : Sid) → z.session ≡ Some sid → Which xs i y j z → IsSessionOf b z sid
  own_at j z sid k (Own i_is is) = subst (λ (v : Connection). IsSessionOf b v sid) is (m.own sid (ap (λ (v : Connection). v.session) is ∙ k))
  own_at j z sid k (Other ne e) =
      let old = all.own j z sid e k in
      let le = m.later in
      let lt : sid.0 < hellos a.history = old.started in
      record {
        started = omega arith;
        live_is = m.others sid.0 lt (λ own f is. ne (all.apart i j x z sid there e (f ∙ ap Some (same_sid own sid is)) k)) ∙ old.live_is;
      } where
        same_sid : (s t : Sid) → s.0 ≡ t.0 → s ≡ t
        same_sid s t q = ap (λ (n : ℕ). record { 0 = n }) q

  -- the changed_to connection has no other's session
  other_own : (j : ℕ) (z : Connection) (sid : Sid) → (i ≡ j → ⊥) → slice_get xs j ≡ Some z → z.session ≡ Some sid → (s : Option Sid) → x.session ≡ s → y.session ≡ Some sid → ⊥
  other_own j z sid ne e k None is own = let new : sid.0 ≡ hellos a.history = m.starts is sid own in let lt : sid.0 < hellos a.history = (all.own j z sid e k).started in omega arith
  other_own j z sid ne e k (Some was) is own = ne (all.apart i j x z sid there e (is ∙ sym (m.stays was is) ∙ own) k)

  apart_at : (j n : ℕ) (z u : Connection) (sid : Sid) → z.session ≡ Some sid → u.session ≡ Some sid → Which xs i y j z → Which xs i y n u → j ≡ n
  apart_at j n z u sid k l (Own j_is is) (Own n_is is') = sym j_is ∙ n_is
  apart_at j n z u sid k l (Own j_is is) (Other ne f) = absurd (other_own n u sid ne f l x.session refl (ap (λ (v : Connection). v.session) is ∙ k))
  apart_at j n z u sid k l (Other ne e) (Own n_is is) = absurd (other_own j z sid ne e k x.session refl (ap (λ (v : Connection). v.session) is ∙ l))
  apart_at j n z u sid k l (Other ne e) (Other ne' f) = all.apart j n z u sid e f k l

  refused_at : (j : ℕ) (z : Connection) → z.has_refusal ≡ true → Which xs i y j z → (z.session ≡ None) × (z.is_over ≡ true)
  refused_at j z k (Own j_is is) = subst (λ (v : Connection). (v.session ≡ None) × (v.is_over ≡ true)) is (m.refused (ap (λ (v : Connection). v.has_refusal) is ∙ k))
  refused_at j z k (Other ne e) = all.refused j z e k

-- the connection of a number once one more is opened: the new one, or the one that stood there
pub data AfterOpening (xs : List Connection) (i : ℕ) (x : Connection) : Type 0 where
  Fresh : slice_get xs i ≡ None → new_connection ≡ x → AfterOpening xs i x
  Stood : slice_get xs i ≡ Some x → AfterOpening xs i x

pub after_opening : (xs : List Connection) (i : ℕ) (x : Connection) → slice_get (xs ++ new_connection ∷ []) i ≡ Some x → AfterOpening xs i x
after_opening xs i x e = at (eqb (length xs) i) refl (sym (slice_get_push xs new_connection i) ∙ e) where
  at : (b : Bool) → eqb (length xs) i ≡ b → option_or (cond b (Some new_connection) None) (slice_get xs i) ≡ Some x → AfterOpening xs i x
  at true k f = Fresh (slice_past xs i (let n : length xs ≡ i = eqb-true _ _ k in omega arith)) (some_is _ _ f)
  at false k f = Stood f

pub none_before : (xs : List Connection) (i : ℕ) → slice_get (xs ++ new_connection ∷ []) i ≡ None → slice_get xs i ≡ None
none_before xs i e = at (eqb (length xs) i) (sym (slice_get_push xs new_connection i) ∙ e) where
  at : (b : Bool) → option_or (cond b (Some new_connection) None) (slice_get xs i) ≡ None → slice_get xs i ≡ None
  at true f = absurd cc
  at false f = f

-- the new one has no session
pub fresh_has_none : (x : Connection) (sid : Sid) → new_connection ≡ x → x.session ≡ Some sid → ⊥
fresh_has_none x sid is own = let wrong : ◌≡◌ {A = Option Sid} None (Some sid) = ap (λ (v : Connection). v.session) is ∙ own in cc

pub opened_all : (a : CoreView) (xs : List Connection) → EachHasItsOwn a xs → EachHasItsOwn a (xs ++ new_connection ∷ [])
opened_all a xs all = record {
  own = λ i x sid e k. own_at i x sid k (after_opening xs i x e);
  apart = λ i j x y sid e f k l. apart_at i j x y sid k l (after_opening xs i x e) (after_opening xs j y f);
  refused = λ i x e k. refused_at i x k (after_opening xs i x e);
} where
  own_at : (i : ℕ) (x : Connection) (sid : Sid) → x.session ≡ Some sid → AfterOpening xs i x → IsSessionOf a x sid
  own_at i x sid k (Fresh past is) = absurd (fresh_has_none x sid is k)
  own_at i x sid k (Stood e) = all.own i x sid e k

  apart_at : (i j : ℕ) (x y : Connection) (sid : Sid) → x.session ≡ Some sid → y.session ≡ Some sid → AfterOpening xs i x → AfterOpening xs j y → i ≡ j
  apart_at i j x y sid k l (Fresh past is) other = absurd (fresh_has_none x sid is k)
  apart_at i j x y sid k l (Stood e) (Fresh past is) = absurd (fresh_has_none y sid is l)
  apart_at i j x y sid k l (Stood e) (Stood f) = all.apart i j x y sid e f k l

  refused_at : (i : ℕ) (x : Connection) → x.has_refusal ≡ true → AfterOpening xs i x → (x.session ≡ None) × (x.is_over ≡ true)
  refused_at i x k (Fresh past is) = absurd (let wrong : false ≡ true = ap (λ (v : Connection). v.has_refusal) is ∙ k in cc)
  refused_at i x k (Stood e) = all.refused i x e k

-- there are none at the start
pub none_at_all : (a : CoreView) → EachHasItsOwn a []
none_at_all a = record { own = λ i x sid e. absurd cc; apart = λ i j x y sid e. absurd cc; refused = λ i x e. absurd cc }
