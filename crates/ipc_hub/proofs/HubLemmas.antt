-- What each call of a hub comes to.
use Rattle.std.proofs.Common.{rules, ◌≡◌, ℕ, ◌<◌, ◌≤◌, Bool, true, false, nat_lt, cond, eqb, ◌||◌, List, [], ◌∷◌, ◌++◌, length, get_or, set, slice_get, Option, Some, None, is_some, refl, sym, ap, subst, ◌∙◌, arith}
use Rattle.std.specs.Prelude.{is_none, unwrap_or, IsSome}
use Rattle.std.specs.Option.{option_map}
use Rattle.std.proofs.lemmas.Bool.{ltb-false}
use Rattle.ipc_terms.proofs.Lists.{stands_there}
use Rattle.ipc_terms.specs.declared.ids.Sid.{Sid}
use Rattle.ipc_terms.specs.declared.ids.Uid.{Uid}
use Rattle.ipc_terms.specs.declared.rule.Rule.{Rule}
use Rattle.ipc_terms.specs.declared.rule.Rule.TheVariants.{BadKey as Refusal}
use Rattle.ipc_terms.specs.declared.call.Call.{Call}
use Rattle.ipc_terms.specs.declared.call.Answer.{Answer}
use Rattle.ipc_terms.specs.declared.call.Answer.TheVariants.{Refused}
use Rattle.ipc_terms.specs.declared.record.Event.TheVariants.{Hello, Do}
use Rattle.ipc_access.specs.Users.{user_of_key}
use Rattle.ipc_policy.specs.declared.config.Limits.{Limits}
use Rattle.ipc_policy.specs.Decides.Sessions.{hellos, live}
use Rattle.ipc_terms.specs.Lists.{Each}
use Rattle.ipc_policy.specs.Decides.Verdict.{verdict, answers, answers_at, Legal}
use Rattle.ipc_state.specs.declared.limits.Field.{Field}
use Rattle.ipc_state.specs.declared.limits.Field.TheVariants.{MsgMax, MsgsizeMax, QueuesMax}
use Rattle.ipc_state.specs.Ranges.{first_bad}
use Rattle.ipc_core.specs.Boxes.{box_at}
use Rattle.ipc_core.specs.Outboxes.{session_at, after_step, after_steps, BoxesAgree}
use Rattle.ipc_core.specs.CoreView.{CoreView}
use Rattle.ipc_fields.specs.Field.{◌⊕◌}
use Rattle.ipc_wire.specs.declared.request.Request.{Request}
use Rattle.ipc_wire.specs.declared.request.Request.TheVariants as request
use Rattle.ipc_wire.specs.Requests.{is_hello_request, same, request_with}
use Rattle.ipc_wire.specs.Streams.{spell_answer, cut}
use Rattle.ipc_hub.specs.declared.fed.Fed.{Fed}
use Rattle.ipc_hub.specs.declared.fed.HubFault.TheVariants.{Ended}
use Rattle.ipc_hub.specs.Hub.{Connection, Hub, Marks, new_connection, untaken_of, untaken, spell_answers}
use Rattle.ipc_hub.specs.Hub.{session_or_next, from_kept, event_of, is_hello_refused, hang_up_of, IsOutcome}
use Rattle.ipc_hub.specs.Sessions.{IsSessionOf, EachHasItsOwn}
use Rattle.ipc_terms.specs.Sizes.{IsSmall}
use Rattle.ipc_hub.specs.Hub.{core_after_take, fault_of_change}
use Rattle.ipc_hub.proofs.SessionLemmas.{calls_no_hello, ChangesSessions, IsOpen, none_kept, hangs_up, fed_changes, changed_all, opened_all}
use Rattle.ipc_policy.proofs.Outcomes.AnswerSizes.{outbox_small}
use Rattle.ipc_policy.specs.declared.config.TheConstants.{HARD_MSGSIZE_MAX}
use Rattle.ipc_wire.proofs.SmallAnswers.{small_spelled}

-- ---- a request

none_is : (w : Option Rule) → is_some w ≡ false → w ≡ None
none_is None k = refl
none_is (Some rule) k = absurd cc

-- an accepted hello is answered to the session that it starts
pub hello_starts : (a : CoreView) (found : Option Uid) → is_some (verdict a.config a.history (Hello found)) ≡ false → session_at 0 (answers a.config a.history (Hello found)) ≡ Some (record { 0 = hellos a.history })
unfolding answers
hello_starts a found accepted = ap (λ r. session_at 0 (answers_at r a.config a.history (Hello found))) (none_is _ accepted)

pub hello_stepped : (a : CoreView) (found known : Option Uid) (v : Option Rule) (w : Option Sid) → found ≡ known → v ≡ verdict a.config a.history (Hello found) → is_some v ≡ false → w ≡ session_at 0 (answers a.config a.history (Hello found)) → w ≡ cond (is_some (verdict a.config a.history (Hello known))) None (Some (record { 0 = hellos a.history }))
hello_stepped a found known v w same' is off e =
    let sid : Sid = record { 0 = hellos a.history } in
    let accepted : is_some (verdict a.config a.history (Hello found)) ≡ false = ap is_some (sym is) ∙ off in
    let then : is_some (verdict a.config a.history (Hello known)) ≡ false = ap (λ u. is_some (verdict a.config a.history (Hello u))) (sym same') ∙ accepted in
    e ∙ hello_starts a found accepted ∙ sym (ap (λ b. cond b None (Some sid)) then)

pub hello_ends : (a : CoreView) (s w : Option Sid) (q : Request) (key : List ℕ) → q ≡ request.Hello key → same (is_hello_request q) (is_none s) ≡ true → w ≡ cond (is_some (verdict a.config a.history (Hello (user_of_key a.config.users key)))) None (Some (record { 0 = hellos a.history })) → w ≡ cond (is_hello_refused a s (q ∷ [])) None (Some (session_or_next a s))
unfolding request_with
hello_ends a None w q key is may e = e ∙ ap (λ p. cond (is_hello_refused a None (p ∷ [])) None (Some (session_or_next a None))) (sym is)
hello_ends a (Some sid) w q key is may e = absurd (let k : false ≡ true = ap (λ p. same (is_hello_request p) false) (sym is) ∙ may in cc)

-- only a connection with a session makes a call
pub has_session : (q : Request) (c : Call) (s : Option Sid) → q ≡ request.Do c → same (is_hello_request q) (is_none s) ≡ true → (sid : Sid) × (s ≡ Some sid)
has_session q c (Some sid) is may = (sid, refl)
has_session q c None is may = absurd (let k : false ≡ true = ap (λ b. same b true) (sym (ap is_hello_request is ∙ calls_no_hello c)) ∙ may in cc)

pub call_ends : (a : CoreView) (s : Option Sid) (q : Request) (c : Call) (sid none : Sid) → q ≡ request.Do c → same (is_hello_request q) (is_none s) ≡ true → sid ≡ unwrap_or s none → ◌≡◌ {A = Option Sid} (Some sid) (cond (is_hello_refused a s (q ∷ [])) None (Some (session_or_next a s)))
call_ends a s q c sid none is may e =
    let own = has_session q c s is may in
    ap (λ (x : Sid). Some x) (e ∙ ap (λ w. unwrap_or w none) own.1) ∙ sym (ap (λ w. cond (is_hello_refused a w (q ∷ [])) None (Some (session_or_next a w))) own.1)

pub call_is : (a b : CoreView) (s : Option Sid) (q : Request) (c : Call) (sid none : Sid) → q ≡ request.Do c → same (is_hello_request q) (is_none s) ≡ true → sid ≡ unwrap_or s none → b ≡ after_step (Do sid (from_kept a.first c)) a → b ≡ after_step (event_of a (session_or_next a s) q) a
call_is a b s q c sid none is may e now =
    let own = has_session q c s is may in
    now ∙ ap (λ (x : Sid). after_step (Do x (from_kept a.first c)) a) (e ∙ ap (λ w. unwrap_or w none) own.1 ∙ sym (ap (session_or_next a) own.1)) ∙ ap (λ p. after_step (event_of a (session_or_next a s) p) a) (sym is)

-- ---- what holds of every hub

pub open_at : (a : CoreView) (xs : List Connection) (i : ℕ) (x : Connection) → EachHasItsOwn a xs → slice_get xs i ≡ Some x → x.is_over ≡ false → IsOpen a x
open_at a xs i x all there open' = record { own = λ sid e. all.own i x sid there e; refused = λ e. all.refused i x there e; is = open' }

pub opened_sessions : (a : CoreView) (xs ys : List Connection) (x : Connection) → EachHasItsOwn a xs → x ≡ new_connection → ys ≡ xs ++ x ∷ [] → EachHasItsOwn a ys
opened_sessions a xs ys x s new all = subst (λ (zs : List Connection). EachHasItsOwn a zs) (sym (all ∙ ap (λ (z : Connection). xs ++ z ∷ []) new)) (opened_all a xs s)

pub hung_up_sessions : (a b : CoreView) (xs : List Connection) (i : ℕ) (x y : Connection) → EachHasItsOwn a xs → slice_get xs i ≡ Some x → x.is_over ≡ false → b ≡ after_steps (hang_up_of x.session) a → y ≡ record x { kept = []; is_over = true } → EachHasItsOwn b (set xs i y)
hung_up_sessions a b xs i x y s there open' now is = changed_all a b xs i x y s there (subst (λ (z : Connection). ChangesSessions a x b z) (sym is) (hangs_up a a b x x.session [] (open_at a xs i x s there open') (none_kept a x.session) now))

pub fed_sessions : (fed : Fed) (a b : CoreView) (xs : List Connection) (i : ℕ) (x y : Connection) (w : List ℕ) → EachHasItsOwn a xs → slice_get xs i ≡ Some x → x.is_over ≡ false → IsOutcome fed a x (cut (is_none x.session) w) b y → EachHasItsOwn b (set xs i y)
fed_sessions fed a b xs i x y w s there open' h = changed_all a b xs i x y s there (fed_changes fed a b x y w (open_at a xs i x s there open') h)

-- which records are kept is nothing to sessions
pub forgot_sessions : (a : CoreView) (n : ℕ) (xs : List Connection) → EachHasItsOwn a xs → EachHasItsOwn (record a { first = n }) xs
forgot_sessions a n xs w = record {
  own = λ i x sid there k. (let o = w.own i x sid there k in record { started = o.started; live_is = o.live_is });
  apart = w.apart;
  refused = w.refused;
}

-- nor what anybody has untaken
pub forgot_untaken : (a : CoreView) (n : ℕ) (x : Connection) → untaken (record a { first = n }) x ≡ untaken a x
forgot_untaken a n x = ap (λ (answers : List Answer). cond x.has_refusal (Refused Refusal ∷ []) answers) (same' x.session) where
  same' : (s : Option Sid) → untaken_of (record a { first = n }) s ≡ untaken_of a s
  same' None = refl
  same' (Some sid) = refl

pub forgot_marks : (hub : Hub) (n : ℕ) → Marks hub (record hub { core = record hub.core { first = n } })
forgot_marks hub n = record { kept = λ i e. e; silent = λ i e. at (slice_get hub.connections i) } where
  at : (x : Option Connection) → unwrap_or (option_map (untaken (record hub.core { first = n })) x) [] ≡ unwrap_or (option_map (untaken hub.core) x) []
  at None = refl
  at (Some x) = forgot_untaken hub.core n x

-- a take changes no history
pub same_history : (a : CoreView) (s : Option Sid) → (core_after_take a s).history ≡ a.history
same_history a None = refl
same_history a (Some sid) = refl

pub takes_changes : (a b : CoreView) (x : Connection) → ((sid : Sid) → x.session ≡ Some sid → IsSessionOf a x sid) → b.history ≡ a.history → ChangesSessions a x b (record x { has_refusal = false })
takes_changes a b x own same' = record {
  later = let k : hellos b.history ≡ hellos a.history = ap hellos same' in omega arith;
  others = λ n lt ne. ap (λ h. live h n) same';
  own = λ sid e. (let old = own sid e in let k : hellos b.history ≡ hellos a.history = ap hellos same' in let lt = old.started in record { started = omega arith; live_is = ap (λ h. live h sid.0) same' ∙ old.live_is });
  stays = λ sid e. e;
  starts = λ none sid e. absurd (let wrong : ◌≡◌ {A = Option Sid} None (Some sid) = sym none ∙ e in cc);
  refused = λ e. absurd cc;
}

pub taken_sessions : (a b : CoreView) (xs : List Connection) (i : ℕ) (x y : Connection) → EachHasItsOwn a xs → slice_get xs i ≡ Some x → b ≡ core_after_take a x.session → y ≡ record x { has_refusal = false } → EachHasItsOwn b (set xs i y)
taken_sessions a b xs i x y s there now is = changed_all a b xs i x y s there (subst (λ (z : Connection). ChangesSessions a x b z) (sym is) (takes_changes a b x (λ sid e. s.own i x sid there e) (ap (λ (z : CoreView). z.history) now ∙ same_history a x.session)))

-- ---- what is untaken has spellings

size_in_range : (l : Limits) → first_bad l ≡ None → l.msgsize_max ≤ HARD_MSGSIZE_MAX
size_in_range l e = at ((eqb l.msg_max 0) || nat_lt 65536 l.msg_max) (eqb l.msgsize_max 0) (nat_lt 16777216 l.msgsize_max) (nat_lt 65536 l.queues_max) refl e where
  at : (p q r t : Bool) → nat_lt 16777216 l.msgsize_max ≡ r → ◌≡◌ {A = Option Field} (cond p (Some MsgMax) (cond (q || r) (Some MsgsizeMax) (cond t (Some QueuesMax) None))) None → l.msgsize_max ≤ HARD_MSGSIZE_MAX
  at true q r t k e = absurd cc
  at false true r t k e = absurd cc
  at false false true t k e = absurd cc
  at false false false t k e = ltb-false _ _ k

no_text : (text : List ℕ) → None ≡ Some text → ⊥
no_text text e = absurd cc

all_spelled : (xs : List Answer) → Each (IsSmall HARD_MSGSIZE_MAX) xs → IsSome (spell_answers xs)
all_spelled [] h = search rules
all_spelled (x ∷ xs) h = both (spell_answer x) (spell_answers xs) (small_spelled HARD_MSGSIZE_MAX x (omega arith) h.0) (all_spelled xs h.1) where
  both : (s t : Option (List ℕ)) → (text : List ℕ) × (s ≡ Some text) → IsSome t → IsSome (s ⊕ t)
  both None t e k = absurd (no_text e.0 e.1)
  both (Some a) None e k = absurd (let wrong : false ≡ true = k in cc)
  both (Some a) (Some b) e k = search rules

each_end : {A : Type 0} (P : A → Type 0) (xs ys : List A) → Each P (xs ++ ys) → Each P ys
each_end P [] ys h = h
each_end P (x ∷ xs) ys h = each_end P xs ys h.1

pub untaken_spelled : (a : CoreView) (x : Connection) → first_bad a.config.limits ≡ None → Legal a.config a.history → BoxesAgree a.config a.history a.untaken → IsSome (spell_answers (untaken a x))
untaken_spelled a x range legal last = all_spelled (untaken a x) (at x.has_refusal) where
  left : (w : Option Sid) → Each (IsSmall HARD_MSGSIZE_MAX) (untaken_of a w)
  left None = tt
  left (Some sid) = let e = last.suffix sid.0 in each_end (IsSmall HARD_MSGSIZE_MAX) e.front (box_at a.untaken sid.0) (subst (λ (xs : List Answer). Each (IsSmall HARD_MSGSIZE_MAX) xs) e.whole (outbox_small a.config a.history sid.0 (size_in_range a.config.limits range) legal))

  at : (b : Bool) → Each (IsSmall HARD_MSGSIZE_MAX) (cond b (Refused Refusal ∷ []) (untaken_of a x.session))
  at true = (tt, tt)
  at false = left x.session

-- ---- where a connection stands

is_open : (xs : List Connection) (i : ℕ) (x : Connection) → slice_get xs i ≡ Some x → fault_of_change (slice_get xs i) ≡ None → x.is_over ≡ false
is_open xs i x there none = at x.is_over refl (sym (ap fault_of_change there) ∙ none) where
  at : (b : Bool) → x.is_over ≡ b → cond b (Some Ended) None ≡ None → x.is_over ≡ false
  at true is e = absurd cc
  at false is e = is

pub found_there : (hub : Hub) (xs : List Connection) (i : ℕ) (x : Connection) → xs ≡ hub.connections → i < length hub.connections → x ≡ get_or xs i x → slice_get xs i ≡ Some x
found_there hub xs i x same lt is = stands_there xs i x (subst (λ (ys : List Connection). i < length ys) (sym same) lt) is

pub found_open : (hub : Hub) (xs : List Connection) (i n : ℕ) (x : Connection) → xs ≡ hub.connections → i ≡ n → slice_get xs i ≡ Some x → fault_of_change (slice_get hub.connections n) ≡ None → x.is_over ≡ false
found_open hub xs i n x same at there none =
    is_open xs i x there (ap (λ (ys : List Connection). fault_of_change (slice_get ys i)) same ∙ ap (λ (k : ℕ). fault_of_change (slice_get hub.connections k)) at ∙ none)
