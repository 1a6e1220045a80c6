-- What events do to sessions: only its own hang-up ends one.
use Rattle.std.proofs.Common.{◌≡◌, ℕ, ◌+◌, ◌<◌, ◌≤◌, Bool, true, false, eqb, List, [], ◌∷◌, map, Option, Some, None, refl, ◌∙◌, arith}
use Rattle.std.proofs.lemmas.Bool.{eq-eqb, ne_eqb}
use Rattle.ipc_terms.specs.declared.rule.Rule.{Rule}
use Rattle.ipc_terms.specs.declared.ids.Sid.{Sid}
use Rattle.ipc_terms.specs.declared.record.Event.{Event}
use Rattle.ipc_terms.specs.declared.record.Event.TheVariants.{Hello, Do, Hangup, Tick}
use Rattle.ipc_policy.specs.declared.config.Config.{Config}
use Rattle.ipc_policy.specs.Decides.History.{History}
use Rattle.ipc_policy.specs.Decides.Sessions.{hellos, live, hangs_up}
use Rattle.ipc_policy.specs.Follows.Grow.{live_after, hellos_after}
use Rattle.ipc_policy.specs.Decides.Rules.{forbids, no_session, in_call, not_in_call, name_form, name_long, not_admin, no_user, bad_descr, not_for_write, not_for_read, dir_search, dir_read, absent, present, mode_denied, dir_write, sticky, not_owner, chown_denied, attr_range, value_range, queue_count, byte_limit, descr_limit, prio_range, message_long, buffer_short, notify_taken, would_block, overflow, bad_key, timed_out, no_taker}
use Rattle.ipc_policy.specs.Decides.Verdict.{verdict, after_event}
use Rattle.ipc_policy.proofs.Histories.Grown.{grows}
use Rattle.ipc_policy.proofs.Histories.Refused.{same_values}
use Rattle.ipc_core.specs.Outboxes.{after_step, after_steps}
use Rattle.ipc_core.specs.CoreView.{CoreView}
use Rattle.ipc_wire.specs.declared.request.Request.{Request}
use Rattle.ipc_wire.specs.declared.request.Request.TheVariants as request
use Rattle.ipc_hub.specs.Hub.{session_or_next, event_of, events_of}

-- ---- one event

kept_live : (h : History) (e : Event) (s : ℕ) → s < hellos h → hangs_up s e ≡ false → live_after s e (hellos h) (live h s) ≡ live h s
kept_live h (Hello found) s lt off = let other : eqb (hellos h) s ≡ false = ne_eqb _ _ (λ (q : hellos h ≡ s). omega arith) in rw other refl
kept_live h (Do sid call) s lt off = refl
kept_live h (Hangup sid) s lt off = rw off refl
kept_live h (Tick moment) s lt off = refl

live_by : (c : Config) (h : History) (e : Event) (rule : Option Rule) (s : ℕ) → s < hellos h → hangs_up s e ≡ false → live (record { event = e; rule = rule } ∷ h) s ≡ live h s
live_by c h e (Some rule) s lt off = (same_values c h e rule).live s
live_by c h e None s lt off = (grows c h e).live_or_not s ∙ kept_live h e s lt off

more_hellos : (h : History) (e : Event) → hellos h ≤ hellos_after e (hellos h)
more_hellos h (Hello found) = omega arith
more_hellos h (Do sid call) = omega arith
more_hellos h (Hangup sid) = omega arith
more_hellos h (Tick moment) = omega arith

hellos_by : (c : Config) (h : History) (e : Event) (rule : Option Rule) → hellos h ≤ hellos (record { event = e; rule = rule } ∷ h)
hellos_by c h e (Some rule) = let k = (same_values c h e rule).hellos in omega arith
hellos_by c h e None = let k = (grows c h e).hello_count in let n = more_hellos h e in omega arith

-- ---- a list of events

abbrev pub NoneHangsUp : ℕ → List Event → Type 0
NoneHangsUp s [] = Unit {0}
NoneHangsUp s (e ∷ es) = (hangs_up s e ≡ false) × NoneHangsUp s es

pub hellos_later : (es : List Event) (a : CoreView) → hellos a.history ≤ hellos (after_steps es a).history
hellos_later [] a = omega arith
hellos_later (e ∷ es) a =
    let k = hellos_by a.config a.history e (verdict a.config a.history e) in
    let n = hellos_later es (after_step e a) in
    omega arith

pub live_later : (es : List Event) (a : CoreView) (s : ℕ) → s < hellos a.history → NoneHangsUp s es → live (after_steps es a).history s ≡ live a.history s
live_later [] a s lt off = refl
live_later (e ∷ es) a s lt off =
    let k = hellos_by a.config a.history e (verdict a.config a.history e) in
    live_later es (after_step e a) s (omega arith) off.1 ∙ live_by a.config a.history e (verdict a.config a.history e) s lt off.0

-- ---- the events of a connection

request_hangs_no_up : (a : CoreView) (sid : Sid) (q : Request) (s : ℕ) → hangs_up s (event_of a sid q) ≡ false
request_hangs_no_up a sid (request.Hello key) s = refl
request_hangs_no_up a sid (request.Do call) s = refl

requests_hang_no_up : (a : CoreView) (sid : Sid) (qs : List Request) (s : ℕ) → NoneHangsUp s (map (event_of a sid) qs)
requests_hang_no_up a sid [] s = tt
requests_hang_no_up a sid (q ∷ qs) s = (request_hangs_no_up a sid q s, requests_hang_no_up a sid qs s)

pub events_hang_no_up : (a : CoreView) (session : Option Sid) (qs : List Request) (s : ℕ) → NoneHangsUp s (events_of a session qs)
events_hang_no_up a session qs s = requests_hang_no_up a (session_or_next a session) qs s

-- a hello that is accepted starts the next session, which is live
pub live_at_hello : (c : Config) (h : History) (e : Event) (rule : Option Rule) → rule ≡ None → (s : ℕ) → s ≡ hellos h → live_after s e (hellos h) (live h s) ≡ true → live (record { event = e; rule = rule } ∷ h) s ≡ true
live_at_hello c h e (Some rule) free s is k = absurd cc
live_at_hello c h e None free s is k = (grows c h e).live_or_not s ∙ k

pub hello_lives : (a : CoreView) (key : List ℕ) (sid : Sid) → verdict a.config a.history (event_of a sid (request.Hello key)) ≡ None → live (after_event a.config a.history (event_of a sid (request.Hello key))) (hellos a.history) ≡ true
hello_lives a key sid ok = live_at_hello a.config a.history (event_of a sid (request.Hello key)) (verdict a.config a.history (event_of a sid (request.Hello key))) ok (hellos a.history) refl (let own : eqb (hellos a.history) (hellos a.history) ≡ true = eq-eqb _ _ refl in rw own refl)

hello_counts_by : (c : Config) (h : History) (e : Event) (rule : Option Rule) → rule ≡ None → hellos_after e (hellos h) ≡ hellos h + 1 → hellos (record { event = e; rule = rule } ∷ h) ≡ hellos h + 1
hello_counts_by c h e (Some rule) free k = absurd cc
hello_counts_by c h e None free k = (grows c h e).hello_count ∙ k

pub hello_counts : (a : CoreView) (key : List ℕ) (sid : Sid) → verdict a.config a.history (event_of a sid (request.Hello key)) ≡ None → hellos (after_event a.config a.history (event_of a sid (request.Hello key))) ≡ hellos a.history + 1
hello_counts a key sid ok = hello_counts_by a.config a.history (event_of a sid (request.Hello key)) (verdict a.config a.history (event_of a sid (request.Hello key))) ok refl

-- ---- a hang-up

-- no rule forbids the hang-up of a session that is live
pub hang_up_accepted : (c : Config) (h : History) (sid : Sid) → live h sid.0 ≡ true → verdict c h (Hangup sid) ≡ None
unfolding verdict forbids no_session in_call not_in_call name_form name_long not_admin no_user bad_descr not_for_write not_for_read dir_search dir_read absent present mode_denied dir_write sticky not_owner chown_denied attr_range value_range queue_count byte_limit descr_limit prio_range message_long buffer_short notify_taken would_block overflow bad_key timed_out no_taker
hang_up_accepted c h sid on = rw on refl

ended_by : (c : Config) (h : History) (sid : Sid) (rule : Option Rule) → rule ≡ None → live (record { event = Hangup sid; rule = rule } ∷ h) sid.0 ≡ false
ended_by c h sid (Some rule) free = absurd cc
ended_by c h sid None free = (grows c h (Hangup sid)).live_or_not sid.0 ∙ (let own : eqb sid.0 sid.0 ≡ true = eq-eqb _ _ refl in rw own refl)

pub hang_up_ends : (c : Config) (h : History) (sid : Sid) → live h sid.0 ≡ true → live (after_event c h (Hangup sid)) sid.0 ≡ false
hang_up_ends c h sid on = ended_by c h sid (verdict c h (Hangup sid)) (hang_up_accepted c h sid on)

-- whether or not it was live before
still_over : (c : Config) (h : History) (sid : Sid) (rule : Option Rule) → live h sid.0 ≡ false → live (record { event = Hangup sid; rule = rule } ∷ h) sid.0 ≡ false
still_over c h sid (Some rule) off = (same_values c h (Hangup sid) rule).live sid.0 ∙ off
still_over c h sid None off = ended_by c h sid None refl

pub hung_up_is_over : (c : Config) (h : History) (sid : Sid) → live (after_event c h (Hangup sid)) sid.0 ≡ false
hung_up_is_over c h sid = at (live h sid.0) refl where
  at : (b : Bool) → live h sid.0 ≡ b → live (after_event c h (Hangup sid)) sid.0 ≡ false
  at true on = hang_up_ends c h sid on
  at false off = still_over c h sid (verdict c h (Hangup sid)) off
