-- The sessions that are live hang up, and nobody is live then.
use Rattle.std.proofs.Common.{◌≡◌, ℕ, zero, suc, ◌+◌, ◌<◌, ◌≤◌, Bool, true, false, not, ◌&&◌, eqb, None, refl, sym, ap, ◌∙◌, arith}
use Rattle.std.specs.Prelude.{nat_lt}
use Rattle.std.proofs.lemmas.Bool.{eqb-true, eq-eqb, ne_eqb, ltb-true, ltb-false}
use Rattle.ipc_terms.specs.declared.ids.Sid.{Sid}
use Rattle.ipc_terms.specs.declared.record.Event.TheVariants.{Hangup}
use Rattle.ipc_policy.specs.declared.config.Config.{Config}
use Rattle.ipc_policy.specs.Decides.History.{History}
use Rattle.ipc_policy.specs.Decides.Sessions.{hellos, live}
use Rattle.ipc_policy.specs.Decides.Verdict.{verdict, after_event}
use Rattle.ipc_policy.specs.Decides.Rules.{forbids, no_session, in_call, not_in_call, name_form, name_long, not_admin, no_user, bad_descr, not_for_write, not_for_read, dir_search, dir_read, absent, present, mode_denied, dir_write, sticky, not_owner, chown_denied, attr_range, value_range, queue_count, byte_limit, descr_limit, prio_range, message_long, buffer_short, notify_taken, would_block, overflow, bad_key, timed_out, no_taker}
use Rattle.ipc_policy.proofs.Histories.Grown.{grows}
use Rattle.ipc_policy.proofs.Histories.Known.{live_below}
use Rattle.ipc_state.specs.StateView.{StateView}
use Rattle.ipc_replay.specs.HangingUp.{hung_up, first_hung_up}

-- no rule forbids the hang-up of a session that is live
pub hang_up_accepted : (c : Config) (h : History) (sid : Sid) → live h sid.0 ≡ true → verdict c h (Hangup sid) ≡ None
unfolding verdict forbids no_session in_call not_in_call name_form name_long not_admin no_user bad_descr not_for_write not_for_read dir_search dir_read absent present mode_denied dir_write sticky not_owner chown_denied attr_range value_range queue_count byte_limit descr_limit prio_range message_long buffer_short notify_taken would_block overflow bad_key timed_out no_taker
hang_up_accepted c h sid on = rw on refl

-- so it is recorded as accepted
pub hangs_up : (c : Config) (h : History) (sid : Sid) → live h sid.0 ≡ true → after_event c h (Hangup sid) ≡ hung_up sid.0 (live h sid.0) h
hangs_up c h sid on = rw (on, hang_up_accepted c h sid on) refl

-- it ends its own session alone
ends_own : (c : Config) (h : History) (n s : ℕ) → live (hung_up n true h) s ≡ (not (eqb n s) && live h s)
ends_own c h n s = (grows c h (Hangup (record { 0 = n }))).live_or_not s

none_and : (b : Bool) → (b && false) ≡ false
none_and true = refl
none_and false = refl

pub stays_above : (c : Config) (h : History) (n s : ℕ) → n ≤ s → live (first_hung_up n h) s ≡ live h s
stays_above c h zero s le = refl
stays_above c h (suc n) s le = at (live h n) (stays_above c h n s (omega arith)) where
  other : eqb n s ≡ false
  other = ne_eqb n s (λ (q : n ≡ s). omega arith)

  at : (b : Bool) → live (first_hung_up n h) s ≡ live h s → live (hung_up n b (first_hung_up n h)) s ≡ live h s
  at true so_far = ends_own c (first_hung_up n h) n s ∙ ap (λ b. not b && live (first_hung_up n h) s) other ∙ so_far
  at false so_far = so_far

pub ends_below : (c : Config) (h : History) (n s : ℕ) → s < n → live (first_hung_up n h) s ≡ false
ends_below c h zero s lt = absurd (omega arith)
ends_below c h (suc n) s lt = at (live h n) refl (eqb n s) refl (λ less. ends_below c h n s less) where
  less : eqb n s ≡ false → s < n
  less other = split (nat_lt s n) refl where
    split : (b : Bool) → nat_lt s n ≡ b → s < n
    split true k = ltb-true s n k
    split false k =
        let past : n ≤ s = ltb-false s n k in
        let same : n ≡ s = omega arith in
        absurd (let wrong : true ≡ false = sym (eq-eqb n s same) ∙ other in cc)

  at : (b : Bool) → live h n ≡ b → (own : Bool) → eqb n s ≡ own → (s < n → live (first_hung_up n h) s ≡ false) → live (hung_up n b (first_hung_up n h)) s ≡ false
  at true is true e so_far = ends_own c (first_hung_up n h) n s ∙ ap (λ b. not b && live (first_hung_up n h) s) e
  at true is false e so_far = ends_own c (first_hung_up n h) n s ∙ ap (λ b. not (eqb n s) && b) (so_far (less e)) ∙ none_and (not (eqb n s))
  at false is true e so_far = let same = eqb-true n s e in ap (live (first_hung_up n h)) (sym same) ∙ stays_above c h n n (omega arith) ∙ is
  at false is false e so_far = so_far (less e)

-- so nobody is live once all have hung up
pub nobody_lives : (c : Config) (h : History) (n s : ℕ) → n ≡ hellos h → live (first_hung_up n h) s ≡ false
nobody_lives c h n s all = at (nat_lt s n) refl where
  unstarted : hellos h ≤ s → (b : Bool) → live h s ≡ b → live h s ≡ false
  unstarted le true on = absurd (let lt = live_below h s on in omega arith)
  unstarted le false off = off

  at : (b : Bool) → nat_lt s n ≡ b → live (first_hung_up n h) s ≡ false
  at true k = ends_below c h n s (ltb-true s n k)
  at false k =
      let past : n ≤ s = ltb-false s n k in
      stays_above c h n s past ∙ unstarted (omega arith) (live h s) refl

-- one session more hangs up
pub one_more : (a b d : StateView) (n m : ℕ) → b ≡ record a { history = first_hung_up n a.history } → d ≡ record b { history = hung_up n (live b.history n) b.history } → m ≡ n + 1 → d ≡ record a { history = first_hung_up m a.history }
one_more a b d n m was now one =
    let next : suc n ≡ m = omega arith in
    now
    ∙ ap (λ (z : StateView). record z { history = hung_up n (live z.history n) z.history }) was
    ∙ ap (λ (on : Bool). record a { history = hung_up n on (first_hung_up n a.history) }) (stays_above a.config a.history n n (omega arith))
    ∙ ap (λ (k : ℕ). record a { history = first_hung_up k a.history }) next
