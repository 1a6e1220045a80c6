-- What each record adds to the answers of a session.
use Rattle.std.proofs.Common.{◌≡◌, ℕ, ◌+◌, ◌≤◌, Bool, true, false, ◌&&◌, [], ◌∷◌, ◌++◌, cond, refl, ap, ◌∙◌, arith}
use Rattle.ipc_terms.specs.declared.record.Event.{Event}
use Rattle.ipc_terms.specs.declared.record.Record.{Record}
use Rattle.ipc_policy.specs.declared.config.Config.{Config}
use Rattle.ipc_policy.specs.Decides.History.{History, is_accepted}
use Rattle.ipc_policy.specs.Decides.Sessions.{hellos, is_hello, live}
use Rattle.ipc_policy.specs.Decides.Verdict.{answers, for_session, outbox, after_event}
use Rattle.ipc_policy.proofs.Histories.Known.{live_below}

-- one record more
pub outbox_more : (c : Config) (h : History) (r : Record) (s : ℕ) → outbox c (r ∷ h) s ≡ outbox c h s ++ cond (live (r ∷ h) s) (for_session s (answers c h r.event)) []
unfolding outbox
outbox_more c h r s = refl

-- one event more, with its verdict
pub outbox_after : (c : Config) (h : History) (e : Event) (s : ℕ) → outbox c (after_event c h e) s ≡ outbox c h s ++ cond (live (after_event c h e) s) (for_session s (answers c h e)) []
unfolding outbox
outbox_after c h e s = refl

-- no fewer hellos were accepted later
hellos_before : (r : Record) (h : History) (s : ℕ) → hellos (r ∷ h) ≤ s → hellos h ≤ s
unfolding hellos
hellos_before r h s le = at (is_accepted r) (is_hello r.event h) le where
  more : (b : Bool) → cond b (hellos h + 1) (hellos h) ≤ s → hellos h ≤ s
  more true k = omega arith
  more false k = k

  at : (a b : Bool) → cond (a && b) (hellos h + 1) (hellos h) ≤ s → hellos h ≤ s
  at true b k = more b k
  at false b k = k

-- a session that has not begun has no answers
pub outbox_unbegun : (c : Config) (h : History) (s : ℕ) → hellos h ≤ s → outbox c h s ≡ []
unfolding outbox
outbox_unbegun c [] s le = refl
outbox_unbegun c (r ∷ h) s le = ap (λ xs. xs ++ cond (live (r ∷ h) s) (for_session s (answers c h r.event)) []) (outbox_unbegun c h s (hellos_before r h s le)) ∙ at (live (r ∷ h) s) refl where
  at : (b : Bool) → live (r ∷ h) s ≡ b → cond b (for_session s (answers c h r.event)) [] ≡ []
  at true e = absurd (let below = live_below (r ∷ h) s e in omega arith)
  at false e = refl
