-- What one accepted event does to a queue, to its registration, to a semaphore, to a session's parked call, and to its answers.
use Rattle.std.proofs.Common.{◌≡◌, ℕ, ◌+◌, ◌-◌, ◌++◌, ◌∷◌, [], length, cond, Option, Some, None, refl, sym, ap, ◌∙◌}
use Rattle.std.specs.Prelude.{unwrap_or}
use Rattle.std.specs.Option.{option_or}
use Rattle.ipc_terms.specs.Objects.{value_asked}
use Rattle.ipc_terms.specs.declared.rule.Rule.{Rule}
use Rattle.ipc_terms.specs.declared.call.Answer.TheVariants.{Refused}
use Rattle.ipc_terms.specs.declared.record.Event.{Event}
use Rattle.ipc_policy.specs.declared.config.Config.{Config}
use Rattle.ipc_policy.specs.Decides.History.{History, newest}
use Rattle.ipc_policy.specs.Decides.Sessions.{hellos, live}
use Rattle.ipc_policy.specs.Decides.Descriptions.{holds}
use Rattle.ipc_policy.specs.Decides.Queues.{act_by, queue_after, maxmsg_of, attributes}
use Rattle.ipc_policy.specs.Decides.Names.{is_bound, creations}
use Rattle.ipc_policy.specs.Decides.Timed.{told, now}
use Rattle.ipc_policy.specs.Decides.Semaphores.{semaphore_act_by, gives_value, with_first, semaphore_after, given_value}
use Rattle.ipc_policy.specs.Decides.Bodies.{due, queue, semaphore_act, semaphore, posts, passes, value}
use Rattle.ipc_policy.specs.Decides.Registrations.{registered}
use Rattle.ipc_policy.specs.Decides.Parking.{parked, seen}
use Rattle.ipc_policy.specs.Follows.Grow.{live_after, first_value, given_value_after, posts_after, passes_after, registered_after, parked_after}
use Rattle.ipc_policy.specs.Decides.Verdict.{verdict, caller, answers, answers_at, for_session, outbox}
use Rattle.ipc_policy.proofs.Histories.Growing.{live_grows, made_grows}

pub time_grows : (h : History) (e : Event) → now (record { event = e; rule = None } ∷ h) ≡ told e (now h)
unfolding now
time_grows h e = refl

pub queue_grows : (c : Config) (h : History) (e : Event) (o : ℕ) → queue c (record { event = e; rule = None } ∷ h) o ≡ queue_after (maxmsg_of (attributes c h o)) (act_by (length h) (holds h) (due c h) o e) (queue c h o)
unfolding queue
queue_grows c h e o = refl

or_nothing : {A : Type 0} (w : Option A) → option_or w None ≡ w
or_nothing None = refl
or_nothing (Some x) = refl

pub first_value_is : (h : History) (e : Event) (o : ℕ) → gives_value o e h ≡ first_value o e (is_bound h) (creations h)
first_value_is h e o = sym (or_nothing (gives_value o e h)) ∙ made_grows h e o (λ asked. value_asked asked.kind) None

pub semaphore_grows : (c : Config) (h : History) (e : Event) (o : ℕ) → semaphore c (record { event = e; rule = None } ∷ h) o ≡ with_first (first_value o e (is_bound h) (creations h)) (semaphore_after (semaphore_act_by (length h) (holds h) (due c h) o e) (semaphore c h o))
unfolding semaphore
semaphore_grows c h e o = ap (λ v. with_first v (semaphore_after (semaphore_act c o e h) (semaphore c h o))) (first_value_is h e o)

-- what its value is counted from
or_first : (v w : Option ℕ) → unwrap_or (option_or v w) 0 ≡ unwrap_or v (unwrap_or w 0)
or_first None w = refl
or_first (Some n) w = refl

pub given_value_grows : (h : History) (e : Event) (o : ℕ) → given_value (record { event = e; rule = None } ∷ h) o ≡ given_value_after (first_value o e (is_bound h) (creations h)) (given_value h o)
given_value_grows h e o = or_first (gives_value o e h) (newest (gives_value o) h) ∙ ap (λ v. unwrap_or v (given_value h o)) (first_value_is h e o)

pub value_grows : (c : Config) (h : History) (e : Event) (o : ℕ) → value c (record { event = e; rule = None } ∷ h) o ≡ (given_value_after (first_value o e (is_bound h) (creations h)) (given_value h o) + posts_after (semaphore_act c o e h) (posts c h o)) - passes_after (semaphore_act c o e h) (semaphore c h o) (passes c h o)
unfolding value
value_grows c h e o = ap (λ n. (n + posts_after (semaphore_act c o e h) (posts c h o)) - passes_after (semaphore_act c o e h) (semaphore c h o) (passes c h o)) (given_value_grows h e o)

pub refused_semaphore : (c : Config) (h : History) (e : Event) (rule : Rule) (o : ℕ) → semaphore c (record { event = e; rule = Some rule } ∷ h) o ≡ semaphore c h o
unfolding semaphore
refused_semaphore c h e rule o = refl

pub registered_grows : (c : Config) (h : History) (e : Event) (o : ℕ) → registered c (record { event = e; rule = None } ∷ h) o ≡ registered_after (seen c h) o e (registered c h o)
unfolding registered
registered_grows c h e o = refl

pub parked_grows : (c : Config) (h : History) (e : Event) (s : ℕ) → parked c (record { event = e; rule = None } ∷ h) s ≡ parked_after (seen c h) s e (parked c h s)
unfolding parked
parked_grows c h e s = refl

pub outbox_grows : (c : Config) (h : History) (e : Event) (s : ℕ) → outbox c (record { event = e; rule = None } ∷ h) s ≡ outbox c h s ++ cond (live_after s e (hellos h) (live h s)) (for_session s (answers c h e)) []
unfolding outbox
outbox_grows c h e s = ap (λ b. outbox c h s ++ cond b (for_session s (answers c h e)) []) (live_grows h e s)

-- a refused event changes none of them but the answers of its session
pub refused_queue : (c : Config) (h : History) (e : Event) (rule : Rule) (o : ℕ) → queue c (record { event = e; rule = Some rule } ∷ h) o ≡ queue c h o
unfolding queue
refused_queue c h e rule o = refl

pub refused_parked : (c : Config) (h : History) (e : Event) (rule : Rule) (s : ℕ) → parked c (record { event = e; rule = Some rule } ∷ h) s ≡ parked c h s
unfolding parked
refused_parked c h e rule s = refl

refused_live : (h : History) (e : Event) (rule : Rule) (s : ℕ) → live (record { event = e; rule = Some rule } ∷ h) s ≡ live h s
unfolding live
refused_live h e rule s = refl

refused_outbox : (c : Config) (h : History) (e : Event) (rule : Rule) (s : ℕ) → outbox c (record { event = e; rule = Some rule } ∷ h) s ≡ outbox c h s ++ cond (live h s) (for_session s (answers c h e)) []
unfolding outbox
refused_outbox c h e rule s = ap (λ b. outbox c h s ++ cond b (for_session s (answers c h e)) []) (refused_live h e rule s)

pub refused_answered : (c : Config) (h : History) (e : Event) (rule : Rule) (s : ℕ) → verdict c h e ≡ Some rule → outbox c (record { event = e; rule = Some rule } ∷ h) s ≡ outbox c h s ++ cond (live h s) (for_session s ((caller e, Refused rule) ∷ [])) []
unfolding answers
refused_answered c h e rule s is = rw (refused_outbox c h e rule s) (ap (λ v. outbox c h s ++ cond (live h s) (for_session s (answers_at v c h e)) []) is)
