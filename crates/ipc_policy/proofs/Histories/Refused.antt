-- A refused event changes no value, and no verdict to come.
use Rattle.std.proofs.Common.{◌≡◌, ℕ, ◌≤◌, Bool, true, false, eqb, [], ◌∷◌, length, cond, Option, Some, None, is_none, refl, arith}
use Rattle.std.specs.Option.{option_or}
use Rattle.std.proofs.lemmas.Bool.{ne_eqb}
use Rattle.ipc_terms.specs.Timed.{deadline}
use Rattle.ipc_terms.specs.declared.rule.Rule.{Rule}
use Rattle.ipc_terms.specs.declared.ids.Target.TheVariants.{Dir, Name}
use Rattle.ipc_terms.specs.declared.call.Call.TheVariants.{Umask, MqOpen, MqClose, MqSend, MqReceive, MqGetattr, MqSetattr, MqNotify, MqGive, MqUnlink, SemOpen, SemClose, SemUnlink, SemPost, SemWait, SemTryWait, SemGetvalue, ListNames, StatName, Chmod, Chown, SetLimit, Interrupt, Audit, MqTimedSend, MqTimedReceive, SemTimedWait}
use Rattle.ipc_terms.specs.declared.record.Event.{Event}
use Rattle.ipc_terms.specs.declared.record.Event.TheVariants.{Hello, Do, Hangup, Tick}
use Rattle.ipc_policy.specs.declared.config.Config.{Config}
use Rattle.ipc_policy.specs.Decides.History.{History, after_refused}
use Rattle.ipc_policy.specs.Decides.Sessions.{hellos, user, live, cred, mask}
use Rattle.ipc_policy.specs.Decides.Names.{is_bound, creating, bound, creations}
use Rattle.ipc_policy.specs.Decides.Objects.{object, owner, group, mode, facts, directory_owner, directory_group, directory_mode, directory}
use Rattle.ipc_policy.specs.Decides.Descriptions.{opens, held, holds, held_count, is_nonblock}
use Rattle.ipc_policy.specs.Decides.Life.{named, bindings, names, alive}
use Rattle.ipc_policy.specs.Decides.Timed.{now, deadline_at}
use Rattle.ipc_policy.specs.Decides.Registrations.{registered}
use Rattle.ipc_policy.specs.Decides.Bodies.{due, queue, semaphore, value}
use Rattle.ipc_policy.specs.Decides.Parking.{parked}
use Rattle.ipc_policy.specs.Decides.Charges.{charge_of, charged, queues_alive, limit}
use Rattle.ipc_policy.specs.Decides.Rules.{forbids, no_session, in_call, not_in_call, name_form, name_long, not_admin, no_user, bad_descr, not_for_write, not_for_read, dir_search, dir_read, absent, present, mode_denied, dir_write, sticky, not_owner, chown_denied, attr_range, value_range, queue_count, byte_limit, descr_limit, prio_range, message_long, buffer_short, notify_taken, would_block, overflow, bad_key, timed_out, no_taker}
use Rattle.ipc_policy.specs.Decides.Verdict.{verdict}
use Rattle.ipc_policy.specs.Follows.Laws.{SameValues}

same_verdict : (c : Config) (h : History) (e' : Event) (rule : Rule) (e : Event) → verdict c (after_refused h e' rule) e ≡ verdict c h e
unfolding user live cred is_bound creating creations bound object owner group mode facts directory_owner directory_group directory_mode directory opens held holds held_count is_nonblock named alive charge_of charged queues_alive limit queue registered semaphore value parked verdict forbids no_session in_call not_in_call name_form name_long not_admin no_user bad_descr not_for_write not_for_read dir_search dir_read absent present mode_denied dir_write sticky not_owner chown_denied attr_range value_range queue_count byte_limit descr_limit prio_range message_long buffer_short notify_taken would_block overflow bad_key timed_out now no_taker
same_verdict c h e' rule (Hello found) = refl
same_verdict c h e' rule (Do sid (Umask mode')) = refl
same_verdict c h e' rule (Do sid (MqOpen asked)) = refl
same_verdict c h e' rule (Do sid (MqClose desc)) = refl
same_verdict c h e' rule (Do sid (MqSend desc priority bytes)) = refl
same_verdict c h e' rule (Do sid (MqReceive desc length')) = refl
same_verdict c h e' rule (Do sid (MqGetattr desc)) = refl
same_verdict c h e' rule (Do sid (MqSetattr desc nonblock)) = refl
same_verdict c h e' rule (Do sid (MqNotify desc on)) = refl
same_verdict c h e' rule (Do sid (MqGive desc taker)) = refl
same_verdict c h e' rule (Do sid (MqUnlink name)) = refl
same_verdict c h e' rule (Do sid (SemOpen asked)) = refl
same_verdict c h e' rule (Do sid (SemClose desc)) = refl
same_verdict c h e' rule (Do sid (SemUnlink name)) = refl
same_verdict c h e' rule (Do sid (SemPost desc)) = refl
same_verdict c h e' rule (Do sid (SemWait desc)) = refl
same_verdict c h e' rule (Do sid (SemTryWait desc)) = refl
same_verdict c h e' rule (Do sid (SemGetvalue desc)) = refl
same_verdict c h e' rule (Do sid (ListNames family start count)) = refl
same_verdict c h e' rule (Do sid (StatName (Dir family))) = refl
same_verdict c h e' rule (Do sid (StatName (Name family name))) = refl
same_verdict c h e' rule (Do sid (Chmod mode' (Dir family))) = refl
same_verdict c h e' rule (Do sid (Chmod mode' (Name family name))) = refl
same_verdict c h e' rule (Do sid (Chown owner' group' (Dir family))) = refl
same_verdict c h e' rule (Do sid (Chown owner' group' (Name family name))) = refl
same_verdict c h e' rule (Do sid (SetLimit uid bytes)) = refl
same_verdict c h e' rule (Do sid Interrupt) = refl
same_verdict c h e' rule (Do sid (Audit start count)) = refl
same_verdict c h e' rule (Do sid (MqTimedSend desc priority until bytes)) = refl
same_verdict c h e' rule (Do sid (MqTimedReceive desc room until)) = refl
same_verdict c h e' rule (Do sid (SemTimedWait desc until)) = refl
same_verdict c h e' rule (Hangup sid) = refl
same_verdict c h e' rule (Tick moment) = refl

-- no call of a place that is still to come has a deadline
pub none_yet : (h : History) (i : ℕ) → length h ≤ i → deadline_at h i ≡ None
none_yet [] i le = refl
none_yet (r ∷ h) i le = at (is_none r.rule) (ne_eqb (length h) i (λ (e : length h ≡ i). absurd (omega arith))) (none_yet h i (omega arith)) where
  at : (b : Bool) → eqb (length h) i ≡ false → deadline_at h i ≡ None → option_or (cond b (cond (eqb (length h) i) (deadline r.event) None) None) (deadline_at h i) ≡ None
  at true other none = rw (other, none) refl
  at false other none = none

or_none : {A : Type 0} (w v : Option A) → v ≡ None → option_or w v ≡ w
or_none None v e = e
or_none (Some x) v e = refl

refused_due : (c : Config) (h : History) (e : Event) (rule : Rule) (moment : ℕ) → due c (after_refused h e rule) moment ≡ due c h moment
unfolding now creations queue
refused_due c h e rule moment = or_none (due c h moment) _ (rw (none_yet h (length h) (omega arith)) refl)

pub same_values : (c : Config) (h : History) (e : Event) (rule : Rule) → SameValues c (after_refused h e rule) h
unfolding hellos user live cred mask is_bound bound creations object owner group mode facts directory_owner directory_group directory_mode directory opens held holds held_count is_nonblock named bindings names alive charge_of charged queues_alive limit queue registered semaphore value parked now
same_values c h e rule = record {
  hellos = refl;
  user = λ s. refl;
  live = λ s. refl;
  cred = λ s. refl;
  mask = λ s. refl;
  is_bound = λ f name. refl;
  bound = λ f name. refl;
  creations = refl;
  object = λ o. refl;
  owner = λ o. refl;
  group = λ o. refl;
  mode = λ o. refl;
  facts = λ o. refl;
  directory = λ f. refl;
  opens = refl;
  held = λ d. refl;
  holds = λ s d. refl;
  held_count = λ s. refl;
  is_nonblock = λ d. refl;
  named = λ o. refl;
  bindings = λ f. refl;
  names = λ f. refl;
  alive = λ o. refl;
  limit = λ u. refl;
  charge_of = λ u o. refl;
  charged = λ u. refl;
  queues_alive = refl;
  queue = λ o. refl;
  registered = λ o. refl;
  semaphore = λ o. refl;
  given_value = λ o. refl;
  posts = λ o. refl;
  passes = λ o. refl;
  value = λ o. refl;
  parked = λ s. refl;
  time = refl;
  deadline_at = λ i. refl;
  due = refused_due c h e rule;
  verdict = same_verdict c h e rule;
}
