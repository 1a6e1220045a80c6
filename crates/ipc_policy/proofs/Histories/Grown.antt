-- What one accepted event does to each value.
use Rattle.std.proofs.Common.{refl}
use Rattle.ipc_terms.specs.declared.record.Event.{Event}
use Rattle.ipc_policy.specs.declared.config.Config.{Config}
use Rattle.ipc_policy.specs.Decides.History.{History, after_accepted, newest}
use Rattle.ipc_policy.specs.Decides.Objects.{makes, object}
use Rattle.ipc_policy.specs.Follows.Grow.{Grows}
use Rattle.ipc_policy.proofs.Directories.Facts.{owner_grows, group_grows, mode_grows, facts_grow, directory_grows}
use Rattle.ipc_policy.proofs.Holdings.Holding.{held_grows, count_grows}
use Rattle.ipc_policy.proofs.Histories.Growing.{hello_grows, user_grows, live_grows, mask_grows, is_bound_grows, creations_grow, bound_grows, made_grows, opens_grow, nonblock_grows}
use Rattle.ipc_policy.proofs.Queues.Queueing.{time_grows, queue_grows, registered_grows, semaphore_grows, given_value_grows, value_grows, parked_grows, outbox_grows}
use Rattle.ipc_policy.proofs.Queues.Charging.{limit_grows, charge_grows, charged_grows, queues_grow}
use Rattle.ipc_policy.proofs.Directories.Living.{named_grows, bindings_grow, names_grow, alive_grows}

-- an accepted event changes each value as stated
pub grows : (c : Config) (h : History) (e : Event) → Grows c h (after_accepted h e) e
unfolding object
grows c h e = record {
  hello_count = hello_grows h e;
  user_of = user_grows h e;
  live_or_not = live_grows h e;
  mask_of = mask_grows h e;
  bound_or_not = is_bound_grows h e;
  creation_count = creations_grow h e;
  object_named = bound_grows h e;
  object_of = λ o. made_grows h e o _ (newest (makes c o) h);
  owner_of = owner_grows c h e;
  group_of = group_grows c h e;
  mode_of = mode_grows c h e;
  facts_of = facts_grow c h e;
  directory_of = directory_grows h e;
  open_count = opens_grow h e;
  held_by = held_grows h e;
  count_of = count_grows h e;
  nonblock_of = nonblock_grows h e;
  time = time_grows h e;
  deadline_of = λ i. refl;
  queue_of = queue_grows c h e;
  registered_to = registered_grows c h e;
  semaphore_of = semaphore_grows c h e;
  given_value_of = given_value_grows h e;
  posts_of = λ o. refl;
  passes_of = λ o. refl;
  value_of = value_grows c h e;
  parked_in = parked_grows c h e;
  named_by = named_grows h e;
  bindings_of = bindings_grow h e;
  names_of = names_grow h e;
  alive_or_not = alive_grows h e;
  limit_of = limit_grows c h e;
  charge_at = charge_grows c h e;
  charged_to = charged_grows c h e;
  queue_count = queues_grow c h e;
  outbox_of = outbox_grows c h e;
}
