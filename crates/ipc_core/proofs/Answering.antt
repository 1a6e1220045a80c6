-- What an accepted call by a description may assume: that the description is held, and gives a queue or a semaphore.
use Rattle.std.proofs.Common.{rules, ◌≡◌, ℕ, true, false, Option, Some, None}
use Rattle.std.specs.Prelude.{option_and_then, IsSome}
use Rattle.ipc_terms.specs.Names.{same_family}
use Rattle.ipc_terms.specs.Objects.{family_of, of_queue, as_queue, of_semaphore, as_semaphore}
use Rattle.ipc_terms.specs.declared.ids.Family.TheVariants.{Mq, Sem}
use Rattle.ipc_terms.specs.declared.object.Kind.{Kind}
use Rattle.ipc_terms.specs.declared.object.Kind.TheVariants.{Queue as QueueKind, Semaphore as SemaphoreKind}
use Rattle.ipc_terms.specs.declared.object.Object.{Object}
use Rattle.ipc_policy.specs.declared.config.Config.{Config}
use Rattle.ipc_policy.specs.declared.config.Held.{Held}
use Rattle.ipc_policy.specs.Decides.History.{History}
use Rattle.ipc_policy.specs.Decides.Objects.{object}
use Rattle.ipc_policy.specs.Decides.Descriptions.{holds}
use Rattle.ipc_policy.specs.Decides.Rules.{is_of_family, not_held, object_held, attributes_held}
use Rattle.ipc_policy.proofs.Histories.Unforbidden.{off}

a_queue : (w : Option Object) → is_of_family Mq w ≡ true → IsSome (as_queue w)
a_queue None e = absurd cc
a_queue (Some x) e = at x.kind e where
  at : (kind : Kind) → same_family (family_of kind) Mq ≡ true → IsSome (of_queue kind)
  at (QueueKind given) k = search rules
  at (SemaphoreKind value) k = absurd cc

a_semaphore : (w : Option Object) → is_of_family Sem w ≡ true → IsSome (as_semaphore w)
a_semaphore None e = absurd cc
a_semaphore (Some x) e = at x.kind e where
  at : (kind : Kind) → same_family (family_of kind) Sem ≡ true → IsSome (of_semaphore kind)
  at (QueueKind given) k = absurd cc
  at (SemaphoreKind value) k = search rules

pub free_queue : (c : Config) (h : History) (s d : ℕ) → not_held c h s Mq d ≡ false → IsSome (attributes_held c h s d)
free_queue c h s d e = a_queue (object_held c h s d) (off _ e)

pub free_semaphore : (c : Config) (h : History) (s d : ℕ) → not_held c h s Sem d ≡ false → IsSome (as_semaphore (object_held c h s d))
free_semaphore c h s d e = a_semaphore (object_held c h s d) (off _ e)

held_at : (c : Config) (h : History) (w : Option Held) → IsSome (as_semaphore (option_and_then (λ x. object c h x.object) w)) → IsSome w
held_at c h None e = absurd cc
held_at c h (Some x) e = search rules

pub free_held : (c : Config) (h : History) (s d : ℕ) → not_held c h s Sem d ≡ false → IsSome (holds h s d)
free_held c h s d e = held_at c h (holds h s d) (free_semaphore c h s d e)
