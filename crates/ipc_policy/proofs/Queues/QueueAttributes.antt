-- What holds of the attributes of each queue in a legal history: what holds of all that an accepted open may make.
use Rattle.std.proofs.Common.{◌≡◌, ℕ, Bool, true, false, ◌&&◌, eqb, [], ◌∷◌, cond, Option, Some, None, refl, sym, ap, subst, ◌∙◌}
use Rattle.std.specs.Option.{option_or, option_map}
use Rattle.ipc_terms.specs.Objects.{as_queue}
use Rattle.ipc_terms.specs.declared.rule.Rule.{Rule}
use Rattle.ipc_terms.specs.declared.ids.Sid.{Sid}
use Rattle.ipc_terms.specs.declared.call.Attributes.{Attributes}
use Rattle.ipc_terms.specs.declared.call.QueueOpen.{QueueOpen}
use Rattle.ipc_terms.specs.declared.call.SemaphoreOpen.{SemaphoreOpen}
use Rattle.ipc_terms.specs.declared.call.Call.TheVariants.{MqOpen, SemOpen}
use Rattle.ipc_terms.specs.declared.object.Object.{Object}
use Rattle.ipc_terms.specs.declared.record.Event.{Event}
use Rattle.ipc_terms.specs.declared.record.Event.TheVariants.{Hello, Do, Hangup, Tick}
use Rattle.ipc_access.specs.declared.class.Cred.{Cred}
use Rattle.ipc_policy.specs.declared.config.Config.{Config}
use Rattle.ipc_policy.specs.Decides.History.{History}
use Rattle.ipc_policy.specs.Decides.Sessions.{cred}
use Rattle.ipc_policy.specs.Decides.Names.{queue_opening, semaphore_opening, is_bound, creations}
use Rattle.ipc_policy.specs.Decides.Objects.{object, made_by, attributes_of}
use Rattle.ipc_policy.specs.Decides.Queues.{attributes}
use Rattle.ipc_policy.specs.Decides.Rules.{out_of_range}
use Rattle.ipc_policy.specs.Follows.Grow.{is_new, object_then}
use Rattle.ipc_policy.specs.Decides.Verdict.{verdict, Legal}
use Rattle.ipc_policy.proofs.Histories.Grown.{grows}
use Rattle.ipc_policy.proofs.Histories.Unforbidden.{open_in_range}

-- it holds of the attributes, where there are any
abbrev pub OfAttributes : (Attributes → Type 0) → Option Attributes → Type 0
OfAttributes P None = Unit {0}
OfAttributes P (Some x) = P x

-- it holds of what an open makes that is in range
abbrev pub OfMade : Config → (Attributes → Type 0) → Type 0
OfMade c P = (who : Cred) (given : Option Attributes) → out_of_range c (Some who) given ≡ false → P (attributes_of c given)

new_queue : (c : Config) (P : Attributes → Type 0) (sid : Sid) (asked : QueueOpen) (who : Option Cred) (was : Option Object) → OfMade c P → out_of_range c who asked.attributes ≡ false → OfAttributes P (as_queue was) → OfAttributes P (as_queue (option_or (option_map (made_by c (queue_opening sid asked)) who) was))
new_queue c P sid asked None was all fits known = known
new_queue c P sid asked (Some who) was all fits known = all who asked.attributes fits

no_queue : (c : Config) (P : Attributes → Type 0) (sid : Sid) (asked : SemaphoreOpen) (who : Option Cred) (was : Option Object) → OfAttributes P (as_queue was) → OfAttributes P (as_queue (option_or (option_map (made_by c (semaphore_opening sid asked)) who) was))
no_queue c P sid asked None was known = known
no_queue c P sid asked (Some who) was known = tt

-- attributes out of range are refused
opens_in_range : (c : Config) (h : History) (sid : Sid) (asked : QueueOpen) → None ≡ verdict c h (Do sid (MqOpen asked)) → is_new (queue_opening sid asked) (is_bound h) ≡ true → out_of_range c (cred c h sid.0) asked.attributes ≡ false
opens_in_range c h sid asked legal new = ap (λ b. b && out_of_range c (cred c h sid.0) asked.attributes) (sym new) ∙ open_in_range c h sid asked (sym legal)

made_more : (c : Config) (P : Attributes → Type 0) (h : History) (o : ℕ) → OfMade c P → OfAttributes P (attributes c h o) → (e : Event) → None ≡ verdict c h e → OfAttributes P (as_queue (object_then c e h o))
made_more c P h o all known (Do sid (MqOpen asked)) legal = at (is_new (queue_opening sid asked) (is_bound h)) refl (eqb (creations h) o) where
  at : (b : Bool) → is_new (queue_opening sid asked) (is_bound h) ≡ b → (d : Bool) → OfAttributes P (as_queue (cond (b && d) (option_or (option_map (made_by c (queue_opening sid asked)) (cred c h sid.0)) (object c h o)) (object c h o)))
  at true e true = new_queue c P sid asked (cred c h sid.0) (object c h o) all (opens_in_range c h sid asked legal e) known
  at true e false = known
  at false e d = known
made_more c P h o all known (Do sid (SemOpen asked)) legal = at (is_new (semaphore_opening sid asked) (is_bound h) && eqb (creations h) o) where
  at : (b : Bool) → OfAttributes P (as_queue (cond b (option_or (option_map (made_by c (semaphore_opening sid asked)) (cred c h sid.0)) (object c h o)) (object c h o)))
  at true = no_queue c P sid asked (cred c h sid.0) (object c h o) known
  at false = known
made_more c P h o all known (Do sid call) legal = known
made_more c P h o all known (Hello found) legal = known
made_more c P h o all known (Hangup sid) legal = known
made_more c P h o all known (Tick moment) legal = known

made_next : (c : Config) (P : Attributes → Type 0) (h : History) (o : ℕ) → OfMade c P → OfAttributes P (attributes c h o) → (e : Event) (r : Option Rule) → r ≡ verdict c h e → OfAttributes P (attributes c (record { event = e; rule = r } ∷ h) o)
unfolding object
made_next c P h o all known e (Some rule) legal = known
made_next c P h o all known e None legal = subst (λ (x : Option Object). OfAttributes P (as_queue x)) (sym now) (made_more c P h o all known e legal) where
  now : object c (record { event = e; rule = None } ∷ h) o ≡ object_then c e h o
  now = (grows c h e).object_of o

pub attributes_hold : (c : Config) (P : Attributes → Type 0) → OfMade c P → (h : History) → Legal c h → (o : ℕ) → OfAttributes P (attributes c h o)
unfolding object
attributes_hold c P all [] legal o = tt
attributes_hold c P all (r ∷ h) legal o = made_next c P h o all (attributes_hold c P all h legal.1 o) r.event r.rule legal.0
