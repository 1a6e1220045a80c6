-- What an accepted event does to limits, to what queues take of their creators, and to how many are alive.
use Rattle.std.proofs.Common.{◌≡◌, ℕ, zero, suc, ◌+◌, ◌<◌, Bool, true, false, eqb, cond, ◌∷◌, Option, Some, None, refl, ap, ◌∙◌, arith}
use Rattle.std.specs.Prelude.{unwrap_or}
use Rattle.std.specs.Option.{option_or, option_map}
use Rattle.ipc_terms.specs.declared.ids.Uid.{Uid}
use Rattle.ipc_terms.specs.declared.call.Call.TheVariants.{SetLimit}
use Rattle.ipc_terms.specs.declared.record.Event.{Event}
use Rattle.ipc_terms.specs.declared.record.Event.TheVariants.{Hello, Do, Hangup, Tick}
use Rattle.ipc_access.specs.declared.class.Cred.{Cred}
use Rattle.ipc_access.specs.Users.{cred_of}
use Rattle.ipc_policy.specs.declared.config.Config.{Config}
use Rattle.ipc_policy.specs.Decides.History.{History, newest, how_many_below, sum_below}
use Rattle.ipc_policy.specs.Decides.Names.{is_bound, creations}
use Rattle.ipc_policy.specs.Decides.Objects.{makes, object}
use Rattle.ipc_policy.specs.Decides.Life.{alive}
use Rattle.ipc_policy.specs.Decides.Charges.{is_queue_alive, charge, charge_of, charged, queues_alive, sets_limit, limit}
use Rattle.ipc_policy.specs.Follows.Grow.{creations_after, alive_then, object_then, limit_after}
use Rattle.ipc_policy.proofs.Holdings.Holding.{how_many_below_same}
use Rattle.ipc_policy.proofs.Histories.Growing.{creations_grow, made_grows}
use Rattle.ipc_policy.proofs.Directories.Living.{alive_grows}

limit_at : (found : Option Cred) (b : Bool) (bytes : ℕ) (w : Option ℕ) → option_map (λ who. unwrap_or (option_or (cond b (Some bytes) None) w) who.limit) found ≡ cond b (option_map (λ old. bytes) (option_map (λ who. unwrap_or w who.limit) found)) (option_map (λ who. unwrap_or w who.limit) found)
limit_at None true bytes w = refl
limit_at None false bytes w = refl
limit_at (Some who) true bytes w = refl
limit_at (Some who) false bytes w = refl

pub limit_grows : (c : Config) (h : History) (e : Event) (u : Uid) → limit c (record { event = e; rule = None } ∷ h) u ≡ limit_after u e (limit c h u)
unfolding limit
limit_grows c h (Hello found) u = refl
limit_grows c h (Do sid (SetLimit uid bytes)) u = limit_at (cred_of c.users u) (eqb uid.0 u.0) bytes (newest (sets_limit u) h)
limit_grows c h (Do sid call) u = refl
limit_grows c h (Hangup sid) u = refl
limit_grows c h (Tick moment) u = refl

-- sums of what is the same below the limit
pub sum_below_same : (f g : ℕ → ℕ) (n : ℕ) → ((i : ℕ) → i < n → f i ≡ g i) → sum_below f n ≡ sum_below g n
sum_below_same f g zero same = refl
sum_below_same f g (suc n) same = ap (λ m. m + f n) (sum_below_same f g n (λ i lt. same i (omega arith))) ∙ ap (λ m. sum_below g n + m) (same n (omega arith))

object_grows : (c : Config) (h : History) (e : Event) (o : ℕ) → object c (record { event = e; rule = None } ∷ h) o ≡ object_then c e h o
unfolding object
object_grows c h e o = made_grows h e o _ (newest (makes c o) h)

pub charge_grows : (c : Config) (h : History) (e : Event) (u : Uid) (o : ℕ) → charge_of c (record { event = e; rule = None } ∷ h) u o ≡ charge u (alive_then e h o) (object_then c e h o)
unfolding charge_of
charge_grows c h e u o =
    ap (λ b. charge u b (object c (record { event = e; rule = None } ∷ h) o)) (alive_grows h e o)
    ∙ ap (charge u (alive_then e h o)) (object_grows c h e o)

pub charged_grows : (c : Config) (h : History) (e : Event) (u : Uid) → charged c (record { event = e; rule = None } ∷ h) u ≡ sum_below (λ o. charge u (alive_then e h o) (object_then c e h o)) (creations_after e (is_bound h) (creations h))
unfolding charged
charged_grows c h e u =
    ap (sum_below (charge_of c (record { event = e; rule = None } ∷ h) u)) (creations_grow h e)
    ∙ sum_below_same _ _ (creations_after e (is_bound h) (creations h)) (λ o lt. charge_grows c h e u o)

pub queues_grow : (c : Config) (h : History) (e : Event) → queues_alive c (record { event = e; rule = None } ∷ h) ≡ how_many_below (λ o. is_queue_alive (alive_then e h o) (object_then c e h o)) (creations_after e (is_bound h) (creations h))
unfolding queues_alive
queues_grow c h e =
    ap (how_many_below (λ o. is_queue_alive (alive (record { event = e; rule = None } ∷ h) o) (object c (record { event = e; rule = None } ∷ h) o))) (creations_grow h e)
    ∙ how_many_below_same _ _ (creations_after e (is_bound h) (creations h)) (λ o lt.
    ap (λ b. is_queue_alive b (object c (record { event = e; rule = None } ∷ h) o)) (alive_grows h e o)
    ∙ ap (is_queue_alive (alive_then e h o)) (object_grows c h e o))
