-- What a send is answered, by who is served and who is registered.
use Rattle.std.proofs.Common.{◌≡◌, ℕ, Bool, true, false, ◌&&◌, cond, List, [], ◌∷◌, ◌++◌, Option, Some, None, is_some, refl, sym, ap, ◌∙◌}
use Rattle.std.specs.Prelude.{option_and_then, IsSome}
use Rattle.std.specs.Option.{option_map}
use Rattle.ipc_terms.specs.Lists.{first}
use Rattle.ipc_terms.specs.Objects.{as_queue}
use Rattle.ipc_terms.specs.declared.ids.Sid.{Sid}
use Rattle.ipc_terms.specs.declared.call.Answer.{Answer}
use Rattle.ipc_terms.specs.declared.call.Answer.TheVariants.{Sent, Received}
use Rattle.ipc_terms.specs.declared.call.Attributes.{Attributes}
use Rattle.ipc_policy.specs.declared.config.Config.{Config}
use Rattle.ipc_policy.specs.declared.config.Held.{Held}
use Rattle.ipc_policy.specs.declared.config.Registration.{Registration}
use Rattle.ipc_policy.specs.Decides.History.{History, is_some_and}
use Rattle.ipc_policy.specs.Decides.Objects.{object}
use Rattle.ipc_policy.specs.Decides.Descriptions.{holds}
use Rattle.ipc_policy.specs.Decides.Queues.{Waiter, Queue, has_none, attributes}
use Rattle.ipc_policy.specs.Decides.Bodies.{queue, is_full, is_empty}
use Rattle.ipc_policy.specs.Decides.Registrations.{is_idle, registered}
use Rattle.ipc_policy.specs.Decides.Rules.{attributes_held}
use Rattle.ipc_policy.specs.Decides.Verdict.{answers_of, receiver_answers, noticed, send_answers}
use Rattle.ipc_state.specs.StateView.{queue_by}

-- a receive that is served gets the message, and no notice is sent
served_list : (priority : ℕ) (bytes : List ℕ) (q : Queue) (g : Option Registration) (r : Sid) → option_map (λ (w : Waiter). record { 0 = w.session }) (first q.receivers) ≡ Some r → receiver_answers priority bytes (first q.receivers) ++ cond (is_idle q) (noticed g) [] ≡ (r, Received priority bytes) ∷ []
served_list priority bytes q g r e = at q.receivers e (has_none q.contents) where
  at : (rs : List Waiter) → option_map (λ (w : Waiter). record { 0 = w.session }) (first rs) ≡ Some r → (b : Bool) → receiver_answers priority bytes (first rs) ++ cond (b && has_none rs) (noticed g) [] ≡ (r, Received priority bytes) ∷ []
  at [] k b = absurd cc
  at (w ∷ ws) k true = let same : record { 0 = w.session } ≡ r = cc in rw same refl
  at (w ∷ ws) k false = let same : record { 0 = w.session } ≡ r = cc in rw same refl

-- else there is a notice, where the queue is empty
noticed_list : (priority : ℕ) (bytes : List ℕ) (q : Queue) (g : Option Registration) → ◌≡◌ {A = Option Sid} (option_map (λ (w : Waiter). record { 0 = w.session }) (first q.receivers)) None → receiver_answers priority bytes (first q.receivers) ++ cond (is_idle q) (noticed g) [] ≡ noticed (cond (has_none q.contents) g None)
noticed_list priority bytes q g e = at q.receivers e (has_none q.contents) where
  at : (rs : List Waiter) → ◌≡◌ {A = Option Sid} (option_map (λ (w : Waiter). record { 0 = w.session }) (first rs)) None → (b : Bool) → receiver_answers priority bytes (first rs) ++ cond (b && has_none rs) (noticed g) [] ≡ noticed (cond b g None)
  at [] k true = refl
  at [] k false = refl
  at (w ∷ ws) k b = absurd cc

-- what a send is told, by the queue that is held
pub full_told : (c : Config) (h : History) (sid : Sid) (d priority : ℕ) (bytes : List ℕ) → is_some_and (λ x. is_full c h x.object) (holds h sid.0 d) ≡ true → answers_of (holds h sid.0 d) (send_answers c h sid priority bytes) ≡ []
full_told c h sid d priority bytes full = at (holds h sid.0 d) full where
  at : (w : Option Held) → is_some_and (λ x. is_full c h x.object) w ≡ true → answers_of w (send_answers c h sid priority bytes) ≡ []
  at None e = absurd cc
  at (Some x) e = rw e refl

-- the queue that is held, by its attributes
by_queue : (c : Config) (h : History) (o : ℕ) (f : Queue → Option Sid) (v : Option Attributes) (r : Option Sid) → is_some v ≡ true → option_and_then f (option_map (λ y. queue c h o) v) ≡ r → f (queue c h o) ≡ r
by_queue c h o f None r some e = absurd cc
by_queue c h o f (Some y) r some e = e

pub served_told : (c : Config) (h : History) (sid : Sid) (d priority : ℕ) (bytes : List ℕ) (r : Sid) → IsSome (attributes_held c h sid.0 d) → is_some_and (λ x. is_full c h x.object) (holds h sid.0 d) ≡ false → option_and_then (λ q. option_map (λ w. record { 0 = w.session }) (first q.receivers)) (queue_by c h sid.0 d) ≡ Some r → (sid, Sent) ∷ (r, Received priority bytes) ∷ [] ≡ answers_of (holds h sid.0 d) (send_answers c h sid priority bytes)
served_told c h sid d priority bytes r some full e = at (holds h sid.0 d) some full e where
  at : (w : Option Held) → IsSome (as_queue (option_and_then (λ x. object c h x.object) w)) → is_some_and (λ x. is_full c h x.object) w ≡ false → option_and_then (λ q. option_map (λ (v : Waiter). record { 0 = v.session }) (first q.receivers)) (option_and_then (λ x. option_map (λ y. queue c h x.object) (attributes c h x.object)) w) ≡ Some r → (sid, Sent) ∷ (r, Received priority bytes) ∷ [] ≡ answers_of w (send_answers c h sid priority bytes)
  at None s f k = absurd cc
  at (Some x) s f k = rw f (ap (λ l. (sid, Sent) ∷ l) (sym (served_list priority bytes (queue c h x.object) (registered c h x.object) r (by_queue c h x.object (λ q. option_map (λ (v : Waiter). record { 0 = v.session }) (first q.receivers)) (attributes c h x.object) (Some r) s k))))

pub noticed_told : (c : Config) (h : History) (sid : Sid) (d priority : ℕ) (bytes : List ℕ) (told : List (Sid × Answer)) → IsSome (attributes_held c h sid.0 d) → is_some_and (λ x. is_full c h x.object) (holds h sid.0 d) ≡ false → ◌≡◌ {A = Option Sid} (option_and_then (λ q. option_map (λ w. record { 0 = w.session }) (first q.receivers)) (queue_by c h sid.0 d)) None → told ≡ noticed (cond (is_some_and (λ x. is_empty c h x.object) (holds h sid.0 d)) (option_and_then (λ x. registered c h x.object) (holds h sid.0 d)) None) → (sid, Sent) ∷ told ≡ answers_of (holds h sid.0 d) (send_answers c h sid priority bytes)
noticed_told c h sid d priority bytes told some full e is = at (holds h sid.0 d) some full e is where
  empty_of : (x : Held) (v : Option Attributes) → is_some v ≡ true → is_some_and (λ y. has_none (queue c h x.object).contents) v ≡ has_none (queue c h x.object).contents
  empty_of x None s = absurd cc
  empty_of x (Some y) s = refl

  at : (w : Option Held) → IsSome (as_queue (option_and_then (λ x. object c h x.object) w)) → is_some_and (λ x. is_full c h x.object) w ≡ false → ◌≡◌ {A = Option Sid} (option_and_then (λ q. option_map (λ (v : Waiter). record { 0 = v.session }) (first q.receivers)) (option_and_then (λ x. option_map (λ y. queue c h x.object) (attributes c h x.object)) w)) None → told ≡ noticed (cond (is_some_and (λ x. is_empty c h x.object) w) (option_and_then (λ x. registered c h x.object) w) None) → (sid, Sent) ∷ told ≡ answers_of w (send_answers c h sid priority bytes)
  at None s f k i = absurd cc
  at (Some x) s f k i = rw f (ap (λ l. (sid, Sent) ∷ l) (i ∙ ap (λ b. noticed (cond b (registered c h x.object) None)) (empty_of x (attributes c h x.object) s) ∙ sym (noticed_list priority bytes (queue c h x.object) (registered c h x.object) (by_queue c h x.object (λ q. option_map (λ (v : Waiter). record { 0 = v.session }) (first q.receivers)) (attributes c h x.object) None s k))))
