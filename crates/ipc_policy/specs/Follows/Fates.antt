-- What became of each send that was accepted.
use Rattle.std.specs.Prelude.{◌≡◌, Bool, true, false, ℕ, ◌+◌, ◌≤◌, ◌&&◌, ◌==◌, not, nat_lt, List, ◌∷◌, Some, is_some, if◌then◌else◌}
use Rattle.std.specs.List.{list_any}
use Rattle.ipc_terms.specs.declared.call.Call.TheVariants.{MqReceive}
use Rattle.ipc_terms.specs.declared.record.Event.TheVariants.{Do}
use Rattle.ipc_policy.specs.declared.config.Config.{Config}
use Rattle.ipc_policy.specs.Decides.History.{History, how_many, before_at}
use Rattle.ipc_policy.specs.Decides.Descriptions.{holds}
use Rattle.ipc_policy.specs.Decides.Life.{alive, gives_object}
use Rattle.ipc_policy.specs.Decides.Queues.{Send, Waiter, Act, Withdraws, Queue}
use Rattle.ipc_policy.specs.Decides.Bodies.{act, queue, contents, senders}
use Rattle.ipc_policy.specs.Decides.Verdict.{Legal}
use Rattle.ipc_policy.specs.Follows.Deliveries.{receive_that_took, deliveries}
use Rattle.ipc_policy.specs.Follows.Confined.{IsMade, IsSend}

-- the send of place i is in the list
abbrev pub has_send : ℕ → List Send → Bool
has_send i messages = list_any (λ m. m.place == i) messages

-- an interrupt or a hang-up withdraws the sends of its session that are parked on the queue, and a tick those of the
-- session that is due
abbrev pub withdraws_send : ℕ → Act → Queue → Bool
withdraws_send i (Withdraws s) q = list_any (λ m. (m.place == i) && (m.session == s)) q.senders
withdraws_send i _ q = false

-- an accepted event withdrew the send of place i to queue o
abbrev pub is_withdrawn : Config → History → ℕ → ℕ → Bool
is_withdrawn c h o i = nat_lt 0 (how_many (λ e before. withdraws_send i (act c o e before) (queue c before o)) h)

-- what may have become of a send
pub data Fate : Type 0 where
  StaysParked : Fate
  IsWithdrawn : Fate
  StaysInQueue : Fate
  IsTaken : Fate
  IsLeft : Fate

-- this became of the send of place i to queue o: it is parked; an event withdrew it; it stands in the queue, which is alive;
-- a receive took it; or it stands in the queue, which is no longer alive
abbrev pub became : Fate → Config → History → ℕ → ℕ → Bool
became StaysParked c h o i = has_send i (senders c h o)
became IsWithdrawn c h o i = is_withdrawn c h o i
became StaysInQueue c h o i = has_send i (contents c h o) && alive h o
became IsTaken c h o i = is_some (receive_that_took c h i)
became IsLeft c h o i = has_send i (contents c h o) && not (alive h o)

-- a receive was made of object o, and accepted
pub record IsReceiveOf (h : History) (o : ℕ) (w : Waiter) : Type 0 where
  pub length' : ℕ
  pub made : IsMade h w.place (Do (record { 0 = w.session }) (MqReceive (record { 0 = w.desc }) length'))
  pub made_of : gives_object o (holds (before_at w.place h) w.session w.desc) ≡ true

-- its description gave a queue, and exactly one of these became of it; where a receive took it, that was made of the queue
-- and no other took it
pub record HasOneFate (c : Config) (h : History) (m : Send) : Type 0 where
  pub object : ℕ
  pub sent_to : gives_object object (holds (before_at m.place h) m.session m.desc) ≡ true
  pub fate : Fate
  pub has_it : became fate c h object m.place ≡ true
  pub no_other : (other : Fate) → became other c h object m.place ≡ true → other ≡ fate
  pub taker : (w : Waiter) → receive_that_took c h m.place ≡ Some w → IsReceiveOf h object w
  pub one_taker : deliveries c h m.place ≤ 1

-- so of each send that was accepted
abbrev pub EachSendHasOneFate : Type 0
EachSendHasOneFate =
    (c : Config) (h : History) (m : Send) → Legal c h → IsSend h m → HasOneFate c h m
