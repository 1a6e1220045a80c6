-- The calls that may wait, with a deadline or without: what they meet, and that the tables agree after them.
use Rattle.std.proofs.Common.{◌≡◌, ℕ, true, length, Some, None, refl, ap, subst}
use Rattle.ipc_terms.specs.History.{Message}
use Rattle.ipc_terms.specs.Timed.{plain_call}
use Rattle.ipc_terms.specs.declared.ids.Sid.{Sid}
use Rattle.ipc_terms.specs.declared.ids.Desc.{Desc}
use Rattle.ipc_terms.specs.declared.ids.Family.TheVariants.{Mq, Sem}
use Rattle.ipc_terms.specs.declared.call.Call.{Call}
use Rattle.ipc_terms.specs.declared.call.Call.TheVariants.{MqSend, MqReceive, SemWait, MqTimedSend, MqTimedReceive, SemTimedWait}
use Rattle.ipc_terms.specs.declared.record.Event.TheVariants.{Do, Tick}
use Rattle.ipc_policy.specs.declared.config.Config.{Config}
use Rattle.ipc_policy.specs.Decides.History.{History, after_accepted}
use Rattle.ipc_policy.specs.Decides.Bodies.{due}
use Rattle.ipc_policy.specs.Decides.Verdict.{verdict}
use Rattle.ipc_policy.proofs.Histories.Unforbidden.{call_free}
use Rattle.ipc_tables.specs.TablesView.{TablesView}
use Rattle.ipc_tables.specs.Steps.{after_send, after_receive, after_wait, after_withdrawal}
use Rattle.ipc_state.specs.Agrees.{Agrees, IsCore}
use Rattle.ipc_state.specs.Meetings.{by_description, object_by}
use Rattle.ipc_state.specs.Waiting.{sent_message, is_receive, is_wait}
use Rattle.ipc_state.proofs.Serving.{IsHereQueue, IsHereSemaphore, call_here, semaphore_here}
use Rattle.ipc_state.proofs.Accepted.{due_within}
use Rattle.ipc_state.proofs.Accepting.{agrees_sent, agrees_received, agrees_waited, agrees_plainly}
use Rattle.ipc_state.proofs.Withdrawals.{agrees_timed_out}

-- an accepted send to this object
pub record IsSending (c : Config) (h : History) (t : TablesView) (sid : Sid) (call : Call) (m : Message) (o : ℕ) : Type 0 where
  pub desc : Desc
  pub form : MqSend desc m.priority m.bytes ≡ plain_call call
  pub here : IsHereQueue c h t sid.0 desc.0 o

pub sending : (c : Config) (h : History) (t : TablesView) (sid : Sid) (call : Call) (m : Message) (o : ℕ) → Agrees c h t → sent_message (plain_call call) ≡ Some m → verdict c h (Do sid call) ≡ None → by_description (object_by h) (Do sid call) ≡ Some o → IsSending c h t sid call m o
sending c h t sid (MqSend desc p bytes) m o a is accepted held =
    let same : m ≡ record { priority = p; bytes = bytes } = cc in
    record { desc = desc; form = ap (λ (n : Message). MqSend desc n.priority n.bytes) same; here = call_here c h t sid.0 desc.0 o a (call_free c h sid (MqSend desc p bytes) Mq desc refl refl accepted) held }
sending c h t sid (MqTimedSend desc p until bytes) m o a is accepted held =
    let same : m ≡ record { priority = p; bytes = bytes } = cc in
    record { desc = desc; form = ap (λ (n : Message). MqSend desc n.priority n.bytes) same; here = call_here c h t sid.0 desc.0 o a (call_free c h sid (MqTimedSend desc p until bytes) Mq desc refl refl accepted) held }
sending c h t sid call m o a is accepted held = absurd cc

pub agrees_sends : (c : Config) (h : History) (t : TablesView) (sid : Sid) (call : Call) (m : Message) (o : ℕ) → IsCore c h t → IsSending c h t sid call m o → Agrees c (after_accepted h (Do sid call)) (after_send t o (record { place = length h; priority = m.priority; bytes = m.bytes }) sid)
agrees_sends c h t sid call m o k s =
    agrees_plainly c h _ (Do sid call) (subst (λ (x : Call). Agrees c (after_accepted h (Do sid x)) (after_send t o (record { place = length h; priority = m.priority; bytes = m.bytes }) sid)) s.form (agrees_sent c h t sid s.desc m.priority m.bytes o k s.here))

-- an accepted receive from this object
pub record IsReceiving (c : Config) (h : History) (t : TablesView) (sid : Sid) (call : Call) (o : ℕ) : Type 0 where
  pub desc : Desc
  pub room : ℕ
  pub form : MqReceive desc room ≡ plain_call call
  pub here : IsHereQueue c h t sid.0 desc.0 o

pub receiving : (c : Config) (h : History) (t : TablesView) (sid : Sid) (call : Call) (o : ℕ) → Agrees c h t → is_receive (plain_call call) ≡ true → verdict c h (Do sid call) ≡ None → by_description (object_by h) (Do sid call) ≡ Some o → IsReceiving c h t sid call o
receiving c h t sid (MqReceive desc room) o a is accepted held =
    record { desc = desc; room = room; form = refl; here = call_here c h t sid.0 desc.0 o a (call_free c h sid (MqReceive desc room) Mq desc refl refl accepted) held }
receiving c h t sid (MqTimedReceive desc room until) o a is accepted held =
    record { desc = desc; room = room; form = refl; here = call_here c h t sid.0 desc.0 o a (call_free c h sid (MqTimedReceive desc room until) Mq desc refl refl accepted) held }
receiving c h t sid call o a is accepted held = absurd cc

pub agrees_receives : (c : Config) (h : History) (t : TablesView) (sid : Sid) (call : Call) (o : ℕ) → IsCore c h t → IsReceiving c h t sid call o → Agrees c (after_accepted h (Do sid call)) (after_receive t o sid)
agrees_receives c h t sid call o k s =
    agrees_plainly c h _ (Do sid call) (subst (λ (x : Call). Agrees c (after_accepted h (Do sid x)) (after_receive t o sid)) s.form (agrees_received c h t sid s.desc s.room o k s.here))

-- an accepted wait for this object
pub record IsWaiting (c : Config) (h : History) (t : TablesView) (sid : Sid) (call : Call) (o : ℕ) : Type 0 where
  pub desc : Desc
  pub form : SemWait desc ≡ plain_call call
  pub here : IsHereSemaphore c h t sid.0 desc.0 o

pub waiting : (c : Config) (h : History) (t : TablesView) (sid : Sid) (call : Call) (o : ℕ) → Agrees c h t → is_wait (plain_call call) ≡ true → verdict c h (Do sid call) ≡ None → by_description (object_by h) (Do sid call) ≡ Some o → IsWaiting c h t sid call o
waiting c h t sid (SemWait desc) o a is accepted held =
    record { desc = desc; form = refl; here = semaphore_here c h t sid.0 desc.0 o a (call_free c h sid (SemWait desc) Sem desc refl refl accepted) held }
waiting c h t sid (SemTimedWait desc until) o a is accepted held =
    record { desc = desc; form = refl; here = semaphore_here c h t sid.0 desc.0 o a (call_free c h sid (SemTimedWait desc until) Sem desc refl refl accepted) held }
waiting c h t sid call o a is accepted held = absurd cc

pub agrees_waits : (c : Config) (h : History) (t : TablesView) (sid : Sid) (call : Call) (o : ℕ) → IsCore c h t → IsWaiting c h t sid call o → Agrees c (after_accepted h (Do sid call)) (after_wait t o sid)
agrees_waits c h t sid call o k s =
    agrees_plainly c h _ (Do sid call) (subst (λ (x : Call). Agrees c (after_accepted h (Do sid x)) (after_wait t o sid)) s.form (agrees_waited c h t sid s.desc o k s.here))

-- whom a tick finds
pub tick_agrees : (c : Config) (h : History) (t : TablesView) (moment : ℕ) (sid : Sid) → IsCore c h t → due c h moment ≡ Some sid.0 → Agrees c (after_accepted h (Tick moment)) (after_withdrawal t sid)
tick_agrees c h t moment sid k is = agrees_timed_out c h t moment sid is k (due_within c h t moment sid k is)
