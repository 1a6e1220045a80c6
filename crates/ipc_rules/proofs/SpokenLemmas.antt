-- No other rule speaks of a call.
use Rattle.std.proofs.Common.{◌≡◌, ◌⊎◌, ap, inl, inr, refl, sym, ℕ, Bool, List}
use Rattle.ipc_terms.specs.declared.ids.Sid.{Sid}
use Rattle.ipc_terms.specs.declared.ids.Desc.{Desc}
use Rattle.ipc_terms.specs.declared.ids.Mode.{Mode}
use Rattle.ipc_terms.specs.declared.record.Event.{Event}
use Rattle.ipc_terms.specs.declared.rule.Rule.{Rule}
use Rattle.ipc_terms.specs.declared.record.Event.TheVariants.{Do}
use Rattle.ipc_terms.specs.declared.call.Call.{Call}
use Rattle.ipc_terms.specs.declared.call.Call.TheVariants.{Umask, MqOpen, MqClose, MqSend, MqReceive, MqGetattr, MqSetattr, MqNotify, MqGive, MqUnlink, SemOpen, SemClose, SemUnlink, SemPost, SemWait, SemTryWait, SemGetvalue, ListNames, StatName, Chmod, Chown, SetLimit, Audit, Interrupt, MqTimedSend, MqTimedReceive, SemTimedWait}
use Rattle.ipc_policy.specs.Decides.History.{History}
use Rattle.ipc_policy.specs.declared.config.Config.{Config}
use Rattle.ipc_policy.specs.Decides.Rules.{forbids, no_session, in_call, not_in_call, name_form, name_long, not_admin, no_user, bad_descr, not_for_write, not_for_read, dir_search, dir_read, absent, present, mode_denied, dir_write, sticky, not_owner, chown_denied, attr_range, value_range, queue_count, byte_limit, descr_limit, prio_range, message_long, buffer_short, notify_taken, would_block, overflow, bad_key, timed_out, no_taker}
use Rattle.ipc_policy.specs.Decides.Verdict.{verdict}
use Rattle.ipc_rules.specs.Spoken.{first_of, of_messages, of_values, of_descriptions, spoken}

-- the verdict on a session's call is the first of the rules that speak of it
pub spoken_is : (c : Config) (h : History) (sid : Sid) (call : Call) → verdict c h (Do sid call) ≡ first_of (spoken call) c h (Do sid call)
unfolding verdict forbids no_session in_call not_in_call name_form name_long not_admin no_user bad_descr not_for_write not_for_read dir_search dir_read absent present mode_denied dir_write sticky not_owner chown_denied attr_range value_range queue_count byte_limit descr_limit prio_range message_long buffer_short notify_taken would_block overflow bad_key timed_out no_taker
spoken_is c h sid (Umask mask) = refl
spoken_is c h sid (MqOpen asked) = refl
spoken_is c h sid (MqClose desc) = refl
spoken_is c h sid (MqSend desc priority bytes) = refl
spoken_is c h sid (MqReceive desc size) = refl
spoken_is c h sid (MqGetattr desc) = refl
spoken_is c h sid (MqSetattr desc nonblock) = refl
spoken_is c h sid (MqNotify desc on) = refl
spoken_is c h sid (MqGive desc taker) = refl
spoken_is c h sid (MqUnlink name) = refl
spoken_is c h sid (SemOpen asked) = refl
spoken_is c h sid (SemClose desc) = refl
spoken_is c h sid (SemUnlink name) = refl
spoken_is c h sid (SemPost desc) = refl
spoken_is c h sid (SemWait desc) = refl
spoken_is c h sid (SemTryWait desc) = refl
spoken_is c h sid (SemGetvalue desc) = refl
spoken_is c h sid (ListNames family start count) = refl
spoken_is c h sid (StatName target) = refl
spoken_is c h sid (Chmod mode target) = refl
spoken_is c h sid (Chown owner group target) = refl
spoken_is c h sid (SetLimit uid bytes) = refl
spoken_is c h sid (Audit start count) = refl
spoken_is c h sid Interrupt = refl
spoken_is c h sid (MqTimedSend desc priority deadline bytes) = refl
spoken_is c h sid (MqTimedReceive desc size deadline) = refl
spoken_is c h sid (SemTimedWait desc deadline) = refl

-- the same of an event that is the call
pub first_is : (c : Config) (h : History) (sid : Sid) (call : Call) (e : Event) (rules : List Rule) → e ≡ Do sid call → spoken call ≡ rules → first_of rules c h e ≡ verdict c h e
first_is c h sid call e rules is speak = rw (is, sym speak) (sym (spoken_is c h sid call))

-- those rules speak of a send or a receive
pub speak_of_messages : (call : Call) → ((desc : Desc) × (priority : ℕ) × (bytes : List ℕ) × (call ≡ MqSend desc priority bytes)) ⊎ ((desc : Desc) × (size : ℕ) × (call ≡ MqReceive desc size)) ⊎ ((desc : Desc) × (priority : ℕ) × (deadline : ℕ) × (bytes : List ℕ) × (call ≡ MqTimedSend desc priority deadline bytes)) ⊎ ((desc : Desc) × (size : ℕ) × (deadline : ℕ) × (call ≡ MqTimedReceive desc size deadline)) → spoken call ≡ of_messages
speak_of_messages call (inl x) = ap spoken x.3
speak_of_messages call (inr (inl x)) = ap spoken x.2
speak_of_messages call (inr (inr (inl x))) = ap spoken x.4
speak_of_messages call (inr (inr (inr x))) = ap spoken x.3

-- those of a post or a wait
pub speak_of_values : (call : Call) → ((desc : Desc) × (call ≡ SemPost desc)) ⊎ ((desc : Desc) × (call ≡ SemWait desc)) ⊎ ((desc : Desc) × (call ≡ SemTryWait desc)) ⊎ ((desc : Desc) × (deadline : ℕ) × (call ≡ SemTimedWait desc deadline)) → spoken call ≡ of_values
speak_of_values call (inl x) = ap spoken x.1
speak_of_values call (inr (inl x)) = ap spoken x.1
speak_of_values call (inr (inr (inl x))) = ap spoken x.1
speak_of_values call (inr (inr (inr x))) = ap spoken x.2

-- those of a call of a description alone, or of its session
pub speak_of_descriptions : (call : Call) → ((mask : Mode) × (call ≡ Umask mask)) ⊎ ((desc : Desc) × (call ≡ MqClose desc)) ⊎ ((desc : Desc) × (call ≡ MqGetattr desc)) ⊎ ((desc : Desc) × (nonblock : Bool) × (call ≡ MqSetattr desc nonblock)) ⊎ ((desc : Desc) × (call ≡ SemClose desc)) ⊎ ((desc : Desc) × (call ≡ SemGetvalue desc)) → spoken call ≡ of_descriptions
speak_of_descriptions call (inl x) = ap spoken x.1
speak_of_descriptions call (inr (inl x)) = ap spoken x.1
speak_of_descriptions call (inr (inr (inl x))) = ap spoken x.1
speak_of_descriptions call (inr (inr (inr (inl x)))) = ap spoken x.2
speak_of_descriptions call (inr (inr (inr (inr (inl x))))) = ap spoken x.1
speak_of_descriptions call (inr (inr (inr (inr (inr x))))) = ap spoken x.1
