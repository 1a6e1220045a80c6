-- The calls that may wait, without their deadlines.
use Rattle.std.specs.Prelude.{Bool, true, false, Option, Some, None}
use Rattle.ipc_terms.specs.History.{Message}
use Rattle.ipc_terms.specs.declared.call.Call.{Call}
use Rattle.ipc_terms.specs.declared.call.Call.TheVariants.{MqSend, MqReceive, SemWait}

-- what a send brings
abbrev pub sent_message : Call → Option Message
sent_message (MqSend desc priority bytes) = Some (record { priority = priority; bytes = bytes })
sent_message _ = None

abbrev pub is_receive : Call → Bool
is_receive (MqReceive desc length') = true
is_receive _ = false

abbrev pub is_wait : Call → Bool
is_wait (SemWait desc) = true
is_wait _ = false
