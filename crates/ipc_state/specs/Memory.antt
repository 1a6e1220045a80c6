-- Which calls may take memory for the tables.
use Rattle.std.specs.Prelude.{Bool, true, false}
use Rattle.ipc_terms.specs.declared.call.Call.{Call}
use Rattle.ipc_terms.specs.declared.call.Call.TheVariants.{MqOpen, SemOpen, MqSend, MqReceive, MqGive, SemWait, MqTimedSend, MqTimedReceive, SemTimedWait}

-- an open makes rows; a send keeps a message; a receive and a wait may park, with a deadline or without; a give moves a row
abbrev pub takes_memory : Call → Bool
takes_memory (MqOpen asked) = true
takes_memory (SemOpen asked) = true
takes_memory (MqSend desc priority bytes) = true
takes_memory (MqReceive desc length') = true
takes_memory (MqGive desc taker) = true
takes_memory (SemWait desc) = true
takes_memory (MqTimedSend desc priority deadline bytes) = true
takes_memory (MqTimedReceive desc length' deadline) = true
takes_memory (SemTimedWait desc deadline) = true
takes_memory _ = false
