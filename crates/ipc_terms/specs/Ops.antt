-- The numbers of calls and answers, as frames carry them and the audit shows them.
use Rattle.std.specs.Prelude.{ℕ, ◌==◌, List, [], ◌∷◌, Option, find}
use Rattle.ipc_terms.specs.declared.call.Call.{Call}
use Rattle.ipc_terms.specs.declared.call.Call.TheVariants as call
use Rattle.ipc_terms.specs.declared.call.Answer.{Answer}
use Rattle.ipc_terms.specs.declared.call.Answer.TheVariants as answer
use Rattle.ipc_terms.specs.declared.op.CallOp.{CallOp}
use Rattle.ipc_terms.specs.declared.op.CallOp.TheVariants as asks
use Rattle.ipc_terms.specs.declared.op.AnswerOp.{AnswerOp}
use Rattle.ipc_terms.specs.declared.op.AnswerOp.TheVariants as says

-- the number of a hello, of a hang-up, and of a tick
abbrev pub hello_number : ℕ
hello_number = 1

abbrev pub hang_up_number : ℕ
hang_up_number = 25

abbrev pub tick_number : ℕ
tick_number = 29

-- the number of each call
abbrev pub call_number : CallOp → ℕ
call_number asks.Umask = 2
call_number asks.MqOpen = 3
call_number asks.MqClose = 4
call_number asks.MqUnlink = 5
call_number asks.MqSend = 6
call_number asks.MqReceive = 7
call_number asks.MqGetattr = 8
call_number asks.MqSetattr = 9
call_number asks.MqNotify = 10
call_number asks.SemOpen = 11
call_number asks.SemClose = 12
call_number asks.SemUnlink = 13
call_number asks.SemPost = 14
call_number asks.SemWait = 15
call_number asks.SemTryWait = 16
call_number asks.SemGetvalue = 17
call_number asks.ListNames = 18
call_number asks.StatName = 19
call_number asks.Chmod = 20
call_number asks.Chown = 21
call_number asks.SetLimit = 22
call_number asks.Interrupt = 23
call_number asks.Audit = 24
call_number asks.MqTimedSend = 26
call_number asks.MqTimedReceive = 27
call_number asks.SemTimedWait = 28
call_number asks.MqGive = 30

-- every call, in the order of their numbers
abbrev pub every_call : List CallOp
every_call = asks.Umask ∷ asks.MqOpen ∷ asks.MqClose ∷ asks.MqUnlink ∷ asks.MqSend ∷ asks.MqReceive ∷ asks.MqGetattr ∷ asks.MqSetattr ∷ asks.MqNotify ∷ asks.SemOpen ∷ asks.SemClose ∷ asks.SemUnlink ∷ asks.SemPost ∷ asks.SemWait ∷ asks.SemTryWait ∷ asks.SemGetvalue ∷ asks.ListNames ∷ asks.StatName ∷ asks.Chmod ∷ asks.Chown ∷ asks.SetLimit ∷ asks.Interrupt ∷ asks.Audit ∷ asks.MqTimedSend ∷ asks.MqTimedReceive ∷ asks.SemTimedWait ∷ asks.MqGive ∷ []

-- the call of this number, if there is one
unfoldable pub call_of_number : ℕ → Option CallOp
call_of_number n = find (λ op. call_number op == n) every_call

-- which call it is
abbrev pub call_op : Call → CallOp
call_op (call.Umask mask) = asks.Umask
call_op (call.MqOpen asked) = asks.MqOpen
call_op (call.MqClose desc) = asks.MqClose
call_op (call.MqUnlink name) = asks.MqUnlink
call_op (call.MqSend desc priority bytes) = asks.MqSend
call_op (call.MqReceive desc size) = asks.MqReceive
call_op (call.MqGetattr desc) = asks.MqGetattr
call_op (call.MqSetattr desc nonblock) = asks.MqSetattr
call_op (call.MqNotify desc on) = asks.MqNotify
call_op (call.MqGive desc taker) = asks.MqGive
call_op (call.SemOpen asked) = asks.SemOpen
call_op (call.SemClose desc) = asks.SemClose
call_op (call.SemUnlink name) = asks.SemUnlink
call_op (call.SemPost desc) = asks.SemPost
call_op (call.SemWait desc) = asks.SemWait
call_op (call.SemTryWait desc) = asks.SemTryWait
call_op (call.SemGetvalue desc) = asks.SemGetvalue
call_op (call.ListNames family start count) = asks.ListNames
call_op (call.StatName target) = asks.StatName
call_op (call.Chmod mode target) = asks.Chmod
call_op (call.Chown owner group target) = asks.Chown
call_op (call.SetLimit uid bytes) = asks.SetLimit
call_op call.Interrupt = asks.Interrupt
call_op (call.Audit start count) = asks.Audit
call_op (call.MqTimedSend desc priority deadline bytes) = asks.MqTimedSend
call_op (call.MqTimedReceive desc size deadline) = asks.MqTimedReceive
call_op (call.SemTimedWait desc deadline) = asks.SemTimedWait

-- the number of each answer
abbrev pub answer_number : AnswerOp → ℕ
answer_number says.Started = 65
answer_number says.Done = 66
answer_number says.Opened = 67
answer_number says.Mask = 68
answer_number says.Attrs = 69
answer_number says.Sent = 70
answer_number says.Received = 71
answer_number says.Value = 72
answer_number says.Names = 73
answer_number says.Stat = 74
answer_number says.Records = 75
answer_number says.Refused = 76
answer_number says.Interrupted = 77
answer_number says.Notice = 78
answer_number says.Taken = 79

-- every answer, in the order of their numbers
abbrev pub every_answer : List AnswerOp
every_answer = says.Started ∷ says.Done ∷ says.Opened ∷ says.Mask ∷ says.Attrs ∷ says.Sent ∷ says.Received ∷ says.Value ∷ says.Names ∷ says.Stat ∷ says.Records ∷ says.Refused ∷ says.Interrupted ∷ says.Notice ∷ says.Taken ∷ []

-- the answer of this number, if there is one
unfoldable pub answer_of_number : ℕ → Option AnswerOp
answer_of_number n = find (λ op. answer_number op == n) every_answer

-- which answer it is
abbrev pub answer_op : Answer → AnswerOp
answer_op (answer.Started sid) = says.Started
answer_op answer.Done = says.Done
answer_op (answer.Opened desc) = says.Opened
answer_op (answer.Mask mask) = says.Mask
answer_op (answer.Attrs nonblock attributes messages) = says.Attrs
answer_op answer.Sent = says.Sent
answer_op (answer.Received priority bytes) = says.Received
answer_op (answer.Value value) = says.Value
answer_op (answer.Names names) = says.Names
answer_op (answer.Stat facts) = says.Stat
answer_op (answer.Records lines) = says.Records
answer_op (answer.Refused rule) = says.Refused
answer_op answer.Interrupted = says.Interrupted
answer_op (answer.Notice desc) = says.Notice
answer_op (answer.Taken desc) = says.Taken
