-- Small histories, worked out by the definitions alone.
use Rattle.std.proofs.Common.{◌≡◌, ℕ, Bool, true, false, List, [], ◌∷◌, ◌++◌, map, Some, None, refl, arith}
use Rattle.std.specs.Prelude.{codes}
use Rattle.ipc_terms.specs.declared.rule.Rule.TheVariants.{NoSession, InCall, NotInCall, NotAdmin, NoUser, BadDescr, NotForRead, Absent, ModeDenied, NotOwner, ChownDenied, ValueRange, QueueCount, ByteLimit, NotifyTaken, WouldBlock, Overflow, TimedOut, NoTaker}
use Rattle.ipc_terms.specs.declared.ids.Sid.{Sid}
use Rattle.ipc_terms.specs.declared.ids.Desc.{Desc}
use Rattle.ipc_terms.specs.declared.ids.Target.{Target}
use Rattle.ipc_terms.specs.declared.ids.Target.TheVariants.{Dir, Name}
use Rattle.ipc_terms.specs.declared.ids.Family.TheVariants.{Mq}
use Rattle.ipc_terms.specs.declared.call.Access.{Access}
use Rattle.ipc_terms.specs.declared.call.Access.TheVariants.{Read, Write, Both}
use Rattle.ipc_terms.specs.declared.call.Answer.{Answer}
use Rattle.ipc_terms.specs.declared.call.Answer.TheVariants.{Mask, Started, Done, Opened, Sent, Received, Attrs, Value, Stat, Records, Notice, Taken, Interrupted, Refused}
use Rattle.ipc_terms.specs.declared.call.Call.{Call}
use Rattle.ipc_terms.specs.declared.call.Call.TheVariants.{Umask, MqOpen, MqClose, MqSend, MqReceive, MqGetattr, MqSetattr, MqNotify, MqGive, MqUnlink, SemOpen, SemUnlink, SemPost, SemWait, SemTryWait, SemGetvalue, StatName, Chmod, Chown, SetLimit, Interrupt, Audit, MqTimedSend, MqTimedReceive, SemTimedWait}
use Rattle.ipc_terms.specs.declared.line.Line.{Line}
use Rattle.ipc_terms.specs.declared.record.Event.{Event}
use Rattle.ipc_terms.specs.declared.record.Event.TheVariants.{Hello, Do, Hangup, Tick}
use Rattle.ipc_access.specs.declared.users.User.{User}
use Rattle.ipc_policy.specs.declared.config.Config.{Config}
use Rattle.ipc_policy.specs.declared.config.Held.{Held}
use Rattle.ipc_policy.specs.Decides.History.{History, after_accepted}
use Rattle.ipc_policy.specs.Decides.Sessions.{hellos, user, live, cred, mask}
use Rattle.ipc_policy.specs.Decides.Names.{is_bound, creating, creations, bound}
use Rattle.ipc_policy.specs.Decides.Objects.{object, owner, group, mode, facts, directory_owner, directory_group, directory_mode, directory}
use Rattle.ipc_policy.specs.Decides.Descriptions.{opens, held, holds, held_count, is_nonblock}
use Rattle.ipc_policy.specs.Decides.Timed.{now}
use Rattle.ipc_policy.specs.Decides.Registrations.{registered}
use Rattle.ipc_policy.specs.Decides.Bodies.{queue, semaphore, value}
use Rattle.ipc_policy.specs.Decides.Parking.{Receiving, parked}
use Rattle.ipc_policy.specs.Decides.Life.{named, alive}
use Rattle.ipc_policy.specs.Decides.Charges.{bytes_of, charge_of, charged, queues_alive, limit}
use Rattle.ipc_policy.specs.Decides.Rules.{forbids, no_session, in_call, not_in_call, name_form, name_long, not_admin, no_user, bad_descr, not_for_write, not_for_read, dir_search, dir_read, absent, present, mode_denied, dir_write, sticky, not_owner, chown_denied, attr_range, value_range, queue_count, byte_limit, descr_limit, prio_range, message_long, buffer_short, notify_taken, would_block, overflow, bad_key, timed_out, no_taker}
use Rattle.ipc_policy.specs.Follows.Deliveries.{delivery, receive_that_took}
use Rattle.ipc_policy.specs.Follows.Confined.{Lead}
use Rattle.ipc_policy.specs.Follows.Fates.{StaysParked, IsWithdrawn, StaysInQueue, IsTaken, IsLeft, became}
use Rattle.ipc_policy.specs.Decides.Verdict.{verdict, answers, outbox, after_events, all_answers}

abbrev person : ℕ → User
person n = record { name = []; key = []; cred = record { uid = record { 0 = n }; gid = record { 0 = n }; groups = []; limit = 819200 } }

abbrev world : Config
world = record { users = person 1000 ∷ person 1001 ∷ person 1002 ∷ person 0 ∷ []; limits = record { msg_max = 10; msgsize_max = 8192; queues_max = 256 } }

abbrev by : ℕ → Call → Event
by s call = Do (record { 0 = s }) call

abbrev hello : ℕ → Event
hello u = Hello (Some (record { 0 = u }))

abbrev d : ℕ → Desc
d n = record { 0 = n }

abbrev to : ℕ → Answer → Sid × Answer
to s a = (record { 0 = s }, a)

-- a queue of one message of eight bytes
abbrev small : ℕ → Access → Call
small flags access = MqOpen (record { name = codes "/f"; access = access; flags = record { 0 = flags }; mode = record { 0 = 438 }; attributes = Some (record { maxmsg = 1; msgsize = 8 }) })

abbrev attributes : ℕ → Answer
attributes n = Attrs false (record { maxmsg = 1; msgsize = 8 }) n

-- a semaphore of this name, opened with these flags
abbrev counter : List ℕ → ℕ → ℕ → Call
counter name flags first_value = SemOpen (record { name = name; flags = record { 0 = flags }; mode = record { 0 = 438 }; value = first_value })

-- the queue that is named /f
abbrev queue_named : Target
queue_named = Name Mq (codes "/f")

abbrev stat_by : ℕ → ℕ → ℕ → ℕ → Sid × Answer
stat_by s u g m = to s (Stat (record { owner = record { 0 = u }; group = record { 0 = g }; mode = record { 0 = m } }))

abbrev limit_by : ℕ → ℕ → ℕ → Event
limit_by s u most = by s (SetLimit (record { 0 = u }) most)

-- where one queue may be alive
abbrev crowded : Config
crowded = record { users = person 1000 ∷ person 1001 ∷ person 0 ∷ []; limits = record { msg_max = 10; msgsize_max = 8192; queues_max = 1 } }

-- a line of the audit
abbrev shown : ℕ → ℕ → ℕ → ℕ → List ℕ → Line
shown place s op rule name = record { place = place; sid = record { 0 = s }; op = op; rule = rule; name = name }

abbrev nobody : ℕ
nobody = 18446744073709551615

-- a queue of the standard attributes, which its user alone may open
abbrev own : ℕ → Access → Call
own flags access = MqOpen (record { name = codes "/h"; access = access; flags = record { 0 = flags }; mode = record { 0 = 384 }; attributes = None })

abbrev give : ℕ → ℕ → Call
give n s = MqGive (d n) (record { 0 = s })

abbrev started : ℕ → Sid × Answer
started s = to s (Started (record { 0 = s }))

abbrev hang_up : ℕ → Event
hang_up s = Hangup (record { 0 = s })

-- an event, and what it is answered
abbrev Step : Type 0
Step = Event × List (Sid × Answer)

abbrev events : List Step → List Event
events steps = map (λ x. x.0) steps

-- from the start each event is answered so
abbrev Goes : Config → List Step → Type 0
Goes c steps = all_answers c [] (events steps) ≡ map (λ x. x.1) steps

abbrev after : List Step → History
after steps = after_events world [] (events steps)

-- three sessions receive from an empty queue, and the first of them hangs up
abbrev two_parked : List Step
two_parked =
    (hello 1000, started 0 ∷ []) ∷ (hello 1001, started 1 ∷ []) ∷ (hello 1002, started 2 ∷ []) ∷
    (by 0 (small 1 Both), to 0 (Opened (d 0)) ∷ []) ∷ (by 1 (small 0 Read), to 1 (Opened (d 1)) ∷ []) ∷
    (by 2 (small 0 Read), to 2 (Opened (d 2)) ∷ []) ∷ (hello 1000, started 3 ∷ []) ∷ (by 3 (small 0 Both), to 3 (Opened (d 3)) ∷ []) ∷
    (by 3 (MqReceive (d 3) 8), []) ∷ (by 1 (MqReceive (d 1) 8), []) ∷ (by 2 (MqReceive (d 2) 8), []) ∷ (hang_up 3, []) ∷ []

-- then the queue is sent to
abbrev then_served : List Step
then_served =
    two_parked ++
    (by 0 (MqSend (d 0) 4 (codes "m")), to 0 Sent ∷ to 1 (Received 4 (codes "m")) ∷ []) ∷
    (by 0 (MqSend (d 0) 0 (codes "k")), to 0 Sent ∷ to 2 (Received 0 (codes "k")) ∷ []) ∷ (by 0 (MqSend (d 0) 0 (codes "l")), to 0 Sent ∷ []) ∷
    (by 3 (MqReceive (d 3) 8), to 3 (Refused NoSession) ∷ []) ∷ (by 1 (MqGetattr (d 1)), to 1 (attributes 1) ∷ []) ∷ []

-- a message is taken, one is withdrawn, one is parked behind one in the queue
abbrev shared_out : History
shared_out = after_events world [] (hello 1000 ∷ by 0 (small 1 Both) ∷ by 0 (MqSend (d 0) 0 (codes "p")) ∷ by 0 (MqSend (d 0) 0 (codes "q")) ∷ by 0 Interrupt ∷ by 0 (MqReceive (d 0) 8) ∷ by 0 (MqSend (d 0) 0 (codes "s")) ∷ by 0 (MqSend (d 0) 0 (codes "t")) ∷ [])

-- which of its fates each send has
abbrev fates : History → ℕ → List Bool
fates h i = became StaysParked world h 0 i ∷ became IsWithdrawn world h 0 i ∷ became StaysInQueue world h 0 i ∷ became IsTaken world h 0 i ∷ became IsLeft world h 0 i ∷ []

-- a description is given away and back, and then something is sent by it
abbrev given_back : History
given_back = after_events world [] (hello 1000 ∷ hello 1001 ∷ by 0 (small 1 Both) ∷ by 0 (give 0 1) ∷ by 1 (give 0 0) ∷ by 0 (MqSend (d 0) 0 (codes "p")) ∷ [])

-- what session 0 holds before and after
abbrev held_by_0 : Held
held_by_0 = record { session = record { 0 = 0 }; object = 0; access = Both }

record Worked : Type 0 where
  -- a full queue parks a send; an interrupt withdraws it, and its message does not come
  interrupted : Goes world (
      (hello 1000, started 0 ∷ []) ∷ (by 0 (small 1 Both), to 0 (Opened (d 0)) ∷ []) ∷ (by 0 (MqSend (d 0) 0 (codes "p")), to 0 Sent ∷ []) ∷
      (by 0 (MqSend (d 0) 0 (codes "q")), []) ∷ (by 0 (MqGetattr (d 0)), to 0 (Refused InCall) ∷ []) ∷
      (by 0 Interrupt, to 0 Interrupted ∷ to 0 Done ∷ []) ∷ (by 0 (MqReceive (d 0) 8), to 0 (Received 0 (codes "p")) ∷ []) ∷
      (by 0 (MqSetattr (d 0) true), to 0 (attributes 0) ∷ []) ∷ (by 0 (MqReceive (d 0) 8), to 0 (Refused WouldBlock) ∷ []) ∷
      (by 0 Interrupt, to 0 (Refused NotInCall) ∷ []) ∷ [])
  -- a receive lets the parked send enter behind what is left
  admitted : Goes world (
      (hello 1000, started 0 ∷ []) ∷ (hello 1001, started 1 ∷ []) ∷ (by 0 (small 1 Both), to 0 (Opened (d 0)) ∷ []) ∷
      (by 0 (MqSend (d 0) 0 (codes "p")), to 0 Sent ∷ []) ∷ (by 1 (small 0 Read), to 1 (Opened (d 1)) ∷ []) ∷
      (by 0 (MqSend (d 0) 9 (codes "q")), []) ∷ (by 1 (MqReceive (d 1) 8), to 1 (Received 0 (codes "p")) ∷ to 0 Sent ∷ []) ∷
      (by 1 (MqGetattr (d 1)), to 1 (attributes 1) ∷ []) ∷ (by 1 (MqReceive (d 1) 8), to 1 (Received 9 (codes "q")) ∷ []) ∷
      (by 0 (MqSend (d 0) 0 (codes "s")), to 0 Sent ∷ []) ∷ [])
  -- parked receives are served in their order, but for those that hung up
  served : Goes world then_served
  -- after the hang-up the second session is parked, and the third behind it
  listed_behind : (queue world (after two_parked) 0).receivers ≡ record { place = 9; session = 1; desc = 1 } ∷ record { place = 10; session = 2; desc = 2 } ∷ []
  parked_there : parked world (after two_parked) 2 ≡ Some (record { object = 0; place = 10; kind = Receiving })
  -- the answers that were for the second session, and for the one that hung up
  told_second : outbox world (after then_served) 1 ≡ Started (record { 0 = 1 }) ∷ Opened (d 1) ∷ Received 4 (codes "m") ∷ attributes 1 ∷ []
  told_before : outbox world (after then_served) 3 ≡ Started (record { 0 = 3 }) ∷ Opened (d 3) ∷ []
  -- the longest parked wait is served first, a hang-up cancels one, and a post raises the value only where none is parked;
  -- a semaphore is no queue, and it outlives its name
  posted : Goes world (
      (hello 1000, started 0 ∷ []) ∷ (hello 1000, started 1 ∷ []) ∷ (hello 1000, started 2 ∷ []) ∷
      (by 0 (counter (codes "/w") 1 0), to 0 (Opened (d 0)) ∷ []) ∷ (by 1 (counter (codes "/w") 4 9), to 1 (Opened (d 1)) ∷ []) ∷
      (by 2 (counter (codes "/w") 0 0), to 2 (Opened (d 2)) ∷ []) ∷ (by 0 (SemTryWait (d 0)), to 0 (Refused WouldBlock) ∷ []) ∷
      (by 1 (SemWait (d 1)), []) ∷ (by 2 (SemWait (d 2)), []) ∷ (by 0 (SemPost (d 0)), to 0 Done ∷ to 1 Done ∷ []) ∷
      (by 0 (SemGetvalue (d 0)), to 0 (Value 0) ∷ []) ∷ (hang_up 2, []) ∷ (by 0 (SemPost (d 0)), to 0 Done ∷ []) ∷
      (by 0 (SemGetvalue (d 0)), to 0 (Value 1) ∷ []) ∷ (by 1 (SemWait (d 1)), to 1 Done ∷ []) ∷
      (by 0 (MqClose (d 0)), to 0 (Refused BadDescr) ∷ []) ∷ (by 0 (SemUnlink (codes "/w")), to 0 Done ∷ []) ∷
      (by 0 (SemPost (d 0)), to 0 Done ∷ []) ∷ [])
  -- the greatest value, what is above it, and what a semaphore's open wants
  ranged : Goes world (
      (hello 1000, started 0 ∷ []) ∷ (hello 1001, started 1 ∷ []) ∷ (by 0 (counter (codes "/f") 1 2147483647), to 0 (Opened (d 0)) ∷ []) ∷
      (by 0 (SemPost (d 0)), to 0 (Refused Overflow) ∷ []) ∷ (by 0 (counter (codes "/t") 1 2147483648), to 0 (Refused ValueRange) ∷ []) ∷
      (by 1 (counter (codes "/f") 0 0), to 1 (Refused ModeDenied) ∷ []) ∷ (by 0 (small 1 Both), to 0 (Opened (d 1)) ∷ []) ∷
      (by 1 (small 0 Read), to 1 (Opened (d 2)) ∷ []) ∷ (by 0 (SemWait (d 1)), to 0 (Refused BadDescr) ∷ []) ∷
      (by 0 (SemWait (d 0)), to 0 Done ∷ []) ∷ (by 0 (SemGetvalue (d 0)), to 0 (Value 2147483646) ∷ []) ∷ [])
  -- where a record is accepted against the verdict: an open without CREAT of a name that is unbound counts and gives
  -- nothing, and a hello that found nobody begins a session without a user
  none_opened : (held (after_accepted (after_accepted [] (hello 1000)) (by 0 (small 0 Both))) 0 ≡ None) × (opens (after_accepted (after_accepted [] (hello 1000)) (by 0 (small 0 Both))) ≡ 1)
  nobody_lives : (live (after_accepted [] (Hello None)) 0 ≡ true) × (user (after_accepted [] (Hello None)) 0 ≡ None)
  -- a chmod means the object that has the name then: it leaves the next one of that name as its creation made it
  renewed : Goes world (
      (hello 1000, started 0 ∷ []) ∷ (by 0 (small 1 Both), to 0 (Opened (d 0)) ∷ []) ∷
      (by 0 (Chmod (record { 0 = 384 }) queue_named), to 0 Done ∷ []) ∷ (by 0 (StatName queue_named), stat_by 0 1000 1000 384 ∷ []) ∷
      (by 0 (MqUnlink (codes "/f")), to 0 Done ∷ []) ∷ (by 0 (Chmod (record { 0 = 448 }) queue_named), to 0 (Refused Absent) ∷ []) ∷
      (by 0 (small 1 Both), to 0 (Opened (d 1)) ∷ []) ∷ (by 0 (StatName queue_named), stat_by 0 1000 1000 420 ∷ []) ∷ [])
  -- a chown that keeps the owner changes the group alone; an owner gives nothing away, and another may not even keep both
  given_to_group : Goes world (
      (hello 1000, started 0 ∷ []) ∷ (hello 1001, started 1 ∷ []) ∷ (hello 0, started 2 ∷ []) ∷ (by 0 (small 1 Both), to 0 (Opened (d 0)) ∷ []) ∷
      (by 2 (Chown None (Some (record { 0 = 7 })) queue_named), to 2 Done ∷ []) ∷ (by 0 (StatName queue_named), stat_by 0 1000 7 420 ∷ []) ∷
      (by 0 (Chown (Some (record { 0 = 1001 })) None queue_named), to 0 (Refused ChownDenied) ∷ []) ∷
      (by 0 (Chown None (Some (record { 0 = 7 })) queue_named), to 0 (Refused ChownDenied) ∷ []) ∷
      (by 0 (Chown (Some (record { 0 = 1000 })) (Some (record { 0 = 1000 })) queue_named), to 0 Done ∷ []) ∷
      (by 1 (Chown None None queue_named), to 1 (Refused ChownDenied) ∷ []) ∷
      (by 1 (Chmod (record { 0 = 511 }) queue_named), to 1 (Refused NotOwner) ∷ []) ∷
      (by 0 (StatName queue_named), stat_by 0 1000 1000 420 ∷ []) ∷ [])
  -- a directory takes the sticky bit of a mode, a queue does not; the owner of a directory needs no search of it
  stuck : Goes world (
      (hello 1000, started 0 ∷ []) ∷ (hello 0, started 1 ∷ []) ∷ (by 0 (small 1 Both), to 0 (Opened (d 0)) ∷ []) ∷
      (by 0 (Chmod (record { 0 = 960 }) queue_named), to 0 Done ∷ []) ∷ (by 0 (StatName queue_named), stat_by 0 1000 1000 448 ∷ []) ∷
      (by 1 (Chown (Some (record { 0 = 1000 })) None (Dir Mq)), to 1 Done ∷ []) ∷ (by 0 (Chmod (record { 0 = 512 }) (Dir Mq)), to 0 Done ∷ []) ∷
      (by 0 (StatName (Dir Mq)), stat_by 0 1000 0 512 ∷ []) ∷ (by 0 (Chmod (record { 0 = 1023 }) (Dir Mq)), to 0 Done ∷ []) ∷
      (by 0 (StatName queue_named), stat_by 0 1000 1000 448 ∷ []) ∷ [])
  -- user 0 alone sets a limit, of a user of the file, up to the greatest; the small queue takes 104 bytes, which its
  -- creator has back once it has neither a name nor a description
  limited : Goes world (
      (hello 1000, started 0 ∷ []) ∷ (hello 0, started 1 ∷ []) ∷ (limit_by 0 1000 8, to 0 (Refused NotAdmin) ∷ []) ∷
      (limit_by 1 7 8, to 1 (Refused NoUser) ∷ []) ∷ (limit_by 1 1000 1000000000000001, to 1 (Refused ValueRange) ∷ []) ∷
      (limit_by 1 1000 103, to 1 Done ∷ []) ∷ (by 0 (small 1 Both), to 0 (Refused ByteLimit) ∷ []) ∷ (limit_by 1 1000 104, to 1 Done ∷ []) ∷
      (by 0 (small 1 Both), to 0 (Opened (d 0)) ∷ []) ∷ (by 0 (MqUnlink (codes "/f")), to 0 Done ∷ []) ∷
      (by 0 (small 1 Both), to 0 (Refused ByteLimit) ∷ []) ∷ (by 0 (MqClose (d 0)), to 0 Done ∷ []) ∷
      (by 0 (small 1 Both), to 0 (Opened (d 1)) ∷ []) ∷ [])
  -- where one queue may be alive: its name is gone and it lives, so another user makes no second one, and user 0 does
  counted_alive : Goes crowded (
      (hello 1000, started 0 ∷ []) ∷ (hello 1001, started 1 ∷ []) ∷ (hello 0, started 2 ∷ []) ∷
      (by 0 (counter (codes "/w") 1 0), to 0 (Opened (d 0)) ∷ []) ∷ (by 0 (small 1 Both), to 0 (Opened (d 1)) ∷ []) ∷
      (by 0 (MqUnlink (codes "/f")), to 0 Done ∷ []) ∷ (by 1 (small 1 Both), to 1 (Refused QueueCount) ∷ []) ∷
      (by 2 (small 1 Both), to 2 (Opened (d 2)) ∷ []) ∷ (by 2 (MqUnlink (codes "/f")), to 2 Done ∷ []) ∷ (hang_up 2, []) ∷
      (by 1 (small 1 Both), to 1 (Refused QueueCount) ∷ []) ∷ (hang_up 0, []) ∷ (by 1 (small 1 Both), to 1 (Opened (d 3)) ∷ []) ∷ [])
  -- a queue stays charged to its creator after a chown, and none of it to the new owner
  creator_charged : (charged world (after_events world [] (hello 1000 ∷ hello 0 ∷ by 0 (small 1 Both) ∷ by 1 (Chown (Some (record { 0 = 1001 })) None queue_named) ∷ [])) (record { 0 = 1000 }) ≡ 104)
      × (charged world (after_events world [] (hello 1000 ∷ hello 0 ∷ by 0 (small 1 Both) ∷ by 1 (Chown (Some (record { 0 = 1001 })) None queue_named) ∷ [])) (record { 0 = 1001 }) ≡ 0)
  -- a parked receive gets the message and no notice is sent; the next message, to the empty queue, sends one, once; a
  -- registration stays where another description is turned off
  notified : Goes world (
      (hello 1000, started 0 ∷ []) ∷ (hello 1001, started 1 ∷ []) ∷ (hello 1002, started 2 ∷ []) ∷
      (by 0 (small 1 Both), to 0 (Opened (d 0)) ∷ []) ∷ (by 1 (small 0 Read), to 1 (Opened (d 1)) ∷ []) ∷
      (by 2 (small 0 Read), to 2 (Opened (d 2)) ∷ []) ∷ (by 2 (MqNotify (d 2) true), to 2 Done ∷ []) ∷
      (by 1 (MqNotify (d 1) true), to 1 (Refused NotifyTaken) ∷ []) ∷ (by 1 (MqReceive (d 1) 8), []) ∷
      (by 0 (MqSend (d 0) 4 (codes "m")), to 0 Sent ∷ to 1 (Received 4 (codes "m")) ∷ []) ∷
      (by 0 (MqSend (d 0) 0 (codes "k")), to 0 Sent ∷ to 2 (Notice (d 2)) ∷ []) ∷ (by 1 (MqNotify (d 1) true), to 1 Done ∷ []) ∷
      (by 2 (MqNotify (d 2) false), to 2 Done ∷ []) ∷ (by 0 (MqNotify (d 0) true), to 0 (Refused NotifyTaken) ∷ []) ∷ [])
  -- a message that a receive lets in sends no notice, and the registration stays until a send fires it
  let_in_unnoticed : Goes world (
      (hello 1000, started 0 ∷ []) ∷ (hello 1001, started 1 ∷ []) ∷ (by 0 (small 1 Both), to 0 (Opened (d 0)) ∷ []) ∷
      (by 0 (MqSend (d 0) 0 (codes "p")), to 0 Sent ∷ []) ∷ (by 1 (small 0 Read), to 1 (Opened (d 1)) ∷ []) ∷
      (by 1 (MqNotify (d 1) true), to 1 Done ∷ []) ∷ (by 0 (MqSend (d 0) 9 (codes "q")), []) ∷
      (by 1 (MqReceive (d 1) 8), to 1 (Received 0 (codes "p")) ∷ to 0 Sent ∷ []) ∷
      (by 1 (MqReceive (d 1) 8), to 1 (Received 9 (codes "q")) ∷ []) ∷ (by 0 (MqSend (d 0) 0 (codes "s")), to 0 Sent ∷ to 1 (Notice (d 1)) ∷ []) ∷
      [])
  -- a description that can only send may be registered, by its sender; its close ends the registration, not that of another
  -- description of the session; so does the hang-up
  unregistered : Goes world (
      (hello 1000, started 0 ∷ []) ∷ (by 0 (small 1 Write), to 0 (Opened (d 0)) ∷ []) ∷ (by 0 (small 0 Write), to 0 (Opened (d 1)) ∷ []) ∷
      (by 0 (MqNotify (d 1) true), to 0 Done ∷ []) ∷ (by 0 (MqNotify (d 0) false), to 0 Done ∷ []) ∷ (by 0 (MqClose (d 0)), to 0 Done ∷ []) ∷
      (by 0 (MqSend (d 1) 0 (codes "p")), to 0 Sent ∷ to 0 (Notice (d 1)) ∷ []) ∷ (by 0 (MqReceive (d 1) 8), to 0 (Refused NotForRead) ∷ []) ∷
      (by 0 (MqNotify (d 1) true), to 0 Done ∷ []) ∷ (by 0 (MqNotify (d 1) true), to 0 (Refused NotifyTaken) ∷ []) ∷
      (by 0 (small 0 Write), to 0 (Opened (d 2)) ∷ []) ∷ (by 0 (MqClose (d 1)), to 0 Done ∷ []) ∷ (by 0 (MqNotify (d 2) true), to 0 Done ∷ []) ∷
      (hello 1000, started 1 ∷ []) ∷ (by 1 (small 0 Read), to 1 (Opened (d 3)) ∷ []) ∷ (hang_up 0, []) ∷
      (by 1 (MqNotify (d 3) true), to 1 Done ∷ []) ∷ [])
  -- user 0 alone reads the audit: what came before it, refused or not
  audited : Goes world (
      (hello 1000, started 0 ∷ []) ∷ (hello 0, started 1 ∷ []) ∷
      (by 0 (MqOpen (record { name = codes "/f"; access = Read; flags = record { 0 = 0 }; mode = record { 0 = 0 }; attributes = None })), to 0 (Refused Absent) ∷ []) ∷
      (by 0 (Audit 0 9), to 0 (Refused NotAdmin) ∷ []) ∷
      (by 1 (Audit 1 9), to 1 (Records (shown 1 nobody 1 0 [] ∷ shown 2 0 3 13 (codes "/f") ∷ shown 3 0 24 6 [] ∷ [])) ∷ []) ∷
      (by 1 (Audit 3 1), to 1 (Records (shown 3 0 24 6 [] ∷ [])) ∷ []) ∷ (by 1 (Audit 6 9), to 1 (Records []) ∷ []) ∷ [])
  taken_first : (fates shared_out 2 ≡ false ∷ false ∷ false ∷ true ∷ false ∷ []) × (receive_that_took world shared_out 2 ≡ Some (record { place = 5; session = 0; desc = 0 }))
  withdrawn_next : fates shared_out 3 ≡ false ∷ true ∷ false ∷ false ∷ false ∷ []
  one_in_queue : (fates shared_out 6 ≡ false ∷ false ∷ true ∷ false ∷ false ∷ []) × (fates shared_out 7 ≡ true ∷ false ∷ false ∷ false ∷ false ∷ [])
  -- a message is left in a queue that ends
  left_behind : fates (after_events world [] (hello 1000 ∷ by 0 (small 1 Both) ∷ by 0 (MqSend (d 0) 0 (codes "p")) ∷ by 0 (MqUnlink (codes "/f")) ∷ by 0 (MqClose (d 0)) ∷ [])) 2 ≡ false ∷ false ∷ false ∷ false ∷ true ∷ []
  -- a tick ends the earliest parked call whose deadline is past, one at a time, and the time never goes back; a call that would
  -- park past its deadline is refused, and one that need not park does not look at it; with NONBLOCK it is refused for that;
  -- an interrupted call has no deadline any more
  timed : Goes world (
      (hello 1000, started 0 ∷ []) ∷ (hello 1001, started 1 ∷ []) ∷ (hello 1002, started 2 ∷ []) ∷ (hello 0, started 3 ∷ []) ∷
      (by 0 (Umask (record { 0 = 0 })), to 0 (Mask (record { 0 = 18 })) ∷ []) ∷ (by 0 (small 1 Both), to 0 (Opened (d 0)) ∷ []) ∷
      (by 1 (small 0 Both), to 1 (Opened (d 1)) ∷ []) ∷ (by 0 (MqTimedReceive (d 0) 8 5), []) ∷ (by 1 (MqTimedReceive (d 1) 8 5), []) ∷
      (Tick 4, []) ∷ (Tick 9, to 0 (Refused TimedOut) ∷ []) ∷ (Tick 0, to 1 (Refused TimedOut) ∷ []) ∷ (Tick 9, []) ∷
      (by 0 (MqTimedReceive (d 0) 8 9), to 0 (Refused TimedOut) ∷ []) ∷ (by 0 (MqTimedReceive (d 0) 8 10), []) ∷
      (by 1 (MqSend (d 1) 2 (codes "p")), to 1 Sent ∷ to 0 (Received 2 (codes "p")) ∷ []) ∷
      (by 1 (MqTimedSend (d 1) 0 0 (codes "q")), to 1 Sent ∷ []) ∷ (by 1 (MqTimedSend (d 1) 3 12 (codes "s")), []) ∷
      (Tick 12, to 1 (Refused TimedOut) ∷ []) ∷ (by 0 (MqReceive (d 0) 8), to 0 (Received 0 (codes "q")) ∷ []) ∷
      (by 0 (MqSetattr (d 0) true), to 0 (attributes 0) ∷ []) ∷ (by 0 (MqTimedReceive (d 0) 8 0), to 0 (Refused WouldBlock) ∷ []) ∷
      (by 0 (counter (codes "/t") 1 0), to 0 (Opened (d 2)) ∷ []) ∷ (by 0 (SemTimedWait (d 2) 13), []) ∷
      (by 0 Interrupt, to 0 Interrupted ∷ to 0 Done ∷ []) ∷ (Tick 20, []) ∷ (by 0 (SemTimedWait (d 2) 20), to 0 (Refused TimedOut) ∷ []) ∷
      (by 0 (SemPost (d 2)), to 0 Done ∷ []) ∷ (by 0 (SemTimedWait (d 2) 0), to 0 Done ∷ []) ∷ [])
  -- a description passes on with its access, whatever the mode says to its taker; its registration is dropped, and its giver has
  -- it no more. It is given to nobody who gives it, who is not there or who hung up. It passes on again with its NONBLOCK, and a
  -- semaphore's does not
  passed_on : Goes world (
      (hello 0, started 0 ∷ []) ∷ (hello 1000, started 1 ∷ []) ∷ (hello 1001, started 2 ∷ []) ∷ (hello 1002, started 3 ∷ []) ∷
      (by 1 (own 1 Both), to 1 (Opened (d 0)) ∷ []) ∷ (by 2 (own 0 Read), to 2 (Refused ModeDenied) ∷ []) ∷
      (by 1 (MqNotify (d 0) true), to 1 Done ∷ []) ∷ (by 1 (give 0 2), to 1 Done ∷ to 2 (Taken (d 0)) ∷ []) ∷
      (by 1 (MqSend (d 0) 0 (codes "x")), to 1 (Refused BadDescr) ∷ []) ∷ (by 2 (MqSend (d 0) 0 (codes "x")), to 2 Sent ∷ []) ∷
      (by 2 (MqReceive (d 0) 8192), to 2 (Received 0 (codes "x")) ∷ []) ∷ (by 2 (own 0 Read), to 2 (Refused ModeDenied) ∷ []) ∷
      (by 2 (give 0 2), to 2 (Refused NoTaker) ∷ []) ∷ (by 2 (give 0 9), to 2 (Refused NoTaker) ∷ []) ∷ (hang_up 1, []) ∷
      (by 2 (give 0 1), to 2 (Refused NoTaker) ∷ []) ∷
      (by 2 (MqSetattr (d 0) true), to 2 (Attrs false (record { maxmsg = 10; msgsize = 8192 }) 0) ∷ []) ∷
      (by 2 (give 0 3), to 2 Done ∷ to 3 (Taken (d 0)) ∷ []) ∷ (by 3 (MqReceive (d 0) 8192), to 3 (Refused WouldBlock) ∷ []) ∷
      (by 2 (counter (codes "/k") 1 0), to 2 (Opened (d 1)) ∷ []) ∷ (by 2 (give 1 0), to 2 (Refused BadDescr) ∷ []) ∷
      (by 2 (MqGetattr (d 0)), to 2 (Refused BadDescr) ∷ []) ∷ [])
  -- a session that is parked is given to, and gives nothing; what it was given ends with it and not with its giver, and the queue
  -- with that
  given_while_parked : Goes world (
      (hello 1000, started 0 ∷ []) ∷ (hello 1001, started 1 ∷ []) ∷ (by 0 (small 1 Both), to 0 (Opened (d 0)) ∷ []) ∷
      (by 1 (small 0 Read), to 1 (Opened (d 1)) ∷ []) ∷ (by 0 (small 0 Both), to 0 (Opened (d 2)) ∷ []) ∷ (by 1 (MqReceive (d 1) 8), []) ∷
      (by 0 (give 0 1), to 0 Done ∷ to 1 (Taken (d 0)) ∷ []) ∷ (by 1 (give 1 0), to 1 (Refused InCall) ∷ []) ∷
      (by 0 (MqSend (d 2) 0 (codes "p")), to 0 Sent ∷ to 1 (Received 0 (codes "p")) ∷ []) ∷
      (by 1 (give 1 0), to 1 Done ∷ to 0 (Taken (d 1)) ∷ []) ∷ (by 0 (MqUnlink (codes "/f")), to 0 Done ∷ []) ∷
      (by 0 (MqClose (d 1)), to 0 Done ∷ []) ∷ (hang_up 0, []) ∷ (by 1 (MqGetattr (d 0)), to 1 (attributes 0) ∷ []) ∷
      (by 1 (MqGetattr (d 1)), to 1 (Refused BadDescr) ∷ []) ∷ [])
  -- a session whose timed call is parked is given to; a tick ends its call all the same; by what it was given it parks until a
  -- deadline, gives nothing meanwhile, and outlives the giver
  given_and_timed : Goes world (
      (hello 1000, started 0 ∷ []) ∷ (hello 1001, started 1 ∷ []) ∷ (by 0 (small 1 Both), to 0 (Opened (d 0)) ∷ []) ∷
      (by 1 (small 0 Read), to 1 (Opened (d 1)) ∷ []) ∷ (by 1 (MqTimedReceive (d 1) 8 5), []) ∷
      (by 0 (give 0 1), to 0 Done ∷ to 1 (Taken (d 0)) ∷ []) ∷ (Tick 5, to 1 (Refused TimedOut) ∷ []) ∷
      (by 1 (MqTimedReceive (d 0) 8 5), to 1 (Refused TimedOut) ∷ []) ∷ (by 1 (MqTimedReceive (d 0) 8 6), []) ∷
      (by 1 (give 1 0), to 1 (Refused InCall) ∷ []) ∷ (hang_up 0, []) ∷ (Tick 6, to 1 (Refused TimedOut) ∷ []) ∷
      (by 1 (MqTimedSend (d 0) 0 0 (codes "p")), to 1 Sent ∷ []) ∷ (by 1 (MqReceive (d 1) 8), to 1 (Received 0 (codes "p")) ∷ []) ∷
      (by 1 (give 1 0), to 1 (Refused NoTaker) ∷ []) ∷ [])
  -- a chain that leaves out the two gives does not lead from the open, at place 2, to the send, at place 5
  unled : Lead given_back 0 [] held_by_0 2 held_by_0 5 → ⊥

worked : Worked
unfolding hellos user live cred mask is_bound creating creations bound object owner group mode facts directory_owner directory_group directory_mode directory opens held holds held_count is_nonblock named alive bytes_of charge_of charged queues_alive limit queue registered semaphore value parked forbids no_session in_call not_in_call name_form name_long not_admin no_user bad_descr not_for_write not_for_read dir_search dir_read absent present mode_denied dir_write sticky not_owner chown_denied attr_range value_range queue_count byte_limit descr_limit prio_range message_long buffer_short notify_taken would_block overflow bad_key timed_out now no_taker verdict answers outbox delivery
worked = record {
  interrupted = refl;
  admitted = refl;
  served = refl;
  listed_behind = refl;
  parked_there = refl;
  told_second = refl;
  told_before = refl;
  posted = refl;
  ranged = refl;
  none_opened = (refl, refl);
  nobody_lives = (refl, refl);
  renewed = refl;
  given_to_group = refl;
  stuck = refl;
  limited = refl;
  counted_alive = refl;
  creator_charged = (refl, refl);
  notified = refl;
  let_in_unnoticed = refl;
  unregistered = refl;
  audited = refl;
  taken_first = (refl, refl);
  withdrawn_next = refl;
  one_in_queue = (refl, refl);
  left_behind = refl;
  timed = refl;
  passed_on = refl;
  given_while_parked = refl;
  given_and_timed = refl;
  unled = λ led. let gap : None ≡ Some held_by_0 = led.2 4 (omega arith) (omega arith) in absurd cc;
}
