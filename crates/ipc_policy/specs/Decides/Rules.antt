-- What each rule forbids. A condition that speaks of a user, an object or a description holds only
-- where there is one, but for the rules 7, 8 and 31. No call is accepted for want of one: in a legal history the caller of
-- each accepted call has credentials (law `known`), what a name is bound to is an object with an owner, a group and a mode
-- (law `bound`), and rule 8 forbids a call by a description that its session does not hold.
use Rattle.std.specs.Prelude.{Bool, true, false, ℕ, ◌&&◌, ◌||◌, ◌==◌, ◌+◌, not, nat_lt, nat_le, length, Option, Some, None, is_some, is_none, if◌then◌else◌, option_and_then}
use Rattle.ipc_terms.specs.Flags.{has_create, has_exclusive}
use Rattle.ipc_terms.specs.Objects.{family_of, of_queue, as_queue, attributes_asked, value_asked}
use Rattle.ipc_terms.specs.Names.{same_family, has_name_form, is_long_name}
use Rattle.ipc_terms.specs.Timed.{plain, deadline}
use Rattle.ipc_terms.specs.declared.rule.Rule.{Rule}
use Rattle.ipc_terms.specs.declared.rule.Rule.TheVariants.{NoSession, InCall, NotInCall, NameForm, NameLong, NotAdmin, NoUser, BadDescr, NotForWrite, NotForRead, DirSearch, DirRead, Absent, Present, ModeDenied, DirWrite, Sticky, NotOwner, ChownDenied, AttrRange, ValueRange, QueueCount, ByteLimit, DescrLimit, PrioRange, MessageLong, BufferShort, NotifyTaken, WouldBlock, Overflow, BadKey, TimedOut, NoTaker}
use Rattle.ipc_terms.specs.declared.ids.Uid.{Uid}
use Rattle.ipc_terms.specs.declared.ids.Family.{Family}
use Rattle.ipc_terms.specs.declared.ids.Family.TheVariants.{Mq, Sem}
use Rattle.ipc_terms.specs.declared.ids.Target.TheVariants.{Name}
use Rattle.ipc_terms.specs.declared.call.Access.{Access}
use Rattle.ipc_terms.specs.declared.call.Access.TheVariants.{Read, Write, Both}
use Rattle.ipc_terms.specs.declared.call.Attributes.{Attributes}
use Rattle.ipc_terms.specs.declared.call.Call.{Call}
use Rattle.ipc_terms.specs.declared.call.Call.TheVariants.{MqClose, MqSend, MqReceive, MqGetattr, MqSetattr, MqNotify, MqGive, SemClose, SemPost, SemWait, SemTryWait, SemGetvalue, ListNames, Chmod, Chown, SetLimit, Interrupt, Audit, MqTimedSend, MqTimedReceive, SemTimedWait}
use Rattle.ipc_terms.specs.declared.record.Event.{Event}
use Rattle.ipc_terms.specs.declared.record.Event.TheVariants.{Hello, Do, Hangup, Tick}
use Rattle.ipc_access.specs.declared.class.Cred.{Cred}
use Rattle.ipc_access.specs.Class.{granted}
use Rattle.ipc_access.specs.Sticky.{lets_remove}
use Rattle.ipc_access.specs.Ownership.{lets_chmod, lets_chown}
use Rattle.ipc_access.specs.Users.{cred_of}
pub use Rattle.ipc_policy.specs.declared.asking.Described.{Described}
use Rattle.ipc_policy.specs.declared.config.Config.{Config}
use Rattle.ipc_terms.specs.declared.facts.Facts.{Facts}
use Rattle.ipc_terms.specs.declared.object.Object.{Object}
use Rattle.ipc_terms.specs.declared.object.TheConstants.{SEM_VALUE_MAX}
use Rattle.ipc_terms.specs.declared.limits.TheConstants.{LIMIT_MAX, MQ_PRIO_MAX}
use Rattle.ipc_policy.specs.declared.config.TheConstants.{DESCRIPTIONS_MAX, HARD_MSG_MAX, HARD_MSGSIZE_MAX}
use Rattle.ipc_policy.specs.Decides.History.{History}
pub use Rattle.ipc_policy.specs.Decides.History.{is_some_and}
use Rattle.ipc_policy.specs.Decides.Sessions.{live, cred}
use Rattle.ipc_policy.specs.Decides.Names.{opening, unlinking, naming, is_bound, creating, Opening}
use Rattle.ipc_policy.specs.Decides.Objects.{object, kind_of, directory, facts_meant}
use Rattle.ipc_policy.specs.Decides.Descriptions.{holds, held_count, is_nonblock}
pub use Rattle.ipc_policy.specs.Decides.Bodies.{is_full, is_empty, is_zero, is_greatest}
use Rattle.ipc_policy.specs.Decides.Timed.{now, is_past}
use Rattle.ipc_policy.specs.Decides.Registrations.{registered}
use Rattle.ipc_policy.specs.Decides.Parking.{parked}
pub use Rattle.ipc_policy.specs.Decides.Charges.{bytes_of, charged, queues_alive, limit}

-- there is a user, and what has these facts does not grant it what is wanted: read is 4, write 2, search 1;
-- the caller of an accepted call is one (law `known`)
abbrev pub denied : Option Cred → Facts → ℕ → Bool
denied None at wanted = false
denied (Some who) at wanted = not (granted who at.owner at.group at.mode wanted)

-- the same where there is an object
abbrev pub denied_at : Option Cred → Option Facts → ℕ → Bool
denied_at who None wanted = false
denied_at who (Some at) wanted = denied who at wanted

-- the bits that an access wants
abbrev pub bits_wanted : Access → ℕ
bits_wanted Read = 4
bits_wanted Write = 2
bits_wanted Both = 6

-- the attributes are given, there is a user (law `known`), and one of them is 0 or above the user's limit
abbrev pub out_of_range : Config → Option Cred → Option Attributes → Bool
out_of_range c (Some who) (Some given) =
    (given.maxmsg == 0) || (given.msgsize == 0)
    || nat_lt (if who.uid.0 == 0 then HARD_MSG_MAX else c.limits.msg_max) given.maxmsg
    || nat_lt (if who.uid.0 == 0 then HARD_MSGSIZE_MAX else c.limits.msgsize_max) given.msgsize
out_of_range c _ _ = false

-- there is a user (law `known`), and it is another than user 0
abbrev pub is_not_admin : Option Cred → Bool
is_not_admin who = is_some_and (λ w. not (w.uid.0 == 0)) who

-- the attributes of the queue that an open makes, where it asks for a queue
abbrev pub queue_made : Config → Opening → Option Attributes
queue_made c asked = of_queue (kind_of c asked.kind)

-- the user's queues and one more of these attributes take more bytes together than the user's limit
abbrev pub above_limit : Config → History → Attributes → Cred → Bool
above_limit c h given who = is_some_and (λ most. nat_lt most (charged c h who.uid + bytes_of given)) (limit c h who.uid)

-- there are attributes and a user (law `known`), and the user's queues and one more of these attributes are above the user's limit
abbrev pub takes_too_much : Config → History → Option Attributes → Option Cred → Bool
takes_too_much c h given who = is_some_and (λ x. is_some_and (above_limit c h x) who) given

-- there are a user (law `known`) and an object, and the directory does not let the user remove the object's name
abbrev pub removal_denied : Option Cred → Facts → Option Facts → Bool
removal_denied (Some who) directory (Some at) = not (lets_remove who directory at.owner)
removal_denied _ directory _ = false

-- there are a user (law `known`) and something meant, and the user may not change what has such an owner
abbrev pub change_denied : (Cred → Uid → Bool) → Option Cred → Option Facts → Bool
change_denied lets (Some who) (Some at) = not (lets who at.owner)
change_denied lets _ _ = false

-- there is an object, and it is of the family
abbrev pub is_of_family : Family → Option Object → Bool
is_of_family family None = false
is_of_family family (Some x) = same_family (family_of x.kind) family

-- what session s has by description d
abbrev pub object_held : Config → History → ℕ → ℕ → Option Object
object_held c h s d = option_and_then (λ x. object c h x.object) (holds h s d)

-- the attributes of the queue that session s has by description d
abbrev pub attributes_held : Config → History → ℕ → ℕ → Option Attributes
attributes_held c h s d = as_queue (object_held c h s d)

-- session s does not hold description d, or it gives no object of the family
abbrev pub not_held : Config → History → ℕ → Family → ℕ → Bool
not_held c h s family d = not (is_of_family family (object_held c h s d))

-- the description that a call names, if it names one
abbrev pub described : Call → Option Described
described (MqClose desc) = Some (record { family = Mq; desc = desc })
described (MqSend desc priority bytes) = Some (record { family = Mq; desc = desc })
described (MqReceive desc length') = Some (record { family = Mq; desc = desc })
described (MqGetattr desc) = Some (record { family = Mq; desc = desc })
described (MqSetattr desc nonblock) = Some (record { family = Mq; desc = desc })
described (MqNotify desc on) = Some (record { family = Mq; desc = desc })
described (MqGive desc taker) = Some (record { family = Mq; desc = desc })
described (SemClose desc) = Some (record { family = Sem; desc = desc })
described (SemPost desc) = Some (record { family = Sem; desc = desc })
described (SemWait desc) = Some (record { family = Sem; desc = desc })
described (SemTryWait desc) = Some (record { family = Sem; desc = desc })
described (SemGetvalue desc) = Some (record { family = Sem; desc = desc })
described (MqTimedSend desc priority deadline bytes) = Some (record { family = Mq; desc = desc })
described (MqTimedReceive desc length' deadline) = Some (record { family = Mq; desc = desc })
described (SemTimedWait desc deadline) = Some (record { family = Sem; desc = desc })
described _ = None

-- the event is an open with CREAT
abbrev pub is_open_with_create : Event → Bool
is_open_with_create e = is_some_and (λ asked. has_create asked.flags) (opening e)

-- the event is an unlink, or an open that creates an object
abbrev pub changes_names : History → Event → Bool
changes_names h e = is_some (unlinking e) || is_some_and (creating h) (opening e)

-- the access does not let send
abbrev pub reads_only : Access → Bool
reads_only Read = true
reads_only _ = false

-- the access does not let receive
abbrev pub writes_only : Access → Bool
writes_only Write = true
writes_only _ = false

-- the call is an interrupt
abbrev pub is_interrupt : Call → Bool
is_interrupt Interrupt = true
is_interrupt _ = false

-- 1: a call or a hang-up of a session that is not live
unfoldable pub no_session : Config → History → Event → Bool
no_session c h (Hello found) = false
no_session c h (Do sid call) = not (live h sid.0)
no_session c h (Hangup sid) = not (live h sid.0)
no_session c h (Tick moment) = false

-- 2: any call but an interrupt while the session is parked; a hang-up is no call
unfoldable pub in_call : Config → History → Event → Bool
in_call c h (Do sid call) = not (is_interrupt call) && is_some (parked c h sid.0)
in_call c h _ = false

-- 3: an interrupt while the session is not parked
unfoldable pub not_in_call : Config → History → Event → Bool
not_in_call c h (Do sid call) = is_interrupt call && is_none (parked c h sid.0)
not_in_call c h _ = false

-- 4: a named call, and the name has not the form of a name
unfoldable pub name_form : Config → History → Event → Bool
name_form c h e = is_some_and (λ what. not (has_name_form what.name)) (naming e)

-- 5: a named call, and the name has more bytes in all than its family's limit
unfoldable pub name_long : Config → History → Event → Bool
name_long c h e = is_some_and (λ what. is_long_name what.family what.name) (naming e)

-- 6: a SetLimit or an Audit, by another than user 0
unfoldable pub not_admin : Config → History → Event → Bool
not_admin c h (Do sid (SetLimit uid bytes)) = is_not_admin (cred c h sid.0)
not_admin c h (Do sid (Audit start count)) = is_not_admin (cred c h sid.0)
not_admin c h _ = false

-- 7: a SetLimit of no user of the file
unfoldable pub no_user : Config → History → Event → Bool
no_user c h (Do sid (SetLimit uid bytes)) = is_none (cred_of c.users uid)
no_user c h _ = false

-- 8: a call that names a description, and the session does not hold it, or it gives an object of the other family
unfoldable pub bad_descr : Config → History → Event → Bool
bad_descr c h (Do sid call) = is_some_and (λ named. not_held c h sid.0 named.family named.desc.0) (described call)
bad_descr c h _ = false

-- 9: a send by a description that was opened for reading alone
unfoldable pub not_for_write : Config → History → Event → Bool
not_for_write c h (Do sid (MqSend desc priority bytes)) = is_some_and (λ x. reads_only x.access) (holds h sid.0 desc.0)
not_for_write c h _ = false

-- 10: a receive by a description that was opened for writing alone
unfoldable pub not_for_read : Config → History → Event → Bool
not_for_read c h (Do sid (MqReceive desc length')) = is_some_and (λ x. writes_only x.access) (holds h sid.0 desc.0)
not_for_read c h _ = false

-- 11: a named call, and search on the family's directory is not granted
unfoldable pub dir_search : Config → History → Event → Bool
dir_search c h e = is_some_and (λ what. denied (cred c h what.session.0) (directory h what.family) 1) (naming e)

-- 12: a listing, and read on the directory is not granted
unfoldable pub dir_read : Config → History → Event → Bool
dir_read c h (Do sid (ListNames family start count)) = denied (cred c h sid.0) (directory h family) 4
dir_read c h _ = false

-- 13: an open without CREAT, or a named call that is no open, and the name is unbound
unfoldable pub absent : Config → History → Event → Bool
absent c h e = not (is_open_with_create e) && is_some_and (λ what. not (is_bound h what.family what.name)) (naming e)

-- 14: an open with CREAT and EXCL, and the name is bound
unfoldable pub present : Config → History → Event → Bool
present c h e = is_some_and (λ asked. has_create asked.flags && has_exclusive asked.flags && is_bound h asked.family asked.name) (opening e)

-- 15: an open of a bound name, and the object does not grant the wanted access
unfoldable pub mode_denied : Config → History → Event → Bool
mode_denied c h e = is_some_and (λ asked. denied_at (cred c h asked.session.0) (facts_meant c h (Name asked.family asked.name)) (bits_wanted asked.access)) (opening e)

-- 16: a creating open, or an unlink, and write on the directory is not granted
unfoldable pub dir_write : Config → History → Event → Bool
dir_write c h e = changes_names h e && is_some_and (λ what. denied (cred c h what.session.0) (directory h what.family) 2) (naming e)

-- 17: an unlink of a bound name in a sticky directory, by another than user 0, the object's owner and the directory's
unfoldable pub sticky : Config → History → Event → Bool
sticky c h e = is_some_and (λ what. removal_denied (cred c h what.session.0) (directory h what.family) (facts_meant c h (Name what.family what.name))) (unlinking e)

-- 18: a chmod, by another than user 0 and the owner of what is meant
unfoldable pub not_owner : Config → History → Event → Bool
not_owner c h (Do sid (Chmod mode target)) = change_denied lets_chmod (cred c h sid.0) (facts_meant c h target)
not_owner c h _ = false

-- 19: a chown, by another than user 0 and an owner that stays the owner and keeps the group or takes one of its own
unfoldable pub chown_denied : Config → History → Event → Bool
chown_denied c h (Do sid (Chown owner group target)) = change_denied (λ who at. lets_chown who at owner group) (cred c h sid.0) (facts_meant c h target)
chown_denied c h _ = false

-- 20: a creating open with attributes that are 0 or above the caller's limits
unfoldable pub attr_range : Config → History → Event → Bool
attr_range c h e = is_some_and (λ asked. creating h asked && out_of_range c (cred c h asked.session.0) (attributes_asked asked.kind)) (opening e)

-- 21: a creating open of a semaphore with a first value above 2,147,483,647, or a SetLimit above 1,000,000,000,000,000
unfoldable pub value_range : Config → History → Event → Bool
value_range c h (Do sid (SetLimit uid bytes)) = nat_lt LIMIT_MAX bytes
value_range c h e = is_some_and (λ asked. creating h asked && is_some_and (nat_lt SEM_VALUE_MAX) (value_asked asked.kind)) (opening e)

-- 22: a creating open of a queue, by another than user 0, while `queues_max` queues or more are alive
unfoldable pub queue_count : Config → History → Event → Bool
queue_count c h e = is_some_and (λ asked. creating h asked && is_some (queue_made c asked) && is_not_admin (cred c h asked.session.0) && nat_le c.limits.queues_max (queues_alive c h)) (opening e)

-- 23: a creating open of a queue, and the caller's queues and the new one take more bytes together than the caller's limit
unfoldable pub byte_limit : Config → History → Event → Bool
byte_limit c h e = is_some_and (λ asked. creating h asked && takes_too_much c h (queue_made c asked) (cred c h asked.session.0)) (opening e)

-- 24: an open while the session holds 1,024 descriptions, or a give while its taker does
unfoldable pub descr_limit : Config → History → Event → Bool
descr_limit c h (Do sid (MqGive desc taker)) = nat_le DESCRIPTIONS_MAX (held_count h taker.0)
descr_limit c h e = is_some_and (λ asked. nat_le DESCRIPTIONS_MAX (held_count h asked.session.0)) (opening e)

-- 25: a send with a priority of 32,768 or more
unfoldable pub prio_range : Config → History → Event → Bool
prio_range c h (Do sid (MqSend desc priority bytes)) = nat_le MQ_PRIO_MAX priority
prio_range c h _ = false

-- 26: a send that is longer than the queue's message size
unfoldable pub message_long : Config → History → Event → Bool
message_long c h (Do sid (MqSend desc priority bytes)) = is_some_and (λ x. nat_lt x.msgsize (length bytes)) (attributes_held c h sid.0 desc.0)
message_long c h _ = false

-- 27: a receive with a length below the queue's message size
unfoldable pub buffer_short : Config → History → Event → Bool
buffer_short c h (Do sid (MqReceive desc length')) = is_some_and (λ x. nat_lt length' x.msgsize) (attributes_held c h sid.0 desc.0)
buffer_short c h _ = false

-- 28: a notify on, and the queue has a registration
unfoldable pub notify_taken : Config → History → Event → Bool
notify_taken c h (Do sid (MqNotify desc on)) = on && is_some_and (λ x. is_some (registered c h x.object)) (holds h sid.0 desc.0)
notify_taken c h _ = false

-- 29: a send to a full queue, or a receive from an empty one, by a description with NONBLOCK; a trywait at 0
unfoldable pub would_block : Config → History → Event → Bool
would_block c h (Do sid (MqSend desc priority bytes)) = is_nonblock h desc.0 && is_some_and (λ x. is_full c h x.object) (holds h sid.0 desc.0)
would_block c h (Do sid (MqReceive desc length')) = is_nonblock h desc.0 && is_some_and (λ x. is_empty c h x.object) (holds h sid.0 desc.0)
would_block c h (Do sid (SemTryWait desc)) = is_some_and (λ x. is_zero c h x.object) (holds h sid.0 desc.0)
would_block c h _ = false

-- 30: a post at 2,147,483,647
unfoldable pub overflow : Config → History → Event → Bool
overflow c h (Do sid (SemPost desc)) = is_some_and (λ x. is_greatest c h x.object) (holds h sid.0 desc.0)
overflow c h _ = false

-- 31: a hello for no user of the file
unfoldable pub bad_key : Config → History → Event → Bool
bad_key c h (Hello found) = is_none (option_and_then (cred_of c.users) found)
bad_key c h _ = false

-- an event that parks, if it is accepted: a send to a full queue, a receive from an empty one, a wait at 0
abbrev pub would_park : Config → History → Event → Bool
would_park c h (Do sid (MqSend desc priority bytes)) = is_some_and (λ x. is_full c h x.object) (holds h sid.0 desc.0)
would_park c h (Do sid (MqReceive desc length')) = is_some_and (λ x. is_empty c h x.object) (holds h sid.0 desc.0)
would_park c h (Do sid (SemWait desc)) = is_some_and (λ x. is_zero c h x.object) (holds h sid.0 desc.0)
would_park c h _ = false

-- 32: a timed call that would park, and whose deadline is past
unfoldable pub timed_out : Config → History → Event → Bool
timed_out c h e = is_past (now h) (deadline e) && would_park c h (plain e)

-- the rule asks no deadline: it forbids a timed call where it forbids it without its deadline
abbrev pub plainly : (Config → History → Event → Bool) → Config → History → Event → Bool
plainly rule c h e = rule c h (plain e)

-- 33: a give to a session that is not live, or to the session itself
unfoldable pub no_taker : Config → History → Event → Bool
no_taker c h (Do sid (MqGive desc taker)) = not (live h taker.0) || (taker.0 == sid.0)
no_taker c h _ = false

-- whether the rule forbids the event after the history
unfoldable pub forbids : Rule → Config → History → Event → Bool
forbids NoSession = no_session
forbids InCall = in_call
forbids NotInCall = not_in_call
forbids NameForm = name_form
forbids NameLong = name_long
forbids NotAdmin = not_admin
forbids NoUser = no_user
forbids BadDescr = plainly bad_descr
forbids NotForWrite = plainly not_for_write
forbids NotForRead = plainly not_for_read
forbids DirSearch = dir_search
forbids DirRead = dir_read
forbids Absent = absent
forbids Present = present
forbids ModeDenied = mode_denied
forbids DirWrite = dir_write
forbids Sticky = sticky
forbids NotOwner = not_owner
forbids ChownDenied = chown_denied
forbids AttrRange = attr_range
forbids ValueRange = value_range
forbids QueueCount = queue_count
forbids ByteLimit = byte_limit
forbids DescrLimit = descr_limit
forbids PrioRange = plainly prio_range
forbids MessageLong = plainly message_long
forbids BufferShort = plainly buffer_short
forbids NotifyTaken = notify_taken
forbids WouldBlock = plainly would_block
forbids Overflow = overflow
forbids BadKey = bad_key
forbids TimedOut = timed_out
forbids NoTaker = no_taker
