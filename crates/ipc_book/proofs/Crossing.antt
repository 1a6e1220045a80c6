-- A book may go to another thread, so threads may share it behind its lock. It is proved of each type that holds a queue in turn: of
-- what a queue remembers for proofs alone no fact is made.
use mathlib.Core.List.{[], ◌∷◌}
use base.Fml.{Lft}
use mir.Syntax.{Lifetime}
use denote.Ref.{ShrRef}
use denote.RattleType.{RattleType}
use denote.Param.Send.{IsSend, IsSync, sendable, recorded_send, struct_send, shr_send}
use denote.Struct.Declared.{shape}
use denote.Struct.Struct.{Struct}
use denote.Struct.Tuple.{TupleAt, type_at}
use Rattle.std.specs.contracts.alloc.Global as heap
use Rattle.std.specs.contracts.snapshot.Snapshot as snapshot
use Rattle.std.proofs.option.Option.TheSendSync as option
use Rattle.ipc_containers.proofs.boxes.NumberedBoxes.TheSendSync as numbered
use Rattle.std.proofs.vec.Vec.TheSendSync as vec
use Rattle.std.proofs.alloc.Global.TheSendSync as global
use Rattle.std.below.std_heap.proofs.GlobalAllocator.TheSendSync as globals
use Rattle.std.specs.declared.sync.ledger.Ledger.{Ghosts}
use Rattle.std.proofs.sync.ledger.Book.TheSendSync as total
use Rattle.std.proofs.sync.ledger.Share.TheSendSync as share
use Rattle.std.proofs.sync.Mutex.TheSendSync as mutex
use Rattle.ipc_book.proofs.bell.Bells.TheSendSync as bells
use Rattle.ipc_terms.proofs.ids.Sid.TheSendSync as sid
use Rattle.ipc_terms.proofs.ids.Desc.TheSendSync as desc
use Rattle.ipc_terms.proofs.object.Object.TheSendSync as object
use Rattle.ipc_terms.proofs.facts.Facts.TheSendSync as facts
use Rattle.ipc_containers.proofs.buckets.Buckets.TheSendSync as buckets
use Rattle.ipc_containers.proofs.waiters.Waiters.TheSendSync as waiters
use Rattle.ipc_queue.specs.contracts.contents.Contents as contents
use Rattle.ipc_queue.specs.contracts.queue.Queue as queue
use Rattle.ipc_queue.specs.contracts.queue.Queue.TheInside as queue_inside
use Rattle.ipc_queue.proofs.queue.Ticket.TheSendSync as ticket
use Rattle.ipc_queue.proofs.queue.ParkedSend.TheSendSync as parked
use Rattle.ipc_sem.proofs.semaphore.Sem.TheSendSync as sem
use Rattle.ipc_names.proofs.directory.NameDir.TheSendSync as dir
use Rattle.ipc_descr.proofs.descriptions.Descrs.TheSendSync as descrs
use Rattle.ipc_descr.proofs.charges.Charges.TheSendSync as charges
use Rattle.ipc_tables.specs.contracts.rows.Body as body
use Rattle.ipc_tables.specs.contracts.rows.ObjectRow as row
use Rattle.ipc_tables.specs.contracts.objects.Objects as objects
use Rattle.ipc_tables.specs.contracts.tables.Tables as tables
use Rattle.ipc_tables.specs.contracts.tables.Tables.TheInside as tables_inside
use Rattle.ipc_tables.specs.contracts.sessions.Sessions as sessions
use Rattle.ipc_tables.specs.contracts.sessions.Sessions.TheInside as sessions_inside
use Rattle.ipc_tables.proofs.rows.Session.TheSendSync as session_row
use Rattle.ipc_containers.proofs.numbered.Numbered.TheSendSync as numbered_values
use Rattle.ipc_trail.specs.contracts.trail.Trail as trail
use Rattle.ipc_trail.specs.contracts.trail.Trail.TheInside as trail_inside
use Rattle.ipc_terms.proofs.record.Record.TheSendSync as record'
use Rattle.std.proofs.collections.VecDeque.TheSendSync as deque
use Rattle.ipc_policy.proofs.config.Config.TheSendSync as config
use Rattle.ipc_state.specs.contracts.clock.Clock as clock
use Rattle.ipc_state.specs.contracts.states.State as state
use Rattle.ipc_state.specs.contracts.states.State.TheInside as state_inside
use Rattle.ipc_core.specs.contracts.core_state.Core as core
use Rattle.ipc_core.specs.contracts.core_state.Core.TheInside as core_inside
use Rattle.ipc_book.proofs.TreeCrossing.{timed_calls_send}
use Rattle.ipc_book.specs.contracts.book.Book as book
use Rattle.ipc_book.specs.contracts.book.Book.TheInside as book_inside
use Rattle.ipc_book.specs.contracts.shared.Shared as shared
use Rattle.ipc_core.proofs.outboxes.Outboxes.TheSendSync as outboxes

pub snapshot_send : (Y : RattleType) → IsSend (snapshot.the_row Y)
snapshot_send Y = record { owned = λ d vs. ((λ vss. (tt, ((λ uss. (tt, tt)), tt))), tt); leaving = λ k f vs. tt }

pub trail_inside_send : IsSend trail_inside.the_row
trail_inside_send = search (sendable, deque.the_send, record'.the_send, snapshot_send, global.the_send, globals.the_frees) depth 20

pub trail_send : IsSend trail.the_row
trail_send = search (sendable, trail_inside_send) depth 20

pub contents_send : IsSend contents.the_row
contents_send = search (sendable, buckets.the_field_send, ticket.the_send, snapshot_send) depth 20

pub queue_inside_send : IsSend queue_inside.the_row
queue_inside_send = search (sendable, contents_send, waiters.the_send, parked.the_send, sid.the_send, desc.the_send, option.the_field_send) depth 20

pub queue_send : IsSend queue.the_row
queue_send = search (sendable, queue_inside_send) depth 20

pub body_send : IsSend (body.the_field).row
body_send = search (sendable, queue_send, sem.the_send) depth 20

pub row_send : IsSend row.the_row
row_send = search (sendable, body_send, object.the_field_send, facts.the_field_send) depth 20

pub objects_send : IsSend (objects.the_field).row
objects_send = search (sendable, row_send, numbered.the_send, charges.the_send, global.the_send, globals.the_frees) depth 20

pub sessions_inside_send : IsSend sessions_inside.the_row
sessions_inside_send = search (sendable, numbered_values.the_send, session_row.the_send, snapshot_send, global.the_send, globals.the_frees) depth 20

pub sessions_send : IsSend sessions.the_row
sessions_send = search (sendable, sessions_inside_send) depth 20

pub tables_inside_send : IsSend tables_inside.the_row
tables_inside_send = search (sendable, objects_send, globals.the_frees, global.the_send, sessions_send, dir.the_send, descrs.the_send) depth 20

pub tables_send : IsSend tables.the_row
tables_send = search (sendable, tables_inside_send) depth 20

pub clock_send : IsSend (clock.the_field).row
clock_send = search (sendable, timed_calls_send) depth 20

pub state_inside_send : IsSend state_inside.the_row
state_inside_send = search (sendable, tables_send, clock_send, trail_send, config.the_field_send) depth 20

pub state_send : IsSend state.the_row
state_send = search (sendable, state_inside_send) depth 20

pub core_inside_send : IsSend core_inside.the_row
core_inside_send = search (sendable, state_send, outboxes.the_field_send) depth 20

pub core_send : IsSend core.the_row
core_send = search (sendable, core_inside_send) depth 20

pub book_inside_send : (L : RattleType) (g : Ghosts L.Denot) → IsSend (book_inside.the_row L g)
book_inside_send L g = search (sendable, core_send, total.the_send, share.the_send, vec.the_send, global.the_send, globals.the_frees) depth 20

pub book_send : (L : RattleType) (g : Ghosts L.Denot) → IsSend (book.the_row L g)
book_send L g = search (sendable, book_inside_send) depth 20

pub shared_sync : (L : RattleType) (g : Ghosts L.Denot) → IsSync (shared.the_row L g)
shared_sync L g = search (sendable, book_send, bells.the_send, bells.the_field_send, mutex.the_sync) depth 20

-- what a closure holds that borrows two values and has the allocator: it may go to another thread if both may be shared
pub borrows_send : (ℓ ℓ' : Lifetime) (κ κ' : Lft) (R S : RattleType) → IsSync R → IsSync S → IsSend (TupleAt [] (ShrRef ℓ κ R ∷ heap.the_row ∷ ShrRef ℓ' κ' S ∷ []))
borrows_send ℓ ℓ' κ κ' R S r s =
    let T = type_at [] (ShrRef ℓ κ R ∷ heap.the_row ∷ ShrRef ℓ' κ' S ∷ []) in
    recorded_send (Struct (shape T)) T.D T.to T.to_one (struct_send (shape T) (shr_send ℓ κ R r, (global.the_send, (shr_send ℓ' κ' S s, tt))))
