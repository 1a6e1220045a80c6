-- Threads may share what a connection's reader and writer have.
use mathlib.Core.List.{[], ◌∷◌}
use base.Fml.{Lft}
use mir.Syntax.{Lifetime, Sym}
use denote.RattleType.{RattleType}
use denote.Ref.{ShrRef, NamedLft}
use denote.Param.Send.{IsSend, IsSync, sendable, recorded_send, struct_send, shr_send}
use denote.Struct.Struct.{Struct}
use denote.Struct.Declared.{shape}
use denote.Struct.Tuple.{TupleAt, type_at}
use Rattle.std.specs.declared.sync.ledger.Ledger.{Ghosts}
use Rattle.std.proofs.sync.Arc.TheSendSync as arc
use Rattle.std.proofs.alloc.Global.TheSendSync as global
use Rattle.std.below.std_heap.proofs.GlobalAllocator.TheSendSync as globals
use Rattle.ipc_book.proofs.bell.Bell.TheSendSync as bell
use Rattle.ipc_book.proofs.Crossing.{shared_sync}
use Rattle.ipc_server.specs.declared.held.Origin.{Ghosts as Origins}
use Rattle.ipc_server.specs.contracts.desk.Desk as desk
use Rattle.ipc_server.proofs.desk.Chair.TheSendSync as chair
use Rattle.crossbeam_channel.proofs.channel.Receiver.TheSendSync as receiver
use Rattle.ipc_book.specs.contracts.seat.Seat as seat
use Rattle.ipc_book.proofs.seat.Seat.TheSendSync as seats
use Rattle.ipc_server.specs.contracts.workers.Crew as crew

pub desk_sync : (a : NamedLft) (L B G J : RattleType) (l : Ghosts L.Denot) (b : Origins B.Denot) → IsSend L → IsSync L → IsSend B → IsSync B → IsSync G → IsSync J → IsSync (desk.the_row a L B G J l b)
desk_sync a L B G J l b sl yl sb yb yg yj = search (sendable, shared_sync, chair.the_sync, arc.the_sync, bell.the_send, bell.the_sync, global.the_send, global.the_sync, globals.the_frees) depth 20

-- what a closure holds that borrows two values and owns a third: it may go to another thread if the two may be shared, and the third may go
pub borrows_send : (ν : Sym) (ℓ ℓ' : Lifetime) (κ κ' : Lft) (R S O : RattleType) → IsSync R → IsSync S → IsSend O → IsSend (TupleAt ν (ShrRef ℓ κ R ∷ ShrRef ℓ' κ' S ∷ O ∷ []))
borrows_send ν ℓ ℓ' κ κ' R S O r s o =
    let T = type_at ν (ShrRef ℓ κ R ∷ ShrRef ℓ' κ' S ∷ O ∷ []) in
    recorded_send (Struct (shape T)) T.D T.to T.to_one (struct_send (shape T) (shr_send ℓ κ R r, (shr_send ℓ' κ' S s, (o, tt))))

pub seat_send : (L : RattleType) (l : Ghosts L.Denot) → IsSend L → IsSend (seat.the_row L l)
seat_send L l sl = search (sendable, seats.the_send) depth 20

-- what workers share
pub crew_sync : (a : NamedLft) (L C G J : RattleType) (l : Ghosts L.Denot) → IsSend L → IsSync L → IsSend C → IsSync G → IsSync J → IsSync (crew.the_row a L C G J l)
crew_sync a L C G J l sl yl sc yg yj = search (sendable, shared_sync, receiver.the_sync, global.the_send, global.the_sync, globals.the_frees) depth 20
