use Rattle.std.proofs.Common.{◌≡◌, ◌<◌, [], ℕ, true, false, Some, slice_get, take}
use Rattle.ipc_book.specs.Seats.{SeatView, IsInOrder}
use Rattle.ipc_book.specs.Closing.{AllInTrail, Counted, all_kept}
use Rattle.ipc_book.proofs.close.tally_all.Given as goal

abbrev pub invariant-loop-seat : goal.invariant-loop-seat
invariant-loop-seat g l = record {
  stand : l.all ≡ true → AllInTrail l.core.history (all_kept (take l.seat-index l.seats.items));
  fall : l.all ≡ false → AllInTrail l.core.history (all_kept (take l.seat-index l.seats.items)) → ⊥;
  counted : Counted l.core.history l.initial.counts [] → Counted l.core.history l.counts (all_kept (take l.seat-index l.seats.items));
  order : (i : ℕ) (s : SeatView) → i < l.seat-index → slice_get l.seats.items i ≡ Some s → IsInOrder s.list;
}
