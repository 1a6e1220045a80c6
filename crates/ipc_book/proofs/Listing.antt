-- What a fault of a close says of the seats alone.
use Rattle.std.proofs.Common.{◌≡◌, ℕ, ◌<◌, ◌⊎◌, List, [], ◌∷◌, inl, inr, arith}
use Rattle.ipc_policy.specs.Decides.History.{History}
use Rattle.ipc_book.specs.declared.entry.Entry.{Entry}
use Rattle.ipc_book.specs.declared.entry.CloseFault.{CloseFault}
use Rattle.ipc_book.specs.declared.entry.CloseFault.TheVariants.{SeatOut, Missing, NoMemory}
use Rattle.ipc_book.specs.Seats.{SeatView, BookView}
use Rattle.ipc_book.specs.Closing.{Occurs, IsListed, CloseFaultSays, FaultSaysOf, all_kept}
use Rattle.ipc_book.proofs.Counts.{entry_place}

listed : (h : History) (p : ℕ) (xs : List Entry) (n : ℕ) → 0 < n → Occurs h p xs n → IsListed p xs
listed h p [] n more none = absurd (omega arith)
listed h p (x ∷ xs) n more at =
    elim at [
      | inl here ↦ inl (entry_place h p x here.0)
      | inr later ↦ inr (listed h p xs n more later.1)
    ]

pub seats_told : (b : BookView) (seats : List SeatView) (fault : CloseFault) → CloseFaultSays b seats fault → FaultSaysOf seats fault
seats_told b seats (SeatOut n) says = says.0
seats_told b seats (Missing p) says = λ q below. listed b.core.history q (all_kept seats) 1 (omega arith) (says.1.before q below)
seats_told b seats NoMemory says = tt
