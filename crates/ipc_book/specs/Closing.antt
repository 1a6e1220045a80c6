-- When the seats' receipts together are the whole trail.
use Rattle.std.specs.Prelude.{ℕ, ◌≡◌, ◌≢◌, ◌+◌, ◌-◌, ◌<◌, ◌≤◌, ◌⊎◌, ⊤, Option, Some, List, [], ◌∷◌, length, slice_get, slice_index, flat_map, min}
use Rattle.std.specs.Option.{option_map}
use Rattle.ipc_terms.specs.Lines.{line_of}
use Rattle.ipc_terms.specs.declared.record.Record.{Record}
use Rattle.ipc_trail.specs.Receipts.{receipt_of}
use Rattle.ipc_policy.specs.Decides.History.{History, record_at}
use Rattle.ipc_book.specs.declared.entry.Entry.{Entry}
use Rattle.ipc_book.specs.declared.entry.CloseFault.{CloseFault}
use Rattle.ipc_book.specs.declared.entry.CloseFault.TheVariants.{SeatOut, Missing, NoMemory}
use Rattle.ipc_book.specs.Seats.{SeatView, BookView, IsInOrder}

-- the receipt and the event of a record at its place
abbrev pub entry_of : ℕ → Record → Entry
entry_of place r = record { receipt = receipt_of (line_of place r); event = r.event }

abbrev pub entry_at : History → ℕ → Option Entry
entry_at h place = option_map (entry_of place) (record_at place h)

-- a receipt and its event stand in the history, at the receipt's place
abbrev pub IsInTrail : History → Entry → Type 0
IsInTrail h x = entry_at h x.receipt.place ≡ Some x

abbrev pub AllInTrail : History → List Entry → Type 0
AllInTrail h [] = ⊤
AllInTrail h (x ∷ xs) = IsInTrail h x × AllInTrail h xs

-- the receipt and the event of a place are n times in the list
abbrev pub Occurs : History → ℕ → List Entry → ℕ → Type 0
Occurs h p [] n = n ≡ 0
Occurs h p (x ∷ xs) n = ((entry_at h p ≡ Some x) × (0 < n) × Occurs h p xs (n - 1)) ⊎ ((entry_at h p ≢ Some x) × Occurs h p xs n)

-- all that the seats keep
abbrev pub all_kept : List SeatView → List Entry
all_kept seats = flat_map (λ (s : SeatView). s.list) seats

-- the seats' receipts are the trail: each receipt and its event stand in it, in the seat's order, and those of each place are in all
-- lists together once
pub record AreTheTrail (h : History) (seats : List SeatView) : Type 0 where
  pub stand : AllInTrail h (all_kept seats)
  pub once : (p : ℕ) → p < length h → Occurs h p (all_kept seats) 1
  pub order : (i : ℕ) (s : SeatView) → slice_get seats i ≡ Some s → IsInOrder s.list

-- p is the first place whose receipt and event are not in the list, or more than once; or it is the length, where those of each place
-- are there once and something else is in the list
pub record FirstMissing (h : History) (xs : List Entry) (p : ℕ) : Type 0 where
  pub before : (q : ℕ) → q < p → Occurs h q xs 1
  pub within : p ≤ length h
  pub here : p < length h → (n : ℕ) × Occurs h p xs n × (n ≢ 1)
  pub past : p ≡ length h → AllInTrail h xs → ⊥

-- one count a place: how often its receipt and event are in the list, up to 2
abbrev pub Counted : History → List ℕ → List Entry → Type 0
Counted h counts xs = (p : ℕ) → p < length h → (n : ℕ) × Occurs h p xs n × (slice_index counts p ≡ min 2 n)

-- why a book is not closed: so many seats are out; or none is, and this place is missing, or memory ran out
abbrev pub CloseFaultSays : BookView → List SeatView → CloseFault → Type 0
CloseFaultSays b seats (SeatOut n) = (0 < n) × (length seats + n ≡ b.seats)
CloseFaultSays b seats (Missing p) = (b.seats ≤ length seats) × FirstMissing b.core.history (all_kept seats) p
CloseFaultSays b seats NoMemory = b.seats ≤ length seats

-- a receipt of this place is in the list
abbrev pub IsListed : ℕ → List Entry → Type 0
IsListed p [] = ⊥
IsListed p (x ∷ xs) = (x.receipt.place ≡ p) ⊎ IsListed p xs

-- what a fault says of the seats that were handed in, whatever the book was: one or more are out; or they keep a receipt of each place
-- below the missing one
abbrev pub FaultSaysOf : List SeatView → CloseFault → Type 0
FaultSaysOf seats (SeatOut n) = 0 < n
FaultSaysOf seats (Missing p) = (q : ℕ) → q < p → IsListed q (all_kept seats)
FaultSaysOf seats NoMemory = ⊤
