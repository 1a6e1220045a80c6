-- How a seat's receipts go on.
use Rattle.std.specs.Prelude.{ℕ, ◌≡◌, List, ◌++◌}
use Rattle.ipc_terms.specs.Lists.{Each}
use Rattle.ipc_terms.specs.declared.record.Event.TheVariants.{Tick}
use Rattle.ipc_book.specs.declared.entry.Entry.{Entry}

-- the first list, and then what came after it
abbrev pub BeginsWith : {A : Type 0} → List A → List A → Type 0
BeginsWith {A} xs ys = (rest : List A) × (xs ++ rest ≡ ys)

-- the event of a receipt is a tick, of a moment that was shown
abbrev pub IsTickOf : (ℕ → Type 0) → Entry → Type 0
IsTickOf shown x = (moment : ℕ) × (x.event ≡ Tick moment) × shown moment

-- the first list, and then receipts of ticks alone, each of a moment that was shown
abbrev pub GoesOnByTicks : (ℕ → Type 0) → List Entry → List Entry → Type 0
GoesOnByTicks shown xs ys = (rest : List Entry) × (xs ++ rest ≡ ys) × Each (IsTickOf shown) rest
