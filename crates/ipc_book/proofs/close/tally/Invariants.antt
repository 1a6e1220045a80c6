use Rattle.std.proofs.Common.{◌≡◌, ◌++◌, true, false, List, take}
use Rattle.ipc_book.specs.declared.entry.Entry.{Entry}
use Rattle.ipc_book.specs.Closing.{AllInTrail, Counted}
use Rattle.ipc_book.proofs.close.tally.Given as goal

abbrev pub invariant-loop-entry : goal.invariant-loop-entry
invariant-loop-entry l = record {
  stand : l.all ≡ true → AllInTrail l.core.history (take l.entry-index l.entries.items);
  fall : l.all ≡ false → AllInTrail l.core.history (take l.entry-index l.entries.items) → ⊥;
  counted : (ks : List Entry) → Counted l.core.history l.initial.counts ks → Counted l.core.history l.counts (ks ++ take l.entry-index l.entries.items);
}
