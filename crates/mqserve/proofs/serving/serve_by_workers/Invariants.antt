use Rattle.mqserve.proofs.serving.serve_by_workers.Given as goal

-- the ledger that the blank opens
abbrev pub ghosts-serve_book : goal.ghosts-serve_book
ghosts-serve_book g a = record { name = a.blank.name; parts = a.blank.parts }
