use Rattle.workloads.proofs.pipeline.live.Given as goal

-- the ledger that the blank opens
abbrev pub ghosts-live_with : goal.ghosts-live_with
ghosts-live_with g a = record { name = a.blank.name; parts = a.blank.parts }
