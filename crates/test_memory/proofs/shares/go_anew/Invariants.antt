use Rattle.test_memory.proofs.shares.go_anew.Given as goal

abbrev pub ghosts-go_once : goal.ghosts-go_once
ghosts-go_once g a = record { name = a.blank.name; parts = a.blank.parts }
