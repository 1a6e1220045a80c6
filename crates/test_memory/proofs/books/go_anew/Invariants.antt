use Rattle.test_memory.proofs.books.go_anew.Given as goal

abbrev pub ghosts-go_once : goal.ghosts-go_once
ghosts-go_once a = record { name = a.blank.name; parts = a.blank.parts }
