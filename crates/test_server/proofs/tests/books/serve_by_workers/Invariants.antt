use Rattle.test_server.proofs.tests.books.serve_by_workers.Given as goal

abbrev pub ghosts-work_in : goal.ghosts-work_in
ghosts-work_in g a = record { name = a.blank.name; parts = a.blank.parts }
