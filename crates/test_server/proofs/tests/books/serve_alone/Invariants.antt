use Rattle.test_server.proofs.tests.books.serve_alone.Given as goal

abbrev pub ghosts-serve_in : goal.ghosts-serve_in
ghosts-serve_in g a = record { name = a.blank.name; parts = a.blank.parts }
