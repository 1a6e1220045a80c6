use Rattle.ipc_server.proofs.serve.serve_told.Given as goal

abbrev pub ghosts-serve_from : goal.ghosts-serve_from
ghosts-serve_from g a = record { list = a.seat.list }
