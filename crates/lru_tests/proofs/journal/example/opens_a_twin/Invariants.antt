use Rattle.lru_tests.proofs.journal.example.opens_a_twin.Given as goal

abbrev pub ghosts-asks_once : goal.ghosts-asks_once
ghosts-asks_once g a = record { name = a.opening }
