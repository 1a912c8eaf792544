use Rattle.lru_tests.proofs.journal.threads.two_callers_make_one_history.Given as goal

abbrev pub ghosts-use_twenty_keys : goal.ghosts-use_twenty_keys
ghosts-use_twenty_keys g a = record { name = a.opening }
