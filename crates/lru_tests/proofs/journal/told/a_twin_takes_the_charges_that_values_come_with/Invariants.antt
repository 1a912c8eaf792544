use Rattle.lru_tests.proofs.journal.told.a_twin_takes_the_charges_that_values_come_with.Given as goal

abbrev pub ghosts-tells_charges : goal.ghosts-tells_charges
ghosts-tells_charges g a = record { name = a.opening }
