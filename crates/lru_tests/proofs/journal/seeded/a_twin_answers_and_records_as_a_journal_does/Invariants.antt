use Rattle.lru_tests.proofs.journal.seeded.a_twin_answers_and_records_as_a_journal_does.Given as goal

abbrev pub ghosts-compare : goal.ghosts-compare
ghosts-compare g a = record { name = a.opening }
