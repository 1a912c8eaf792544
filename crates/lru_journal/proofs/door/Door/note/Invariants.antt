use Rattle.lru_journal.proofs.door.Door.note.Given as goal

-- the record that the journal has added last
abbrev pub ghosts-append : goal.ghosts-append
ghosts-append g a = record { made = a.noted.now }
