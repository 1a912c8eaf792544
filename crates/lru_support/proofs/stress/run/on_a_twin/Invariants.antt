use Rattle.lru_support.proofs.stress.run.on_a_twin.Given as goal

-- the twin has the name of its opening
abbrev pub ghosts-share : goal.ghosts-share
ghosts-share g a = record { name = a.opening }
