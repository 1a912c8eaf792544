use Rattle.lru_bench.proofs.refused.twin.play.Given as goal

abbrev pub ghosts-play_twin : goal.ghosts-play_twin
ghosts-play_twin g a = record { name = a.opening }
