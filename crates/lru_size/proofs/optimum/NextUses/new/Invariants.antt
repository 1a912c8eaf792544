use Rattle.std.proofs.Common.{◌≡◌, vec_len}
use Rattle.lru_size.proofs.optimum.NextUses.new.Given as goal

abbrev pub invariant-loop-place : goal.invariant-loop-place
invariant-loop-place l = vec_len l.uses ≡ l.place
