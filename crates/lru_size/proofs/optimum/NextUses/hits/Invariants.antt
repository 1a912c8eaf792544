use Rattle.std.proofs.Common.{◌≤◌}
use Rattle.lru_size.proofs.optimum.NextUses.hits.Given as goal

abbrev pub invariant-loop-place : goal.invariant-loop-place
invariant-loop-place l = l.hits ≤ l.place
