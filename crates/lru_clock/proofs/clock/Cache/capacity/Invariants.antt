use Rattle.std.proofs.Common.{◌≤◌, ◌*◌}
use Rattle.lru_clock.proofs.clock.Cache.capacity.Given as goal

abbrev pub invariant-loop-shard : goal.invariant-loop-shard
invariant-loop-shard g l = l.capacity ≤ l.shard-index * 18446744073709551615
