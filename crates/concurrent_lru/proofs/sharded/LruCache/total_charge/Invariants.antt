use Rattle.std.proofs.Common.{◌≤◌, ◌*◌}
use Rattle.concurrent_lru.proofs.sharded.LruCache.total_charge.Given as goal

abbrev pub invariant-loop-shard : goal.invariant-loop-shard
invariant-loop-shard g l = l.total ≤ l.shard-index * 18446744073709551615
