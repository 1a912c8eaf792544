use Rattle.std.proofs.Common.{◌≡◌, ◌<◌, ◌^◌, take}
use Rattle.std.specs.Prelude.{sum_by}
use Rattle.concurrent_lru.specs.Cache.{count_of}
use Rattle.concurrent_lru.proofs.shards.Shards.len.Given as goal

abbrev pub invariant-loop-shard : goal.invariant-loop-shard
invariant-loop-shard g l = sum_by count_of (take l.shard-index l.self.caches) < 2 ^ 64 → l.len ≡ sum_by count_of (take l.shard-index l.self.caches)
