use Rattle.std.proofs.Common.{◌≡◌, ◌≤◌, ◌*◌, take}
use Rattle.std.specs.Prelude.{sum_by}
use Rattle.concurrent_lru.specs.Cache.{pinned_of}
use Rattle.concurrent_lru.proofs.shards.Shards.pinned_charge.Given as goal

abbrev pub invariant-loop-shard : goal.invariant-loop-shard
invariant-loop-shard g l = (l.pinned ≡ sum_by pinned_of (take l.shard-index l.self.caches)) × (l.pinned ≤ l.shard-index * 18446744073709551615)
