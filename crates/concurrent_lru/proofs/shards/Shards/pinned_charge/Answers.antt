use Rattle.std.proofs.Common.{arith}
use Rattle.concurrent_lru.specs.Cache.{pinned_of}
use Rattle.concurrent_lru.proofs.SideBySide.OneOfMany.{sum-more}
use Rattle.concurrent_lru.proofs.shards.Shards.pinned_charge.Goals as goal

pub loop-shard-preserved : goal.loop-shard-preserved
loop-shard-preserved g c =
    let whole = sum-more pinned_of c.self.inside.shards.items c.loop-shard.shard-index c.self.view_is c.deref-shard-items.ensures.value (omega arith) c.shard-item.is in
    let before = c.loop-shard.invariant in
    let one = c.pinned_charge.ensures in
    let more = c.from-pinned.ensures in
    (omega (arith, whole, before.0, one, more), omega (arith, before.1, one, more))
