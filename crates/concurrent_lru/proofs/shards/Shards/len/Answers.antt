use Rattle.std.proofs.Common.{arith}
use Rattle.concurrent_lru.specs.Cache.{count_of}
use Rattle.concurrent_lru.proofs.SideBySide.OneOfMany.{sum-more}
use Rattle.concurrent_lru.proofs.shards.Shards.len.Goals as goal

pub loop-shard-preserved : goal.loop-shard-preserved
loop-shard-preserved g c = λ small.
    let whole = sum-more count_of c.self.inside.shards.items c.loop-shard.shard-index c.self.view_is c.deref-shard-items.ensures.value (omega arith) c.shard-item.is in
    let before = c.loop-shard.invariant (omega (arith, whole, small)) in
    let more = c.len.ensures in
    let next = c.saturating_add-len.ensures in
    omega (arith, small, whole, before, more, next)
