-- The books are in the order of the shards.
use Rattle.std.proofs.Common.{subst}
use Rattle.concurrent_lru.specs.Sharded.{key_number}
use Rattle.lru_clock.specs.Shards.{IsShardOf}
use Rattle.lru_clock.proofs.Pasts.{shard_map}
use Rattle.lru_clock.proofs.clock.Cache.route.Goals as goal

pub returns : goal.returns
returns g c =
    let n = key_number g.S.BuildHasher g.S.Hasher.Hasher g.K.Hash.hash_input c.self.inside.hasher c.args.key.now in
    let shard = c.choose_shard.result.0.now in
    let chosen = subst (λ xs. IsShardOf xs n shard) c.deref.ensures.value c.choose_shard.ensures.shard in
    record { book = rw (← c.self.view_is) (shard_map (λ s. s.core.store.chronicle.first.book) c.self.inside.shards.items n shard chosen); tag = rw (← c.self.view_is) c.choose_shard.ensures.tag }
