use Rattle.std.proofs.Common.{refl}
use Rattle.concurrent_lru.proofs.SideBySide.OneOfMany.{lawful-set, stands-set-at}
use Rattle.concurrent_lru.proofs.shards.Shards.advice_evict.Goals as goal

pub invariant_of-self : goal.invariant_of-self
invariant_of-self g c = lawful-set _ _ _ _ c.self.invariant c.advice_evict.ensures.lawful

pub returns : goal.returns
returns g c = record { lawful = (lawful-set _ _ _ _ c.self.invariant c.advice_evict.ensures.lawful).1; step = stands-set-at _ _ _ c.self.view_is c.route-shard.ensures.route c.route-shard.ensures.within c.index_mut.ensures.value c.advice_evict.ensures.step refl }
