use Rattle.concurrent_lru.proofs.SideBySide.OneOfMany.{lawful-set, stands-lawful}
use Rattle.concurrent_lru.proofs.shards.Shards.prune_shard.Goals as goal

pub invariant_of-self-2 : goal.invariant_of-self-2
invariant_of-self-2 g c = lawful-set _ _ _ _ c.self.invariant c.prune.ensures.lawful

pub returns : goal.returns
returns g c = stands-lawful _ _ _ c.self.view_is c.in-Some.ensures.item.3.0 c.in-Some.ensures.item.1 c.self.invariant c.prune.ensures.step c.prune.ensures.lawful
