use Rattle.std.proofs.Common.{refl}
use Rattle.concurrent_lru.proofs.SideBySide.OneOfMany.{lawful-set, stands-set-at}
use Rattle.concurrent_lru.proofs.shards.Shards.set_capacity_at.Goals as goal

pub invariant_of-self : goal.invariant_of-self
invariant_of-self g c = lawful-set _ _ _ _ c.self.invariant c.set_capacity.ensures.lawful

pub returns : goal.returns
returns g c = record { lawful = (lawful-set _ _ _ _ c.self.invariant c.set_capacity.ensures.lawful).1; step = stands-set-at _ _ _ c.self.view_is refl c.requires c.index_mut.ensures.value c.set_capacity.ensures.step refl }
