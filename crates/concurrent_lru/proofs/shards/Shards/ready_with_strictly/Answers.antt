use Rattle.std.proofs.Common.{rules}
use Rattle.concurrent_lru.proofs.SideBySide.OneOfMany.{lawful-set, stands-set}
use Rattle.concurrent_lru.proofs.shards.Shards.ready_with_strictly.Goals as goal

pub invariant_of-self-2 : goal.invariant_of-self-2
invariant_of-self-2 g c = lawful-set _ _ _ _ c.self.invariant c.ready_with_strictly.ensures.lawful

pub returns : goal.returns
returns g c = record { back = search rules; lawful = (lawful-set _ _ _ _ c.self.invariant c.ready_with_strictly.ensures.lawful).1; step = stands-set _ _ _ c.self.view_is c.in-Some.ensures.item.3.0 c.in-Some.ensures.item.1 c.ready_with_strictly.ensures.step }
