use Rattle.std.proofs.Common.{arith}
use Rattle.concurrent_lru.specs.Cache.{most_pins_by_default}
use Rattle.concurrent_lru.proofs.SideBySide.OneOfMany.{lawful-empties}
use Rattle.concurrent_lru.proofs.shards.Shards.new.Goals as goal

pub invariant_of-result : goal.invariant_of-result
invariant_of-result g c = lawful-empties g.K.PartialEq.eq c.loop.caches.items c.loop.counter c.capacity_per_shard-share.result most_pins_by_default 0 (let some = c.requires.some in omega (arith, c.loop-test.false)) c.loop.invariant

pub returns-clause-lawful : goal.returns-clause-lawful
returns-clause-lawful g c = (lawful-empties g.K.PartialEq.eq c.loop.caches.items c.loop.counter c.capacity_per_shard-share.result most_pins_by_default 0 (let some = c.requires.some in omega (arith, c.loop-test.false)) c.loop.invariant).1
