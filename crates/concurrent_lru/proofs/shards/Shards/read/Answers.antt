use Rattle.std.specs.Fn.{FnOnceReturnsAt}
use Rattle.concurrent_lru.proofs.SideBySide.OneOfMany.{lawful-set}
use Rattle.concurrent_lru.proofs.SideBySide.ReadOfOne.{finds_at, reads_at}
use Rattle.concurrent_lru.proofs.shards.Shards.read.Goals as goal

pub read-requires : goal.read-requires
read-requires g c = record {
  callable = λ v found. c.requires.callable v (finds_at g.K.PartialEq.eq _ _ c.self.inside.shards.items c.route-shard.result _ c.index_mut.result.now c.self.view_is c.route-shard.ensures.route c.route-shard.ensures.within c.index_mut.ensures.value (g.Q.AsKey.owned c.args.key) v found);
}

pub invariant_of-self : goal.invariant_of-self
invariant_of-self g c = lawful-set _ _ _ _ c.self.invariant c.read.ensures.lawful

pub returns-clause-lawful : goal.returns-clause-lawful
returns-clause-lawful g c = (lawful-set _ _ _ _ c.self.invariant c.read.ensures.lawful).1

pub returns-clause-step : goal.returns-clause-step
returns-clause-step g c = reads_at g.K.PartialEq.eq _ _ c.self.inside.shards.items c.route-shard.result _ c.index_mut.result.now c.self.view_is c.route-shard.ensures.route c.route-shard.ensures.within c.index_mut.ensures.value c.read.new.self (g.Q.AsKey.owned c.args.key) (FnOnceReturnsAt g.G.FnOnce c.args.reader) c.read.result c.read.ensures.step
