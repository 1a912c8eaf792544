use Rattle.concurrent_lru.proofs.AddedUp.CountsOfSteps.{can_count, capacity_evicts, counts_evicted, soundly_evicted}
use Rattle.concurrent_lru.proofs.Steps.ReadyValues.{set_capacity_kept}
use Rattle.concurrent_lru.proofs.locked.Locked.set_capacity.Goals as goal

pub evict-requires : goal.evict-requires
evict-requires g c = can_count c.set_capacity-evicted.result c.self.invariant.counted (capacity_evicts _ _ c.args.capacity _ c.set_capacity-evicted.ensures.step) c.len.ensures c.total.ensures.step.0

pub invariant_of-self : goal.invariant_of-self
invariant_of-self g c = record {
  counted = soundly_evicted c.set_capacity-evicted.result c.self.invariant.counted (capacity_evicts _ _ c.args.capacity _ c.set_capacity-evicted.ensures.step) c.set_capacity-evicted.ensures.lawful c.evict.ensures c.len.ensures c.total.ensures.step.0;
  kept = set_capacity_kept g.K.PartialEq.eq g.F.Fit.fits c.self.inside.state.cache c.set_capacity-evicted.new.self.cache c.args.capacity c.set_capacity-evicted.result c.set_capacity-evicted.ensures.step c.self.invariant.kept;
}

pub returns-clause-counted : goal.returns-clause-counted
returns-clause-counted g c = rw c.of.ensures (counts_evicted c.set_capacity-evicted.result c.self.view_is c.self.invariant.counted (capacity_evicts _ _ c.args.capacity _ c.set_capacity-evicted.ensures.step) c.evict.ensures c.len.ensures c.total.ensures.step.0)
