use Rattle.concurrent_lru.proofs.AddedUp.CountsOfSteps.{can_count, counts_evicted, soundly_evicted}
use Rattle.concurrent_lru.proofs.AddedUp.SizesOfSteps.{pruned_size}
use Rattle.concurrent_lru.proofs.Steps.ReadyValues.{prune_kept}
use Rattle.concurrent_lru.proofs.locked.Locked.prune.Goals as goal

pub evict-requires : goal.evict-requires
evict-requires g c = can_count c.prune-evicted.result c.self.invariant.counted (pruned_size _ _ _ c.prune-evicted.ensures.step.0 c.prune-evicted.ensures.step.1) c.len.ensures c.total.ensures.step.0

pub invariant_of-self : goal.invariant_of-self
invariant_of-self g c = record {
  counted = soundly_evicted c.prune-evicted.result c.self.invariant.counted (pruned_size _ _ _ c.prune-evicted.ensures.step.0 c.prune-evicted.ensures.step.1) c.prune-evicted.ensures.lawful c.evict.ensures c.len.ensures c.total.ensures.step.0;
  kept = prune_kept g.K.PartialEq.eq g.F.Fit.fits c.self.inside.state.cache c.prune-evicted.new.self.cache c.prune-evicted.result c.prune-evicted.ensures.step c.self.invariant.kept;
}

pub returns-clause-counted : goal.returns-clause-counted
returns-clause-counted g c = rw c.of.ensures (counts_evicted c.prune-evicted.result c.self.view_is c.self.invariant.counted (pruned_size _ _ _ c.prune-evicted.ensures.step.0 c.prune-evicted.ensures.step.1) c.evict.ensures c.len.ensures c.total.ensures.step.0)
