use Rattle.concurrent_lru.proofs.AddedUp.CountsOfSteps.{advice_evicts, can_count, counts_evicted, soundly_evicted}
use Rattle.concurrent_lru.proofs.Steps.ReadyValues.{advice_evict_kept}
use Rattle.concurrent_lru.proofs.locked.Locked.advice_evict.Goals as goal

pub evict-requires : goal.evict-requires
evict-requires g c = can_count c.advice_evict-evicted.result c.self.invariant.counted (advice_evicts {E = g.K.PartialEq.eq} _ _ _ _ c.self.invariant.counted.lawful c.advice_evict-evicted.ensures.step) c.len.ensures c.total.ensures.step.0

pub invariant_of-self : goal.invariant_of-self
invariant_of-self g c = record {
  counted = soundly_evicted c.advice_evict-evicted.result c.self.invariant.counted (advice_evicts {E = g.K.PartialEq.eq} _ _ _ _ c.self.invariant.counted.lawful c.advice_evict-evicted.ensures.step) c.advice_evict-evicted.ensures.lawful c.evict.ensures c.len.ensures c.total.ensures.step.0;
  kept = advice_evict_kept _ _ _ _ _ _ c.advice_evict-evicted.ensures.step c.self.invariant.kept;
}

pub returns-clause-counted : goal.returns-clause-counted
returns-clause-counted g c = rw c.of.ensures (counts_evicted c.advice_evict-evicted.result c.self.view_is c.self.invariant.counted (advice_evicts {E = g.K.PartialEq.eq} _ _ _ _ c.self.invariant.counted.lawful c.advice_evict-evicted.ensures.step) c.evict.ensures c.len.ensures c.total.ensures.step.0)
