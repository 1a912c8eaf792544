use Rattle.concurrent_lru.proofs.AddedUp.CountsOfSteps.{release_evicts, can_count, counts_evicted, soundly_evicted, soundly_kept}
use Rattle.concurrent_lru.proofs.Steps.ReadyValues.{release_kept}
use Rattle.concurrent_lru.proofs.locked.Locked.release_core.Goals as goal

pub invariant_of-self-then-is_empty : goal.invariant_of-self-then-is_empty
invariant_of-self-then-is_empty g c = record {
  counted = soundly_kept c.in_ok-evicted.evicted c.self.invariant.counted (release_evicts {E = g.K.PartialEq.eq} _ _ _ _ c.in_ok-evicted.ensures.step) c.in_ok-evicted.ensures.lawful (c.is_empty.ensures.0 c.if-is_empty.true);
  kept = release_kept _ _ _ _ _ _ c.release_at.ensures.step c.self.invariant.kept;
}

pub evict-requires : goal.evict-requires
evict-requires g c = can_count c.in_ok-evicted.evicted c.self.invariant.counted (release_evicts {E = g.K.PartialEq.eq} _ _ _ _ c.in_ok-evicted.ensures.step) c.len.ensures c.total.ensures.step.0

pub invariant_of-self-2 : goal.invariant_of-self-2
invariant_of-self-2 g c = record {
  counted = soundly_evicted c.in_ok-evicted.evicted c.self.invariant.counted (release_evicts {E = g.K.PartialEq.eq} _ _ _ _ c.in_ok-evicted.ensures.step) c.in_ok-evicted.ensures.lawful c.evict.ensures c.len.ensures c.total.ensures.step.0;
  kept = release_kept _ _ _ _ _ _ c.release_at.ensures.step c.self.invariant.kept;
}

pub returns-clause-counted : goal.returns-clause-counted
returns-clause-counted g c = counts_evicted c.in_ok-evicted.evicted c.self.view_is c.self.invariant.counted (release_evicts {E = g.K.PartialEq.eq} _ _ _ _ c.in_ok-evicted.ensures.step) c.evict.ensures c.len.ensures c.total.ensures.step.0
