use Rattle.std.proofs.Common.{sym, subst}
use Rattle.concurrent_lru.specs.Steps.{InvalidatesAt}
use Rattle.concurrent_lru.proofs.AddedUp.CountsOfSteps.{invalidate_at_evicts, can_count, counts_evicted, soundly_evicted}
use Rattle.concurrent_lru.proofs.Steps.ReadyValues.{invalidate_at_kept}
use Rattle.concurrent_lru.proofs.locked.Locked.invalidate_entry.Goals as goal

pub evict-requires : goal.evict-requires
evict-requires g c = can_count c.invalidate_entry-evicted.result c.self.invariant.counted (invalidate_at_evicts {E = g.K.PartialEq.eq} _ _ _ _ c.self.invariant.counted.lawful c.invalidate_entry-evicted.ensures.step) c.len.ensures c.total.ensures.step.0

pub invariant_of-self : goal.invariant_of-self
invariant_of-self g c = record {
  counted = soundly_evicted c.invalidate_entry-evicted.result c.self.invariant.counted (invalidate_at_evicts {E = g.K.PartialEq.eq} _ _ _ _ c.self.invariant.counted.lawful c.invalidate_entry-evicted.ensures.step) c.invalidate_entry-evicted.ensures.lawful c.evict.ensures c.len.ensures c.total.ensures.step.0;
  kept = invalidate_at_kept _ _ _ _ _ _ c.invalidate_entry-evicted.ensures.step c.self.invariant.kept;
}

pub returns-clause-counted : goal.returns-clause-counted
returns-clause-counted g c = rw c.of.ensures (counts_evicted c.invalidate_entry-evicted.result c.self.view_is c.self.invariant.counted (invalidate_at_evicts {E = g.K.PartialEq.eq} _ _ _ _ c.self.invariant.counted.lawful c.invalidate_entry-evicted.ensures.step) c.evict.ensures c.len.ensures c.total.ensures.step.0)

pub returns-clause-step : goal.returns-clause-step
returns-clause-step g c =
    let new = c.invalidate_entry-evicted.new.self.cache in
    let step = subst (λ old. InvalidatesAt g.K.PartialEq.eq old.cache c.args.spot.now.stamp c.invalidate_entry-evicted.result new) c.self.view_is c.invalidate_entry-evicted.ensures.step in
    subst (λ out. InvalidatesAt g.K.PartialEq.eq c.args.self.now.cache c.args.spot.now.stamp out new) (sym c.of.ensures) step
