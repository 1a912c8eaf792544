use Rattle.std.proofs.Common.{◌∙◌}
use Rattle.concurrent_lru.specs.Request as ask
use Rattle.concurrent_lru.specs.Results.{outcome_of_repin}
use Rattle.concurrent_lru.proofs.AddedUp.CountsOfSteps.{repin_counted, soundly_counted}
use Rattle.concurrent_lru.proofs.Steps.ReadyValues.{repin_kept}
use Rattle.concurrent_lru.proofs.locked.Locked.repin.Goals as goal

pub invariant_of-self : goal.invariant_of-self
invariant_of-self g c =
    let old = c.self.inside.state.cache in
    let r = c.repin_at-repinned.result in
    record {
      counted = soundly_counted {E = g.K.PartialEq.eq} old c.repin_at-repinned.new.self.cache c.self.inside.counts c.count_repin.new.counts (ask.repin c.pin.inside.spot.stamp) (outcome_of_repin r) c.self.invariant.counted c.repin_at-repinned.ensures.step c.repin_at-repinned.ensures.lawful
          (c.count_repin.ensures ∙ repin_counted old c.pin.inside.spot.stamp r c.self.inside.counts);
      kept = repin_kept _ _ _ _ _ r c.repin_at-repinned.ensures.step c.self.invariant.kept;
    }
