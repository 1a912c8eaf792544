use Rattle.std.proofs.Common.{sym, subst}
use Rattle.concurrent_lru.specs.Cache.{most_pins_by_default}
use Rattle.concurrent_lru.specs.Ready.{ValuesFit}
use Rattle.concurrent_lru.proofs.AddedUp.CountsOfSteps.{soundly_empty}
use Rattle.concurrent_lru.proofs.Steps.ReadyValues.{empty_kept}
use Rattle.concurrent_lru.proofs.locked.Locked.new.Goals as goal

pub invariant_of-result : goal.invariant_of-result
invariant_of-result g c = record {
  counted = soundly_empty {E = g.K.PartialEq.eq} c.without_stamp_map.result.cache c.from.result c.args.capacity c.without_stamp_map.ensures.empty c.from.ensures;
  kept = subst (ValuesFit g.F.Fit.fits) (sym c.without_stamp_map.ensures.empty) (empty_kept g.K.PartialEq.eq g.F.Fit.fits c.args.capacity most_pins_by_default 0);
}
