use Rattle.std.proofs.Common.{◌≡◌, [], Ok, subst}
use Rattle.concurrent_lru.specs.CountedCalls.{counted, held_charge}
use Rattle.concurrent_lru.specs.Counts.{one_failure}
use Rattle.concurrent_lru.specs.Request as ask
use Rattle.concurrent_lru.specs.Results.{outcome_of_fail}
use Rattle.concurrent_lru.specs.Runs.{Stands}
use Rattle.concurrent_lru.specs.declared.step.Failed.TheVariants as failed
use Rattle.concurrent_lru.proofs.AddedUp.CountsOfSteps.{Owes, fail_owes, can_remove, told_removed, soundly_counted}
use Rattle.concurrent_lru.proofs.Steps.ReadyValues.{fail_kept}
use Rattle.concurrent_lru.proofs.locked.Locked.fail_core.Goals.{In-Removed}
use Rattle.concurrent_lru.proofs.locked.Locked.fail_core.Goals as goal

pub invariant_of-self-in-Left : goal.invariant_of-self-in-Left
invariant_of-self-in-Left g c =
    let old = c.self.inside.state.cache in
    let new = c.fail_at.new.self.cache in
    let step = subst (λ o. Stands g.K.PartialEq.eq old (ask.fail c.args.spot.now.stamp) (outcome_of_fail (Ok o)) new) c.in-Left.is c.in_ok-fail_at.ensures.step in
    record {
      counted = soundly_counted {E = g.K.PartialEq.eq} old new c.self.inside.counts c.fail.new.self (ask.fail c.args.spot.now.stamp) (outcome_of_fail (Ok failed.Left)) c.self.invariant.counted step c.in_ok-fail_at.ensures.lawful c.fail.ensures;
      kept = fail_kept _ _ _ _ _ _ c.fail_at.ensures.step c.self.invariant.kept;
    }

-- the making failed for good, and what the counts owe once the failure is counted
removes : (g : _) (c : In-Removed g) → Stands g.K.PartialEq.eq c.self.inside.state.cache (ask.fail c.args.spot.now.stamp) (outcome_of_fail (Ok (failed.Removed c.in-Removed.key))) c.fail_at.new.self.cache
removes g c = subst (λ o. Stands g.K.PartialEq.eq c.self.inside.state.cache (ask.fail c.args.spot.now.stamp) (outcome_of_fail (Ok o)) c.fail_at.new.self.cache) c.in-Removed.is c.in_ok-fail_at.ensures.step

owes : (g : _) (c : In-Removed g) → Owes c.fail_at.new.self.cache (one_failure c.self.inside.counts) 1 (held_charge c.self.inside.state.cache c.args.spot.now.stamp)
owes g c = fail_owes {E = g.K.PartialEq.eq} c.self.inside.state.cache c.fail_at.new.self.cache c.self.inside.counts c.args.spot.now.stamp c.in-Removed.key [] c.self.invariant.counted.lawful c.self.invariant.counted.adds_up (removes g c)

pub remove-requires : goal.remove-requires
remove-requires g c = can_remove (owes g (goal.at.remove-requires g c).In-Removed) c.fail-in-Removed.ensures c.total.ensures.step.0

pub invariant_of-self-in-Removed : goal.invariant_of-self-in-Removed
invariant_of-self-in-Removed g c =
    let at = (goal.at.invariant_of-self-in-Removed g c).In-Removed in
    record {
      counted = soundly_counted {E = g.K.PartialEq.eq} c.self.inside.state.cache c.fail_at.new.self.cache c.self.inside.counts c.remove.new.self (ask.fail c.args.spot.now.stamp) (outcome_of_fail (Ok (failed.Removed c.in-Removed.key))) c.self.invariant.counted (removes g at) c.in_ok-fail_at.ensures.lawful
          (told_removed (owes g at) c.fail-in-Removed.ensures c.remove.ensures c.total.ensures.step.0);
      kept = fail_kept _ _ _ _ _ _ c.fail_at.ensures.step c.self.invariant.kept;
    }

pub returns-in-Removed-clause-counted : goal.returns-in-Removed-clause-counted
returns-in-Removed-clause-counted g c =
    subst (λ x. c.remove.new.self ≡ counted x.cache (ask.fail c.args.spot.now.stamp) (outcome_of_fail (Ok (failed.Removed c.in-Removed.key))) x.counts) c.self.view_is
    (told_removed (owes g (goal.at.returns-in-Removed-clause-counted g c).In-Removed) c.fail-in-Removed.ensures c.remove.ensures c.total.ensures.step.0)
