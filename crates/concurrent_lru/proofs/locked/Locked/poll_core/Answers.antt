use Rattle.std.proofs.Common.{◌∙◌, sym, subst}
use Rattle.concurrent_lru.specs.Ready.{HasEqualKeyAt}
use Rattle.concurrent_lru.specs.Request as ask
use Rattle.concurrent_lru.specs.Results.{outcome_of_poll}
use Rattle.concurrent_lru.proofs.AddedUp.CountsOfSteps.{poll_counted, soundly_counted}
use Rattle.concurrent_lru.proofs.Steps.ReadyValues.{poll_kept, poll_hit}
use Rattle.concurrent_lru.proofs.locked.Locked.poll_core.Goals as goal

pub invariant_of-self : goal.invariant_of-self
invariant_of-self g c =
    let old = c.self.inside.state.cache in
    record {
      counted = soundly_counted {E = g.K.PartialEq.eq} old c.poll_at-polled.new.self.cache c.self.inside.counts c.count_poll.new.counts (ask.poll c.args.spot.now.stamp) (outcome_of_poll c.poll_at-polled.result) c.self.invariant.counted c.poll_at-polled.ensures.step c.poll_at-polled.ensures.lawful
          (c.count_poll.ensures ∙ poll_counted old c.args.spot.now.stamp c.poll_at-polled.result c.self.inside.counts);
      kept = poll_kept _ _ _ _ _ _ c.poll_at-polled.ensures.step c.self.invariant.kept;
    }

pub returns-clause-hit : goal.returns-clause-hit
returns-clause-hit g c =
    let at = c.has_key-is_own.ensures.yes c.if-not-is_own.false in
    poll_hit _ _ _ _ _ _ c.poll_at-polled.result g.met.F.Fit.equal_keys c.self.invariant.counted.lawful c.self.invariant.kept at c.poll_at-polled.ensures.step

pub returns-then-not-is_own-clause-step : goal.returns-then-not-is_own-clause-step
returns-then-not-is_own-clause-step g c = λ at.
    absurd (c.has_key-is_own.ensures.no c.if-not-is_own.true (subst (λ s. HasEqualKeyAt g.K.PartialEq.eq s.cache c.args.spot.now.stamp c.args.key.now) (sym c.self.view_is) at))

pub returns-clause-no_entry : goal.returns-clause-no_entry
returns-clause-no_entry g c = λ none.
    absurd (none (subst (λ s. HasEqualKeyAt g.K.PartialEq.eq s.cache c.args.spot.now.stamp c.args.key.now) c.self.view_is (c.has_key-is_own.ensures.yes c.if-not-is_own.false)))
