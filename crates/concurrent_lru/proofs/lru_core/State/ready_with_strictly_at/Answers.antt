use Rattle.std.proofs.Common.{refl, arith}
use Rattle.concurrent_lru.specs.Request as ask
use Rattle.concurrent_lru.specs.Results.{outcome_of_ready_with}
use Rattle.concurrent_lru.proofs.Steps.StrictSteps.{outcome_stays_within, strictly_charged}
use Rattle.concurrent_lru.proofs.lru_core.State.ready_with_strictly_at.Goals as goal

pub returns-then-is_full_with-clause-step : goal.returns-then-is_full_with-clause-step
returns-then-is_full_with-clause-step g c = (c.if-is_full_with.ensures.yes refl, refl)

pub returns-clause-step : goal.returns-clause-step
returns-clause-step g c =
    strictly_charged g.K.PartialEq.eq c.args.self.now.cache c.ready_with_at.new.self.cache c.args.spot.now.stamp (g.M.Sharing.seen c.args.value) c.args.charge (outcome_of_ready_with c.ready_with_at.result) (c.if-is_full_with.ensures.no refl) c.ready_with_at.ensures.step

pub returns-clause-limit : goal.returns-clause-limit
returns-clause-limit g c = λ within.
    outcome_stays_within g.K.PartialEq.eq c.args.self.now.cache c.ready_with_at.new.self.cache (ask.ready_with_strictly c.args.spot.now.stamp (g.M.Sharing.seen c.args.value) c.args.charge) (outcome_of_ready_with c.ready_with_at.result)
    c.is_full_with.ensures.lawful tt (omega arith) (returns-clause-step g c) within
