use Rattle.std.proofs.Common.{refl, arith}
use Rattle.concurrent_lru.specs.Request as ask
use Rattle.concurrent_lru.specs.Results.{outcome_of_begin_by, begun_without_hint}
use Rattle.concurrent_lru.proofs.Steps.StrictSteps.{outcome_stays_within, strictly_begun}
use Rattle.concurrent_lru.proofs.lru_core.State.begin_strictly_at.Goals as goal

pub returns-then-is_full_for-clause-step : goal.returns-then-is_full_for-clause-step
returns-then-is_full_for-clause-step g c = (c.if-is_full_for.ensures.yes refl, refl)

pub returns-clause-step : goal.returns-clause-step
returns-clause-step g c =
    strictly_begun g.K.PartialEq.eq c.args.self.now.cache c.begin_at.new.self.cache c.args.key.now c.args.charge (outcome_of_begin_by g.M.Sharing.seen (begun_without_hint c.begin_at.result)) (c.if-is_full_for.ensures.no refl) c.begin_at.ensures.step

pub returns-clause-limit : goal.returns-clause-limit
returns-clause-limit g c = λ within.
    outcome_stays_within g.K.PartialEq.eq c.args.self.now.cache c.begin_at.new.self.cache (ask.begin_strictly c.args.key.now c.args.charge) (outcome_of_begin_by g.M.Sharing.seen (begun_without_hint c.begin_at.result))
    c.is_full_for.ensures.lawful tt (omega arith) (returns-clause-step g c) within
