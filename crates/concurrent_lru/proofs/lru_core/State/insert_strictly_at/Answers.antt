use Rattle.std.proofs.Common.{refl, arith}
use Rattle.concurrent_lru.specs.Request as ask
use Rattle.concurrent_lru.specs.Results.{outcome_of_insert_by, inserted_without_hint}
use Rattle.concurrent_lru.proofs.Steps.StrictSteps.{outcome_stays_within, strictly_inserted}
use Rattle.concurrent_lru.proofs.lru_core.State.insert_strictly_at.Goals as goal

pub returns-clause-request : goal.returns-clause-request
returns-clause-request g c =
    strictly_inserted g.K.PartialEq.eq c.args.self.now.cache c.insert_at.new.self.cache c.args.key.now c.args.charge (g.M.Sharing.seen c.args.value) (outcome_of_insert_by g.M.Sharing.seen (inserted_without_hint c.insert_at.result)) (c.if-lacks_capacity_for.ensures.no refl) c.insert_at.ensures.request

pub returns-clause-limit : goal.returns-clause-limit
returns-clause-limit g c = λ within.
    outcome_stays_within g.K.PartialEq.eq c.args.self.now.cache c.insert_at.new.self.cache (ask.insert_strictly c.args.key.now c.args.charge (g.M.Sharing.seen c.args.value)) (outcome_of_insert_by g.M.Sharing.seen (inserted_without_hint c.insert_at.result))
    c.lacks_capacity_for.ensures.lawful tt (omega arith) (returns-clause-request g c) within
