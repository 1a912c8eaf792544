use Rattle.std.proofs.Common.{subst, inl}
use Rattle.concurrent_lru.specs.Results.{IsAnswerTo, outcome_of, request_of}
use Rattle.concurrent_lru.specs.Runs.{Stands}
use Rattle.concurrent_lru.proofs.SideBySide.OneOfMany.{lawful-set, stands-set}
use Rattle.concurrent_lru.proofs.shards.Shards.step.Goals as goal

pub invariant_of-self-2 : goal.invariant_of-self-2
invariant_of-self-2 g c = lawful-set _ _ _ _ c.self.invariant c.step.ensures.lawful

pub returns-clause-lawful : goal.returns-clause-lawful
returns-clause-lawful g c = (lawful-set _ _ _ _ c.self.invariant c.step.ensures.lawful).1

pub returns-clause-kind : goal.returns-clause-kind
returns-clause-kind g c = inl (subst (λ s. IsAnswerTo s c.step.result) c.address-shard.ensures.step c.step.ensures.kind)

pub returns-clause-step : goal.returns-clause-step
returns-clause-step g c =
    let step = subst (λ s. Stands g.K.PartialEq.eq c.in-Some.cache.now.cache (request_of s) (outcome_of c.step.result) c.step.new.self.cache) c.address-shard.ensures.step c.step.ensures.step in
    stands-set _ _ _ c.self.view_is c.in-Some.ensures.item.3.0 c.in-Some.ensures.item.1 step
