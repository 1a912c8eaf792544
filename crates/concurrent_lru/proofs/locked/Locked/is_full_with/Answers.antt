use Rattle.std.proofs.Common.{subst}
use Rattle.concurrent_lru.specs.Cache.{LacksCapacityToCharge}
use Rattle.concurrent_lru.specs.Runs.{IsMadeAt}
use Rattle.concurrent_lru.proofs.locked.Locked.is_full_with.Goals as goal

pub returns-then-self-clause-yes : goal.returns-then-self-clause-yes
returns-then-self-clause-yes g c = λ full. subst (λ x. IsMadeAt g.K.PartialEq.eq x.cache c.args.spot.now.stamp (λ was. LacksCapacityToCharge x.cache was c.args.charge)) c.self.view_is (c.is_full_with.ensures.yes full)
