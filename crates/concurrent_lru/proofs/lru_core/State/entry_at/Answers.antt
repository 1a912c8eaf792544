use Rattle.std.proofs.Common.{ap, subst}
use Rattle.concurrent_lru.specs.Cache.{LacksStamp}
use Rattle.concurrent_lru.proofs.Entries.ReadyByPlace.{unready}
use Rattle.concurrent_lru.proofs.lru_core.State.entry_at.Goals as goal

pub returns-in-None : goal.returns-in-None
returns-in-None g c =
    let lacks = subst (λ k. LacksStamp k c.args.spot.now.stamp) (ap (λ x. x.cache) c.self.view_is) c.in-None.ensures.found in
    unready c.args.self.now.cache c.args.spot.now.stamp lacks
