use Rattle.std.proofs.Common.{sym, subst}
use Rattle.concurrent_lru.specs.Ready.{HasReadyKey}
use Rattle.concurrent_lru.specs.Steps.{IsUnready}
use Rattle.concurrent_lru.proofs.SideBySide.OneOfMany.{cache-at}
use Rattle.concurrent_lru.proofs.shards.Shards.contains.Goals as goal

pub returns-clause-yes : goal.returns-clause-yes
returns-clause-yes g c = λ yes d.
    subst (λ k. HasReadyKey g.K.PartialEq.eq k (g.Q.AsKey.owned c.args.key)) (sym (cache-at c.args.self.now _ c.self.inside.shards.items c.route-shard.result _ c.index.result.now c.self.view_is c.route-shard.ensures.route c.route-shard.ensures.within c.index.ensures d)) (c.contains.ensures.yes yes)

pub returns-clause-no : goal.returns-clause-no
returns-clause-no g c = λ no d.
    subst (λ k. IsUnready g.K.PartialEq.eq k (g.Q.AsKey.owned c.args.key)) (sym (cache-at c.args.self.now _ c.self.inside.shards.items c.route-shard.result _ c.index.result.now c.self.view_is c.route-shard.ensures.route c.route-shard.ensures.within c.index.ensures d)) (c.contains.ensures.no no)
