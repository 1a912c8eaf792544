use Rattle.std.proofs.Common.{ap, subst}
use Rattle.concurrent_lru.specs.Cache.{HasKeyAt, LacksStamp}
use Rattle.concurrent_lru.specs.NodeTable.{entry_of}
use Rattle.concurrent_lru.specs.Entries.{ContainsEntry}
use Rattle.concurrent_lru.proofs.Entries.EntryAtPlace.{stamp_is, has_entry}
use Rattle.concurrent_lru.proofs.lru_core.State.key_at.Goals as goal

pub returns-in-Some : goal.returns-in-Some
returns-in-Some g c =
    let e = entry_of c.in-Some.found.node.now in
    let here = c.in-Some.ensures.node.entry in
    subst (λ k. HasKeyAt k c.args.spot.now.stamp e.key) (ap (λ x. x.cache) c.self.view_is) (e.charge, subst (λ s. ContainsEntry c.self.inside.table s e.key e.charge) (stamp_is here c.args.spot.now.stamp c.in-Some.ensures.found) (has_entry here))

pub returns-in-None : goal.returns-in-None
returns-in-None g c = subst (λ k. LacksStamp k c.args.spot.now.stamp) (ap (λ x. x.cache) c.self.view_is) c.in-None.ensures.found
