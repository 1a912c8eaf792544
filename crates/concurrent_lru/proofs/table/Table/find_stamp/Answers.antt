use Rattle.std.proofs.Common.{◌≡◌, Some, subst}
use Rattle.std.specs.FinMap.{get}
use Rattle.concurrent_lru.specs.Entries.{GetsNodeAt, LeadsAt}
use Rattle.concurrent_lru.specs.NodeTable.{entry_of}
use Rattle.concurrent_lru.proofs.Entries.FoundNodes.{stamp_at}
use Rattle.concurrent_lru.proofs.Entries.NodeAtPlace.{node_got}
use Rattle.concurrent_lru.proofs.table.Table.find_stamp.Goals as goal

pub returns-in-Some-clause-found : goal.returns-in-Some-clause-found
returns-in-Some-clause-found g c =
    let f = c.in-Some.found in
    subst (λ t. get t.stamps f.place ≡ Some c.args.spot.now.stamp) c.self.view_is (stamp_at c.self.invariant.stored c.args.spot.now.stamp f.place (entry_of f.node.now, c.in-Some.ensures.node.entry, c.in-Some.ensures.found))

pub returns-in-Some-clause-node : goal.returns-in-Some-clause-node
returns-in-Some-clause-node g c = let f = c.in-Some.found in subst (λ t. GetsNodeAt t f.place f.node.now) c.self.view_is (node_got c.self.invariant.stored f.place f.node.now c.in-Some.ensures.node)

pub returns-in-Some-clause-link : goal.returns-in-Some-clause-link
returns-in-Some-clause-link g c = let f = c.in-Some.found in subst (λ t. LeadsAt t f.link f.place) c.self.view_is c.in-Some.ensures.link
