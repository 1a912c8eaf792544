use Rattle.std.proofs.Common.{◌≡◌, None, Some, ap, ◌∙◌, subst, is_some}
use Rattle.std.specs.FinMap.{get}
use Rattle.concurrent_lru.specs.Entries.{ContainsNoStamp, GetsNodeAt, LeadsAt}
use Rattle.concurrent_lru.proofs.Entries.FoundNodes.{found_stamp, stamp_at}
use Rattle.concurrent_lru.proofs.Entries.NodeAtPlace.{has_node, node_got}
use Rattle.concurrent_lru.proofs.table.Table.find_stamp_near.Goals as goal

pub found-requires : goal.found-requires
found-requires g c = ap is_some (c.has_stamp.ensures.yes c.if-has_stamp.true).1

pub returns-then-has_stamp-clause-found : goal.returns-then-has_stamp-clause-found
returns-then-has_stamp-clause-found g c =
    ap (get c.args.self.now.stamps) c.found.ensures.place ∙ subst (λ t. get t.stamps c.args.near ≡ Some c.args.stamp) c.self.view_is (stamp_at c.self.invariant.stored c.args.stamp c.args.near (c.has_stamp.ensures.yes c.if-has_stamp.true))

pub returns-then-has_stamp-clause-node : goal.returns-then-has_stamp-clause-node
returns-then-has_stamp-clause-node g c = let f = c.found.result in subst (λ t. GetsNodeAt t f.place f.node.now) c.self.view_is (node_got c.self.invariant.stored f.place f.node.now c.found.ensures.node)

pub found-requires-in-Some : goal.found-requires-in-Some
found-requires-in-Some g c = has_node c.self.invariant.stored c.in-Some.place (c.args.stamp, found_stamp c.self.invariant.stored c.args.stamp (Some c.in-Some.place) c.in-Some.ensures.mapped c.in-Some.ensures.seen)

pub returns-in-Some-clause-found : goal.returns-in-Some-clause-found
returns-in-Some-clause-found g c =
    ap (get c.args.self.now.stamps) c.found-in-Some.ensures.place ∙ subst (λ t. get t.stamps c.in-Some.place ≡ Some c.args.stamp) c.self.view_is (found_stamp c.self.invariant.stored c.args.stamp (Some c.in-Some.place) c.in-Some.ensures.mapped c.in-Some.ensures.seen)

pub returns-in-Some-clause-node : goal.returns-in-Some-clause-node
returns-in-Some-clause-node g c = let f = c.found-in-Some.result in subst (λ t. GetsNodeAt t f.place f.node.now) c.self.view_is (node_got c.self.invariant.stored f.place f.node.now c.found-in-Some.ensures.node)

pub returns-in-None-clause-found : goal.returns-in-None-clause-found
returns-in-None-clause-found g c = subst (λ t. ContainsNoStamp t c.args.stamp) c.self.view_is (found_stamp c.self.invariant.stored c.args.stamp None c.in-None.ensures.mapped c.in-None.ensures.seen)

pub returns-then-has_stamp-clause-link : goal.returns-then-has_stamp-clause-link
returns-then-has_stamp-clause-link g c = let f = c.found.result in subst (λ t. LeadsAt t f.link f.place) c.self.view_is c.found.ensures.link

pub returns-in-Some-clause-link : goal.returns-in-Some-clause-link
returns-in-Some-clause-link g c = let f = c.found-in-Some.result in subst (λ t. LeadsAt t f.link f.place) c.self.view_is c.found-in-Some.ensures.link
