use Rattle.std.proofs.Common.{◌≡◌, None, Some, refl, sym, subst}
use Rattle.std.specs.Prelude.{IsSome}
use Rattle.concurrent_lru.specs.SlotPointers.{cells_of, with_node}
use Rattle.concurrent_lru.specs.SlotTable.{order_with}
use Rattle.concurrent_lru.specs.SlotWrites.{SetsLinks}
use Rattle.concurrent_lru.proofs.Nodes.NodeWrites.{only_wrote, then_writes, set_both, relinked, relinked_after}
use Rattle.concurrent_lru.proofs.Order.Appending.{IsAppended, quiet_listings, last_held, appended_first, appended_after}
use Rattle.concurrent_lru.proofs.node_table.links.Order.push.Goals as goal
use Rattle.concurrent_lru.proofs.node_table.links.Order.push.Goals.{After-set_after, After-set_after-in-Some}

-- the node has its links
links : (g : _) (c : After-set_after g) → SetsLinks c.args.self.now.slots (with_node c.args.self.now.slots c.args.pointer c.set_after.new.self) c.args.pointer c.args.self.now.newest None
links g c =
    relinked (cells_of c.args.self.now.slots) c.args.pointer c.lend-node.result.now c.set_after.new.self c.lend-node.ensures.value (subst IsSome (sym c.requires.own) refl) c.args.self.now.newest None (set_both c.set_before.ensures c.set_after.ensures)

pub lend-before-requires : goal.lend-before-requires
lend-before-requires g c =
    let o = c.args.self.now in
    last_held o c.args.slot c.args.pointer c.requires.linked c.requires.own (cells_of (with_node o.slots c.args.pointer c.set_after.new.self)) c.in-Some.last (links g (goal.at.lend-before-requires g c).After-set_after) c.in-Some.is

-- the last node before it has a link to it
appended : (g : _) (c : After-set_after-in-Some g) → IsAppended c.args.self.now (order_with (with_node (with_node c.args.self.now.slots c.args.pointer c.set_after.new.self) c.in-Some.last c.set_after-in-Some.new.self) c.args.self.now.oldest (Some c.args.pointer)) c.args.slot
appended g c =
    let o = c.args.self.now in
    let t = with_node o.slots c.args.pointer c.set_after.new.self in let u = with_node t c.in-Some.last c.set_after-in-Some.new.self in
    let set : SetsLinks o.slots t c.args.pointer o.newest None = relinked (cells_of o.slots) c.args.pointer c.lend-node.result.now c.set_after.new.self c.lend-node.ensures.value (subst IsSome (sym c.requires.own) refl) o.newest None (set_both c.set_before.ensures c.set_after.ensures) in
    let held = last_held o c.args.slot c.args.pointer c.requires.linked c.requires.own (cells_of t) c.in-Some.last set c.in-Some.is in
    appended_after o c.args.slot c.args.pointer c.requires.linked c.requires.own t u c.in-Some.last refl c.requires.held set c.in-Some.is
    (relinked_after (cells_of t) c.in-Some.last c.lend-before.result.now c.set_after-in-Some.new.self c.lend-before.ensures.value held (Some c.args.pointer) c.set_after-in-Some.ensures)

-- or there was none
begun : (g : _) (c : After-set_after g) → c.args.self.now.newest ≡ None → IsAppended c.args.self.now (order_with (with_node c.args.self.now.slots c.args.pointer c.set_after.new.self) (Some c.args.slot) (Some c.args.pointer)) c.args.slot
begun g c none = appended_first c.args.self.now c.args.slot c.args.pointer c.requires.linked c.requires.own (with_node c.args.self.now.slots c.args.pointer c.set_after.new.self) refl c.requires.held (links g c) none

pub returns-in-Some-clause-linked : goal.returns-in-Some-clause-linked
returns-in-Some-clause-linked g c = (appended g (goal.at.returns-in-Some-clause-linked g c).After-set_after-in-Some).linked

pub returns-in-Some-clause-nodes : goal.returns-in-Some-clause-nodes
returns-in-Some-clause-nodes g c = (appended g (goal.at.returns-in-Some-clause-nodes g c).After-set_after-in-Some).nodes

pub returns-in-Some-clause-idle : goal.returns-in-Some-clause-idle
returns-in-Some-clause-idle g c = (appended g (goal.at.returns-in-Some-clause-idle g c).After-set_after-in-Some).idle

pub returns-in-None-clause-linked : goal.returns-in-None-clause-linked
returns-in-None-clause-linked g c = (begun g (goal.at.returns-in-None-clause-linked g c).After-set_after c.in-None.is).linked

pub returns-in-None-clause-nodes : goal.returns-in-None-clause-nodes
returns-in-None-clause-nodes g c = (begun g (goal.at.returns-in-None-clause-nodes g c).After-set_after c.in-None.is).nodes

pub returns-in-None-clause-idle : goal.returns-in-None-clause-idle
returns-in-None-clause-idle g c = (begun g (goal.at.returns-in-None-clause-idle g c).After-set_after c.in-None.is).idle

pub returns-in-Some-clause-rest : goal.returns-in-Some-clause-rest
returns-in-Some-clause-rest g c =
    let s = c.args.self.now.slots in let t = with_node s c.args.pointer c.set_after.new.self in let u = with_node t c.in-Some.last c.set_after-in-Some.new.self in
    then_writes s t u (only_wrote s t refl) (only_wrote t u refl)

pub returns-in-Some-clause-listings : goal.returns-in-Some-clause-listings
returns-in-Some-clause-listings g c =
    let s = c.args.self.now.slots in
    quiet_listings (cells_of s) (cells_of (with_node (with_node s c.args.pointer c.set_after.new.self) c.in-Some.last c.set_after-in-Some.new.self)) (appended g (goal.at.returns-in-Some-clause-listings g c).After-set_after-in-Some).quiet

pub returns-in-None-clause-rest : goal.returns-in-None-clause-rest
returns-in-None-clause-rest g c = let s = c.args.self.now.slots in only_wrote s (with_node s c.args.pointer c.set_after.new.self) refl

pub returns-in-None-clause-listings : goal.returns-in-None-clause-listings
returns-in-None-clause-listings g c =
    let s = c.args.self.now.slots in
    quiet_listings (cells_of s) (cells_of (with_node s c.args.pointer c.set_after.new.self)) (begun g (goal.at.returns-in-None-clause-listings g c).After-set_after c.in-None.is).quiet
