use Rattle.concurrent_lru.proofs.Nodes.SlotViews.{present}
use Rattle.concurrent_lru.proofs.Nodes.ShownChanges.{shown_node}
use Rattle.concurrent_lru.proofs.node_table.Nodes.node.Goals as goal

pub node-requires-clause-present : goal.node-requires-clause-present
node-requires-clause-present g c = let i = c.self.inside in present i.order i.work.count c.args.self.now c.self.view_is c.place.inside.slot c.args.place c.place.view_is c.requires

pub returns : goal.returns
returns g c = shown_node c.self.inside.order _ _ c.self.view_is c.place.view_is c.requires c.self.invariant.linked c.node.ensures
