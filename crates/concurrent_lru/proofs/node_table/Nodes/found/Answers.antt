use Rattle.concurrent_lru.proofs.Nodes.SlotViews.{leads_link, present}
use Rattle.concurrent_lru.proofs.node_table.Nodes.found.Goals as goal

pub link-requires-clause-present : goal.link-requires-clause-present
link-requires-clause-present g c = present c.self.inside.order c.self.inside.work.count c.args.self.now c.self.view_is c.place.inside.slot c.args.place c.place.view_is c.requires

pub returns-clause-link : goal.returns-clause-link
returns-clause-link g c = leads_link c.self.inside.order c.self.inside.work.count c.args.self.now c.self.view_is c.place.inside.slot c.args.place c.place.view_is c.link.result.ptr c.link.ensures
