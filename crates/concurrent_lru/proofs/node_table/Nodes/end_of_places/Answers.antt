use Rattle.std.proofs.Common.{refl, ap, ◌∙◌}
use Rattle.concurrent_lru.specs.SlotTable.{entry_in}
use Rattle.concurrent_lru.proofs.Nodes.SlotViews.{node_had}
use Rattle.concurrent_lru.proofs.node_table.Nodes.end_of_places.Goals as goal

pub returns : goal.returns
returns g c = λ place past.
    let i = c.self.inside in
    node_had i.order i.work.count c.args.self.now c.self.view_is place place refl ∙ ap entry_in (c.end_of_slots.ensures place past)
