use Rattle.std.proofs.Common.{ap, ◌∙◌}
use Rattle.std.specs.Prelude.{is_some}
use Rattle.concurrent_lru.specs.Cells.{cell_at}
use Rattle.concurrent_lru.specs.SlotTable.{entry_in}
use Rattle.concurrent_lru.specs.SlotPointers.{cells_of}
use Rattle.concurrent_lru.proofs.Order.Appending.{some_cell}
use Rattle.concurrent_lru.proofs.Nodes.SlotViews.{entry_there, node_had}
use Rattle.concurrent_lru.proofs.node_table.Nodes.contains.Goals as goal

pub returns-clause-yes : goal.returns-clause-yes
returns-clause-yes g c = λ yes.
    let i = c.self.inside in
    let there = some_cell (cell_at (cells_of i.order.slots) c.place.inside.slot) (c.contains.ensures.yes yes) in
    ap is_some (entry_there i.order i.work.count c.args.self.now c.self.view_is c.place.inside.slot c.args.place there.0 c.place.view_is there.1)

pub returns-clause-no : goal.returns-clause-no
returns-clause-no g c = λ no.
    let i = c.self.inside in
    node_had i.order i.work.count c.args.self.now c.self.view_is c.place.inside.slot c.args.place c.place.view_is ∙ ap entry_in (c.contains.ensures.no no)
