use Rattle.std.proofs.Common.{◌≡◌, Some, sym, ap, ◌∙◌}
use Rattle.std.specs.FinMap.{get}
use Rattle.std.proofs.lemmas.Bool.{eqb-true, eq-eqb, true≢false}
use Rattle.std.proofs.lemmas.Option.{none-some, same_Some}
use Rattle.concurrent_lru.specs.Cells.{cell_at}
use Rattle.concurrent_lru.specs.NodeTable.{entry_of}
use Rattle.concurrent_lru.specs.SlotTable.{entry_in}
use Rattle.concurrent_lru.specs.SlotPointers.{cells_of}
use Rattle.concurrent_lru.proofs.Order.Appending.{some_cell}
use Rattle.concurrent_lru.proofs.Nodes.SlotViews.{entry_there, node_had}
use Rattle.concurrent_lru.proofs.node_table.Nodes.has_stamp.Goals as goal
use Rattle.concurrent_lru.proofs.node_table.Nodes.has_stamp.Goals.{After-node}

-- the node that was looked at is the one at the place
here : (g : _) (c : After-node g) → get c.args.self.now.nodes c.args.place ≡ Some (entry_of c.node.result.now)
here g c =
    let i = c.self.inside in
    let there = some_cell (cell_at (cells_of i.order.slots) c.place.inside.slot) (c.contains.ensures.yes c.if-contains.true) in
    entry_there i.order i.work.count c.args.self.now c.self.view_is c.place.inside.slot c.args.place there.0 c.place.view_is there.1 ∙ ap (λ n. Some (entry_of n)) (sym (c.node.ensures there.0 there.1))

pub returns-then-contains-clause-yes : goal.returns-then-contains-clause-yes
returns-then-contains-clause-yes g c = λ same. (entry_of c.node.result.now, here g c, eqb-true _ _ same)

pub returns-then-contains-clause-no : goal.returns-then-contains-clause-no
returns-then-contains-clause-no g c = λ other has. true≢false (sym (eq-eqb _ _ (ap (λ e. e.stamp) (same_Some _ _ (sym (here g c) ∙ has.1)) ∙ has.2)) ∙ other)

pub returns-else-contains-clause-no : goal.returns-else-contains-clause-no
returns-else-contains-clause-no g c = λ _ has.
    let i = c.self.inside in
    let vacant = c.contains.ensures.no c.if-contains.false in
    none-some has.0 (sym (node_had i.order i.work.count c.args.self.now c.self.view_is c.place.inside.slot c.args.place c.place.view_is ∙ ap entry_in vacant) ∙ has.1)
