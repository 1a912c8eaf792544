use Rattle.std.proofs.Common.{◌≡◌, sym, ap, ◌∙◌, map, Option, Some, None, refl}
use Rattle.std.specs.Prelude.{is_some}
use Rattle.std.specs.FinMap.{len}
use Rattle.concurrent_lru.specs.Cells.{cell_at, ptr_in}
use Rattle.concurrent_lru.specs.Relinks.{NodeCell}
use Rattle.concurrent_lru.specs.SlotPointers.{cells_of, ptr_of}
use Rattle.concurrent_lru.specs.SlotTable.{entry_in}
use Rattle.concurrent_lru.specs.declared.node_table.memory.At.{At}
use Rattle.concurrent_lru.proofs.Lists.SlotsAsMaps.{map_of_slots-len, count-alike}
use Rattle.concurrent_lru.proofs.Order.Appending.{get_or-map_option}
use Rattle.concurrent_lru.proofs.node_table.Nodes.len.Goals as goal

cell_filled : {K V : Type 0} (x : Option (NodeCell K V)) → is_some (entry_in x) ≡ is_some (ptr_in x)
cell_filled None = refl
cell_filled (Some c) = refl

slot_filled : {T : Type 0} (x : Option (At T)) → is_some (ptr_of x) ≡ is_some x
slot_filled None = refl
slot_filled (Some at) = refl

pub returns : goal.returns
returns g c =
    let i = c.self.inside in
    c.len.ensures
    ∙ sym (count-alike (map entry_in (cells_of i.order.slots)) i.order.slots.pointers.slots (λ k.
    ap is_some (get_or-map_option entry_in refl (cells_of i.order.slots) k) ∙ cell_filled (cell_at (cells_of i.order.slots) k) ∙ ap is_some (c.self.invariant.linked.tied.pointers k) ∙ slot_filled _))
    ∙ sym (map_of_slots-len (map entry_in (cells_of i.order.slots)))
    ∙ ap (λ v. len v.nodes) c.self.view_is
