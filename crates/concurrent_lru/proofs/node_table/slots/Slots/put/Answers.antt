use Rattle.std.proofs.Common.{◌≡◌, Some, refl, sym, ap, ◌∙◌, subst}
use Rattle.concurrent_lru.specs.Cells.{cell, cell_at, ptr_in, put_at, AreApart}
use Rattle.concurrent_lru.specs.Listing.{hash_in}
use Rattle.concurrent_lru.specs.NodeTable.{entry_of, hash_of, chain_of}
use Rattle.concurrent_lru.specs.Relinks.{place_of}
use Rattle.concurrent_lru.specs.SlotTable.{entry_in, IsEnd}
use Rattle.concurrent_lru.proofs.Memory.CellSlots.{put_same, put_other}
use Rattle.concurrent_lru.proofs.Nodes.PointersTied.{tied_put}
use Rattle.concurrent_lru.proofs.node_table.slots.Slots.put.Goals as goal
use Rattle.concurrent_lru.proofs.node_table.slots.Slots.put.Goals.{After-insert_reserved}

-- the cells with the node in its slot
put_cells : (g : _) (c : After-insert_reserved g) → c.apart.new.self.cells ≡ put_at c.insert_reserved.result (Some (cell c.put.result.0.ptr c.put.result.1 c.set_slot.new.self)) c.args.self.now.memory.cells
put_cells g c = ap (λ m. m.cells) c.apart.ensures.same ∙ c.put.ensures ∙ ap (λ k. put_at k (Some (cell c.put.result.0.ptr c.put.result.1 c.set_slot.new.self)) c.args.self.now.memory.cells) (c.vacant_key-slot.ensures.value ∙ sym c.insert_reserved.ensures.key)

put_there : (g : _) (c : After-insert_reserved g) → cell_at c.apart.new.self.cells c.insert_reserved.result ≡ Some (cell c.put.result.0.ptr c.put.result.1 c.set_slot.new.self)
put_there g c = ap (λ l. cell_at l c.insert_reserved.result) (put_cells g c) ∙ put_same c.insert_reserved.result (Some (cell c.put.result.0.ptr c.put.result.1 c.set_slot.new.self)) c.args.self.now.memory.cells

pub returns-clause-tied : goal.returns-clause-tied
returns-clause-tied g c =
    let n = c.set_slot.new.self in
    tied_put c.args.self.now _ c.insert_reserved.result (Some c.put.result.0) (Some (cell c.put.result.0.ptr c.put.result.1 c.set_slot.new.self)) c.requires.tied c.insert_reserved.ensures.updates (put_cells g (goal.at.returns-clause-tied g c).After-insert_reserved) refl
    (λ place e. let is : place_of n ≡ place = cc in sym is ∙ c.set_slot.ensures.place ∙ c.vacant_key-slot.ensures.value ∙ sym c.insert_reserved.ensures.key) (subst (λ m. AreApart m.cells) (sym c.apart.ensures.same) c.apart.ensures.apart)

pub returns-clause-entry : goal.returns-clause-entry
returns-clause-entry g c = ap entry_in (put_there g (goal.at.returns-clause-entry g c).After-insert_reserved) ∙ ap Some (c.set_slot.ensures.entry ∙ ap entry_of c.deref_mut.ensures.value)

pub returns-clause-at : goal.returns-clause-at
returns-clause-at g c = ap ptr_in (put_there g (goal.at.returns-clause-at g c).After-insert_reserved)

pub returns-clause-hash : goal.returns-clause-hash
returns-clause-hash g c = ap hash_in (put_there g (goal.at.returns-clause-hash g c).After-insert_reserved) ∙ ap Some (c.set_slot.ensures.hash ∙ ap hash_of c.deref_mut.ensures.value)

pub returns-clause-end : goal.returns-clause-end
returns-clause-end g c = λ alone. subst IsEnd (sym (put_there g (goal.at.returns-clause-end g c).After-insert_reserved)) (c.set_slot.ensures.chain ∙ ap chain_of c.deref_mut.ensures.value ∙ alone)

pub returns-clause-others : goal.returns-clause-others
returns-clause-others g c = λ k ne. ap (λ l. cell_at l k) (put_cells g (goal.at.returns-clause-others g c).After-insert_reserved) ∙ put_other c.insert_reserved.result k (Some (cell c.put.result.0.ptr c.put.result.1 c.set_slot.new.self)) c.args.self.now.memory.cells ne
