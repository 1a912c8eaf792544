use Rattle.std.proofs.Common.{refl, false, sym, ap, ◌∙◌, arith, subst}
use Rattle.std.specs.FinMap.{remove}
use Rattle.concurrent_lru.specs.Cells.{cell_at}
use Rattle.concurrent_lru.specs.Listing.{listing_in}
use Rattle.concurrent_lru.specs.NodeTable.{NodeTable}
use Rattle.concurrent_lru.specs.SlotTable.{idle_of, IsEnd}
use Rattle.concurrent_lru.specs.SlotPointers.{cells_of, IsNodeAt, KeepsOthers}
use Rattle.concurrent_lru.proofs.Order.Appending.{absent_from}
use Rattle.concurrent_lru.proofs.Nodes.Listings.{but_kept, but_none, unlisted}
use Rattle.concurrent_lru.proofs.Nodes.ShownChanges.{shown_node}
use Rattle.concurrent_lru.proofs.Nodes.SlotViews.{present, idle_there, table_else, entries_removed, hashes_removed, spare_kept}
use Rattle.concurrent_lru.proofs.node_table.Nodes.take.Goals as goal
use Rattle.concurrent_lru.proofs.node_table.Nodes.take.Goals.{After-take_out}

pub unlist-requires-clause-present : goal.unlist-requires-clause-present
unlist-requires-clause-present g c = let i = c.self.inside in present i.order i.work.count c.args.self.now c.self.view_is c.place.inside.slot c.args.place c.place.view_is c.requires.within

pub take_out-requires : goal.take_out-requires
take_out-requires g c =
    let i = c.self.inside in
    unlisted i.order.slots c.unlist.new.self c.place.inside.slot c.unlist.ensures.rest c.self.invariant.linked.tied (present i.order i.work.count c.args.self.now c.self.view_is c.place.inside.slot c.args.place c.place.view_is c.requires.within)

-- the other slots stay as they are
others : (g : _) (c : After-take_out g) → KeepsOthers c.self.inside.order.slots c.take_out.new.self c.place.inside.slot
others g c k ne = c.take_out.ensures.others k ne ∙ ap (λ s. cell_at (cells_of s) k) c.unlist.ensures.rest

-- the node that was in its slot
value : (g : _) (c : After-take_out g) → IsNodeAt c.self.inside.order.slots c.place.inside.slot c.take_out.result.value
value g c d at = c.take_out.ensures.value d (ap (λ s. cell_at (cells_of s) c.place.inside.slot) c.unlist.ensures.rest ∙ at)

pub invariant_of-self : goal.invariant_of-self
invariant_of-self g c =
    let i = c.self.inside in let k = c.place.inside.slot in (
      refl,
      tt,
      record {
        linked = (table_else i.order c.take_out.new.self k c.self.invariant.linked (absent_from k (idle_of i.order) (idle_there i.order i.work.count c.args.self.now c.self.view_is false k c.args.place c.place.view_is c.requires.held)) c.take_out.ensures.tied (others g (goal.at.invariant_of-self g c).After-take_out) (subst IsEnd (sym c.take_out.ensures.vacant) tt)).0;
        listed = but_none c.take_out.new.self k (ap listing_in c.take_out.ensures.vacant) (but_kept c.unlist.new.self c.take_out.new.self k c.take_out.ensures.by_hash (λ j ne. ap listing_in (c.take_out.ensures.others j ne)) c.unlist.ensures.others);
      },
    )

pub returns-clause-entry : goal.returns-clause-entry
returns-clause-entry g c = (shown_node c.self.inside.order _ _ c.self.view_is c.place.view_is c.requires.within c.self.invariant.linked (value g (goal.at.returns-clause-entry g c).After-take_out)).entry

pub returns-clause-alone : goal.returns-clause-alone
returns-clause-alone g c = (shown_node c.self.inside.order _ _ c.self.view_is c.place.view_is c.requires.within c.self.invariant.linked (value g (goal.at.returns-clause-alone g c).After-take_out)).alone

pub returns-clause-nodes : goal.returns-clause-nodes
returns-clause-nodes g c =
    let i = c.self.inside in
    entries_removed (cells_of i.order.slots) c.take_out.new.self.memory.cells c.place.inside.slot (others g (goal.at.returns-clause-nodes g c).After-take_out) c.take_out.ensures.vacant ∙ (λ j. remove (c.self.view_is j).nodes (c.place.view_is j))

pub returns-clause-idle : goal.returns-clause-idle
returns-clause-idle g c =
    let i = c.self.inside in let k = c.place.inside.slot in
    (table_else i.order c.take_out.new.self k c.self.invariant.linked (absent_from k (idle_of i.order) (idle_there i.order i.work.count c.args.self.now c.self.view_is false k c.args.place c.place.view_is c.requires.held)) c.take_out.ensures.tied (others g (goal.at.returns-clause-idle g c).After-take_out) (subst IsEnd (sym c.take_out.ensures.vacant) tt)).1
    ∙ ap (λ (v : NodeTable g.row.K.Denot g.row.V.Denot). v.idle) c.self.view_is

pub returns-clause-hashes : goal.returns-clause-hashes
returns-clause-hashes g c =
    hashes_removed (cells_of c.self.inside.order.slots) c.take_out.new.self.memory.cells c.place.inside.slot (others g (goal.at.returns-clause-hashes g c).After-take_out) c.take_out.ensures.vacant ∙ (λ j. remove (c.self.view_is j).hashes (c.place.view_is j))

pub returns-clause-spare : goal.returns-clause-spare
returns-clause-spare g c = let i = c.self.inside in spare_kept i.order c.take_out.new.self c.args.self.now i.work.count c.self.view_is (let first = c.unlist.ensures.spare in let then = c.take_out.ensures.spare in omega (arith, first, then))
