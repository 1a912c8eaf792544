use Rattle.std.proofs.Common.{◌+◌, ◌<◌, ◌≤◌, refl, sym, ap, ◌∙◌, subst}
use Rattle.std.specs.FinMap.{insert}
use Rattle.concurrent_lru.specs.NodeTable.{NodeTable, entry_of, hash_of}
use Rattle.concurrent_lru.specs.SlotTable.{entry_in}
use Rattle.concurrent_lru.specs.Listing.{spare_of}
use Rattle.concurrent_lru.specs.SlotPointers.{cells_of}
use Rattle.concurrent_lru.proofs.Nodes.SlotViews.{node_had, vacant_out, table_else, entries_inserted, hashes_inserted}
use Rattle.concurrent_lru.proofs.node_table.Nodes.insert_reserved.Goals as goal

pub invariant_of-self : goal.invariant_of-self
invariant_of-self g c =
    let i = c.self.inside in (
      refl,
      tt,
      record {
        linked = (table_else i.order c.insert.new.self c.insert.result c.self.invariant.linked (vacant_out i.order c.insert.result c.self.invariant.linked c.insert.ensures.vacant) c.insert.ensures.tied c.insert.ensures.others (c.insert.ensures.end c.requires.alone)).0;
        listed = c.insert.ensures.listed;
      },
    )

pub returns-clause-free : goal.returns-clause-free
returns-clause-free g c = let i = c.self.inside in node_had i.order i.work.count c.args.self.now c.self.view_is c.insert.result c.insert.result refl ∙ ap entry_in c.insert.ensures.vacant

pub returns-clause-nodes : goal.returns-clause-nodes
returns-clause-nodes g c =
    let i = c.self.inside in
    entries_inserted (cells_of i.order.slots) c.insert.new.self.memory.cells c.insert.result (entry_of c.args.node.value) c.insert.ensures.others c.insert.ensures.entry
    ∙ ap (λ (v : NodeTable g.row.K.Denot g.row.V.Denot). insert v.nodes c.insert.result (entry_of c.args.node.value)) c.self.view_is

pub returns-clause-idle : goal.returns-clause-idle
returns-clause-idle g c = let i = c.self.inside in (table_else i.order c.insert.new.self c.insert.result c.self.invariant.linked (vacant_out i.order c.insert.result c.self.invariant.linked c.insert.ensures.vacant) c.insert.ensures.tied c.insert.ensures.others (c.insert.ensures.end c.requires.alone)).1 ∙ ap (λ (v : NodeTable g.row.K.Denot g.row.V.Denot). v.idle) c.self.view_is

pub returns-clause-hashes : goal.returns-clause-hashes
returns-clause-hashes g c =
    hashes_inserted (cells_of c.self.inside.order.slots) c.insert.new.self.memory.cells c.insert.result (hash_of c.args.node.value) c.insert.ensures.others c.insert.ensures.hash
    ∙ ap (λ (v : NodeTable g.row.K.Denot g.row.V.Denot). insert v.hashes c.insert.result (hash_of c.args.node.value)) c.self.view_is

pub insert-requires-clause-room : goal.insert-requires-clause-room
insert-requires-clause-room g c = subst (λ n. 0 < n) (sym (ap (λ (v : NodeTable g.row.K.Denot g.row.V.Denot). v.spare) c.self.view_is)) c.requires.spare

pub returns-clause-spare : goal.returns-clause-spare
returns-clause-spare g c = subst (λ n. n ≤ spare_of c.insert.new.self + 1) (ap (λ (v : NodeTable g.row.K.Denot g.row.V.Denot). v.spare) c.self.view_is) c.insert.ensures.spare
