use Rattle.std.proofs.Common.{refl, sym, ap, ◌∙◌, subst}
use Rattle.concurrent_lru.specs.Cells.{cell_at}
use Rattle.concurrent_lru.specs.NodeTable.{entry_of, hash_of}
use Rattle.concurrent_lru.specs.Probing.Entries.{Adds, entry}
use Rattle.concurrent_lru.specs.Probing.OpenTable.{mark_of}
use Rattle.concurrent_lru.specs.SlotPointers.{cells_of}
use Rattle.concurrent_lru.proofs.Nodes.Listings.{put_but, but_none, but_absent, listed_more, put_listed, put_unlisted}
use Rattle.concurrent_lru.proofs.node_table.slots.Slots.insert.Goals as goal

pub insert-requires-clause-absent : goal.insert-requires-clause-absent
insert-requires-clause-absent g c =
    let mid = c.put-slot.new.self in
    but_absent mid c.put-slot.result.0 c.put-slot.result.1 c.put-slot.ensures.tied (put_but c.args.self.now mid c.put-slot.result.0 c.put-slot.ensures.by_hash c.put-slot.ensures.vacant c.put-slot.ensures.others c.requires.listed) c.put-slot.ensures.at

pub returns-clause-listed : goal.returns-clause-listed
returns-clause-listed g c =
    let mid = c.put-slot.new.self in let slot = c.put-slot.result.0 in let n = c.args.node.value in
    listed_more mid (record mid { by_hash = c.insert.new.self }) slot (entry (mark_of (hash_of n)) c.put-slot.result.1) refl
    (put_listed (cell_at (cells_of mid) slot) n c.put-slot.result.1 c.put-slot.ensures.entry c.put-slot.ensures.hash c.put-slot.ensures.at (ap (λ x. (entry_of x).detached) (sym c.deref-2.ensures) ∙ c.if-is_detached.false))
    (subst (λ x. Adds mid.by_hash c.insert.new.self (entry (mark_of (hash_of x)) c.put-slot.result.1)) c.deref.ensures c.insert.ensures.adds)
    (put_but c.args.self.now mid slot c.put-slot.ensures.by_hash c.put-slot.ensures.vacant c.put-slot.ensures.others c.requires.listed)

pub returns-then-is_detached-clause-listed : goal.returns-then-is_detached-clause-listed
returns-then-is_detached-clause-listed g c =
    let mid = c.put-slot.new.self in let slot = c.put-slot.result.0 in let n = c.args.node.value in
    but_none mid slot (put_unlisted (cell_at (cells_of mid) slot) n c.put-slot.ensures.entry (ap (λ x. (entry_of x).detached) (sym c.deref-2.ensures) ∙ c.if-is_detached.true))
    (put_but c.args.self.now mid slot c.put-slot.ensures.by_hash c.put-slot.ensures.vacant c.put-slot.ensures.others c.requires.listed)
