use Rattle.std.proofs.Common.{◌≡◌, ℕ, Some, length, Contains}
use Rattle.concurrent_lru.specs.Cells.{cell_at}
use Rattle.concurrent_lru.specs.Listing.{listing}
use Rattle.concurrent_lru.specs.NodeTable.{hash_of}
use Rattle.concurrent_lru.specs.Probing.Entries.{Holds}
use Rattle.concurrent_lru.specs.Probing.OpenTable.{mark_of, HasMark, walk}
use Rattle.concurrent_lru.specs.Relinks.{NodeCell}
use Rattle.concurrent_lru.proofs.node_table.slots.Slots.cursor_of.Given as goal

-- the node in the slot lies ahead, if it has the hash
abbrev pub invariant-walk : goal.invariant-walk
invariant-walk g l = record {
  mark : HasMark l.self.by_hash (mark_of l.hash) l.at;
  ahead : (k : ℕ) (c : NodeCell g.row.K.Denot g.row.V.Denot) → cell_at l.self.memory.cells l.slot ≡ Some c → hash_of c.value ≡ l.hash → Holds l.self.by_hash k (listing c) → Contains (walk l.self.by_hash l.at) k;
}

abbrev pub decreases-walk : goal.decreases-walk
decreases-walk g l = length (walk l.self.by_hash l.at)
