use Rattle.std.proofs.Common.{◌≡◌, ℕ, Some, true, length, Contains}
use Rattle.concurrent_lru.specs.Cells.{cell_at}
use Rattle.concurrent_lru.specs.Listing.{listing}
use Rattle.concurrent_lru.specs.NodeTable.{entry_of, hash_of}
use Rattle.concurrent_lru.specs.Probing.Entries.{Holds}
use Rattle.concurrent_lru.specs.Probing.OpenTable.{mark_of, HasMark, walk}
use Rattle.concurrent_lru.specs.Relinks.{NodeCell}
use Rattle.concurrent_lru.proofs.node_table.Nodes.find_key.Given as goal

-- each node with the hash and the key lies ahead
abbrev pub invariant-walk : goal.invariant-walk
invariant-walk g l = record {
  mark : HasMark l.slots.by_hash (mark_of l.hash) l.at;
  ahead : (k slot : ℕ) (c : NodeCell g.row.K.Denot g.row.V.Denot) → cell_at l.slots.memory.cells slot ≡ Some c → hash_of c.value ≡ l.hash → g.K.PartialEq.eq (entry_of c.value).key (g.Q.AsKey.owned l.key) ≡ true → Holds l.slots.by_hash k (listing c) → Contains (walk l.slots.by_hash l.at) k;
}

abbrev pub decreases-walk : goal.decreases-walk
decreases-walk g l = length (walk l.slots.by_hash l.at)
