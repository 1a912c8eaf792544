use Rattle.std.proofs.Common.{length}
use Rattle.concurrent_lru.specs.Probing.OpenTable.{mark_of, HasMark, walk}
use Rattle.concurrent_lru.proofs.node_table.Nodes.find_stamp_by_hash.Given as goal

abbrev pub invariant-walk : goal.invariant-walk
invariant-walk g l = HasMark l.slots.by_hash (mark_of l.hash) l.at

abbrev pub decreases-walk : goal.decreases-walk
decreases-walk g l = length (walk l.slots.by_hash l.at)
