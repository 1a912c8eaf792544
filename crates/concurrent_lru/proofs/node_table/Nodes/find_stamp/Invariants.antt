use Rattle.std.proofs.Common.{ℕ, ◌<◌}
use Rattle.concurrent_lru.specs.NodeTable.{HasStampAt}
use Rattle.concurrent_lru.proofs.node_table.Nodes.find_stamp.Given as goal

abbrev pub invariant-loop-slot : goal.invariant-loop-slot
invariant-loop-slot g l = (place : ℕ) → place < l.slot → HasStampAt l.self place l.stamp → ⊥
