use Rattle.std.proofs.Common.{◌≡◌, ℕ, ◌<◌, None}
use Rattle.concurrent_lru.specs.Cells.{cell_at}
use Rattle.concurrent_lru.specs.SlotPointers.{IsTied}
use Rattle.concurrent_lru.proofs.node_table.slots.Slots.end.Given as goal

-- the slots so far are free, and no other was filled
abbrev pub invariant-loop-slot : goal.invariant-loop-slot
invariant-loop-slot g l = record {
  tied : IsTied l.self;
  empty : (k : ℕ) → k < l.slot → cell_at l.self.memory.cells k ≡ None;
  vacant : (k : ℕ) → cell_at l.fn.self.memory.cells k ≡ None → cell_at l.self.memory.cells k ≡ None;
}
