use Rattle.std.proofs.Common.{◌≡◌, ℕ, ◌+◌, ◌<◌, ◌++◌, length, reverse, take}
use Rattle.concurrent_lru.specs.Cache.{charges}
use Rattle.concurrent_lru.specs.Chain.{chain_from, idle_in_chain, AreReady}
use Rattle.concurrent_lru.specs.Entries.{charges_of}
use Rattle.concurrent_lru.proofs.table.Table.evict_down_to.Given as goal

abbrev pub invariant-loop-self : goal.invariant-loop-self
invariant-loop-self g l = record {
  work : l.self.work ≡ l.initial.self.work + length (reverse (idle_in_chain l.newest_first));
  held : l.self.held ≡ l.initial.self.held;
  ready : AreReady (chain_from l.newest_first);
  idle : l.initial.self.idle ≡ reverse (idle_in_chain l.newest_first) ++ l.self.idle;
  total : charges_of l.self + charges (reverse (idle_in_chain l.newest_first)) ≡ charges_of l.initial.self;
  shortest : (n : ℕ) → n < length (reverse (idle_in_chain l.newest_first)) → l.capacity + charges (take n l.initial.self.idle) < charges_of l.initial.self;
}

abbrev pub decreases-loop-self : goal.decreases-loop-self
decreases-loop-self g l = length l.self.idle
