use Rattle.std.proofs.Common.{◌≡◌, ◌-◌, length}
use Rattle.concurrent_lru.specs.Probing.Cycle.{steps, home_of}
use Rattle.lru_clock.proofs.Words.Walks.{Walk}
use Rattle.lru_clock.proofs.index.words.Words.find_empty.Given as goal

abbrev pub invariant-loop-at : goal.invariant-loop-at
invariant-loop-at l = record {
  same : l.self ≡ l.fn.self;
  count : l.count ≡ length l.fn.self;
  walk : Walk l.fn.self (home_of (length l.fn.self) l.word) l.at;
}

abbrev pub decreases-loop-at : goal.decreases-loop-at
decreases-loop-at l = length l.fn.self - steps (length l.fn.self) (home_of (length l.fn.self) l.word) l.at
