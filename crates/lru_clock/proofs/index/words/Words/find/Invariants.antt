use Rattle.std.proofs.Common.{◌≡◌, ◌≢◌, ℕ, ◌-◌, ◌<◌, length}
use Rattle.concurrent_lru.specs.Probing.Cycle.{steps, home_of}
use Rattle.concurrent_lru.specs.Probing.Probes.{mark_at}
use Rattle.lru_clock.proofs.Words.Walks.{Walk}
use Rattle.lru_clock.proofs.index.words.Words.find.Given as goal

-- the words that were passed are others
abbrev pub invariant-loop-word : goal.invariant-loop-word
invariant-loop-word l = record {
  same : l.self ≡ l.fn.self;
  count : l.count ≡ length l.fn.self;
  walk : Walk l.fn.self (home_of (length l.fn.self) l.word) l.at;
  others : (m : ℕ) → m < length l.fn.self → steps (length l.fn.self) (home_of (length l.fn.self) l.word) m < steps (length l.fn.self) (home_of (length l.fn.self) l.word) l.at → mark_at l.fn.self m ≢ l.word;
}

abbrev pub decreases-loop-word : goal.decreases-loop-word
decreases-loop-word l = length l.fn.self - steps (length l.fn.self) (home_of (length l.fn.self) l.word) l.at
