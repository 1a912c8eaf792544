use Rattle.std.proofs.Common.{◌≡◌, ℕ, ◌-◌, ◌<◌, length}
use Rattle.concurrent_lru.specs.Probing.Cycle.{steps, home_of}
use Rattle.concurrent_lru.specs.Probing.Probes.{mark_at}
use Rattle.lru_clock.specs.Index.{word_of}
use Rattle.lru_clock.specs.Searches.{SeatLacks}
use Rattle.lru_clock.proofs.Words.Walks.{Walk}
use Rattle.lru_clock.proofs.store.search.find_key.Given as goal

-- the seats that were passed have other keys
abbrev pub invariant-loop-tag : goal.invariant-loop-tag
invariant-loop-tag g l = record {
  same : l.words ≡ l.fn.words;
  count : l.count ≡ length l.fn.words;
  walk : Walk l.fn.words (home_of (length l.fn.words) l.tag) l.at;
  others : (m p : ℕ) → m < length l.fn.words → steps (length l.fn.words) (home_of (length l.fn.words) l.tag) m < steps (length l.fn.words) (home_of (length l.fn.words) l.tag) l.at
      → mark_at l.fn.words m ≡ word_of l.tag p → SeatLacks g.K.PartialEq.eq l.seats p l.key;
}

abbrev pub decreases-loop-tag : goal.decreases-loop-tag
decreases-loop-tag g l = length l.fn.words - steps (length l.fn.words) (home_of (length l.fn.words) l.tag) l.at
