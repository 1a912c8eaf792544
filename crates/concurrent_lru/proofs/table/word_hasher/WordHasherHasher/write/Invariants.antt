use Rattle.std.proofs.Common.{◌≡◌, ◌-◌, ◌*◌, ◌≤◌, ◌/◌, length}
use Rattle.concurrent_lru.specs.WordHashes.{words}
use Rattle.concurrent_lru.proofs.table.word_hasher.WordHasherHasher.write.Given as goal

-- so many whole words have been fed, and some bytes are left, unless there are none
abbrev pub invariant-loop-at : goal.invariant-loop-at
invariant-loop-at l = record {
  within : l.at ≤ length l.bytes - 1;
  whole : 8 * (l.at / 8) ≡ l.at;
  state : l.self.inner ≡ words l.fn.self.inner l.bytes (l.at / 8);
}

abbrev pub decreases-loop-at : goal.decreases-loop-at
decreases-loop-at l = length l.bytes - l.at
