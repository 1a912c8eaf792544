use Rattle.std.proofs.Common.{◌≡◌, ◌+◌, ◌<◌, ◌^◌, length}
use Rattle.concurrent_lru.proofs.eviction.Evicted.len.Given as goal

abbrev pub invariant-loop-seen : goal.invariant-loop-seen
invariant-loop-seen g l = length l.self < 2 ^ 64 → l.len + length l.rest ≡ length l.self
