use Rattle.std.proofs.Common.{◌≡◌, replicate}
use Rattle.concurrent_lru.specs.Cache.{empty_cache, most_pins_by_default}
use Rattle.concurrent_lru.specs.Counted.{caches_in}
use Rattle.concurrent_lru.proofs.shards.Shards.new.Given as goal

abbrev pub invariant-loop : goal.invariant-loop
invariant-loop g l = caches_in l.caches.items ≡ replicate (l.counter) (empty_cache l.share most_pins_by_default 0)
