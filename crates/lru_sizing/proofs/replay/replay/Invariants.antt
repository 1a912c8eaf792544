use Rattle.std.proofs.Common.{◌≤◌, take}
use Rattle.concurrent_lru.specs.Cache.{empty_cache, most_pins_by_default}
use Rattle.lru_sizing.specs.Replays.{IsReplay}
use Rattle.lru_sizing.proofs.replay.replay.Given as goal

abbrev pub invariant-loop-place : goal.invariant-loop-place
invariant-loop-place g l =
    IsReplay g.K.PartialEq.eq (empty_cache l.capacity most_pins_by_default 0) (take l.place l.trace) l.hits.items l.cache.cache × (l.cache.cache.next ≤ l.place)
