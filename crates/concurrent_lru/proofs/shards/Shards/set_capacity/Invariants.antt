use Rattle.std.proofs.Common.{reverse}
use Rattle.concurrent_lru.specs.Request as ask
use Rattle.concurrent_lru.specs.Sharded.{AreLawful}
use Rattle.concurrent_lru.specs.Parts.{FirstTake}
use Rattle.concurrent_lru.proofs.shards.Shards.set_capacity.Given as goal

abbrev pub invariant-loop-shard : goal.invariant-loop-shard
invariant-loop-shard g l = record {
  taken : FirstTake g.K.PartialEq.eq l.shard l.fn.self (ask.set_capacity l.share) (reverse l.newest_first) l.self;
  lawful : AreLawful g.K.PartialEq.eq l.self;
}
