use Rattle.concurrent_lru.specs.Visits.{CanJudge}
use Rattle.concurrent_lru.proofs.sharded.LruCache.retain.Given as goal

abbrev pub invariant-loop-shard : goal.invariant-loop-shard
invariant-loop-shard g l = CanJudge g.F.Fit.fits g.G.FnMut l.keep
