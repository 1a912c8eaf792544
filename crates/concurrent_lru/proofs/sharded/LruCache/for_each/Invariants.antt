use Rattle.concurrent_lru.specs.Visits.{CanVisit, VisitsShards}
use Rattle.concurrent_lru.proofs.sharded.LruCache.for_each.Given as goal

abbrev pub invariant-loop-shard : goal.invariant-loop-shard
invariant-loop-shard g l = record {
  callable : CanVisit g.F.Fit.fits g.G.FnMut l.f;
  visited : VisitsShards g.K.PartialEq.eq g.F.Fit.fits g.G.FnMut l.shard-index l.fn.f l.f;
}
