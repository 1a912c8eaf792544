use Rattle.concurrent_lru.specs.Visits.{CanJudge}
use Rattle.concurrent_lru.proofs.unsharded.LruCache.retain_by.Given as goal

abbrev pub invariant-loop-number : goal.invariant-loop-number
invariant-loop-number g l = CanJudge g.F.Fit.fits g.G.FnMut l.keep
