use Rattle.std.specs.List.{AllByRecursion, FoldsTo}
use Rattle.concurrent_lru.specs.Visits.{CanVisit, Visits, VisitsEach, found}
use Rattle.concurrent_lru.proofs.unsharded.LruCache.for_each_by.Given as goal

-- whatever the calls for the entries that are left do, with those before them it is a visit of all
abbrev pub invariant-loop-entry : goal.invariant-loop-entry
invariant-loop-entry g l = record {
  callable : CanVisit g.F.Fit.fits g.G.FnMut l.f;
  fit : AllByRecursion (λ e. g.F.Fit.fits e.key e.value) l.entry-iterator;
  left : (last : _) → FoldsTo (Visits g.G.FnMut) l.f (found l.entry-iterator) last → VisitsEach g.K.PartialEq.eq g.F.Fit.fits g.G.FnMut l.fn.f last;
}
