use Rattle.std.proofs.Common.{refl, sym, subst}
use Rattle.std.specs.List.{AllByRecursion, FoldsTo}
use Rattle.concurrent_lru.specs.Cache.{IsLawful}
use Rattle.concurrent_lru.specs.Ready.{ValuesFit}
use Rattle.concurrent_lru.specs.ReadyEntries.{ListsReady, entry_of_ref}
use Rattle.concurrent_lru.specs.Visits.{Visits, VisitsEach, found}
use Rattle.concurrent_lru.proofs.Entries.Visited.{listed_fit, can_visit, can_go_on, passed, shown}
use Rattle.concurrent_lru.proofs.unsharded.LruCache.for_each_by.Goals as goal

pub loop-entry-init : goal.loop-entry-init
loop-entry-init g c =
    let cache = c.state.result.now.cache in
    let is = sym c.state.ensures.cache in
    let kept = subst (ValuesFit g.F.Fit.fits) is c.state.ensures.kept in
    let entries = c.into_iter-entry-iterator.result in
    let listed = subst (ListsReady cache) (sym c.into_iter-entry-iterator.ensures.into_iter_gives) c.entries-entry-items.ensures in
    record {
      callable = c.requires.callable;
      fit = listed_fit g.F.Fit.fits cache entries kept listed;
      left = λ last h. record { cache = cache; lawful = subst (IsLawful g.K.PartialEq.eq) is c.state.ensures.lawful; kept = kept; entries = entries; listed = listed; visited = h };
    }

pub f-requires : goal.f-requires
f-requires g c =
    let at = c.loop-entry in
    let e = c.in-Some.entry in
    can_visit g.F.Fit.fits g.G.FnMut at.f e.key e.value e.charge e.pins at.invariant.callable (subst (AllByRecursion (λ x. g.F.Fit.fits x.key x.value)) c.in-Some.ensures.steps at.invariant.fit).0

pub loop-entry-preserved-then-not-entry : goal.loop-entry-preserved-then-not-entry
loop-entry-preserved-then-not-entry g c =
    let at = c.loop-entry in
    let e = c.in-Some.entry in
    let steps = c.in-Some.ensures.steps in
    let fit = subst (AllByRecursion (λ x. g.F.Fit.fits x.key x.value)) steps at.invariant.fit in
    record {
      callable = can_go_on g.F.Fit.fits g.G.FnMut at.f (e.key, (e.value, (e.charge, (e.pins, tt)))) c.f.new.self at.invariant.callable fit.0 c.f.ensures;
      fit = fit.1;
      left = shown g.G.FnMut (VisitsEach g.K.PartialEq.eq g.F.Fit.fits g.G.FnMut c.args.f.now) (entry_of_ref e) c.next.new.self at.entry-iterator steps at.f c.f.new.self c.if-not-entry.true
          record { key = e.key; value = e.value; its_key = refl; its_value = refl; called = c.f.ensures } at.invariant.left;
    }

pub loop-entry-preserved : goal.loop-entry-preserved
loop-entry-preserved g c =
    let at = c.loop-entry in
    let steps = c.in-Some.ensures.steps in
    record {
      callable = at.invariant.callable;
      fit = (subst (AllByRecursion (λ x. g.F.Fit.fits x.key x.value)) steps at.invariant.fit).1;
      left = passed g.G.FnMut (VisitsEach g.K.PartialEq.eq g.F.Fit.fits g.G.FnMut c.args.f.now) (entry_of_ref c.in-Some.entry) c.next.new.self at.entry-iterator steps at.f c.if-not-entry.false at.invariant.left;
    }

pub returns-clause-visits : goal.returns-clause-visits
returns-clause-visits g c =
    let at = c.loop-entry in
    at.invariant.left at.f (subst (λ xs. FoldsTo (Visits g.G.FnMut) at.f (found xs) at.f) (sym c.in-None.ensures.steps.0) refl)
