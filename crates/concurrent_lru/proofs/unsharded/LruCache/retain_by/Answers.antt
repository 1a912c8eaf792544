use Rattle.std.proofs.Common.{sym, subst}
use Rattle.concurrent_lru.specs.Ready.{ValuesFit}
use Rattle.concurrent_lru.specs.Visits.{CanJudge}
use Rattle.concurrent_lru.proofs.Entries.Visited.{can_judge, can_judge_on}
use Rattle.concurrent_lru.proofs.unsharded.LruCache.retain_by.Goals as goal
use Rattle.concurrent_lru.proofs.unsharded.LruCache.retain_by.Goals.{in-Some+then-not-entry+then-not-keep, in-Some+else-not-entry, else-not-entry-via-then-not-entry+else-not-keep, else-not-entry-via-else-not-entry, in_default}

pub keep-requires : goal.keep-requires
keep-requires g c =
    let at = c.loop-number in
    let kept = subst (ValuesFit g.F.Fit.fits) (sym c.state.ensures.cache) c.state.ensures.kept in
    can_judge g.F.Fit.fits g.G.FnMut c.state.result.now.cache kept c.in-Some.entry c.in-Some.ensures at.keep at.invariant

pub loop-number-preserved : goal.loop-number-preserved
loop-number-preserved g c =
    let at = c.loop-number in
    let kept = subst (ValuesFit g.F.Fit.fits) (sym c.state.ensures.cache) c.state.ensures.kept in
    elim c.match-entry_in.branch [
      | in-Some+then-not-entry+then-not-keep w ↦ subst (CanJudge g.F.Fit.fits g.G.FnMut) (sym w.keep-is) (can_judge_on g.F.Fit.fits g.G.FnMut c.state.result.now.cache kept w.in-Some.entry w.in-Some.ensures at.keep w.keep.new.self w.keep.result at.invariant w.keep.ensures)
      | in-Some+else-not-entry w ↦ subst (CanJudge g.F.Fit.fits g.G.FnMut) (sym w.keep-is) (elim w.else-not-entry.branch [
        | else-not-entry-via-then-not-entry+else-not-keep x ↦ subst (CanJudge g.F.Fit.fits g.G.FnMut) (sym x.keep-is) (can_judge_on g.F.Fit.fits g.G.FnMut c.state.result.now.cache kept w.in-Some.entry w.in-Some.ensures at.keep x.keep.new.self x.keep.result at.invariant x.keep.ensures)
        | else-not-entry-via-else-not-entry x ↦ subst (CanJudge g.F.Fit.fits g.G.FnMut) (sym x.keep-is) at.invariant
      ])
      | in_default w ↦ subst (CanJudge g.F.Fit.fits g.G.FnMut) (sym w.keep-is) at.invariant
    ]
