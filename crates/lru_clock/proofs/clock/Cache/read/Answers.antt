use Rattle.std.proofs.Common.{refl}
use Rattle.lru_clock.proofs.clock.Cache.read.Goals as goal

pub returns-in-Some-clause-fits : goal.returns-in-Some-clause-fits
returns-in-Some-clause-fits g c =
    let fit : g.F.Fit.fits c.args.key.now c.in-Some.handle.value =
    rw c.in-Some.is at c.in_ok-handle.ensures.fits in
    (c.value.result.now, rw c.value.ensures.value fit, (c.value.result, c.reader.ensures, refl))
