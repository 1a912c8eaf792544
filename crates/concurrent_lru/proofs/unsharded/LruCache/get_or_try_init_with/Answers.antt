use Rattle.std.proofs.Common.{refl}
use Rattle.concurrent_lru.proofs.unsharded.LruCache.get_or_try_init_with.Goals as goal

pub ready_with-requires-clause-charged : goal.ready_with-requires-clause-charged
ready_with-requires-clause-charged g c = c.requires.charged c.in-Ok.value c.in-Ok.charge (_, c.in-Ok.ensures, refl)

pub ready_with-requires-clause-fits : goal.ready_with-requires-clause-fits
ready_with-requires-clause-fits g c = c.requires.fits c.in-Ok.value c.in-Ok.charge (_, c.in-Ok.ensures, refl)

pub returns-in-Ok-ready_with-clause-charge : goal.returns-in-Ok-ready_with-clause-charge
returns-in-Ok-ready_with-clause-charge g c =
    rw (c.in-Ok-ready_with.ensures.handle.1, c.in-Ok-ready_with.ensures.value) (_, c.in-Ok.ensures, refl)
