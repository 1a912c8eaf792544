use Rattle.std.proofs.Common.{refl}
use Rattle.concurrent_lru.proofs.unsharded.LruCache.get_or_try_init_by.Goals as goal

pub ready-requires-clause-fits : goal.ready-requires-clause-fits
ready-requires-clause-fits g c = c.requires.fits _ (_, c.in-Ok.ensures, refl)
