use Rattle.std.proofs.Common.{rules, of_calls}
use Rattle.concurrent_lru.proofs.unsharded.LruCache.get_or_init_by.Goals as goal

pub ready-requires-clause-fits : goal.ready-requires-clause-fits
ready-requires-clause-fits g c = c.requires.fits _ (search (rules, of_calls))
