use Rattle.std.proofs.Common.{rules, of_calls}
use Rattle.concurrent_lru.proofs.unsharded.LruCache.get_or_init_with.Goals as goal

pub ready_with-requires-clause-charged : goal.ready_with-requires-clause-charged
ready_with-requires-clause-charged g c = c.requires.charged c.init-value.result.0 c.init-value.result.1 (search (rules, of_calls))

pub ready_with-requires-clause-fits : goal.ready_with-requires-clause-fits
ready_with-requires-clause-fits g c = c.requires.fits c.init-value.result.0 c.init-value.result.1 (search (rules, of_calls))

pub returns-in_ok-handle-in-Make-clause-charge : goal.returns-in_ok-handle-in-Make-clause-charge
returns-in_ok-handle-in-Make-clause-charge g c =
    rw (c.in_ok-handle-in-Make.ensures.handle.1, c.in_ok-handle-in-Make.ensures.value) (search (rules, of_calls))
