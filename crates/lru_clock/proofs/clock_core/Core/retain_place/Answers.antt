-- The predicate may be called with what a visit shows.
use Rattle.lru_clock.proofs.clock_core.Core.retain_place.Goals as goal

pub visit-requires-clause-callable : goal.visit-requires-clause-callable
visit-requires-clause-callable g c = λ state k v charge pins fits. c.requires.callable state.0.now k v charge fits
