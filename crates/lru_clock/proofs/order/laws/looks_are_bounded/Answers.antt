use Rattle.lru_clock.proofs.EvictionLaws.{uses_evict}
use Rattle.lru_clock.proofs.order.laws.looks_are_bounded.Goals as goal

pub returns : goal.returns
returns g c seats o looks = uses_evict seats o looks
