use Rattle.lru_clock.proofs.EvictionLaws.{busy_evict}
use Rattle.lru_clock.proofs.order.laws.all_are_in_use.Goals as goal

pub returns : goal.returns
returns g c seats o after looks p is there few = busy_evict seats o after looks p is there few
