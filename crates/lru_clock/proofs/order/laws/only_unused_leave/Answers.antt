use Rattle.lru_clock.proofs.EvictionLaws.{stops_evict}
use Rattle.lru_clock.proofs.order.laws.only_unused_leave.Goals as goal

pub returns : goal.returns
returns g c seats o looks = stops_evict seats o looks
