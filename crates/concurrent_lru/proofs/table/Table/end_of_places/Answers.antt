use Rattle.std.proofs.Common.{subst}
use Rattle.concurrent_lru.specs.Entries.{cache_of}
use Rattle.concurrent_lru.specs.ReadyEntries.{ListsReady, ready_between}
use Rattle.concurrent_lru.proofs.Entries.ReadyByPlace.{lists_ready}
use Rattle.concurrent_lru.proofs.table.Table.end_of_places.Goals as goal

pub returns : goal.returns
returns g c = subst (λ t. ListsReady (cache_of t) (ready_between t 0 c.end_of_places.result)) c.self.view_is (lists_ready c.self.invariant.stored c.end_of_places.result c.end_of_places.ensures)
