-- The nodes may be shared between threads, where their keys and values may, and values move.
use denote.RattleType.{RattleType}
use denote.Param.Send.{IsSend, IsSync}
use Rattle.concurrent_lru.proofs.Threads.CacheSent.{nodes_sync}
use Rattle.concurrent_lru.specs.contracts.node_table.Nodes.{the_row}

pub sync : (K V : RattleType) → IsSend V → IsSync K → IsSync V → IsSync (the_row K V)
sync K V v k s = nodes_sync K V k v s
