-- The nodes may go to another thread, where their keys and values may, and values be shared.
use denote.RattleType.{RattleType}
use denote.Param.Send.{IsSend, IsSync}
use Rattle.concurrent_lru.proofs.Threads.CacheSent.{nodes_send}
use Rattle.concurrent_lru.specs.contracts.node_table.Nodes.{the_row}

pub send : (K V : RattleType) → IsSend K → IsSend V → IsSync V → IsSend (the_row K V)
send = nodes_send
