use denote.RattleType.{RattleType}
use denote.Param.Send.{IsSync}
use Rattle.core.specs.declared.alloc.Allocator.{Ghosts}
use Rattle.concurrent_lru.proofs.Memory.CellsSent.{Memory-sync}
use Rattle.concurrent_lru.specs.contracts.node_table.memory.Memory.{the_row}

pub sync : (T A : RattleType) (g : Ghosts A.Denot) → IsSync T → IsSync A → IsSync (the_row T A g)
sync T A g y a = Memory-sync T A g y
