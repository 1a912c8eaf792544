use denote.RattleType.{RattleType}
use denote.Param.Send.{IsSend, Frees}
use Rattle.core.specs.declared.alloc.Allocator.{Ghosts}
use Rattle.concurrent_lru.proofs.Memory.CellsSent.{Memory-send}
use Rattle.concurrent_lru.specs.contracts.node_table.memory.Memory.{the_row}

pub send : (T A : RattleType) (g : Ghosts A.Denot) → IsSend T → IsSend A → Frees g g.dealloc_token → IsSend (the_row T A g)
send T A g s a = Memory-send T A g s
