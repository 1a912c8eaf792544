-- What the pointer of a handle owns may go to another thread, where the value that it leads to may.
use Rattle.std.specs.Prelude.{Option, Some, None}
use mir.Raw.{raw}
use base.Shift.{Keyless}
use denote.Memory.{lone}
use denote.Param.Send.{IsSend}
use denote.RattleType.{RattleType}
use denote.RawPtr.{Ptr}
use Rattle.std.proofs.Crossing.{frees}
use Rattle.std_alloc.proofs.SendSync.{lies}
use Rattle.std_heap.specs.contracts.Global as Heap
use Rattle.std_heap.specs.contracts.GlobalAllocator.TheImpl.{ghosts}
use Rattle.lru_c.specs.Held.{held_owns}

pub held_keyless : (T : RattleType) → IsSend T → (a : Heap.the_row.Denot) (p : Ptr) (h : Option T.Denot) → Keyless (held_owns (ghosts.dealloc_token a) T p h)
held_keyless T sent a p None = tt
held_keyless T sent a p (Some x) = (lies T sent p x, frees.frees a (raw (lone T.mir)) p)
