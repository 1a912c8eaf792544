-- What a `Memory` owns once a `&mut` to one of its values has ended.
use Rattle.std.specs.Borrow.{Fml, RattleType, MutBor, Lends}
use denote.RawPtr.{Ptr}
use Rattle.std.specs.declared.alloc.Allocator.{Ghosts}
use Rattle.concurrent_lru.specs.Cells.{write_to}
use Rattle.concurrent_lru.specs.declared.node_table.memory.Memory.{Memory}
use Rattle.concurrent_lru.specs.contracts.node_table.memory.Memory.{the_row}

-- the memory with the first value at the pointer p replaced by w
abbrev pub with_value : {T A : Type 0} → Memory T A → Ptr → T → Memory T A
with_value m p w = record m { cells = write_to p w m.cells }

abbrev pub lends_at : (T A : RattleType) → Ghosts A.Denot → MutBor (Memory T.Denot A.Denot) → Ptr → MutBor T.Denot → Fml
lends_at T A g m p r = Lends (the_row T A g) T m r (with_value m.now p)
