-- The memory may go to another thread as its values and its allocator may.
use Rattle.std.specs.Prelude.{List, [], ◌∷◌, Option, Some, None}
use base.Fraction.{full_share}
use base.Shift.{Keyless}
use denote.RattleType.{RattleType}
use denote.RawPtr.{Ptr, block_ptr, null_ptr, lies_at}
use denote.Struct.Lending.{lent_at}
use denote.Struct.Struct.{exits_of}
use denote.Struct.Owning.{shape, fields, to}
use denote.Param.Send.{IsSend, IsSync, Common, AllSend, part_keyless, owning_send, struct_send, struct_sync, sendable}
use Rattle.core.specs.declared.alloc.Allocator.{Ghosts}
use Rattle.std_alloc.proofs.SendSync.{FreesAnywhere, quiet}
use Rattle.concurrent_lru.specs.Cells.{Cell}
use Rattle.concurrent_lru.specs.CellOwnership.{cells_own, cells_lent}
use Rattle.concurrent_lru.specs.contracts.node_table.memory.Memory as M-type

module _ (T A : RattleType) (g : Ghosts A.Denot) where
  lies : IsSend T → (p : Ptr) (x : T.Denot) → Keyless (lies_at T full_share p x)
  lies s (block_ptr b o) x = part_keyless T s full_share x b o
  lies s null_ptr x = tt

  seen : IsSync T → (p : Ptr) (x : T.Denot) → Common (lent_at T p x)
  seen y (block_ptr b o) x κ = (tt, y.shared x b o κ)
  seen y null_ptr x κ = (tt, y.shared x 0 0 κ)

  all_keyless : IsSend T → FreesAnywhere A.Denot g → (cs : List (Option (Cell T.Denot A.Denot))) → Keyless (cells_own T A g.dealloc_token cs)
  all_keyless s f [] = tt
  all_keyless s f (None ∷ cs) = (tt, all_keyless s f cs)
  all_keyless s f (Some c ∷ cs) = ((lies s c.at c.value, f.frees c.alloc _ c.at), all_keyless s f cs)

  all_common : IsSync T → (cs : List (Option (Cell T.Denot A.Denot))) → Common (cells_lent T A cs)
  all_common y [] κ = tt
  all_common y (None ∷ cs) κ = (tt, all_common y cs κ)
  all_common y (Some c ∷ cs) κ = (seen y c.at c.value κ, all_common y cs κ)

  pub Memory-send : IsSend T → FreesAnywhere A.Denot g → IsSend (M-type.the_row T A g)
  Memory-send s f =
      let O = M-type.the_type T A g in let all : AllSend (fields O) = (search sendable, tt) in
      owning_send O all (λ d. all_keyless s f d.cells) (λ k. quiet (to O) (exits_of k (fields O)) ((struct_send (shape O) all).leaving k))

  pub Memory-sync : IsSync T → IsSync (M-type.the_row T A g)
  Memory-sync y = let O = M-type.the_type T A g in record { shared = λ d b o κ. ((struct_sync (shape O) (search sendable, tt)).shared (to O d) b o κ, all_common y d.cells κ) }
