-- A `&` to the memory reaches each value. Assumes `Logic`.
use mathlib.Core.List.{[], ◌++◌}
use base.Fml.{Incl-trans}
use contract.BorrowLft.{meet_⊑_left}
use denote.RattleType.{RattleType}
use denote.RawPtr.{RawPtr}
use denote.Param.Laws.{Laws}
use denote.Param.Shared.{copy_shared}
use denote.Struct.Laws.{field_copy}
use denote.Struct.Lending.{of_Lends}
use Rattle.core.specs.declared.alloc.Allocator.{Ghosts}
use Rattle.core.specs.contracts.marker.PhantomData as marker
use Rattle.concurrent_lru.specs.contracts.node_table.memory.Memory as C
use Rattle.concurrent_lru.proofs.node_table.memory.Memory.TheLaw.Statement.{statement}
use Rattle.concurrent_lru.proofs.Memory.CellsShared.{cells_lent_laws, Lends-cells}

pub shares : (T A : RattleType) (g : Ghosts A.Denot) (L : Laws T) (K : Laws A) → statement T A g L K
shares T A g L K = of_Lends (C.struct T A g) (C.the_codes T.Denot A.Denot T.coded A.coded (marker.the_row RawPtr).coded) (C.the_heap T A g) (C.the_lent T A g)
    (λ d p. cells_lent_laws T A L.shr_laws d.cells) (copy_shared (marker.the_field RawPtr) (field_copy (marker.the_type RawPtr) tt), tt)
    (λ M 𝓤 𝓛 d p.
    Lends-cells 𝓛 (C.the_row T A g).lives T A g L (Incl-trans (meet_⊑_left (T.lives ++ (A.lives ++ [])) _) (meet_⊑_left T.lives (A.lives ++ []))) d.cells)
