-- A `&` to the memory is made where one to a value is. Assumes `Logic`.
use mathlib.Core.List.{List, [], ◌∷◌}
use seplogic.Ra.Ura.{Ura}
use base.Fml.{Lft, Incl, ftrue}
use mir.Raw.{raw as bare}
use types.Logic.{Logic}
use denote.RattleType.{RattleType, RowLaws}
use denote.Memory.{lone}
use denote.Param.Laws.{Laws}
use denote.RawPtr.{lies_at}
use base.Fraction.{full_share}
use denote.Sharing.{ShrLaws}
use denote.SharingLaws.{beside_shr_laws, nothing_shr_laws}
use denote.Shares.{Shares-less}
use denote.Struct.Lending.{Lends, lent_at, lent_at_shr_laws, Lends-lies, Lends-first, Lends-both, Lends-nothing}
use Rattle.std.specs.Prelude.{Option, Some, None}
use Rattle.core.specs.declared.alloc.Allocator.{Ghosts}
use Rattle.concurrent_lru.specs.Cells.{Cell}
use Rattle.concurrent_lru.specs.CellOwnership.{cell_owns, cells_own, cell_lent, cells_lent}

module _ (T A : RattleType) (L : RowLaws T) where
  cell_lent_laws : (c : Option (Cell T.Denot A.Denot)) → ShrLaws (cell_lent T A c)
  cell_lent_laws None = nothing_shr_laws
  cell_lent_laws (Some c) = lent_at_shr_laws T L c.at c.value

  pub cells_lent_laws : (cs : List (Option (Cell T.Denot A.Denot))) → ShrLaws (cells_lent T A cs)
  cells_lent_laws [] = nothing_shr_laws
  cells_lent_laws (c ∷ cs) = beside_shr_laws _ _ (cell_lent_laws c) (cells_lent_laws cs)

module _ {M : Type 1} {𝓤 : Ura M} (𝓛 : Logic 𝓤) (l : Lft) (T A : RattleType) (g : Ghosts A.Denot) (L : Laws T) (inc : Incl l T.lives) where
  Lends-cell : (c : Option (Cell T.Denot A.Denot)) → Lends 𝓛 (cell_owns T A g.dealloc_token c) (cell_lent T A c) l
  Lends-cell None = Lends-nothing 𝓛 ftrue l
  Lends-cell (Some c) =
      Lends-first 𝓛 (lies_at T full_share c.at c.value) (g.dealloc_token c.alloc (bare (lone T.mir)) c.at) (lent_at T c.at c.value) l
      (Lends-lies 𝓛 T l c.at c.value (Shares-less 𝓛 T T.lives l inc (L.shares 𝓛) c.value))

  pub Lends-cells : (cs : List (Option (Cell T.Denot A.Denot))) → Lends 𝓛 (cells_own T A g.dealloc_token cs) (cells_lent T A cs) l
  Lends-cells [] = Lends-nothing 𝓛 ftrue l
  Lends-cells (c ∷ cs) = Lends-both 𝓛 (cell_owns T A g.dealloc_token c) (cells_own T A g.dealloc_token cs) (cell_lent T A c) (cells_lent T A cs) l (Lends-cell c) (Lends-cells cs)
