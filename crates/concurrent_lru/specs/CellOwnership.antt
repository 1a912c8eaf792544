-- What a `Memory` owns and lends: each value at its address, and the right to free its block.
use Rattle.std.specs.Prelude.{List, [], ◌∷◌, Option, Some, None}
use base.Fml.{Lft, Fml, ftrue, fsep}
use mir.Syntax.{Ty}
use denote.RattleType.{RattleType}
use denote.Sharing.{nothing, beside}
use denote.RawPtr.{Ptr}
use denote.Struct.Lending.{lent_at}
use Rattle.std_alloc.specs.Box.Ownership.{box_owns}
use Rattle.concurrent_lru.specs.Cells.{Cell}

module _ (T A : RattleType) (token : A.Denot → Ty → Ptr → Fml) where
  abbrev pub cell_owns : Option (Cell T.Denot A.Denot) → Fml
  cell_owns None = ftrue
  cell_owns (Some c) = box_owns (token c.alloc) T c.at c.value

  abbrev pub cells_own : List (Option (Cell T.Denot A.Denot)) → Fml
  cells_own [] = ftrue
  cells_own (c ∷ cells) = fsep (cell_owns c) (cells_own cells)

module _ (T A : RattleType) where
  abbrev pub cell_lent : Option (Cell T.Denot A.Denot) → Lft → Fml
  cell_lent None = nothing
  cell_lent (Some c) = lent_at T c.at c.value

  abbrev pub cells_lent : List (Option (Cell T.Denot A.Denot)) → Lft → Fml
  cells_lent [] = nothing
  cells_lent (c ∷ cells) = beside (cell_lent c) (cells_lent cells)
