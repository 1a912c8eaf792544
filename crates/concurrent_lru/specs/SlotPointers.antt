-- How the slab of pointers and the memory that they lead to agree.
use Rattle.std.specs.Prelude.{◌≡◌, ◌≢◌, ℕ, Option, Some, None, IsSome}
use Rattle.slab.specs.Slab.{get}
use denote.RawPtr.{Ptr}
use Rattle.concurrent_lru.specs.Cells.{cell_at, ptr_in, slot_at, IsValueAt}
use Rattle.concurrent_lru.specs.CellLends.{with_value}
use Rattle.concurrent_lru.specs.Relinks.{NodeCell, NodeCells, place_of}
use Rattle.concurrent_lru.specs.declared.node_table.memory.At.{At}
use Rattle.concurrent_lru.specs.declared.node_table.Node.{Node}
use Rattle.concurrent_lru.specs.declared.node_table.slots.Slots.{Slots}

-- the pointer in a slot
abbrev pub ptr_of : {T : Type 0} → Option (At T) → Option Ptr
ptr_of None = None
ptr_of (Some at) = Some at.ptr

module _ {K V : Type 0} where
  -- the cells of the nodes
  abbrev pub cells_of : Slots K V → NodeCells K V
  cells_of s = s.memory.cells

  -- there is a node in the slot
  abbrev pub HasNode : Slots K V → ℕ → Type 0
  HasNode s slot = IsSome (cell_at (cells_of s) slot)

  -- the link leads to the node in the slot
  abbrev pub LeadsTo : Slots K V → Ptr → ℕ → Type 0
  LeadsTo s link slot = slot_at (cells_of s) link ≡ Some slot

  -- n is the node in the slot, if there is one
  abbrev pub IsNodeAt : Slots K V → ℕ → Node K V → Type 0
  IsNodeAt s slot n = IsValueAt (cells_of s) slot n

  -- every other slot is unchanged
  abbrev pub KeepsOthers : Slots K V → Slots K V → ℕ → Type 0
  KeepsOthers old new slot = (k : ℕ) → k ≢ slot → cell_at (cells_of new) k ≡ cell_at (cells_of old) k

  -- the slot that the node, if there is one, records as its own
  abbrev pub place_in : Option (NodeCell K V) → Option ℕ
  place_in None = None
  place_in (Some c) = Some (place_of c.value)

  -- each pointer leads to the node in its slot, no two pointers are equal, and each node records
  -- its own slot
  pub record IsTied (s : Slots K V) : Type 0 where
    pub pointers : (slot : ℕ) → ptr_in (cell_at (cells_of s) slot) ≡ ptr_of (get s.pointers slot)
    pub apart : (slot : ℕ) (p : Ptr) → ptr_in (cell_at (cells_of s) slot) ≡ Some p → slot_at (cells_of s) p ≡ Some slot
    pub placed : (slot place : ℕ) → place_in (cell_at (cells_of s) slot) ≡ Some place → place ≡ slot

  -- the slots with the node at p replaced by n
  abbrev pub with_node : Slots K V → Ptr → Node K V → Slots K V
  with_node s p n = record s { memory = with_value s.memory p n }
