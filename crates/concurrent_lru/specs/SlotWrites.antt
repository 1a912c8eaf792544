-- What a write to one node changes in the slots.
use Rattle.std.specs.Prelude.{◌≡◌, ℕ, Option}
use denote.RawPtr.{Ptr}
use Rattle.concurrent_lru.specs.Cells.{AtSlot, OfSlot}
use Rattle.concurrent_lru.specs.NodeTable.{Entry}
use Rattle.concurrent_lru.specs.Relinks.{Relinks, Revalues, before_at}
use Rattle.concurrent_lru.specs.SlotPointers.{cells_of}
use Rattle.concurrent_lru.specs.declared.node_table.slots.Slots.{Slots}

module _ {K V : Type 0} where
  -- nothing changed except the memory of the nodes; except that and the count of lookups
  abbrev pub OnlyWrites : Slots K V → Slots K V → Type 0
  OnlyWrites old new = new ≡ record old { memory = new.memory }

  abbrev pub OnlyLooksAndWrites : Slots K V → Slots K V → Type 0
  OnlyLooksAndWrites old new = new ≡ record old { memory = new.memory; looks = new.looks }

  -- the links of the node at p were set
  abbrev pub SetsLinks : Slots K V → Slots K V → Ptr → Option Ptr → Option Ptr → Type 0
  SetsLinks old new p before after = AtSlot (cells_of old) p (λ slot. Relinks (cells_of old) (cells_of new) slot before after)

  -- the node at p leads to another one after it, and to the same one before it
  abbrev pub SetsAfter : Slots K V → Slots K V → Ptr → Option Ptr → Type 0
  SetsAfter old new p after = AtSlot (cells_of old) p (λ slot. Relinks (cells_of old) (cells_of new) slot (before_at (cells_of old) slot) after)

  -- the entry of the node in the slot was changed by f
  abbrev pub Rewrites : Slots K V → Slots K V → ℕ → (Entry K V → Entry K V) → Type 0
  Rewrites old new slot f = Revalues (cells_of old) (cells_of new) slot f

  -- the entry of the node at p was changed by f
  abbrev pub RewritesLink : Slots K V → Slots K V → Ptr → (Entry K V → Entry K V) → Type 0
  RewritesLink old new p f = OfSlot (cells_of old) p (λ slot. Rewrites old new slot f)
