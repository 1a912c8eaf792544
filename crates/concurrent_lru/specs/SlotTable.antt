-- The idle order of a `Nodes`: the view of its slots and its two ends, and their invariant.
use Rattle.std.specs.Prelude.{◌≡◌, ℕ, ◌==◌, List, [], ◌∷◌, map, filter, not, length, Option, Some, None, IsSome, nat_eq, true, false}
use Rattle.std.specs.FinMap.{FinMap}
use Rattle.std.specs.List.{list_any}
use Rattle.std.specs.Ordering.{nat_cmp}
use denote.RawPtr.{Ptr}
use Rattle.concurrent_lru.specs.Order.{Link, link, IsOrder, order}
use Rattle.concurrent_lru.specs.Slots.{map_of_slots}
use Rattle.concurrent_lru.specs.Cells.{cell_at, slot_at, ptr_in, AtSlot, OfSlot}
use Rattle.concurrent_lru.specs.NodeTable.{NodeTable, Entry, entry_of, chain_of}
use Rattle.concurrent_lru.specs.Relinks.{NodeCell, NodeCells, LeftJoined, RightJoined, before_link, after_link, slot_in, before_at, after_at}
use Rattle.concurrent_lru.specs.SlotPointers.{IsTied, cells_of}
use Rattle.concurrent_lru.specs.Listing.{IsListed, hash_in, spare_of}
use Rattle.concurrent_lru.specs.declared.node_table.links.Order.{Order}
use Rattle.concurrent_lru.specs.declared.node_table.slots.Slots.{Slots}

module _ {K V : Type 0} where
  abbrev pub link_of : NodeCells K V → Option (NodeCell K V) → Option Link
  link_of cs None = None
  link_of cs (Some c) = Some (link (slot_in cs (before_link c.value)) (slot_in cs (after_link c.value)))

  abbrev pub entry_in : Option (NodeCell K V) → Option (Entry K V)
  entry_in None = None
  entry_in (Some c) = Some (entry_of c.value)

  abbrev pub link_at : NodeCells K V → ℕ → Option Link
  link_at cs k = link_of cs (cell_at cs k)

  abbrev pub idle_places : NodeCells K V → Option ℕ → List ℕ
  idle_places cs oldest = order (length cs) (link_at cs) oldest

  -- the link, if there is one, leads to a node
  abbrev pub IsGood : NodeCells K V → Option Ptr → Type 0
  IsGood cs None = Unit {0}
  IsGood cs (Some p) = IsSome (slot_at cs p)

  abbrev pub IsGoodAt : NodeCells K V → ℕ → Type 0
  IsGoodAt cs k = IsGood cs (before_at cs k) × IsGood cs (after_at cs k)

  abbrev pub AreGood : NodeCells K V → List ℕ → Type 0
  AreGood cs [] = Unit {0}
  AreGood cs (k ∷ ks) = IsGoodAt cs k × AreGood cs ks

  -- the node, if there is one, has no chain behind it
  abbrev pub IsEnd : Option (NodeCell K V) → Type 0
  IsEnd None = Unit {0}
  IsEnd (Some c) = chain_of c.value ≡ []

  -- the order over these slots, with these ends
  abbrev pub order_with : Slots K V → Option ℕ → Option Ptr → Order K V
  order_with s oldest newest = record { slots = s; oldest = oldest; newest = newest }

  -- the entries by slot; the slots of the idle ones, oldest first
  abbrev pub nodes_of : Order K V → FinMap nat_cmp (Entry K V)
  nodes_of o = map_of_slots (map entry_in (cells_of o.slots))

  abbrev pub idle_of : Order K V → List ℕ
  idle_of o = idle_places (cells_of o.slots) o.oldest

  -- the hashes by slot
  abbrev pub hashes_of : Order K V → FinMap nat_cmp ℕ
  hashes_of o = map_of_slots (map hash_in (cells_of o.slots))

  -- the addresses by slot
  abbrev pub links_of : Order K V → FinMap nat_cmp Ptr
  links_of o = map_of_slots (map ptr_in (cells_of o.slots))

  abbrev pub node_table_of : Order K V → ℕ → NodeTable K V
  node_table_of o work = record { nodes = nodes_of o; hashes = hashes_of o; links = links_of o; idle = idle_of o; spare = spare_of o.slots; work = work; looks = o.slots.looks.count }

  -- the links of the idle nodes lead from the oldest to the newest, and no node has a chain
  pub record IsWellLinked (o : Order K V) : Type 0 where
    pub tied : IsTied o.slots
    pub ordered : IsOrder (link_at (cells_of o.slots)) o.oldest (slot_in (cells_of o.slots) o.newest) (idle_of o)
    pub good : AreGood (cells_of o.slots) (idle_of o)
    pub last_good : IsGood (cells_of o.slots) o.newest
    pub ends : (k : ℕ) → IsEnd (cell_at (cells_of o.slots) k)

  -- the same, and the hash table leads to the nodes that are not detached
  pub record IsWhole (o : Order K V) : Type 0 where
    pub linked : IsWellLinked o
    pub listed : IsListed o.slots

  -- the slot is in the idle order; it is not
  abbrev pub Lists : Order K V → ℕ → Type 0
  Lists o slot = list_any (nat_eq slot) (idle_of o) ≡ true

  abbrev pub Omits : Order K V → ℕ → Type 0
  Omits o slot = list_any (nat_eq slot) (idle_of o) ≡ false

  -- the link leads to a node that is in the idle order
  abbrev pub ListsLink : Order K V → Ptr → Type 0
  ListsLink o p = AtSlot (cells_of o.slots) p (Lists o)

  -- the idle order without the slot
  abbrev pub idle_without : Order K V → ℕ → List ℕ
  idle_without o slot = filter (λ q. not (q == slot)) (idle_of o)

  -- the node that the link leads to was removed from the idle order
  abbrev pub LosesLink : Order K V → Order K V → Ptr → Type 0
  LosesLink old new p = OfSlot (cells_of old.slots) p (λ slot. idle_of new ≡ idle_without old slot)

  -- the entry in a slot
  abbrev pub entry_at : Order K V → ℕ → Option (Entry K V)
  entry_at o slot = entry_in (cell_at (cells_of o.slots) slot)

  -- the node before a removed one, or the oldest end, now leads to the node after it
  abbrev pub JoinsLeft : Order K V → Order K V → Option Ptr → Option Ptr → Type 0
  JoinsLeft old new before after = LeftJoined (cells_of old.slots) (cells_of new.slots) old.oldest new.oldest before after

  -- the node after a removed one, or the newest end, now leads to the node before it
  abbrev pub JoinsRight : Order K V → Order K V → Option Ptr → Option Ptr → Type 0
  JoinsRight old new before after = RightJoined (cells_of old.slots) (cells_of new.slots) old.newest new.newest before after
