-- How the hash table leads to the nodes that are not detached.
use Rattle.std.specs.Prelude.{◌≡◌, ◌≢◌, ℕ, ◌-◌, min, Bool, true, false, Option, Some, None}
use Rattle.slab.specs.Slab.{slab_len}
use Rattle.concurrent_lru.specs.Cells.{cell_at}
use Rattle.concurrent_lru.specs.NodeTable.{entry_of, hash_of}
use Rattle.concurrent_lru.specs.Probing.Entries.{count, entry, Has, Holds}
use Rattle.concurrent_lru.specs.Probing.OpenTable.{mark_of, capacity}
use Rattle.concurrent_lru.specs.Relinks.{NodeCell, NodeCells}
use Rattle.concurrent_lru.specs.SlotPointers.{cells_of}
use Rattle.concurrent_lru.specs.declared.node_table.Node.{Node}
use Rattle.concurrent_lru.specs.declared.node_table.memory.At.{At}
use Rattle.concurrent_lru.specs.declared.node_table.probes.Bucket.{Bucket}
use Rattle.concurrent_lru.specs.declared.node_table.slots.Slots.{Slots}

-- x, unless the condition holds
abbrev pub unless : {X : Type 0} → Bool → X → Option X
unless true x = None
unless false x = Some x

module _ {K V : Type 0} where
  -- the entry of the hash table for a node
  abbrev pub listing : NodeCell K V → Bucket (At (Node K V))
  listing c = entry (mark_of (hash_of c.value)) (record { ptr = c.at })

  -- the entry for the node in a slot, if there is one and it is not detached
  abbrev pub listing_in : Option (NodeCell K V) → Option (Bucket (At (Node K V)))
  listing_in None = None
  listing_in (Some c) = unless (entry_of c.value).detached (listing c)

  abbrev pub hash_in : Option (NodeCell K V) → Option ℕ
  hash_in None = None
  hash_in (Some c) = Some (hash_of c.value)

  -- each node keeps its hash and its entry in the hash table
  abbrev pub KeepsListings : NodeCells K V → NodeCells K V → Type 0
  KeepsListings cs ds = (k : ℕ) → (hash_in (cell_at ds k) ≡ hash_in (cell_at cs k)) × (listing_in (cell_at ds k) ≡ listing_in (cell_at cs k))

  abbrev pub listing_at : Slots K V → ℕ → Option (Bucket (At (Node K V)))
  listing_at s slot = listing_in (cell_at (cells_of s) slot)

  -- the hash table has the entries of the nodes that are not detached, and no others
  pub record IsListed (s : Slots K V) : Type 0 where
    pub listed : (slot : ℕ) (e : Bucket (At (Node K V))) → listing_at s slot ≡ Some e → Has s.by_hash e
    pub led : (e : Bucket (At (Node K V))) → Has s.by_hash e → (slot : ℕ) × (listing_at s slot ≡ Some e)

  -- the same, as if the node in this slot were not there
  pub record IsListedBut (s : Slots K V) (but : ℕ) : Type 0 where
    pub listed : (slot : ℕ) (e : Bucket (At (Node K V))) → slot ≢ but → listing_at s slot ≡ Some e → Has s.by_hash e
    pub led : (e : Bucket (At (Node K V))) → Has s.by_hash e → (slot : ℕ) × (slot ≢ but) × (listing_at s slot ≡ Some e)

  -- how many more nodes fit without allocating
  abbrev pub spare_of : Slots K V → ℕ
  spare_of s = min (s.pointers.capacity - slab_len s.pointers) (capacity s.by_hash - count s.by_hash)

  -- the bucket k of the hash table leads to the node n
  pub record LeadsToCandidate (s : Slots K V) (k : ℕ) (n : Node K V) : Type 0 where
    pub slot : ℕ
    pub cell : NodeCell K V
    pub there : cell_at (cells_of s) slot ≡ Some cell
    pub is : n ≡ cell.value
    pub found : (entry_of cell.value).detached ≡ false
    pub holds : Holds s.by_hash k (listing cell)

  -- the bucket k of the hash table has the entry of the node in this slot
  abbrev pub HoldsSlot : Slots K V → ℕ → ℕ → Type 0
  HoldsSlot s k slot = (e : Bucket (At (Node K V))) × (listing_at s slot ≡ Some e) × Holds s.by_hash k e

  -- the node n is in the slot
  abbrev pub IsNodeIn : Slots K V → ℕ → Node K V → Type 0
  IsNodeIn s slot n = (c : NodeCell K V) × (cell_at (cells_of s) slot ≡ Some c) × (n ≡ c.value)
