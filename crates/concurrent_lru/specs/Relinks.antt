-- The cells of nodes and their links, and what a change of links leaves unchanged.
use Rattle.std.specs.Prelude.{◌≡◌, ◌≢◌, ℕ, List, Option, Some, None, cond}
use Rattle.std.specs.declared.alloc.Global.{Global}
use denote.RawPtr.{Ptr}
use Rattle.concurrent_lru.specs.Cells.{Cell, cell_at, slot_at, AtSlot}
use Rattle.concurrent_lru.specs.NodeTable.{Entry, entry_of, hash_of, chain_of}
use Rattle.concurrent_lru.specs.declared.node_table.Node.{Node, out-Node}

abbrev pub NodeCell : Type 0 → Type 0 → Type 0
NodeCell K V = Cell (Node K V) Global

abbrev pub NodeCells : Type 0 → Type 0 → Type 0
NodeCells K V = List (Option (NodeCell K V))

module _ {K V : Type 0} where
  -- a node's own slot, and its links to its neighbours
  abbrev pub place_of : Node K V → ℕ
  place_of n = (out-Node K V n).slot

  abbrev pub before_link : Node K V → Option Ptr
  before_link n = cond (out-Node K V n).has_before (Some (out-Node K V n).before) None

  abbrev pub after_link : Node K V → Option Ptr
  after_link n = cond (out-Node K V n).has_after (Some (out-Node K V n).after) None

  -- the slot of the node that a link leads to
  abbrev pub slot_in : NodeCells K V → Option Ptr → Option ℕ
  slot_in cs None = None
  slot_in cs (Some p) = slot_at cs p

  -- the same node, with this slot recorded as its own
  pub record IsPlaced (old new : Node K V) (slot : ℕ) : Type 0 where
    pub entry : entry_of new ≡ entry_of old
    pub hash : hash_of new ≡ hash_of old
    pub chain : chain_of new ≡ chain_of old
    pub place : place_of new ≡ slot

  -- the same node with the links b and a
  pub record IsRelinked (old new : Node K V) (b a : Option Ptr) : Type 0 where
    pub entry : entry_of new ≡ entry_of old
    pub hash : hash_of new ≡ hash_of old
    pub chain : chain_of new ≡ chain_of old
    pub place : place_of new ≡ place_of old
    pub before : before_link new ≡ b
    pub after : after_link new ≡ a

  -- the node in the slot k now has the links b and a, and nothing else changed
  pub record Relinks (cs ds : NodeCells K V) (k : ℕ) (b a : Option Ptr) : Type 0 where
    pub others : (j : ℕ) → j ≢ k → cell_at ds j ≡ cell_at cs j
    pub old : NodeCell K V
    pub new : NodeCell K V
    pub was : cell_at cs k ≡ Some old
    pub now : cell_at ds k ≡ Some new
    pub at : new.at ≡ old.at
    pub node : IsRelinked old.value new.value b a

  -- the same node with the entry e
  pub record IsRevalued (old new : Node K V) (e : Entry K V) : Type 0 where
    pub entry : entry_of new ≡ e
    pub hash : hash_of new ≡ hash_of old
    pub chain : chain_of new ≡ chain_of old
    pub place : place_of new ≡ place_of old
    pub before : before_link new ≡ before_link old
    pub after : after_link new ≡ after_link old

  pub record Revalues (cs ds : NodeCells K V) (k : ℕ) (f : Entry K V → Entry K V) : Type 0 where
    pub others : (j : ℕ) → j ≢ k → cell_at ds j ≡ cell_at cs j
    pub old : NodeCell K V
    pub new : NodeCell K V
    pub was : cell_at cs k ≡ Some old
    pub now : cell_at ds k ≡ Some new
    pub at : new.at ≡ old.at
    pub node : IsRevalued old.value new.value (f (entry_of old.value))

  abbrev pub before_in : Option (NodeCell K V) → Option Ptr
  before_in None = None
  before_in (Some c) = before_link c.value

  abbrev pub after_in : Option (NodeCell K V) → Option Ptr
  after_in None = None
  after_in (Some c) = after_link c.value

  abbrev pub before_at : NodeCells K V → ℕ → Option Ptr
  before_at cs k = before_in (cell_at cs k)

  abbrev pub after_at : NodeCells K V → ℕ → Option Ptr
  after_at cs k = after_in (cell_at cs k)

  -- the node in the slot k lost its links, which were b and a
  pub record Unlinks (cs ds : NodeCells K V) (k : ℕ) (b a : Option Ptr) : Type 0 where
    pub cut : Relinks cs ds k None None
    pub was_before : b ≡ before_at cs k
    pub was_after : a ≡ after_at cs k

  -- the node before a removed one now links to a, or, if there was none, the oldest is now at a
  abbrev pub LeftJoined : NodeCells K V → NodeCells K V → Option ℕ → Option ℕ → Option Ptr → Option Ptr → Type 0
  LeftJoined cs ds o p None a = (ds ≡ cs) × (p ≡ slot_in cs a)
  LeftJoined cs ds o p (Some l) a = AtSlot cs l (λ k. Relinks cs ds k (before_at cs k) a) × (p ≡ o)

  -- the node after a removed one now links to b, or, if there was none, the newest is now at b
  abbrev pub RightJoined : NodeCells K V → NodeCells K V → Option Ptr → Option Ptr → Option Ptr → Option Ptr → Type 0
  RightJoined cs ds n m b None = (ds ≡ cs) × (m ≡ b)
  RightJoined cs ds n m b (Some l) = AtSlot cs l (λ k. Relinks cs ds k b (after_at cs k)) × (m ≡ n)
