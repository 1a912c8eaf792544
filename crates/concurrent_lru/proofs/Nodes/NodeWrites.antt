-- A node written through its pointer, as the cells that it leaves.
use Rattle.std.proofs.Common.{◌≡◌, ◌≢◌, ℕ, Option, Some, None, IsSome, refl, sym, ap, ◌∙◌, subst}
use denote.RawPtr.{Ptr}
use Rattle.concurrent_lru.specs.Cells.{cell, cell_at, put_at, slot_at, write_to, AtFirst, AtSlot, OfSlot}
use Rattle.concurrent_lru.specs.NodeTable.{Entry, entry_of}
use Rattle.concurrent_lru.specs.Relinks.{NodeCell, NodeCells, before_link, after_link, before_in, after_in, before_at, after_at, IsRelinked, Relinks, Unlinks, IsRevalued, Revalues}
use Rattle.concurrent_lru.specs.SlotPointers.{cells_of, with_node, LeadsTo}
use Rattle.concurrent_lru.specs.SlotWrites.{OnlyWrites, OnlyLooksAndWrites, Rewrites}
use Rattle.concurrent_lru.specs.declared.node_table.Node.{Node}
use Rattle.concurrent_lru.specs.declared.node_table.slots.Slots.{Slots}
use Rattle.concurrent_lru.proofs.Memory.CellSlots.{slot_of_held, value_at_slot, put_same, put_other, write_is_put}

-- ---- one write after another
module _ {K V : Type 0} where
  -- a look, or a write, changes nothing else
  pub only_looked : (s t : Slots K V) → t ≡ record s { looks = t.looks } → OnlyLooksAndWrites s t
  only_looked s t e = e ∙ ap (λ m. record s { memory = m; looks = t.looks }) (sym (ap (λ (x : Slots K V). x.memory) e))

  pub only_wrote : (s t : Slots K V) → OnlyWrites s t → OnlyLooksAndWrites s t
  only_wrote s t e = e ∙ ap (λ l. record s { memory = t.memory; looks = l }) (sym (ap (λ (x : Slots K V). x.looks) e))

  pub then_writes : (s t u : Slots K V) → OnlyLooksAndWrites s t → OnlyLooksAndWrites t u → OnlyLooksAndWrites s u
  then_writes s t u e f = f ∙ ap (λ (x : Slots K V). record x { memory = u.memory; looks = u.looks }) e

  pub looked_and_wrote : (s t u : Slots K V) → t ≡ record s { looks = t.looks } → OnlyWrites t u → OnlyLooksAndWrites s u
  looked_and_wrote s t u e f = then_writes s t u (only_looked s t e) (only_wrote t u f)

  -- the link before a node was set, and then the one after it
  pub set_both : {n m l : Node K V} {b a : Option Ptr} → IsRelinked n m b (after_link n) → IsRelinked m l (before_link m) a → IsRelinked n l b a
  set_both first then = record {
    entry = then.entry ∙ first.entry;
    hash = then.hash ∙ first.hash;
    chain = then.chain ∙ first.chain;
    place = then.place ∙ first.place;
    before = then.before ∙ first.before;
    after = then.after;
  }

-- the node at p, which is now, is written to new
module _ {K V : Type 0} (cs : NodeCells K V) (p : Ptr) (now new : Node K V) (value : AtFirst cs p (λ _ c. now ≡ c.value)) where
  module _ (k : ℕ) (at : slot_at cs p ≡ Some k) where
    there : (c : NodeCell K V) × (cell_at cs k ≡ Some c) × (c.at ≡ p)
    there = value_at_slot cs p k at

    same : now ≡ there.0.value
    same = value k there.0 at there.1

    -- the cell that is there then, and the others
    abbrev written : NodeCell K V
    written = cell there.0.at there.0.alloc new

    put : write_to p new cs ≡ put_at k (Some written) cs
    put = write_is_put cs p new k there.0 at there.1

    written_there : cell_at (write_to p new cs) k ≡ Some written
    written_there = ap (λ l. cell_at l k) put ∙ put_same k (Some written) cs

    others_same : (j : ℕ) → j ≢ k → cell_at (write_to p new cs) j ≡ cell_at cs j
    others_same j ne = ap (λ l. cell_at l j) put ∙ put_other k j (Some written) cs ne

    relinked_at : (b a : Option Ptr) → IsRelinked now new b a → Relinks cs (write_to p new cs) k b a
    relinked_at b a r = record { others = others_same; old = there.0; new = written; was = there.1; now = written_there; at = refl; node = subst (λ n. IsRelinked n new b a) same r }

    revalued_at : (f : Entry K V → Entry K V) → IsRevalued now new (f (entry_of now)) → Revalues cs (write_to p new cs) k f
    revalued_at f r = record { others = others_same; old = there.0; new = written; was = there.1; now = written_there; at = refl; node = subst (λ n. IsRevalued n new (f (entry_of n))) same r }

    -- its links are those that the cells tell
    was_before : before_link now ≡ before_at cs k
    was_before = ap before_link same ∙ sym (ap before_in there.1)

    was_after : after_link now ≡ after_at cs k
    was_after = ap after_link same ∙ sym (ap after_in there.1)

  -- both links cut, and where they led
  pub unlinked : {b a : Option Ptr} → b ≡ before_link now → a ≡ after_link now → IsRelinked now new None None → OfSlot cs p (λ k. Unlinks cs (write_to p new cs) k b a)
  unlinked is_before is_after r k at = record { cut = relinked_at k at None None r; was_before = is_before ∙ was_before k at; was_after = is_after ∙ was_after k at }

  pub revalued : (f : Entry K V → Entry K V) → IsRevalued now new (f (entry_of now)) → OfSlot cs p (λ k. Revalues cs (write_to p new cs) k f)
  revalued f r k at = revalued_at k at f r

  module _ (held : IsSome (slot_at cs p)) where
    at : (k : ℕ) × (slot_at cs p ≡ Some k)
    at = slot_of_held cs p held

    pub relinked : (b a : Option Ptr) → IsRelinked now new b a → AtSlot cs p (λ k. Relinks cs (write_to p new cs) k b a)
    relinked b a r = (at.0, at.1, relinked_at at.0 at.1 b a r)

    pub relinked_after : (a : Option Ptr) → IsRelinked now new (before_link now) a → AtSlot cs p (λ k. Relinks cs (write_to p new cs) k (before_at cs k) a)
    relinked_after a r = (at.0, at.1, subst (λ b. Relinks cs (write_to p new cs) at.0 b a) (was_before at.0 at.1) (relinked_at at.0 at.1 (before_link now) a r))

    pub relinked_before : (b : Option Ptr) → IsRelinked now new b (after_link now) → AtSlot cs p (λ k. Relinks cs (write_to p new cs) k b (after_at cs k))
    relinked_before b r = (at.0, at.1, subst (λ a. Relinks cs (write_to p new cs) at.0 b a) (was_after at.0 at.1) (relinked_at at.0 at.1 b (after_link now) r))

-- a node was looked up, and its entry written
module _ {K V : Type 0} where
  pub looked_rewritten : (s t : Slots K V) (p : Ptr) {k : ℕ} (now new : Node K V) (f : Entry K V → Entry K V) → t ≡ record s { looks = t.looks } → LeadsTo s p k → AtFirst (cells_of t) p (λ _ c. now ≡ c.value) → IsRevalued now new (f (entry_of now)) → Rewrites s (with_node t p new) k f
  looked_rewritten s t p {k} now new f rest link value writes =
      let same : cells_of t ≡ cells_of s = ap cells_of rest in
      subst (λ l. Revalues l (write_to p new (cells_of t)) k f) same (revalued (cells_of t) p now new value f writes k (ap (λ l. slot_at l p) same ∙ link))
