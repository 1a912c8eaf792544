-- The slab of pointers and the memory stay in step.
use Rattle.std.proofs.Common.{◌≡◌, ◌≢◌, ℕ, Option, Some, None, IsSome, refl, sym, ap, ◌∙◌, inl, inr}
use Rattle.std.proofs.lemmas.Bool.{cases_eq}
use denote.RawPtr.{Ptr}
use Rattle.slab.specs.Slab.{get, Updates}
use Rattle.concurrent_lru.specs.Cells.{Cell, cell_at, put_at, ptr_in, slot_at, AtFirst, AreApart}
use Rattle.concurrent_lru.specs.Relinks.{NodeCell, place_of}
use Rattle.concurrent_lru.specs.SlotPointers.{IsTied, ptr_of, place_in}
use Rattle.concurrent_lru.specs.declared.node_table.memory.At.{At}
use Rattle.concurrent_lru.specs.declared.node_table.Node.{Node}
use Rattle.concurrent_lru.specs.declared.node_table.slots.Slots.{Slots}
use Rattle.concurrent_lru.proofs.Memory.CellSlots.{put_same, put_other, first_of_apart, slot_of_held, value_at_slot}

module _ {T A : Type 0} where
  -- a cell and a slot of one pointer are filled alike
  pub cell_empty : (x : Option (Cell T A)) (o : Option (At T)) → ptr_in x ≡ ptr_of o → o ≡ None → x ≡ None
  cell_empty None o e h = refl
  cell_empty (Some c) o e h = let none : Some c.at ≡ None = e ∙ ap ptr_of h in cc

  pub slot_filled : (x : Option (Cell T A)) (o : Option (At T)) → ptr_in x ≡ ptr_of o → IsSome x → IsSome o
  slot_filled None o e h = cc
  slot_filled (Some c) None e h = cc
  slot_filled (Some c) (Some at) e h = refl

  pub cell_filled : (x : Option (Cell T A)) (o : Option (At T)) → ptr_in x ≡ ptr_of o → IsSome o → IsSome x
  cell_filled (Some c) o e h = refl
  cell_filled None None e h = cc
  cell_filled None (Some at) e h = cc

  -- the value of a filled cell
  pub the_cell : (x : Option (Cell T A)) → IsSome x → (c : Cell T A) × (x ≡ Some c)
  the_cell None h = cc
  the_cell (Some c) h = (c, refl)

module _ {K V : Type 0} where
  -- one slot and its cell changed alike
  pub tied_put : (s t : Slots K V) (slot : ℕ) (o : Option (At (Node K V))) (x : Option (NodeCell K V)) → IsTied s → Updates s.pointers t.pointers slot o → t.memory.cells ≡ put_at slot x s.memory.cells
      → ptr_in x ≡ ptr_of o → ((place : ℕ) → place_in x ≡ Some place → place ≡ slot) → AreApart t.memory.cells → IsTied t
  tied_put s t slot o x tied up e alike own far =
      let here : cell_at t.memory.cells slot ≡ x = ap (λ l. cell_at l slot) e ∙ put_same slot x s.memory.cells in
      let others : (k : ℕ) → k ≢ slot → cell_at t.memory.cells k ≡ cell_at s.memory.cells k = (λ k ne. ap (λ l. cell_at l k) e ∙ put_other slot k x s.memory.cells ne) in
      record {
        pointers = λ k. elim (cases_eq k slot) [
          | inl is ↦ ap (λ j. ptr_in (cell_at t.memory.cells j)) is ∙ ap ptr_in here ∙ alike ∙ sym (ap ptr_of up.changed) ∙ sym (ap (λ j. ptr_of (get t.pointers j)) is)
          | inr ne ↦ ap ptr_in (others k ne) ∙ tied.pointers k ∙ sym (ap ptr_of (up.others k ne))
        ];
        apart = first_of_apart t.memory.cells far;
        placed = λ k place h. elim (cases_eq k slot) [
          | inl is ↦ own place (sym (ap place_in here) ∙ sym (ap (λ j. place_in (cell_at t.memory.cells j)) is) ∙ h) ∙ sym is
          | inr ne ↦ tied.placed k place (sym (ap place_in (others k ne)) ∙ h)
        ];
      }

  -- a node's own slot is the one at its pointer
  pub own_slot : (s : Slots K V) (p : Ptr) (n : Node K V) → IsTied s → IsSome (slot_at s.memory.cells p) → AtFirst s.memory.cells p (λ _ c. n ≡ c.value) → Some (place_of n) ≡ slot_at s.memory.cells p
  own_slot s p n tied h value =
      let held = slot_of_held s.memory.cells p h in let there = value_at_slot s.memory.cells p held.0 held.1 in
      ap Some (tied.placed held.0 (place_of n) (ap place_in there.1 ∙ ap (λ x. Some (place_of x)) (sym (value held.0 there.0 held.1 there.1)))) ∙ sym held.1

  -- a pointer is of the slot that it was, where the slab stays the same
  pub slot_stays : (s t : Slots K V) (k : ℕ) (p : Ptr) → IsTied s → IsTied t → t.pointers ≡ s.pointers → slot_at s.memory.cells p ≡ Some k → slot_at t.memory.cells p ≡ Some k
  slot_stays s t k p was is same at =
      let there = value_at_slot s.memory.cells p k at in
      is.apart k p (is.pointers k ∙ ap (λ l. ptr_of (get l k)) same ∙ sym (was.pointers k) ∙ ap ptr_in there.1 ∙ ap Some there.2)
