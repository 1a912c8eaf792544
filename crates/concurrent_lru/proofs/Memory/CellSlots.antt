-- Cells by slot and by pointer: one put, one written, and the slot at which a value lies.
use Rattle.std.proofs.Common.{◌≡◌, ◌≢◌, ℕ, zero, suc, List, [], ◌∷◌, Bool, true, false, cond, ◌&&◌, ◌==◌, Option, Some, None, IsSome, refl, sym, ap, ◌∙◌, subst, T, eqb→eq}
use lib.Dec.{eqb_refl}
use denote.RawPtr.{Ptr, block_ptr, null_ptr}
use Rattle.concurrent_lru.specs.Cells.{Cell, cell, cell_at, put_at, same_ptr, next_slot, ptr_in, slot_at, write_to, AtFirst, IsApartFrom, AreApart}

-- ---- pointers
holds_true : (b : Bool) → T b → b ≡ true
holds_true true t = refl
holds_true false t = absurd t

both_true : (x y : Bool) → (x && y) ≡ true → T x × T y
both_true true true e = (tt, tt)
both_true true false e = cc
both_true false y e = cc

pub same_as_itself : (p : Ptr) → same_ptr p p ≡ true
same_as_itself (block_ptr b o) = λ i. holds_true (b == b) (eqb_refl b) i && holds_true (o == o) (eqb_refl o) i
same_as_itself null_ptr = refl

pub equal_ptrs : (p q : Ptr) → same_ptr p q ≡ true → p ≡ q
equal_ptrs (block_ptr b o) (block_ptr c r) e = let t = both_true (b == c) (o == r) e in λ i. block_ptr (eqb→eq b c t.0 i) (eqb→eq o r t.1 i)
equal_ptrs (block_ptr b o) null_ptr e = cc
equal_ptrs null_ptr (block_ptr c r) e = cc
equal_ptrs null_ptr null_ptr e = refl

-- ---- cells by slot
module _ {X : Type 0} where
  beyond : (slot : ℕ) → cell_at {X = X} [] slot ≡ None
  beyond zero = refl
  beyond (suc slot) = refl

  pub put_same : (slot : ℕ) (x : Option X) (cells : List (Option X)) → cell_at (put_at slot x cells) slot ≡ x
  put_same zero x [] = refl
  put_same zero x (c ∷ cells) = refl
  put_same (suc slot) x [] = put_same slot x []
  put_same (suc slot) x (c ∷ cells) = put_same slot x cells

  pub put_twice : (slot : ℕ) (x y : Option X) (cells : List (Option X)) → put_at slot x (put_at slot y cells) ≡ put_at slot x cells
  put_twice zero x y [] = refl
  put_twice zero x y (c ∷ cells) = refl
  put_twice (suc slot) x y [] = ap (λ rest. None ∷ rest) (put_twice slot x y [])
  put_twice (suc slot) x y (c ∷ cells) = ap (λ rest. c ∷ rest) (put_twice slot x y cells)

  pub put_other : (slot other : ℕ) (x : Option X) (cells : List (Option X)) → other ≢ slot → cell_at (put_at slot x cells) other ≡ cell_at cells other
  put_other zero zero x cells ne = absurd (ne refl)
  put_other zero (suc other) x [] ne = beyond other
  put_other zero (suc other) x (c ∷ cells) ne = refl
  put_other (suc slot) zero x [] ne = refl
  put_other (suc slot) zero x (c ∷ cells) ne = refl
  put_other (suc slot) (suc other) x [] ne = put_other slot other x [] (λ e. ne (ap suc e)) ∙ beyond other
  put_other (suc slot) (suc other) x (c ∷ cells) ne = put_other slot other x cells (λ e. ne (ap suc e))

-- ---- cells by pointer
-- what holds of one slot that is found holds of each
pub of_found : {found : Option ℕ} {slot : ℕ} (P : ℕ → Type 0) → found ≡ Some slot → P slot → (other : ℕ) → found ≡ Some other → P other
of_found P at holds other is = let both : Some _ ≡ Some other = sym at ∙ is in let same : _ ≡ other = cc in subst P same holds

next_is : (x : Option ℕ) (slot : ℕ) → next_slot x ≡ Some slot → (before : ℕ) × (x ≡ Some before) × (slot ≡ suc before)
next_is None slot e = cc
next_is (Some before) slot e = let same : suc before ≡ slot = cc in (before, refl, sym same)

ptr_beyond : (T A : Type 0) (slot : ℕ) → ptr_in (cell_at {X = Cell T A} [] slot) ≡ None
ptr_beyond T A zero = refl
ptr_beyond T A (suc slot) = refl

module _ {T A : Type 0} where
  -- the value in the first slot of a pointer is the one that it leads to
  pub first_value : (cells : List (Option (Cell T A))) (p : Ptr) (slot : ℕ) (c : Cell T A) → slot_at cells p ≡ Some slot → cell_at cells slot ≡ Some c → AtFirst cells p (λ _ d. c.value ≡ d.value)
  first_value cells p slot c at is again other at_again is_other =
      let slots : Some slot ≡ Some again = sym at ∙ at_again in let one_slot : slot ≡ again = cc in
      let same : Some c ≡ Some other = sym is ∙ ap (cell_at cells) one_slot ∙ is_other in let one : c ≡ other = cc in
      ap (λ (k : Cell T A). k.value) one

  -- the value at the first slot lies there
  pub value_at_slot : (cells : List (Option (Cell T A))) (p : Ptr) (slot : ℕ) → slot_at cells p ≡ Some slot → (c : Cell T A) × (cell_at cells slot ≡ Some c) × (c.at ≡ p)
  value_at_slot [] p slot e = cc
  value_at_slot (None ∷ cells) p slot e =
      let on = next_is (slot_at cells p) slot e in let rest = value_at_slot cells p on.0 on.1 in
      (rest.0, ap (cell_at (None ∷ cells)) on.2 ∙ rest.1, rest.2)
  value_at_slot (Some c ∷ cells) p slot e = elim (same_ptr c.at p) as (λ b. same_ptr c.at p ≡ b → cond b (Some 0) (next_slot (slot_at cells p)) ≡ Some slot → (d : Cell T A) × (cell_at (Some c ∷ cells) slot ≡ Some d) × (d.at ≡ p)) [
    | true ↦ λ is f. let first : 0 ≡ slot = cc in (c, sym (ap (cell_at (Some c ∷ cells)) first), equal_ptrs c.at p is)
    | false ↦ λ is f.
        let on = next_is (slot_at cells p) slot f in let rest = value_at_slot cells p on.0 on.1 in
        (rest.0, ap (cell_at (Some c ∷ cells)) on.2 ∙ rest.1, rest.2)
  ] refl e

  -- a pointer that is held has a first slot
  pub slot_of_held : (cells : List (Option (Cell T A))) (p : Ptr) → IsSome (slot_at cells p) → (slot : ℕ) × (slot_at cells p ≡ Some slot)
  slot_of_held cells p = some (slot_at cells p)
    where
      some : (x : Option ℕ) → IsSome x → (slot : ℕ) × (x ≡ Some slot)
      some None h = cc
      some (Some slot) h = (slot, refl)

  -- a write through the pointer is one in its slot
  pub write_is_put : (cells : List (Option (Cell T A))) (p : Ptr) (w : T) (slot : ℕ) (c : Cell T A) → slot_at cells p ≡ Some slot → cell_at cells slot ≡ Some c → write_to p w cells ≡ put_at slot (Some (cell c.at c.alloc w)) cells
  write_is_put [] p w slot c e is = cc
  write_is_put (None ∷ cells) p w slot c e is =
      let on = next_is (slot_at cells p) slot e in
      ap (λ rest. None ∷ rest) (write_is_put cells p w on.0 c on.1 (sym (ap (cell_at (None ∷ cells)) on.2) ∙ is)) ∙ sym (ap (λ k. put_at k (Some (cell c.at c.alloc w)) (None ∷ cells)) on.2)
  write_is_put (Some d ∷ cells) p w slot c e is = elim (same_ptr d.at p) as (λ b. cond b (Some 0) (next_slot (slot_at cells p)) ≡ Some slot
      → cond b (Some (cell d.at d.alloc w) ∷ cells) (Some d ∷ write_to p w cells) ≡ put_at slot (Some (cell c.at c.alloc w)) (Some d ∷ cells)) [
        | true ↦ λ f.
            let first : 0 ≡ slot = cc in
            let here : Some d ≡ Some c = ap (cell_at (Some d ∷ cells)) first ∙ is in let same : d ≡ c = cc in
            (λ i. Some (cell (same i).at (same i).alloc w) ∷ cells) ∙ ap (λ k. put_at k (Some (cell c.at c.alloc w)) (Some d ∷ cells)) first
        | false ↦ λ f.
            let on = next_is (slot_at cells p) slot f in
            ap (λ rest. Some d ∷ rest) (write_is_put cells p w on.0 c on.1 (sym (ap (cell_at (Some d ∷ cells)) on.2) ∙ is)) ∙ sym (ap (λ k. put_at k (Some (cell c.at c.alloc w)) (Some d ∷ cells)) on.2)
      ] e

  -- of values that lie apart each is the first at its pointer
  apart_at : (c : Cell T A) (cells : List (Option (Cell T A))) (slot : ℕ) (p : Ptr) → IsApartFrom c cells → ptr_in (cell_at cells slot) ≡ Some p → same_ptr c.at p ≡ false
  apart_at c [] slot p a e = let none : None ≡ Some p = sym (ptr_beyond T A slot) ∙ e in cc
  apart_at c (None ∷ cells) zero p a e = cc
  apart_at c (Some d ∷ cells) zero p a e = let at : d.at ≡ p = cc in sym (ap (same_ptr c.at) at) ∙ a.0
  apart_at c (None ∷ cells) (suc slot) p a e = apart_at c cells slot p a e
  apart_at c (Some d ∷ cells) (suc slot) p a e = apart_at c cells slot p a.1 e

  pub first_of_apart : (cells : List (Option (Cell T A))) → AreApart cells → (slot : ℕ) (p : Ptr) → ptr_in (cell_at cells slot) ≡ Some p → slot_at cells p ≡ Some slot
  first_of_apart [] a slot p e = let none : None ≡ Some p = sym (ptr_beyond T A slot) ∙ e in cc
  first_of_apart (None ∷ cells) a zero p e = cc
  first_of_apart (Some c ∷ cells) a zero p e = let at : c.at ≡ p = cc in ap (λ b. cond b (Some 0) (next_slot (slot_at cells p))) (ap (λ q. same_ptr q p) at ∙ same_as_itself p)
  first_of_apart (None ∷ cells) a (suc slot) p e = ap next_slot (first_of_apart cells a slot p e)
  first_of_apart (Some c ∷ cells) a (suc slot) p e =
      ap (λ b. cond b (Some 0) (next_slot (slot_at cells p))) (apart_at c cells slot p a.0 e) ∙ ap next_slot (first_of_apart cells a.1 slot p e)

  -- cells whose values lie where they lay have their slots
  no_slot : (cells : List (Option (Cell T A))) (p : Ptr) → ((slot : ℕ) → ptr_in (cell_at cells slot) ≡ None) → slot_at cells p ≡ None
  no_slot [] p h = refl
  no_slot (None ∷ cells) p h = ap next_slot (no_slot cells p (λ slot. h (suc slot)))
  no_slot (Some c ∷ cells) p h = let none : Some c.at ≡ None = h 0 in cc

  pub slots_kept : (old new : List (Option (Cell T A))) → ((slot : ℕ) → ptr_in (cell_at new slot) ≡ ptr_in (cell_at old slot)) → (p : Ptr) → slot_at new p ≡ slot_at old p
  slots_kept [] new h p = no_slot new p (λ slot. h slot ∙ ptr_beyond T A slot)
  slots_kept (c ∷ old) [] h p = sym (no_slot (c ∷ old) p (λ slot. sym (h slot) ∙ ptr_beyond T A slot))
  slots_kept (None ∷ old) (None ∷ new) h p = ap next_slot (slots_kept old new (λ slot. h (suc slot)) p)
  slots_kept (None ∷ old) (Some d ∷ new) h p = let none : Some d.at ≡ None = h 0 in cc
  slots_kept (Some c ∷ old) (None ∷ new) h p = let none : None ≡ Some c.at = h 0 in cc
  slots_kept (Some c ∷ old) (Some d ∷ new) h p =
      let at : Some d.at ≡ Some c.at = h 0 in let same : d.at ≡ c.at = cc in
      λ i. cond (same_ptr (same i) p) (Some 0) (next_slot (slots_kept old new (λ slot. h (suc slot)) p i))
