-- The values that a `Memory` owns, each in a slot of its own.
use Rattle.std.specs.Prelude.{◌≡◌, ℕ, zero, suc, List, [], ◌∷◌, Option, Some, None, Bool, true, false, cond, ◌&&◌, ◌==◌, slice_index_or}
use denote.RawPtr.{Ptr, block_ptr, null_ptr}

-- a value with its address and the allocator handle that frees it
pub record Cell (T A : Type 0) : Type 0 where
  pub at : Ptr
  pub alloc : A
  pub value : T

-- whether two pointers are equal
abbrev pub same_ptr : Ptr → Ptr → Bool
same_ptr (block_ptr block offset) (block_ptr other place) = (block == other) && (offset == place)
same_ptr (block_ptr block offset) null_ptr = false
same_ptr null_ptr (block_ptr other place) = false
same_ptr null_ptr null_ptr = true

-- a slot of the tail of a list, as a slot of the whole list
abbrev pub next_slot : Option ℕ → Option ℕ
next_slot None = None
next_slot (Some slot) = Some (suc slot)

module _ {X : Type 0} where
  -- what is in a slot
  abbrev pub cell_at : List (Option X) → ℕ → Option X
  cell_at cells slot = slice_index_or cells slot None

  -- the cells with x in the slot, preceded by empty slots if it is past the end
  abbrev pub put_at : ℕ → Option X → List (Option X) → List (Option X)
  put_at zero x [] = x ∷ []
  put_at zero x (c ∷ cells) = x ∷ cells
  put_at (suc slot) x [] = None ∷ put_at slot x []
  put_at (suc slot) x (c ∷ cells) = c ∷ put_at slot x cells

module _ {T A : Type 0} where
  abbrev pub cell : Ptr → A → T → Cell T A
  cell p a x = record { at = p; alloc = a; value = x }

  -- the cells with the value x in the slot, at the address p and freed by a
  abbrev pub put_cell : ℕ → Ptr → A → T → List (Option (Cell T A)) → List (Option (Cell T A))
  put_cell slot p a x cells = put_at slot (Some (cell p a x)) cells

  -- x is the value in the slot, if there is one
  abbrev pub IsValueAt : List (Option (Cell T A)) → ℕ → T → Type 0
  IsValueAt cells slot x = (c : Cell T A) → cell_at cells slot ≡ Some c → x ≡ c.value

  -- there is a value in the slot, at the address p and freed by a
  abbrev pub HoldsBy : List (Option (Cell T A)) → ℕ → Ptr → A → Type 0
  HoldsBy cells slot p a = (c : Cell T A) × (cell_at cells slot ≡ Some c) × (c.at ≡ p) × (c.alloc ≡ a)

  -- the address of the value in a slot, if there is one
  abbrev pub ptr_in : Option (Cell T A) → Option Ptr
  ptr_in None = None
  ptr_in (Some c) = Some c.at

  -- the first slot with a value at the address p
  abbrev pub slot_at : List (Option (Cell T A)) → Ptr → Option ℕ
  slot_at [] p = None
  slot_at (None ∷ cells) p = next_slot (slot_at cells p)
  slot_at (Some c ∷ cells) p = cond (same_ptr c.at p) (Some 0) (next_slot (slot_at cells p))

  -- there is a value at p, and P holds of its slot
  abbrev pub AtSlot : List (Option (Cell T A)) → Ptr → (ℕ → Type 0) → Type 0
  AtSlot cells p P = (slot : ℕ) × (slot_at cells p ≡ Some slot) × P slot

  -- if there is a value at p, P holds of its slot
  abbrev pub OfSlot : List (Option (Cell T A)) → Ptr → (ℕ → Type 0) → Type 0
  OfSlot cells p P = (slot : ℕ) → slot_at cells p ≡ Some slot → P slot

  -- if there is a value at p, P holds of the first slot with such a value, and of its cell
  abbrev pub AtFirst : List (Option (Cell T A)) → Ptr → (ℕ → Cell T A → Type 0) → Type 0
  AtFirst cells p P = (slot : ℕ) (c : Cell T A) → slot_at cells p ≡ Some slot → cell_at cells slot ≡ Some c → P slot c

  -- the cells with the first value at p replaced by w
  abbrev pub write_to : Ptr → T → List (Option (Cell T A)) → List (Option (Cell T A))
  write_to p w [] = []
  write_to p w (None ∷ cells) = None ∷ write_to p w cells
  write_to p w (Some c ∷ cells) = cond (same_ptr c.at p) (Some (cell c.at c.alloc w) ∷ cells) (Some c ∷ write_to p w cells)

  -- no value in the cells has the address of c
  abbrev pub IsApartFrom : Cell T A → List (Option (Cell T A)) → Type 0
  IsApartFrom c [] = Unit {0}
  IsApartFrom c (None ∷ cells) = IsApartFrom c cells
  IsApartFrom c (Some d ∷ cells) = (same_ptr c.at d.at ≡ false) × IsApartFrom c cells

  -- no two values have the same address
  abbrev pub AreApart : List (Option (Cell T A)) → Type 0
  AreApart [] = Unit {0}
  AreApart (None ∷ cells) = AreApart cells
  AreApart (Some c ∷ cells) = IsApartFrom c cells × AreApart cells
