-- The numbers by which a tag names a history, and a property of each item of a list and its
-- position.
use Rattle.std.specs.Prelude.{◌≡◌, ℕ, List, [], ◌∷◌, Some, slice_get}
use Rattle.logbook.specs.Pages.{Book}

abbrev pub numbers : Book → List ℕ
numbers b = b.number ∷ b.log_name ∷ b.cells_name ∷ []

abbrev pub EachAt : {A : Type 0} → (ℕ → A → Type 0) → List A → Type 0
EachAt {A} P xs = (k : ℕ) (x : A) → slice_get xs k ≡ Some x → P k x
