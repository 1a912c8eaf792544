-- The view of a page.
use Rattle.std.specs.Prelude.{ℕ, List}

-- the reader that a page refers to, the number of its block, and its bytes
pub record PageOf (B : Type 0) : Type 0 where
  pub reader : B
  pub number : ℕ
  pub bytes : List ℕ
