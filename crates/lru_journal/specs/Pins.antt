-- The view of a pin of the twin.
use Rattle.std.specs.Prelude.{ℕ}

-- the stamp of the entry, and its value
pub record TwinPin (V : Type 0) : Type 0 where
  pub stamp : ℕ
  pub value : V
