-- What a caller has that makes a value.
use Rattle.std.specs.Prelude.{ℕ}

-- what a maker shows: the key, and the charge with which the making was begun
pub record MakerOf (K : Type 0) : Type 0 where
  pub key : K
  pub charge : ℕ
