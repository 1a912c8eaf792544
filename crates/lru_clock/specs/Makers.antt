-- What a caller has that begins the making of a value.
use Rattle.std.specs.Prelude.{ℕ}
use Rattle.logbook.specs.Pages.{Book}

-- what a maker shows: the key, the charge that was told at the beginning, and whose history the
-- entry will be in
pub record MakerOf (K : Type 0) : Type 0 where
  pub key : K
  pub charge : ℕ
  pub book : Book
