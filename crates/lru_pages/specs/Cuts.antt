-- A source cut into blocks: where a block begins and how long it is.
use Rattle.std.specs.Prelude.{◌≡◌, ℕ, ◌+◌, ◌-◌, ◌*◌, ◌/◌, ◌%◌, ◌<◌, min, List, length}

-- a source, how many of its bytes are cut into blocks, and the size of a block
pub record Cut (S : Type 0) : Type 0 where
  pub source : S
  pub len : ℕ
  pub size : ℕ

module _ {S : Type 0} where
  -- where the block n begins
  abbrev pub start_of : Cut S → ℕ → ℕ
  start_of c n = n * c.size

  -- the number of blocks: the length divided by the size of a block, rounded up
  abbrev pub count_of : Cut S → ℕ
  count_of c = c.len / c.size + min 1 (c.len % c.size)

  -- the length of the block n: the size of a block, or what is left for the last one
  abbrev pub len_of : Cut S → ℕ → ℕ
  len_of c n = min c.size (c.len - start_of c n)

-- the bytes are those of the block n; has says which bytes a source may have at an offset
pub record IsBlockOf {S : Type 0} (has : S → ℕ → List ℕ → Type 0) (c : Cut S) (n : ℕ)
    (bytes : List ℕ) : Type 0 where
  pub inside : start_of c n < c.len
  pub len : length bytes ≡ len_of c n
  pub stands : has c.source (start_of c n) bytes
