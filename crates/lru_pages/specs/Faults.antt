-- Why a block could not be read.
use Rattle.std.specs.Prelude.{ℕ, ◌<◌, ◌≤◌}
use Rattle.lru_pages.specs.Cuts.{Cut, start_of}
use Rattle.lru_pages.specs.declared.fault.Fault.{Fault}
use Rattle.lru_pages.specs.declared.fault.Fault.TheVariants as fault

-- a fault of a block that begins at start, with len bytes cut into blocks: it is `PastEnd` exactly
-- if the block begins at or past the end
abbrev pub IsFaultAt : ℕ → ℕ → Fault → Type 0
IsFaultAt start len fault.PastEnd = len ≤ start
IsFaultAt start len fault.Memory = start < len
IsFaultAt start len fault.Short = start < len
IsFaultAt start len (fault.Read e) = start < len

-- a fault of the block n
abbrev pub IsFaultOf : {S : Type 0} → Cut S → ℕ → Fault → Type 0
IsFaultOf c n e = IsFaultAt (start_of c n) c.len e
