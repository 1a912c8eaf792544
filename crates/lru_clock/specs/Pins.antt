-- What clauses see of a past, of a pin, of a claimed slot, of a handle and of an invalidation.
use Rattle.std.specs.Prelude.{ℕ, List, Option}
use Rattle.logbook.specs.Pages.{Book}
use Rattle.lru_clock.specs.declared.history.Event.{Event}

-- whose history it is, the prefix after which entries must have come to be found, and the prefix
-- that was seen
pub record PastOf (K V : Type 0) : Type 0 where
  pub book : Book
  pub since : List (Event K V)
  pub seen : List (Event K V)

-- the place of the slot, the key that was asked for, the value, the charge under which the entry
-- was stored, if the call stored it, and what was seen of a history
pub record PinOf (K V : Type 0) : Type 0 where
  pub place : ℕ
  pub key : K
  pub value : V
  pub stored : Option ℕ
  pub book : Book
  pub log : List (Event K V)

-- the place of the slot, and the book of its history
pub record ClaimedOf : Type 0 where
  pub place : ℕ
  pub book : Book

-- what a handle shows: the key that was asked for, the charge if one was given, the value, the
-- charge under which its entry was stored, if the call stored it, and what was seen of the history
-- of the key's shard
pub record HandleOf (K V : Type 0) : Type 0 where
  pub key : K
  pub charge : Option ℕ
  pub value : V
  pub stored : Option ℕ
  pub book : Book
  pub log : List (Event K V)

-- what an owned handle shows: what a handle does, where `pinned` is the value of the entry, and
-- `value` the handle's own
pub record OwnedOf (K V : Type 0) : Type 0 where
  pub key : K
  pub charge : Option ℕ
  pub pinned : V
  pub value : V
  pub stored : Option ℕ
  pub book : Book
  pub log : List (Event K V)

-- the key, the tag of its hash, and the prefix of the shard's history after which the key was
-- invalidated
pub record InvalidatedOf (K V : Type 0) : Type 0 where
  pub key : K
  pub tag : ℕ
  pub book : Book
  pub since : List (Event K V)
