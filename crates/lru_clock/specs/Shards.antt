-- The shard of a key, what clauses see of a cache, and which history is that of a key's shard.
use Rattle.std.specs.Prelude.{◌≡◌, ℕ, ◌%◌, ◌/◌, List, length, Some, slice_get}
use Rattle.std.specs.declared.hash.Hasher as hasher
use Rattle.std.specs.declared.hash.BuildHasher as builder
use Rattle.logbook.specs.Pages.{Book}
use Rattle.concurrent_lru.specs.Sharded.{key_number}
use Rattle.lru_clock.specs.Pins.{InvalidatedOf}

-- the hasher, and the books of the shards' histories
pub record CacheOf (S : Type 0) : Type 0 where
  pub hasher : S
  pub books : List Book

-- it is the one of these that belongs to the shard of a key with this number
abbrev pub IsShardOf : {A : Type 0} → List A → ℕ → A → Type 0
IsShardOf shards number x = slice_get shards (number % length shards) ≡ Some x

-- it is the book of the history of the key's shard
abbrev pub IsBookOf : {K S H : Type 0} → builder.Ghosts S H → hasher.Ghosts H → (K → List (List ℕ)) → CacheOf S → K → Book → Type 0
IsBookOf build run bytes c k book = IsShardOf c.books (key_number build run bytes c.hasher k) book

-- the key's shard has this index
abbrev pub IsIndexOf : {K S H : Type 0} → builder.Ghosts S H → hasher.Ghosts H → (K → List (List ℕ)) → CacheOf S → K → ℕ → Type 0
IsIndexOf build run bytes c k index = index ≡ key_number build run bytes c.hasher k % length c.books

-- the shard of this index has the history of this book
abbrev pub IsBookAt : {S : Type 0} → CacheOf S → ℕ → Book → Type 0
IsBookAt c index book = slice_get c.books index ≡ Some book

-- it is the tag of the key: the high half of its number
abbrev pub IsTagOf : {K S H : Type 0} → builder.Ghosts S H → hasher.Ghosts H → (K → List (List ℕ)) → CacheOf S → K → ℕ → Type 0
IsTagOf build run bytes c k tag = tag ≡ key_number build run bytes c.hasher k / 4294967296

-- it is evidence that this key was invalidated, in its shard and under its tag
pub record IsEvidenceOf {K V S H : Type 0} (build : builder.Ghosts S H) (run : hasher.Ghosts H) (bytes : K → List (List ℕ)) (c : CacheOf S) (k : K) (i : InvalidatedOf K V) : Type 0 where
  pub key : i.key ≡ k
  pub tag : IsTagOf build run bytes c k i.tag
  pub book : IsBookOf build run bytes c k i.book
