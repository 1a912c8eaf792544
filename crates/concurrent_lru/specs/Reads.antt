-- A read is a get and the release of its stamp in one step: in a cache, in shards, and in a table.
use Rattle.std.specs.Prelude.{◌≡◌, ◌≢◌, ℕ, ◌<◌, Bool, [], ◌∷◌, Option, Some, None, Result, Ok, Err, length, slice_index_or}
use Rattle.concurrent_lru.specs.Cache.{Cache}
use Rattle.concurrent_lru.specs.Entries.{Entries, RevivesAt, RestsAt}
use Rattle.concurrent_lru.specs.Request as ask
use Rattle.concurrent_lru.specs.Reply as say
use Rattle.concurrent_lru.specs.Runs.{accepted, refused, Stands, Run}
use Rattle.concurrent_lru.specs.Sharded.{Sharded}
use Rattle.concurrent_lru.specs.declared.refusal.Refusal.{Refusal}
use Rattle.concurrent_lru.specs.declared.refusal.Refusal.TheVariants.{Overflow}

module _ {K V : Type 0} where
  -- the idle entry at the place is pinned and released, and so becomes the newest idle one
  pub record RenewsAt (old : Entries K V) (p : ℕ) (new : Entries K V) : Type 0 where
    pub mid : Entries K V
    pub revived : RevivesAt old p mid
    pub rested : RestsAt mid p new

module _ {K V : Type 0} (E : K → K → Bool) where
  -- a get of the key would hit, with the value v
  abbrev pub Finds : Cache K V → K → V → Type 0
  Finds c k v = (s : ℕ) × (new : Cache K V) × Stands E c (ask.get k) (accepted (say.hit s v) []) new

  -- a get of the key finds v under the stamp s, and the release of s evicts nothing
  abbrev pub GetsAndReleases : Cache K V → K → ℕ → V → Cache K V → Type 0
  GetsAndReleases old k s v new = Run E old (ask.get k ∷ ask.release s ∷ []) (accepted (say.hit s v) [] ∷ accepted say.done [] ∷ []) new

  -- What a read does: if a value is found, it returns the stamp and a result that `answers` allows
  -- for the value; if none is found, or the get is refused, it does what the get does.
  abbrev pub Reads : {T : Type 0} → Cache K V → K → (V → T → Type 0) → Result (Option (ℕ × T)) Refusal → Cache K V → Type 0
  Reads old k answers (Ok (Some r)) new = (v : V) × GetsAndReleases old k r.0 v new × answers v r.1
  Reads old k answers (Ok None) new = Stands E old (ask.get k) (accepted say.missed []) new
  Reads old k answers (Err e) new = (e ≡ Overflow) × Stands E old (ask.get k) (refused e) new

module _ {K V S : Type 0} (E : K → K → Bool) where
  -- a get of the key in the shard i would hit, with the value v
  abbrev pub FindsAt : Sharded K V S → ℕ → K → V → Type 0
  FindsAt c i k v = (d : Cache K V) → Finds E (slice_index_or c.caches i d) k v

module _ {K V S T : Type 0} (E : K → K → Bool) where
  -- From old, the shard i reads the key, and the shards become new.
  pub record ReadsAt (old : Sharded K V S) (i : ℕ) (k : K) (answers : V → T → Type 0) (result : Result (Option (ℕ × T)) Refusal) (new : Sharded K V S) : Type 0 where
    -- the hasher and the number of shards do not change
    pub hasher : new.hasher ≡ old.hasher
    pub count : length new.caches ≡ length old.caches
    -- the shard reads, and the others do not change
    pub own : (d : Cache K V) → i < length old.caches → Reads E (slice_index_or old.caches i d) k answers result (slice_index_or new.caches i d)
    pub others : (j : ℕ) (d : Cache K V) → j ≢ i → slice_index_or new.caches j d ≡ slice_index_or old.caches j d
