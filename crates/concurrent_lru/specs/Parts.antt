-- What a step may do to shards, and what a run of steps may: each shard runs its own part of it.
use Rattle.std.specs.Prelude.{◌≡◌, ◌≢◌, ℕ, ◌+◌, ◌<◌, ◌≤◌, ◌==◌, Bool, List, [], ◌∷◌, map, length, replicate, slice_index_or, if◌then◌else◌}
use Rattle.std.specs.List.{AllByRecursion, flat_map}
use Rattle.concurrent_lru.specs.Cache.{Cache, Idle}
use Rattle.concurrent_lru.specs.Request.{Request}
use Rattle.concurrent_lru.specs.Reply as say
use Rattle.concurrent_lru.specs.Runs.{Outcome, accepted, refused, Stands, Run}
use Rattle.concurrent_lru.specs.Sharded.{Sharded}
use Rattle.concurrent_lru.specs.declared.refusal.Refusal.TheVariants.{Stale}

-- the part of shard i: the items paired with the number i, in order
abbrev pub part : {X : Type 0} → ℕ → List (ℕ × X) → List X
part i [] = []
part i (x ∷ xs) = if x.0 == i then x.1 ∷ part i xs else part i xs

-- the items paired with consecutive numbers, starting at i
abbrev pub numbered : {X : Type 0} → ℕ → List X → List (ℕ × X)
numbered i [] = []
numbered i (x ∷ xs) = (i, x) ∷ numbered (i + 1) xs

module _ {K V S : Type 0} (E : K → K → Bool) where
  -- From old, the shard i may answer the request with this outcome, and the shards become new.
  pub record StandsAt (old : Sharded K V S) (i : ℕ) (request : Request K V) (outcome : Outcome K V) (new : Sharded K V S) : Type 0 where
    -- the hasher and the number of shards do not change
    pub hasher : new.hasher ≡ old.hasher
    pub count : length new.caches ≡ length old.caches
    -- the shard does what its cache may do, and the others do not change
    pub own : (d : Cache K V) → i < length old.caches → Stands E (slice_index_or old.caches i d) request outcome (slice_index_or new.caches i d)
    pub others : (j : ℕ) (d : Cache K V) → j ≢ i → slice_index_or new.caches j d ≡ slice_index_or old.caches j d
    -- a shard that does not exist refuses as stale
    pub stranger : length old.caches ≤ i → (outcome ≡ refused Stale) × (new ≡ old)

  -- From old, each shard runs its own part of the requests with its own part of the outcomes, and
  -- the shards become new.
  pub record RunsApart (old : Sharded K V S) (asked : List (ℕ × Request K V)) (told : List (ℕ × Outcome K V)) (new : Sharded K V S) : Type 0 where
    pub hasher : new.hasher ≡ old.hasher
    pub count : length new.caches ≡ length old.caches
    -- each outcome carries the number of the shard that was asked
    pub shards : map (λ t. t.0) told ≡ map (λ a. a.0) asked
    pub apart : (i : ℕ) (d : Cache K V) → i < length old.caches → Run E (slice_index_or old.caches i d) (part i asked) (part i told) (slice_index_or new.caches i d)
    -- a shard that does not exist refuses as stale
    pub strangers : AllByRecursion (λ t. length old.caches ≤ t.0 → t.1 ≡ refused Stale) told

  -- From old, each of the first n shards takes the same request, shard 0 first, and the shards
  -- become new. The lists of what they evicted are joined in that order.
  pub record FirstTake (n : ℕ) (old : Sharded K V S) (request : Request K V) (evicted : List (Idle K V)) (new : Sharded K V S) : Type 0 where
    -- what each of them evicted
    pub lists : List (List (Idle K V))
    pub joined : evicted ≡ flat_map (λ l. l) lists
    pub run : RunsApart old (numbered 0 (replicate n request)) (numbered 0 (map (accepted say.done) lists)) new

  -- the same for all shards
  abbrev pub EachTakes : Sharded K V S → Request K V → List (Idle K V) → Sharded K V S → Type 0
  EachTakes old request evicted new = FirstTake (length old.caches) old request evicted new
