-- Shards: a list of caches, and which of them serves a key.
use Rattle.std.specs.Prelude.{ℕ, ◌%◌, Bool, List, length, slice_index_or, refl}
use Rattle.std.specs.List.{All, fold}
use Rattle.std.specs.Coded.{Coded, code_by, coded×, coded_list}
use Rattle.std.specs.declared.hash.Hasher as hasher
use Rattle.std.specs.declared.hash.BuildHasher as builder
use Rattle.concurrent_lru.specs.Cache.{Cache, cache_code, IsLawful}
use Rattle.concurrent_lru.specs.Ready.{HasReadyKey}
use Rattle.concurrent_lru.specs.Steps.{IsUnready}

-- the caches of the shards, and the hasher that numbers keys
pub record Sharded (K V S : Type 0) : Type 0 where
  pub hasher : S
  pub caches : List (Cache K V)

abbrev pub sharded_code : {K V S : Type 0} → Coded K → Coded V → Coded S → Coded (Sharded K V S)
sharded_code {K} {V} {S} k v s =
    code_by (S × List (Cache K V)) (coded× s (coded_list (cache_code k v)))
    (λ c. (c.hasher, c.caches)) (λ p. record { hasher = p.0; caches = p.1 }) (λ _. refl)

-- the number that the hasher s gives to a key that feeds it these bytes
abbrev pub key_number : {K S H : Type 0} → builder.Ghosts S H → hasher.Ghosts H → (K → List (List ℕ)) → S → K → ℕ
key_number build run bytes s k = run.finish (fold run.write (build.build_hasher s) (bytes k))

-- the shard that serves a key: the key's number modulo the number of shards
abbrev pub shard_of : {K V S : Type 0} → (S → K → ℕ) → Sharded K V S → K → ℕ
shard_of number c k = number c.hasher k % length c.caches

-- the same with the numbers that the hasher gives
abbrev pub key_shard : {K V S H : Type 0} → builder.Ghosts S H → hasher.Ghosts H → (K → List (List ℕ)) → Sharded K V S → K → ℕ
key_shard build run bytes c k = shard_of (key_number build run bytes) c k

-- every shard is lawful
abbrev pub AreLawful : {K V S : Type 0} → (K → K → Bool) → Sharded K V S → Type 0
AreLawful E c = All (IsLawful E) c.caches

-- in the shard i a ready entry is found by a key equal to k; a get of k would find none there
abbrev pub HasReadyKeyAt : {K V S : Type 0} → (K → K → Bool) → Sharded K V S → ℕ → K → Type 0
HasReadyKeyAt {K} {V} E c i k = (d : Cache K V) → HasReadyKey E (slice_index_or c.caches i d) k

abbrev pub IsUnreadyAt : {K V S : Type 0} → (K → K → Bool) → Sharded K V S → ℕ → K → Type 0
IsUnreadyAt {K} {V} E c i k = (d : Cache K V) → IsUnready E (slice_index_or c.caches i d) k
