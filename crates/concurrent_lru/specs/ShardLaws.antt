-- The laws of shards.
use Rattle.std.specs.Prelude.{◌≡◌, ℕ, Bool, true}
use Rattle.concurrent_lru.specs.Request.{Request}
use Rattle.concurrent_lru.specs.Runs.{refused}
use Rattle.concurrent_lru.specs.Sharded.{Sharded, shard_of}
use Rattle.concurrent_lru.specs.Parts.{StandsAt}
use Rattle.concurrent_lru.specs.declared.refusal.Refusal.{Refusal}

-- equal keys belong to one shard
abbrev pub OneShard : (K V S : Type 0) → (K → K → Bool) → (S → K → ℕ) → Type 0
OneShard K V S E number = (c : Sharded K V S) (k l : K) → E k l ≡ true → shard_of number c k ≡ shard_of number c l

-- a refused request leaves every shard and the hasher as they were
abbrev pub RefusalsChangeNothing : (K V S : Type 0) → (K → K → Bool) → Type 0
RefusalsChangeNothing K V S E = (old new : Sharded K V S) (i : ℕ) (request : Request K V) (e : Refusal) → StandsAt E old i request (refused e) new → new ≡ old
