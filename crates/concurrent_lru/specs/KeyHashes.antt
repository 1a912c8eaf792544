-- The hashes by which a `Table` finds keys.
use Rattle.std.specs.Prelude.{◌≡◌, ℕ, List}
use Rattle.std.specs.List.{fold}
use Rattle.std.specs.Int.{w64, rotate_left}
use Rattle.std.specs.Hash as fed
use Rattle.concurrent_lru.specs.WordHashes.{initial, write, finish}
use Rattle.concurrent_lru.specs.declared.table.key_hashes.KeyHash.{KeyHash}

-- the hash of a key: what a `WordHasher` returns after it is fed the seed and then the bytes of the
-- key, rotated left by 40 bits
abbrev pub key_hash : {K : Type 0} → ℕ → (K → List (List ℕ)) → K → ℕ
key_hash seed bytes k = rotate_left w64 (finish (fold write (fold write initial (fed.u64 seed)) (bytes k))) 40

-- hash is the hash of the key under its own seed
abbrev pub IsHashOf : {K : Type 0} → (K → List (List ℕ)) → KeyHash → K → Type 0
IsHashOf bytes hash k = hash.number ≡ key_hash hash.seed bytes k
