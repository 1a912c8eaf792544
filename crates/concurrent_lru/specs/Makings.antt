-- Values that are being made. E is the equality of keys.
use Rattle.std.specs.Prelude.{◌≡◌, ℕ, Bool, true, false}
use Rattle.concurrent_lru.specs.Cache.{Cache, Held, making}
use Rattle.concurrent_lru.specs.Steps.{Holds}

-- an entry that is being made is found by a key equal to k
abbrev pub IsBeingMade : {K V : Type 0} → (K → K → Bool) → Cache K V → K → Type 0
IsBeingMade {K} {V} E c k = (s : ℕ) × (e : Held K V) × Holds c s e making × (e.detached ≡ false) × (E e.key k ≡ true)
