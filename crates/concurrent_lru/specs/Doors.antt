-- What a `Door` returns to a caller that asks for a value.
use Rattle.std.specs.Prelude.{◌≡◌, ℕ, Some}
use Rattle.concurrent_lru.specs.Pins.{IsHandleFor}
use Rattle.concurrent_lru.specs.declared.door.Lookup.{Lookup}
use Rattle.concurrent_lru.specs.declared.door.Lookup.TheVariants as lookup

-- the answer is for a caller that asked for this key and charge, and a value in it fits the key
abbrev pub IsLookupFor : {K V R F : Type 0} → (K → V → Type 0) → Lookup K V R F → K → ℕ → Type 0
IsLookupFor fits (lookup.Make m) k c = (m.key ≡ k) × (m.charge ≡ c)
IsLookupFor fits (lookup.Hit h) k c = IsHandleFor fits h k (Some c)
