-- What calls that open a handle, or look at a cache, return to C.
use Rattle.std.specs.Prelude.{◌≡◌, ◌⊎◌, ◌==◌, ℕ, Bool, Option, MatchBool, MatchOption}
use Rattle.concurrent_lru.specs.Cache.{Cache, HasKeyAt, LacksStamp, count_of, pinned_of, sum_of}
use Rattle.concurrent_lru.specs.Ready.{HasReadyKey}
use Rattle.concurrent_lru.specs.Steps.{IsUnready}
use Rattle.lru_c.specs.Codes as code
use Rattle.lru_c.specs.declared.steps.Number.{Number}
use Rattle.lru_c.specs.declared.steps.Number.TheVariants as which

-- A call that opens a handle: if it is open already, or memory is refused, it stays as it was;
-- otherwise it leads to something for which IsNew holds.
abbrev pub Opens : {A : Type 0} → Bool → Option A → (A → Type 0) → ℕ → Option A → Type 0
Opens is_open old IsNew c new = MatchBool is_open ((c ≡ code.opened) × (new ≡ old)) (MatchBool (c == code.memory) (new ≡ old) ((c ≡ code.done) × MatchOption new ⊥ IsNew))

module _ {K : Type 0} where
  -- the number of a cache that a call asked for
  abbrev pub number_of : Number → Cache K ℕ → ℕ
  number_of which.Total cache = sum_of cache
  number_of which.PinnedCharge cache = pinned_of cache
  number_of which.Capacity cache = cache.capacity
  number_of which.Len cache = count_of cache

  -- the call returned whether a key has a value
  abbrev pub TellsReady : (K → K → Bool) → Cache K ℕ → K → ℕ → Type 0
  TellsReady E cache key c = ((c ≡ code.done) × HasReadyKey E cache key) ⊎ ((c ≡ code.missed) × IsUnready E cache key)

  -- the call returned the key of a stamp, or that no entry has the stamp
  abbrev pub TellsKey : Cache K ℕ → ℕ → ℕ → K → Type 0
  TellsKey cache stamp c key = ((c ≡ code.done) × HasKeyAt cache stamp key) ⊎ ((c ≡ code.stale) × LacksStamp cache stamp)
