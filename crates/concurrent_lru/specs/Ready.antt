-- Ready values: which ones a cache has, how steps change them, and that each fits its key.
use Rattle.std.specs.Prelude.{◌≡◌, ℕ, ◌⊎◌, Bool, true, false, Some}
use Rattle.std.specs.List.{Contains}
use Rattle.concurrent_lru.specs.Cache.{Cache, Idle, Held, ready, held_at, HasKeyAt}

-- equal keys fit the same values
abbrev pub EqualKeysFit : {K V : Type 0} → (K → K → Bool) → (K → V → Type 0) → Type 0
EqualKeysFit {K} {V} E fits = (a b : K) (v : V) → E a b ≡ true → fits a v → fits b v

module _ {K V : Type 0} where
  -- a ready entry, idle or held, has this key and this value
  abbrev pub HasReady : Cache K V → K → V → Type 0
  HasReady c k v =
      ((x : Idle K V) × Contains c.idle x × (x.key ≡ k) × (x.value ≡ v))
      ⊎ ((s : ℕ) × (e : Held K V) × (held_at c s ≡ Some e) × (e.key ≡ k) × (e.phase ≡ ready v))

  -- a ready entry has this value, and a key equal to k
  abbrev pub ReadyFor : (K → K → Bool) → Cache K V → K → V → Type 0
  ReadyFor E c k v = (own : K) × (E own k ≡ true) × HasReady c own v

  -- a ready entry that its key finds, idle or held, has this key and this value
  abbrev pub FindsReady : Cache K V → K → V → Type 0
  FindsReady c k v =
      ((x : Idle K V) × Contains c.idle x × (x.key ≡ k) × (x.value ≡ v))
      ⊎ ((s : ℕ) × (e : Held K V) × (held_at c s ≡ Some e) × (e.key ≡ k) × (e.phase ≡ ready v) × (e.detached ≡ false))

  -- a ready entry is found by a key equal to k
  abbrev pub HasReadyKey : (K → K → Bool) → Cache K V → K → Type 0
  HasReadyKey E c k = (own : K) × (v : V) × (E own k ≡ true) × FindsReady c own v

  -- every value that is ready in the new cache was ready in the old one, under the same key
  abbrev pub FewerReady : Cache K V → Cache K V → Type 0
  FewerReady old new = (k : K) (v : V) → HasReady new k v → HasReady old k v

  -- every value that is ready in the new cache was ready in the old one, under the same key, or is
  -- v under the key of the entry with the stamp s
  abbrev pub OneMoreReady : Cache K V → ℕ → V → Cache K V → Type 0
  OneMoreReady old s v new = (k : K) (w : V) → HasReady new k w → HasReady old k w ⊎ ((w ≡ v) × HasKeyAt old s k)

  -- the entry with the stamp s has a key equal to k
  abbrev pub HasEqualKeyAt : (K → K → Bool) → Cache K V → ℕ → K → Type 0
  HasEqualKeyAt E c s k = (own : K) × HasKeyAt c s own × (E own k ≡ true)

  -- the value of every ready entry fits its key
  abbrev pub ValuesFit : (K → V → Type 0) → Cache K V → Type 0
  ValuesFit fits c = (k : K) (v : V) → HasReady c k v → fits k v
