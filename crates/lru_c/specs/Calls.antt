-- The calls from C on caches and chains behind handles, whatever the keys.
use Rattle.std.specs.Prelude.{◌≡◌, ◌⊎◌, ◌==◌, ℕ, Bool, List, [], Option, None, Result, MatchBool, MatchOption, MatchResult}
use Rattle.concurrent_lru.specs.Cache.{Cache, Idle, empty_cache}
use Rattle.concurrent_lru.specs.Request.{Request}
use Rattle.concurrent_lru.specs.TakeAll.{TakesAll}
use Rattle.lru_c.specs.Chains.{bytes_in, chain_code, words_in}
use Rattle.lru_c.specs.Codes as code
use Rattle.lru_c.specs.Counted.{counted, no_calls, stats_of}
use Rattle.lru_c.specs.Keys.{bytes_eq, bytes_kind, is_kind, words_eq, words_kind}
use Rattle.lru_c.specs.Opened.{Opens}
use Rattle.lru_c.specs.Told as tells
use Rattle.lru_c.specs.Told.{bare, numbered}
use Rattle.lru_c.specs.Handles.{OnOpen}
use Rattle.lru_c.specs.declared.any_cache.AnyCache.{AnyCache}
use Rattle.lru_c.specs.declared.any_cache.AnyCache.TheVariants as cache
use Rattle.lru_c.specs.declared.cache.Cache.{Cache as Inner}
use Rattle.lru_c.specs.declared.chain.AnyChain.{AnyChain}
use Rattle.lru_c.specs.declared.handles.LruCache.{LruCache}
use Rattle.lru_c.specs.declared.handles.LruChain.{LruChain}
use Rattle.lru_c.specs.declared.told.LruStats.{LruStats}
use Rattle.lru_c.specs.declared.told.LruTold.{LruTold}

-- Step holds of the cache before and after a call, whatever its keys. E is their equality.
abbrev pub OnAny : ((K R : Type 0) → (K → K → Bool) → Inner K R → Inner K R → Type 0) → AnyCache → AnyCache → Type 0
OnAny Step (cache.Bytes o) (cache.Bytes n) = Step _ _ bytes_eq o n
OnAny Step (cache.Words o) (cache.Words n) = Step _ _ words_eq o n
OnAny Step (cache.Bytes o) (cache.Words n) = ⊥
OnAny Step (cache.Words o) (cache.Bytes n) = ⊥

-- The same for a call that put these entries into a chain.
abbrev pub IntoAny : ((K R : Type 0) → (K → K → Bool) → Inner K R → List (Idle K ℕ) → Inner K R → Type 0) → AnyCache → AnyChain → AnyCache → Type 0
IntoAny Step (cache.Bytes o) c (cache.Bytes n) = MatchOption (bytes_in c) ⊥ (λ out. Step _ _ bytes_eq o out n)
IntoAny Step (cache.Words o) c (cache.Words n) = MatchOption (words_in c) ⊥ (λ out. Step _ _ words_eq o out n)
IntoAny Step _ _ _ = ⊥

module _ {K R : Type 0} where
  -- the cache is empty and as it was opened, and so are its counts
  abbrev pub HasNoCalls : ℕ → ℕ → ℕ → Inner K R → Type 0
  HasNoCalls capacity most_pins first_stamp c = (c.state.cache ≡ empty_cache capacity most_pins first_stamp) × (c.counts ≡ no_calls first_stamp)

  -- the cache and its counts are unchanged
  abbrev pub IsUnchanged : Inner K R → Inner K R → Type 0
  IsUnchanged o n = (n.state.cache ≡ o.state.cache) × (n.counts ≡ o.counts)

  -- the call took one step of the cache, returned its outcome and counted it
  abbrev pub TakesStep : (K → K → Bool) → Inner K R → Request K ℕ → LruTold → List (Idle K ℕ) → Inner K R → Type 0
  TakesStep E o r t gone n = tells.Asks E o.state.cache r t gone n.state.cache × (n.counts ≡ counted r t o.counts)

-- The cache is new: its keys are of this kind, and it has no entries and no calls.
abbrev pub IsNew : ℕ → ℕ → ℕ → ℕ → AnyCache → Type 0
IsNew kind capacity most_pins first_stamp (cache.Bytes c) = (kind ≡ bytes_kind) × HasNoCalls capacity most_pins first_stamp c
IsNew kind capacity most_pins first_stamp (cache.Words c) = (kind ≡ words_kind) × HasNoCalls capacity most_pins first_stamp c

-- A call that opens a cache, unless there is no such kind of keys.
abbrev pub OpensCache : ℕ → ℕ → ℕ → ℕ → LruCache → ℕ → LruCache → Type 0
OpensCache kind capacity most_pins first_stamp old c new =
    MatchBool (is_kind kind) (Opens (old.is_open == 1) old.cache.held (IsNew kind capacity most_pins first_stamp) c new.cache.held) ((c ≡ code.no_kind) × (new.cache.held ≡ old.cache.held))

-- The call took one step of the cache, returned its outcome and counted it.
abbrev pub AsksAny : AnyCache → ((K : Type 0) → Request K ℕ) → LruTold → AnyCache → Type 0
AsksAny o r t n = OnAny (λ K R E o n. TakesStep E o (r K) t [] n) o n

-- The call returned this number of the cache, and changed nothing.
abbrev pub NumbersAny : AnyCache → ((K : Type 0) → Cache K ℕ → ℕ) → LruTold → AnyCache → Type 0
NumbersAny o number t n = OnAny (λ K R E o n. (t ≡ numbered code.number (number K o.state.cache)) × IsUnchanged o n) o n

-- Room was made or memory was refused, and the cache is unchanged.
abbrev pub ReservesAny : AnyCache → ℕ → AnyCache → Type 0
ReservesAny o c n = OnAny (λ K R E o n. ((c ≡ code.done) ⊎ (c ≡ code.memory)) × IsUnchanged o n) o n

-- The call returned the numbers of the cache and its counts, and changed nothing.
abbrev pub StatsAny : AnyCache → LruStats → AnyCache → Type 0
StatsAny o s n = OnAny (λ K R E o n. (s ≡ stats_of o.state.cache o.counts) × IsUnchanged o n) o n

-- The same for the cache behind a handle; or the handle is not open, and the call returned that.
abbrev pub Asks : Option AnyCache → ((K : Type 0) → Request K ℕ) → LruTold → Option AnyCache → Type 0
Asks old r t new = OnOpen old new (λ o n. AsksAny o r t n) (t ≡ bare code.closed)

abbrev pub Numbers : Option AnyCache → ((K : Type 0) → Cache K ℕ → ℕ) → LruTold → Option AnyCache → Type 0
Numbers old number t new = OnOpen old new (λ o n. NumbersAny o number t n) (t ≡ bare code.closed)

abbrev pub Reserves : Option AnyCache → ℕ → Option AnyCache → Type 0
Reserves old c new = OnOpen old new (λ o n. ReservesAny o c n) (c ≡ code.closed)

abbrev pub TellsStats : Option AnyCache → ℕ → LruStats → Option AnyCache → Type 0
TellsStats old c s new = OnOpen old new (λ o n. (c ≡ code.done) × StatsAny o s n) (c ≡ code.closed)

-- A call that fills a chain. If the chain is open and empty, Filled holds; otherwise the call
-- returned the reason, and nothing changed.
abbrev pub Fills : {A : Type 0} → Option AnyChain → Option AnyChain → LruTold → A → A → Type 0 → Type 0
Fills before after t old new Filled = MatchBool (chain_code before == code.done) Filled ((t ≡ bare (chain_code before)) × (after ≡ before) × (new ≡ old))

-- A call that puts what it takes out of a cache into a chain. If the chain is open and empty and
-- the cache is open, Step holds of the cache before the call, and of the chain and the cache after
-- it. Otherwise the call returned the reason, and nothing changed.
abbrev pub Into : LruChain → LruChain → LruTold → LruCache → LruCache → (AnyCache → AnyChain → AnyCache → Type 0) → Type 0
Into before after t old new Step =
    Fills before.chain.held after.chain.held t old new (OnOpen old.cache.held new.cache.held (λ o n. MatchOption after.chain.held ⊥ (λ c. Step o c n)) ((t ≡ bare code.closed) × (after.chain.held ≡ before.chain.held)))

-- The call took one step of the cache, with these entries in the chain. It is not counted.
abbrev pub AsksInto : ((K : Type 0) → Request K ℕ) → LruTold → AnyCache → AnyChain → AnyCache → Type 0
AsksInto r t old gone new = IntoAny (λ K R E o out n. tells.Asks E o.state.cache (r K) t out n.state.cache × (n.counts ≡ o.counts)) old gone new

-- The call gave an entry that was being made its value and a charge, strictly or not, with these
-- entries in the chain. It is not counted.
abbrev pub ReadiesInto : Bool → ℕ → ℕ → ℕ → LruTold → AnyCache → AnyChain → AnyCache → Type 0
ReadiesInto strict stamp v charge t old gone new =
    IntoAny (λ K R E o out n. tells.ReadiesWith E strict o.state.cache stamp v charge t out n.state.cache × (n.counts ≡ o.counts)) old gone new

module _ {K R : Type 0} (of_kind : Option AnyCache → Result (Inner K R) ℕ) where
  -- A call by a key of one kind. If the handle leads to a cache with such keys, which of_kind
  -- tells, Step holds of that before and after the call. Otherwise the call returned the reason,
  -- and nothing changed.
  abbrev pub OnKind : Option AnyCache → LruTold → Option AnyCache → (Inner K R → Inner K R → Type 0) → Type 0
  OnKind old t new Step = MatchResult (of_kind old) (λ o. MatchResult (of_kind new) (Step o) (λ _. ⊥)) (λ reason. (t ≡ bare reason) × (new ≡ old))

  -- The same for a call that puts what it takes out of the cache into a chain. The chain has
  -- entries with such keys, which entries tells, or none.
  abbrev pub IntoKind : (AnyChain → Option (List (Idle K ℕ))) → LruChain → LruChain → LruTold → LruCache → LruCache → (Inner K R → List (Idle K ℕ) → Inner K R → Type 0) → Type 0
  IntoKind entries before after t old new Step =
      Fills before.chain.held after.chain.held t old new (MatchResult (of_kind old.cache.held) (λ o. MatchResult (of_kind new.cache.held) (λ n. MatchOption after.chain.held ⊥ (λ c. MatchOption (entries c) ⊥ (λ out. Step o out n))) (λ _. ⊥))
      (λ reason. (t ≡ bare reason) × (after.chain.held ≡ before.chain.held) × (new.cache.held ≡ old.cache.held)))

-- The chain has every entry of the cache that has a value.
abbrev pub HoldsAll : AnyCache → AnyChain → Type 0
HoldsAll (cache.Bytes o) c = MatchOption (bytes_in c) ⊥ (TakesAll o.state.cache)
HoldsAll (cache.Words o) c = MatchOption (words_in c) ⊥ (TakesAll o.state.cache)

-- Freeing a cache closed its handle and put every entry that has a value into the chain.
abbrev pub FreesInto : LruChain → LruChain → ℕ → LruCache → LruCache → Type 0
FreesInto before after c old new =
    Fills before.chain.held after.chain.held (bare c) old new ((new.cache.held ≡ None) × MatchOption old.cache.held ((c ≡ code.closed) × (after.chain.held ≡ before.chain.held)) (λ o. (c ≡ code.done) × MatchOption after.chain.held ⊥ (HoldsAll o)))
