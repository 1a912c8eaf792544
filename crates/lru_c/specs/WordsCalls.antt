-- The calls from C with keys of two words.
use Rattle.std.specs.Prelude.{◌≡◌, ◌==◌, ℕ, Bool, List, [], Option, Some, None, Result, Ok, Err, MatchBool}
use Rattle.concurrent_lru.specs.Cache.{Idle}
use Rattle.concurrent_lru.specs.Request.{Request}
use Rattle.lru_c.specs.Calls.{IntoKind, IsUnchanged, OnKind, TakesStep}
use Rattle.lru_c.specs.Chains.{words_in}
use Rattle.lru_c.specs.Codes as code
use Rattle.lru_c.specs.Counted.{answered}
use Rattle.lru_c.specs.Inserts.{InsertsOne, TellsInsertBy}
use Rattle.lru_c.specs.Keys.{words_eq}
use Rattle.lru_c.specs.Opened.{TellsKey, TellsReady}
use Rattle.lru_c.specs.Told.{bare, begin_by, Asks, IsSame}
use Rattle.lru_c.specs.declared.any_cache.AnyCache.{AnyCache}
use Rattle.lru_c.specs.declared.any_cache.AnyCache.TheVariants as cache
use Rattle.lru_c.specs.declared.cache.Cache.{Cache as Inner}
use Rattle.lru_c.specs.declared.handles.LruCache.{LruCache}
use Rattle.lru_c.specs.declared.handles.LruChain.{LruChain}
use Rattle.lru_c.specs.declared.told.LruTold.{LruTold}
use Rattle.lru_c.specs.declared.words.key.Words.{Words}

-- a cache with such keys; entries of one
abbrev pub WordsCache : Type 0
WordsCache = Inner Words (Unit {0})

abbrev pub Entries : Type 0
Entries = List (Idle Words ℕ)

-- the cache that a handle leads to, if its keys are two words; otherwise the code that says why not
abbrev pub words_cache : Option AnyCache → Result WordsCache ℕ
words_cache None = Err code.closed
words_cache (Some (cache.Words c)) = Ok c
words_cache (Some (cache.Bytes c)) = Err code.other_keys

abbrev pub words : ℕ → ℕ → Words
words first second = record { first = first; second = second }

-- The call took one step with this key, returned its outcome and counted it.
abbrev pub AsksByKey : Request Words ℕ → Option AnyCache → LruTold → Option AnyCache → Type 0
AsksByKey r old t new = OnKind words_cache old t new (λ o n. TakesStep words_eq o r t [] n)

-- A call that puts what it takes out of a cache with such keys into a chain.
abbrev pub IntoWords : LruChain → LruChain → LruTold → LruCache → LruCache → (WordsCache → Entries → WordsCache → Type 0) → Type 0
IntoWords = IntoKind words_cache words_in

-- The call took one step with this key and evicted these entries. It is not counted.
abbrev pub Evicts : Request Words ℕ → LruTold → WordsCache → Entries → WordsCache → Type 0
Evicts r t o out n = Asks words_eq o.state.cache r t out n.state.cache × (n.counts ≡ o.counts)

-- A begin, strict or not, which refuses a charge of 0.
abbrev pub Begins : Bool → Words → ℕ → LruTold → WordsCache → Entries → WordsCache → Type 0
Begins strict key charge t o out n =
    MatchBool (charge == 0) ((t ≡ bare code.no_charge) × IsSame o.state.cache out n.state.cache) (Asks words_eq o.state.cache (begin_by strict key charge) t out n.state.cache) × (n.counts ≡ answered t o.counts)

-- An insert, strict or not, with what it replaced and what it evicted.
abbrev pub Inserts : Bool → Words → ℕ → ℕ → LruTold → WordsCache → Entries → WordsCache → Type 0
Inserts strict key charge v t o out n = InsertsOne (TellsInsertBy words_eq strict) (λ k. k ≡ key) o charge v t out n

-- The call returned whether a key has a value, and changed nothing.
abbrev pub Contains : Words → Option AnyCache → ℕ → Option AnyCache → Type 0
Contains key old c new = OnKind words_cache old (bare c) new (λ o n. TellsReady words_eq o.state.cache key c × IsUnchanged o n)

-- The call returned the key of a stamp, or that no entry has it, and changed nothing.
abbrev pub KeyOf : ℕ → Words → Option AnyCache → ℕ → Option AnyCache → Type 0
KeyOf stamp key old c new = OnKind words_cache old (bare c) new (λ o n. TellsKey o.state.cache stamp c key × IsUnchanged o n)
