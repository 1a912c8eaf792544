-- The calls from C with keys of bytes. A key is some bytes and a hash, which the caller passes.
use Rattle.std.specs.Prelude.{◌≡◌, ◌==◌, ◌<◌, ◌++◌, ◌⊎◌, ℕ, Bool, length, drop, List, [], Option, Some, None, Result, Ok, Err, MatchBool}
use Rattle.concurrent_lru.specs.Cache.{Cache, Idle, HasKeyAt, LacksStamp}
use Rattle.concurrent_lru.specs.Request.{Request}
use Rattle.lru_c.specs.Calls.{IntoKind, IsUnchanged, OnKind}
use Rattle.lru_c.specs.Chains.{bytes_in}
use Rattle.lru_c.specs.Codes as code
use Rattle.lru_c.specs.Counted.{answered, counted}
use Rattle.lru_c.specs.Inserts.{InsertsOne, TellsInsertBy}
use Rattle.lru_c.specs.Keys.{bytes_eq}
use Rattle.lru_c.specs.Opened.{TellsReady}
use Rattle.lru_c.specs.Told as tells
use Rattle.lru_c.specs.Told.{bare, begin_by, numbered, IsSame}
use Rattle.lru_c.specs.declared.any_cache.AnyCache.{AnyCache}
use Rattle.lru_c.specs.declared.any_cache.AnyCache.TheVariants as cache
use Rattle.lru_c.specs.declared.bytes.key.Bytes.{Bytes as Key}
use Rattle.lru_c.specs.declared.cache.Cache.{Cache as Inner}
use Rattle.lru_c.specs.declared.handles.LruCache.{LruCache}
use Rattle.lru_c.specs.declared.handles.LruChain.{LruChain}
use Rattle.lru_c.specs.declared.told.LruTold.{LruTold}

-- a cache with such keys; entries of one
abbrev pub BytesCache : Type 0
BytesCache = Inner Key Key

abbrev pub Entries : Type 0
Entries = List (Idle Key ℕ)

-- the cache that a handle leads to, if its keys are bytes; otherwise the code that says why not
abbrev pub bytes_cache : Option AnyCache → Result BytesCache ℕ
bytes_cache None = Err code.closed
bytes_cache (Some (cache.Bytes c)) = Ok c
bytes_cache (Some (cache.Words c)) = Err code.other_keys

-- The key is that of these bytes and this hash.
abbrev pub IsKeyOf : List ℕ → ℕ → Key → Type 0
IsKeyOf bytes hash key = (key.bytes.items ≡ bytes) × (key.hash ≡ hash)

-- A begin, strict or not, with the key of these bytes and this hash. It refuses a charge of 0.
abbrev pub BeginsByKey : Cache Key ℕ → Bool → List ℕ → ℕ → ℕ → LruTold → Entries → Cache Key ℕ → Type 0
BeginsByKey old strict bytes hash charge t gone new =
    MatchBool (charge == 0) ((t ≡ bare code.no_charge) × IsSame old gone new) (tells.AsksOf bytes_eq (IsKeyOf bytes hash) old (λ key. begin_by strict key charge) t gone new)

-- The call took one step with the key of these bytes and this hash, returned its outcome and
-- counted it, with the same counts for every key; or memory was refused, and nothing changed.
abbrev pub TakesStepByKey : BytesCache → (Key → Request Key ℕ) → List ℕ → ℕ → LruTold → Entries → BytesCache → Type 0
TakesStepByKey o r bytes hash t gone n = tells.AsksOf bytes_eq (IsKeyOf bytes hash) o.state.cache r t gone n.state.cache × ((key : Key) → n.counts ≡ counted (r key) t o.counts)

abbrev pub AsksByKey : (Key → Request Key ℕ) → List ℕ → ℕ → Option AnyCache → LruTold → Option AnyCache → Type 0
AsksByKey r bytes hash old t new = OnKind bytes_cache old t new (λ o n. TakesStepByKey o r bytes hash t [] n)

-- A call that puts what it takes out of a cache with such keys into a chain.
abbrev pub IntoBytes : LruChain → LruChain → LruTold → LruCache → LruCache → (BytesCache → Entries → BytesCache → Type 0) → Type 0
IntoBytes = IntoKind bytes_cache bytes_in

-- The call took one step with such a key, as above, and evicted these entries. It is not counted.
abbrev pub Evicts : (Key → Request Key ℕ) → List ℕ → ℕ → LruTold → BytesCache → Entries → BytesCache → Type 0
Evicts r bytes hash t o out n = tells.AsksOf bytes_eq (IsKeyOf bytes hash) o.state.cache r t out n.state.cache × (n.counts ≡ o.counts)

-- A begin, strict or not, which is counted.
abbrev pub Begins : Bool → List ℕ → ℕ → ℕ → LruTold → BytesCache → Entries → BytesCache → Type 0
Begins strict bytes hash charge t o out n = BeginsByKey o.state.cache strict bytes hash charge t out n.state.cache × (n.counts ≡ answered t o.counts)

-- An insert, strict or not, with what it replaced and what it evicted.
abbrev pub Inserts : Bool → List ℕ → ℕ → ℕ → ℕ → LruTold → BytesCache → Entries → BytesCache → Type 0
Inserts strict bytes hash charge v t o out n = InsertsOne (TellsInsertBy bytes_eq strict) (IsKeyOf bytes hash) o charge v t out n

-- The call returned whether the key of these bytes and this hash has a value, or that memory was
-- refused.
abbrev pub ContainsBytes : Cache Key ℕ → List ℕ → ℕ → ℕ → Type 0
ContainsBytes cache bytes hash c = (c ≡ code.memory) ⊎ ((key : Key) × IsKeyOf bytes hash key × TellsReady bytes_eq cache key c)

abbrev pub Contains : List ℕ → ℕ → Option AnyCache → ℕ → Option AnyCache → Type 0
Contains bytes hash old c new = OnKind bytes_cache old (bare c) new (λ o n. ContainsBytes o.state.cache bytes hash c × IsUnchanged o n)

-- The call copied the bytes of the key of a stamp to the front of a buffer and returned their
-- number, or returned their number and that there is no room, or returned that no entry has the
-- stamp. The rest of the buffer is unchanged.
abbrev pub CopiesKey : Cache Key ℕ → ℕ → LruTold → List ℕ → List ℕ → Type 0
CopiesKey cache stamp t before after =
    ((key : Key) × HasKeyAt cache stamp key × (t ≡ numbered code.number (length key.bytes.items)) × (after ≡ key.bytes.items ++ drop (length key.bytes.items) before))
    ⊎ (((key : Key) × HasKeyAt cache stamp key × (t ≡ numbered code.no_room (length key.bytes.items)) × (length before < length key.bytes.items) × (after ≡ before))
    ⊎ ((t ≡ bare code.stale) × LacksStamp cache stamp × (after ≡ before)))

abbrev pub KeyOf : ℕ → List ℕ → List ℕ → Option AnyCache → LruTold → Option AnyCache → Type 0
KeyOf stamp before after old t new = OnKind bytes_cache old t new (λ o n. CopiesKey o.state.cache stamp t before after × IsUnchanged o n)
