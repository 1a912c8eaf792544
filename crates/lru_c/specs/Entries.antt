-- The entries of a cache that have a value, as C gets them.
use Rattle.std.specs.Prelude.{◌≡◌, ◌⊎◌, ◌<◌, ◌++◌, ℕ, cond, List, map, length, drop, Option, Some, None}
use Rattle.concurrent_lru.specs.Cache.{Cache, count_of}
use Rattle.concurrent_lru.specs.ReadyEntries.{ReadyEntry, ListsReady, ready_at}
use Rattle.lru_c.specs.Calls.{OnAny, IsUnchanged}
use Rattle.lru_c.specs.Codes as code
use Rattle.lru_c.specs.Handles.{OnOpen}
use Rattle.lru_c.specs.Told.{bare, numbered}
use Rattle.lru_c.specs.declared.any_cache.AnyCache.{AnyCache}
use Rattle.lru_c.specs.declared.entries.LruEntry.{LruEntry}
use Rattle.lru_c.specs.declared.told.LruTold.{LruTold}

-- an entry of C without its hint
abbrev pub without_hint : LruEntry → LruEntry
without_hint e = record e { pin = record { stamp = e.pin.stamp; hash = 0; place = 0 } }

module _ {K : Type 0} where
  -- an entry as C gets it, without a hint
  abbrev pub entry_told : ReadyEntry K ℕ → LruEntry
  entry_told x = record { pin = record { stamp = x.stamp; hash = 0; place = 0 }; value = x.value; charge = x.charge; pins = x.pins; is_detached = cond x.detached 1 0 }

  -- e is this entry; nothing is said of the hint, as any will do
  abbrev pub Shows : ReadyEntry K ℕ → LruEntry → Type 0
  Shows x e = without_hint e ≡ entry_told x

  -- The call wrote the entry with a stamp, or returned that none with a value has it.
  abbrev pub TellsEntry : Cache K ℕ → ℕ → ℕ → LruEntry → Type 0
  TellsEntry cache stamp c e =
      ((c ≡ code.done) × (x : ReadyEntry K ℕ) × (ready_at cache stamp ≡ Some x) × Shows x e)
      ⊎ ((c ≡ code.stale) × (ready_at cache stamp ≡ None))

  -- The call wrote these entries to the start of the buffer and returned how many there are; the
  -- rest of the buffer is unchanged. Or the buffer has no room for them, and the call returned how
  -- many entries the cache has, with a value or without.
  abbrev pub WritesEach : Cache K ℕ → List (ReadyEntry K ℕ) → LruTold → List LruEntry → List LruEntry → Type 0
  WritesEach cache listed t before after =
      ((written : List LruEntry) × (map without_hint written ≡ map entry_told listed) × (t ≡ numbered code.number (length written)) × (after ≡ written ++ drop (length written) before))
      ⊎ ((length before < length listed) × (t ≡ numbered code.no_room (count_of cache)))

  -- The same for all entries that have a value, each once.
  abbrev pub TellsEntries : Cache K ℕ → LruTold → List LruEntry → List LruEntry → Type 0
  TellsEntries cache t before after = (listed : List (ReadyEntry K ℕ)) × ListsReady cache listed × WritesEach cache listed t before after

-- The same for a cache with keys of either kind, which is unchanged, and for the cache behind a
-- handle; if that is not open, the call returned so.
abbrev pub EntryOfAny : AnyCache → ℕ → ℕ → LruEntry → AnyCache → Type 0
EntryOfAny o stamp c e n = OnAny (λ K R E o n. TellsEntry o.state.cache stamp c e × IsUnchanged o n) o n

abbrev pub EntryOf : Option AnyCache → ℕ → ℕ → LruEntry → Option AnyCache → Type 0
EntryOf old stamp c e new = OnOpen old new (λ o n. EntryOfAny o stamp c e n) (c ≡ code.closed)

abbrev pub EntriesOfAny : AnyCache → LruTold → List LruEntry → List LruEntry → AnyCache → Type 0
EntriesOfAny o t before after n = OnAny (λ K R E o n. TellsEntries o.state.cache t before after × IsUnchanged o n) o n

abbrev pub EntriesOf : Option AnyCache → LruTold → List LruEntry → List LruEntry → Option AnyCache → Type 0
EntriesOf old t before after new = OnOpen old new (λ o n. EntriesOfAny o t before after n) ((t ≡ bare code.closed) × (after ≡ before))
